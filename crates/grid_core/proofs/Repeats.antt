-- One more use of the block that was used last.
use Rattle.std.proofs.Common.{◌≡◌, ℕ, ◌%◌, ◌/◌, ◌<◌, Bool, true, false, cond, not, ◌&&◌, ◌||◌, ◌==◌}
use Rattle.std.proofs.Common.{List, [], ◌∷◌, length, eqb, ltb, refl, sym, ap, ◌∙◌}
use Rattle.std.specs.List.{filter, list_any}
use Rattle.std.proofs.lemmas.Bool.{and_parts, eqb-true, eq-eqb, lt-ltb, false≢true}
use Rattle.cache_core.specs.declared.access.Access.{Access}
use Rattle.cache_core.specs.History.{History, Rules, access, flush, is_write}
use Rattle.cache_core.specs.Residents.{before, distinct, in_set, is_resident, renewals}
use Rattle.cache_core.specs.Residents.{reuse_distance}
use Rattle.cache_core.specs.Row.{shifted}
use Rattle.cache_core.proofs.Turns.{renewals-yes}
use Rattle.marked_list.specs.Recency.{brought_front}
use Rattle.marked_list.specs.Recency.{index_of}
use Rattle.grid_core.specs.declared.recent.Recent.{Recent}
use Rattle.grid_core.specs.Levels.{dirty_level}
use Rattle.grid_core.specs.Recent.{IsAgain, IsRecent, after_use, none_recent, used_last}
use Rattle.grid_core.specs.Recent.{written_last}
use Rattle.grid_core.specs.Slots.{holds, level_after, next_slots}
use Rattle.grid_core.specs.Standing.{slots_of}
use Rattle.grid_core.specs.Ways.{IsStacked, stack_distance}
use Rattle.grid_core.proofs.Distances.{renews-all}
use Rattle.grid_core.proofs.Fronts.{low-level, read-first}
use Rattle.grid_core.proofs.Levels.{level-step}
use Rattle.grid_core.proofs.SlotTurns.{index-slots, seen-level}
use Rattle.grid_core.specs.Slot.{used_slot}

module _ (n b : ℕ) where
  -- what was written last was used last
  pub written-used : (h : History) → written_last n b h ≡ true → used_last n b h ≡ true
  unfolding written_last used_last
  written-used [] e = absurd (false≢true e)
  written-used (flush ∷ h) e = absurd (false≢true e)
  written-used (access x ∷ h) e =
      (and_parts (eqb (x.addr / n) b) (is_write x || written_last n b h) e).0

-- what is known stays true

pub recent-none : (n : ℕ) (h : History) → IsRecent n none_recent h
recent-none n h = record {
  used = λ e. absurd (false≢true e);
  written = λ e. absurd (false≢true e);
}

either-way : (w t u : Bool) → (t ≡ true → u ≡ true) → (w || t) ≡ true → (w || u) ≡ true
either-way true t u f e = refl
either-way false t u f e = f e

pub recent-access : (n : ℕ) (p : Recent) (h : History) (x : Access) → IsRecent n p h
    → IsRecent n (after_use (x.addr / n) (is_write x) p) (access x ∷ h)
unfolding used_last written_last
recent-access n p h x known =
    let b = x.addr / n in
    let same = eq-eqb b b refl in
    record {
      used = λ e. same;
      written = λ e. ap (λ t. t && (is_write x || written_last n b h)) same
          ∙ either-way (is_write x) (p.block == b && p.written) (written_last n b h)
          (λ both. let each = and_parts (p.block == b) p.written both in
          ap (λ c. written_last n c h) (sym (eqb-true p.block b each.0)) ∙ known.written each.1) e;
    }

pub recent-again : (n : ℕ) (p : Recent) (h : History) (x : Access)
    → IsAgain (x.addr / n) (is_write x) p → IsRecent n p h → IsRecent n p (access x ∷ h)
unfolding used_last written_last
recent-again n p h x again known =
    let same : eqb (x.addr / n) p.block ≡ true = eq-eqb (x.addr / n) p.block (sym again.block) in
    record {
      used = λ e. same;
      written = λ e. ap (λ t. t && (is_write x || written_last n p.block h)) same
          ∙ either-way (is_write x) true (written_last n p.block h) (λ _. known.written e)
          (or-yes (is_write x));
    }
  where
    or-yes : (w : Bool) → (w || true) ≡ true
    or-yes true = refl
    or-yes false = refl

-- the order of the blocks

filter-twice : (p : ℕ → Bool) (xs : List ℕ) → filter p (filter p xs) ≡ filter p xs
filter-twice p [] = refl
filter-twice p (x ∷ xs) =
    let rest = filter-twice p xs in
    (elim (p x) as (λ t. p x ≡ t → filter p (cond t (x ∷ filter p xs) (filter p xs))
    ≡ cond t (x ∷ filter p xs) (filter p xs)) [
      | true ↦ λ e. ap (λ t. cond t (x ∷ filter p (filter p xs)) (filter p (filter p xs))) e
          ∙ ap (λ l. x ∷ l) rest
      | false ↦ λ e. rest
    ]) refl

-- what is first stays first
pub front-again : (b : ℕ) (ys : List ℕ)
    → brought_front b (brought_front b ys) ≡ brought_front b ys
front-again b ys =
    let p : ℕ → Bool = λ n. not (n == b) in
    ap (λ t. b ∷ cond (not t) (b ∷ filter p (filter p ys)) (filter p (filter p ys)))
    (eq-eqb b b refl)
    ∙ ap (λ l. b ∷ l) (filter-twice p ys)

module _ (r : Rules) (st : IsStacked r) (b : ℕ) where
  -- the block that was used last was renewed last
  pub renewed-last : (h : History) → used_last r.bsize b h ≡ true
      → (ms : List ℕ) × (renewals r h ≡ b ∷ ms)
  unfolding used_last
  renewed-last [] e = absurd (false≢true e)
  renewed-last (flush ∷ h) e = absurd (false≢true e)
  renewed-last (access x ∷ h) e = (
    renewals r h,
    renewals-yes r h x (renews-all r st (renewals r h) x)
        ∙ ap (λ c. c ∷ renewals r h) (eqb-true (x.addr / r.bsize) b e),
  )

  near : (ms : List ℕ) → reuse_distance r (b ∷ ms) b ≡ 0
  unfolding reuse_distance
  near ms =
      let k = b % r.sets in
      let rest = in_set r k ms in
      ap (λ t. length (cond r.fifo (before b (cond t (b ∷ rest) rest))
      (distinct (before b (cond t (b ∷ rest) rest))))) (eq-eqb k k refl)
      ∙ ap (λ t. length (cond r.fifo (cond t [] (b ∷ before b rest))
      (distinct (cond t [] (b ∷ before b rest))))) (eq-eqb b b refl)
      ∙ ap (λ t. length (cond {A = List ℕ} t [] [])) st.lru

  resident-first : 0 < r.assoc → (ms : List ℕ) → is_resident r (b ∷ ms) b ≡ true
  unfolding is_resident
  resident-first some ms =
      ap (λ t. (t || list_any (λ m. m == b) ms) && ltb (reuse_distance r (b ∷ ms) b) r.assoc)
      (eq-eqb b b refl)
      ∙ ap (λ d. ltb d r.assoc) (near ms) ∙ lt-ltb 0 r.assoc some

  -- it is resident
  pub resident-last : 0 < r.assoc → (h : History) → used_last r.bsize b h ≡ true
      → is_resident r (renewals r h) b ≡ true
  resident-last some h e =
      let last = renewed-last h e in
      ap (λ l. is_resident r l b) last.1 ∙ resident-first some last.0

  -- it is the first of its set
  pub distance-last : 0 < r.assoc → (h : History) → used_last r.bsize b h ≡ true
      → stack_distance r h b ≡ 0
  unfolding stack_distance
  distance-last some h e =
      let last = renewed-last h e in
      ap (λ l. cond (is_resident r l b) (reuse_distance r l b) r.assoc) last.1
      ∙ ap (λ t. cond t (reuse_distance r (b ∷ last.0) b) r.assoc) (resident-first some last.0)
      ∙ near last.0

  -- it is dirty in all numbers of ways, if it was written
  pub level-last : 0 < r.assoc → (h : History) → written_last r.bsize b h ≡ true
      → dirty_level r h b ≡ 0
  unfolding written_last
  level-last some [] e = absurd (false≢true e)
  level-last some (flush ∷ h) e = absurd (false≢true e)
  level-last some (access x ∷ h) e =
      let each = and_parts (eqb (x.addr / r.bsize) b) (is_write x || written_last r.bsize b h) e in
      level-step r st h x b each.0 ∙ (elim (is_write x) as (λ w.
      (w || written_last r.bsize b h) ≡ true
      → level_after w (dirty_level r h b) (stack_distance r h b) ≡ 0) [
        | true ↦ λ o. refl
        | false ↦ λ o.
            ap (λ l. level_after false l (stack_distance r h b)) (level-last some h o)
            ∙ ap (level_after false 0)
            (distance-last some h (written-used r.bsize b h o))
            ∙ low-level 0
      ]) each.1

  -- the row of the block that is first stays, if the block is dirty in all numbers of ways or this
  -- is no write
  pub row-first : (h : History) (write : Bool) → stack_distance r h b ≡ 0
      → (write ≡ true → dirty_level r h b ≡ 0)
      → slots_of r h (b % r.sets) ≡ next_slots b write (slots_of r h (b % r.sets))
  row-first h write near dirty =
      let row = slots_of r h (b % r.sets) in
      let first : 0 ≡ index_of (holds b) row = sym (index-slots r st h b ∙ near) in
      let read : row ≡ next_slots b false row = sym (read-first b row first) in
      (elim write as (λ w. (w ≡ true → dirty_level r h b ≡ 0) → row ≡ next_slots b w row) [
        | true ↦ λ dirty.
            let low : level_after false (dirty_level r h b) (stack_distance r h b) ≡ 0 =
            ap (λ l. level_after false l (stack_distance r h b)) (dirty refl)
            ∙ ap (level_after false 0) near ∙ low-level 0 in
            read ∙ ap (λ l. shifted (holds b) (used_slot b l) row) (seen-level r st h b false ∙ low)
        | false ↦ λ dirty. read
      ]) dirty

  -- so does that of the block that was used last
  pub row-again : 0 < r.assoc → (h : History) (write : Bool) → used_last r.bsize b h ≡ true
      → (write ≡ true → written_last r.bsize b h ≡ true)
      → slots_of r h (b % r.sets) ≡ next_slots b write (slots_of r h (b % r.sets))
  row-again some h write last written =
      row-first h write (distance-last some h last) (λ w. level-last some h (written w))
