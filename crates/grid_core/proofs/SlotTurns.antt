-- How one access moves the rows of slots.
use Rattle.std.proofs.Common.{◌≡◌, ℕ, suc, ◌%◌, ◌<◌, ◌≤◌, Bool, true, false, cond, not, ◌&&◌, ◌||◌}
use Rattle.std.proofs.Common.{eqb, ltb, List, [], ◌∷◌, ◌++◌, length, get_or, take, map, replicate}
use Rattle.std.proofs.Common.{Some, None}
use Rattle.std.proofs.Common.{refl, sym, ap, ◌∙◌, arith}
use Rattle.std.specs.List.{find}
use Rattle.std.specs.Option.{option_map_or}
use Rattle.std.proofs.lemmas.List.{length-append, length-replicate, length-take-le}
use Rattle.std.proofs.lemmas.Bool.{eq-eqb, ne_eqb, ltb-true, ltb-false, and_parts}
use Rattle.cache_core.specs.declared.access.Access.{Access}
use Rattle.cache_core.specs.History.{Rules, History, access, flush, block_of, is_write}
use Rattle.cache_core.specs.Residents.{renewals, before, is_resident, reuse_distance}
use Rattle.cache_core.specs.Order.{ranked}
use Rattle.cache_core.specs.Row.{shifted}
use Rattle.cache_core.proofs.Reuse.{has}
use Rattle.cache_core.proofs.Shift.{padded, find-padded, shifted-padded, map-without, padded-agree}
use Rattle.cache_core.proofs.Shift.{has-take_absent}
use Rattle.cache_core.proofs.Shadow.{eqb-comm}
use Rattle.cache_core.proofs.Turns.{ranked-other, ranked-lru, IsOnce-ranked, absent, renewals-yes}
use Rattle.cache_core.proofs.Cases.{by_cases}
use Rattle.marked_list.specs.Recency.{index_of}
use Rattle.grid_core.specs.Slot.{Slot, used_slot, no_slot}
use Rattle.grid_core.specs.Ways.{IsStacked, stack_distance}
use Rattle.grid_core.specs.Levels.{dirty_level}
use Rattle.grid_core.specs.Slots.{holds, slot_level, level_after}
use Rattle.grid_core.specs.Slots.{next_slots, stays_in}
use Rattle.grid_core.specs.Standing.{slot_at, slots_of}
use Rattle.grid_core.proofs.Distances.{renews-all, distance-place}
use Rattle.grid_core.proofs.Levels.{level-step, level-other}
use Rattle.grid_core.proofs.Positions.{index-padded}

resident-lt : (r : Rules) (ms : List ℕ) (b : ℕ) → is_resident r ms b ≡ true
    → reuse_distance r ms b < r.assoc
unfolding is_resident
resident-lt r ms b e = ltb-true (reuse_distance r ms b) r.assoc
    (and_parts (has ms b) (ltb (reuse_distance r ms b) r.assoc) e).1

-- no distance is above the number of ways
pub distance-le : (r : Rules) (h : History) (b : ℕ) → stack_distance r h b ≤ r.assoc
unfolding stack_distance
distance-le r h b = (elim (is_resident r (renewals r h) b) as (λ t.
    is_resident r (renewals r h) b ≡ t
    → cond t (reuse_distance r (renewals r h) b) r.assoc ≤ r.assoc) [
      | true ↦ λ e. let lt = resident-lt r (renewals r h) b e in omega arith
      | false ↦ λ e. omega arith
    ]) refl

-- the first slot of a row tells whether it stays as it is
pub stays-first : (b : ℕ) (w : Bool) (row : List Slot) (d : Slot) → 0 < length row
    → (holds b (get_or row 0 d) && (not w || eqb (get_or row 0 d).level 0)) ≡ stays_in b w row
stays-first b w [] d some = absurd (omega arith)
stays-first b w (s ∷ row) d some = elim (holds b s) as (λ t. (t && (not w || eqb s.level 0))
    ≡ (eqb (cond t 0 (suc (index_of (holds b) row))) 0 && (not w || eqb (option_map_or slot_level
    (cond t (Some s) (find (holds b) row)) (suc (length row))) 0))) [
      | true ↦ refl
      | false ↦ rw (ne_eqb (suc (index_of (holds b) row)) 0 (λ e. absurd (omega arith))) refl
    ]

-- a bound of a level and of a distance is one of the level after an access
pub after-le : (w : Bool) (l d n : ℕ) → l ≤ n → d ≤ n → level_after w l d ≤ n
after-le true l d n a b = omega arith
after-le false l d n a b = (elim (ltb l d) as (λ t. cond t d l ≤ n) [ true ↦ b | false ↦ a ])

-- no level is above the number of ways
pub level-le : (r : Rules) (h : History) (b : ℕ) → dirty_level r h b ≤ r.assoc
unfolding dirty_level
level-le r [] b = omega arith
level-le r (flush ∷ h) b = omega arith
level-le r (access x ∷ h) b = (elim (eqb (block_of r x) b) as (λ t.
    cond t (level_after (is_write x) (dirty_level r h b) (stack_distance r h b)) (dirty_level r h b)
    ≤ r.assoc) [
      | true ↦ after-le (is_write x) (dirty_level r h b) (stack_distance r h b) r.assoc
          (level-le r h b) (distance-le r h b)
      | false ↦ level-le r h b
    ])

same-far : (l n : ℕ) → l ≤ n → level_after false n n ≡ level_after false l n
same-far l n le = one (ltb n n) n ∙ sym (two (ltb l n) refl)
  where
    one : (t : Bool) (n : ℕ) → cond t n n ≡ n
    one true n = refl
    one false n = refl

    two : (t : Bool) → ltb l n ≡ t → cond t n l ≡ n
    two true e = refl
    two false e = let ge = ltb-false l n e in omega arith

module _ (r : Rules) (st : IsStacked r) (h : History) where
  abbrev ms : List ℕ
  ms = renewals r h

  slots-are : (g : History) (s : ℕ) → slots_of r g s
      ≡ take r.assoc (padded (slot_at r g) no_slot r.assoc (ranked r s (renewals r g)))
  unfolding slots_of
  slots-are g s = refl

  at-block : (g : History) (b y : ℕ) → holds b (slot_at r g y) ≡ eqb y b
  at-block g b y = refl

  -- a block stands at its stack distance
  pub index-slots : (b : ℕ)
      → index_of (holds b) (slots_of r h (b % r.sets)) ≡ stack_distance r h b
  index-slots b = ap (index_of (holds b)) (slots-are h (b % r.sets))
      ∙ index-padded (slot_at r h) no_slot r.assoc (holds b) b (at-block h b) refl r.assoc
      (ranked r (b % r.sets) ms) (omega arith) ∙ sym (distance-place r st h b)

  find-slots : (b : ℕ) → find (holds b) (slots_of r h (b % r.sets))
      ≡ cond (has (take r.assoc (ranked r (b % r.sets) ms)) b) (Some (slot_at r h b)) None
  find-slots b = ap (find (holds b)) (slots-are h (b % r.sets))
      ∙ find-padded (slot_at r h) no_slot r.assoc (holds b) b (at-block h b) refl r.assoc
      (ranked r (b % r.sets) ms)

  length-slots : (s : ℕ) → length (slots_of r h s) ≡ r.assoc
  length-slots s = ap length (slots-are h s)
      ∙ length-take-le r.assoc (padded (slot_at r h) no_slot r.assoc (ranked r s ms))
      (omega (
        arith,
        length-append (map (slot_at r h) (ranked r s ms)) (replicate r.assoc no_slot),
        length-replicate r.assoc no_slot,
      ))

  module _ (b : ℕ) where
    abbrev ranks : List ℕ
    ranks = ranked r (b % r.sets) ms

    abbrev there : Bool
    there = has (take r.assoc ranks) b

    abbrev found : Bool → ℕ → ℕ
    found t k = option_map_or slot_level (cond t (Some (slot_at r h b)) None) k

    far : there ≡ false → stack_distance r h b ≡ r.assoc
    far e = distance-place r st h b ∙ ap (λ t. cond t (length (before b ranks)) r.assoc) e

    seen-last : (w : Bool) → level_after w (found there r.assoc) (stack_distance r h b)
        ≡ level_after w (dirty_level r h b) (stack_distance r h b)
    seen-last true = refl
    seen-last false = by_cases there
        (λ e. ap (λ t. level_after false (found t r.assoc) (stack_distance r h b)) e)
        (λ e. ap (λ t. level_after false (found t r.assoc) (stack_distance r h b)) e
        ∙ ap (level_after false r.assoc) (far e)
        ∙ same-far (dirty_level r h b) r.assoc (level-le r h b)
        ∙ sym (ap (level_after false (dirty_level r h b)) (far e)))

    -- the level that the code finds leads to the level after the access
    pub seen-level : (w : Bool) → level_after w
        (option_map_or slot_level (find (holds b) (slots_of r h (b % r.sets)))
        (length (slots_of r h (b % r.sets)))) (index_of (holds b) (slots_of r h (b % r.sets)))
        ≡ level_after w (dirty_level r h b) (stack_distance r h b)
    seen-level w =
        ap (λ o. level_after w (option_map_or slot_level o (length (slots_of r h (b % r.sets))))
        (index_of (holds b) (slots_of r h (b % r.sets)))) (find-slots b)
        ∙ ap (λ k. level_after w (found there k)
        (index_of (holds b) (slots_of r h (b % r.sets)))) (length-slots (b % r.sets))
        ∙ ap (level_after w (found there r.assoc)) (index-slots b)
        ∙ seen-last w

  module _ (x : Access) where
    abbrev b : ℕ
    b = block_of r x

    abbrev h' : History
    h' = access x ∷ h

    abbrev s : ℕ
    s = b % r.sets

    renewed : renewals r h' ≡ b ∷ ms
    renewed = renewals-yes r h x (renews-all r st ms x)

    slot-other : (y : ℕ) → eqb y b ≡ false → slot_at r h' y ≡ slot_at r h y
    slot-other y e = ap (used_slot y) (level-other r st h x y (eqb-comm b y ∙ e))

    -- the rows of the other sets stay
    pub slots-other : (t : ℕ) → eqb s t ≡ false → slots_of r h' t ≡ slots_of r h t
    slots-other t e = slots-are h' t
        ∙ ap (λ l. take r.assoc (padded (slot_at r h') no_slot r.assoc (ranked r t l))) renewed
        ∙ ap (λ l. take r.assoc (padded (slot_at r h') no_slot r.assoc l)) (ranked-other r t b ms e)
        ∙ padded-agree (slot_at r h) no_slot r.assoc (holds b) b (at-block h b) refl
        (slot_at r h') slot-other r.assoc (ranked r t ms)
        (has-take_absent r.assoc b (ranked r t ms) (absent r t b ms e))
        ∙ sym (slots-are h t)

    front-is : slot_at r h' b ≡ used_slot b (level_after (is_write x)
        (option_map_or slot_level (find (holds b) (slots_of r h s)) (length (slots_of r h s)))
        (index_of (holds b) (slots_of r h s)))
    front-is = ap (used_slot b) (level-step r st h x b (eq-eqb b b refl)
        ∙ sym (seen-level b (is_write x)))

    -- the row of the set of the access is the one that the code makes
    pub slots-here : slots_of r h' s ≡ next_slots b (is_write x) (slots_of r h s)
    slots-here = slots-are h' s
        ∙ ap (λ l. take r.assoc (padded (slot_at r h') no_slot r.assoc (ranked r s l))) renewed
        ∙ ap (λ l. take r.assoc (padded (slot_at r h') no_slot r.assoc l))
        (ranked-lru r b ms st.lru)
        ∙ ap (λ l. take r.assoc (slot_at r h' b ∷ (l ++ replicate r.assoc no_slot)))
        (map-without (slot_at r h) no_slot r.assoc (holds b) b (at-block h b) refl
        (slot_at r h') slot-other (ranked r s ms))
        ∙ sym (shifted-padded (slot_at r h) no_slot r.assoc (holds b) b (at-block h b) refl r.assoc
        (ranked r s ms) (slot_at r h' b) (omega arith) (IsOnce-ranked r st.lru s ms))
        ∙ ap (shifted (holds b) (slot_at r h' b)) (sym (slots-are h s))
        ∙ ap (λ c. shifted (holds b) c (slots_of r h s)) front-is
