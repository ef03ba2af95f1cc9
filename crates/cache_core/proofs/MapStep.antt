-- An access changes a set that is kept as a map as it changes a row.
use Rattle.std.proofs.Common.{◌≡◌, ℕ, zero, suc, ◌-◌, ◌<◌, ◌≤◌, Bool, true, false, cond, not, ◌&&◌}
use Rattle.std.proofs.Common.{◌||◌, eqb, nat_eq, List, [], ◌∷◌, ◌++◌, length, take, map, replicate}
use Rattle.std.proofs.Common.{slice_get, Option, Some, None, is_some, refl, sym, ap, subst, ◌∙◌}
use Rattle.std.proofs.Common.{arith}
use Rattle.std.specs.List.{find}
use Rattle.std.specs.Map.{lookup, lookup_entry, remove_entry, set_value}
use Rattle.std.specs.Option.{option_map, option_map_or}
use Rattle.std.proofs.lemmas.Bool.{eq-eqb, cond-true, cond-false}
use Rattle.lru.specs.LruCache.{lru_cache, promoted, put_entries, displaced}
use Rattle.cache_core.specs.declared.ways.Way.{Way}
use Rattle.cache_core.specs.Row.{holds_block, shifted, leaving, changed, dirtied, empty_way}
use Rattle.cache_core.specs.Row.{dirty_block, next_row, pushed_out}
use Rattle.cache_core.specs.Mapped.{way_of, shown, used_entries, touched_entries, dirty_entry}
use Rattle.cache_core.proofs.RowStep.{valid_way, next-hit, next-miss}
use Rattle.cache_core.proofs.Steps.{out-hit, out-miss, out-none}
use Rattle.cache_core.proofs.MapEntries.{Entries, find-shown, shifted-shown, changed-shown}
use Rattle.cache_core.proofs.MapEntries.{leaving-shown, removed-absent, set-absent, found-first}
use Rattle.cache_core.proofs.MapEntries.{lookup-is, lookup-none, take-shown}

-- a use of a block, as `get_mut` does it
module _ (b : ℕ) (wb w : Bool) (es : Entries) where
  abbrev used : Option (ℕ × Bool) → Entries
  used o = option_map_or (λ e. (e.0, wb && (w || e.1)) ∷ remove_entry (nat_eq b) es) o es

  lookup-some : (fs : Entries) (e : ℕ × Bool) → lookup_entry (nat_eq b) fs ≡ Some e
      → lookup (nat_eq b) fs ≡ Some e.1
  lookup-some [] e h = cc
  lookup-some (f ∷ fs) e h = (elim (eqb b f.0) as (λ t. cond t (Some f) (lookup_entry (nat_eq b) fs)
      ≡ Some e → cond t (Some f.1) (lookup (nat_eq b) fs) ≡ Some e.1) [
        | true ↦ λ g. let same : f ≡ e = cc in ap (λ z. Some z.1) same
        | false ↦ λ g. lookup-some fs e g
      ]) h

  -- a use that moves the block to the front and sets its mark gives the used entries
  pub used-there : (d v : Bool) → lookup (nat_eq b) es ≡ Some d → v ≡ (wb && (w || d))
      → set_value (nat_eq b) (promoted (nat_eq b) es) v ≡ used_entries b wb w es
  used-there d v h g = (elim (lookup_entry (nat_eq b) es) as (λ o. lookup_entry (nat_eq b) es ≡ o
      → set_value (nat_eq b) (promoted (nat_eq b) es) v ≡ used_entries b wb w es) [
        | Some e ↦ λ q.
            let same : Some d ≡ Some e.1 = sym h ∙ lookup-some es e q in
            let mark : d ≡ e.1 = cc in
            let at : nat_eq b e.0 ≡ true =
            subst (λ z. nat_eq b z ≡ true) (sym (found-first b zero es e q)) (eq-eqb b b refl) in
            rw (q, at) (ap (λ z. (e.0, z) ∷ remove_entry (nat_eq b) es) (g
            ∙ ap (λ z. wb && (w || z)) mark))
        | None ↦ λ q. let same : None ≡ Some d = sym (lookup-none b zero es q) ∙ h in cc
      ]) refl

  pub entry-absent : lookup (nat_eq b) es ≡ None → lookup_entry (nat_eq b) es ≡ None
  entry-absent h = (elim (lookup_entry (nat_eq b) es) as (λ o. lookup_entry (nat_eq b) es ≡ o
      → lookup_entry (nat_eq b) es ≡ None) [
        | Some e ↦ λ q. let same : None ≡ Some e.1 = sym h ∙ lookup-some es e q in cc
        | None ↦ λ q. q
      ]) refl

  -- a use of a block that is not there changes nothing
  pub used-absent : lookup (nat_eq b) es ≡ None → used_entries b wb w es ≡ es
  used-absent h = ap used (entry-absent h)

  -- to mark it changes nothing either
  pub marked-absent : lookup (nat_eq b) es ≡ None → set_value (nat_eq b) es true ≡ es
  marked-absent h = set-absent b zero true es (entry-absent h)

none-of : {X : Type 0} (o : Option X) → is_some o ≡ false → o ≡ None
none-of None h = refl
none-of (Some x) h = cc

-- one access to a set of n ways
module _ (fifo wb a w : Bool) (b n : ℕ) (es : Entries) (fits : length es ≤ n) where
  abbrev row : List Way
  row = shown n es

  abbrev seen : Option Way
  seen = find (holds_block b) row

  abbrev touched : Entries
  touched = touched_entries b wb w fifo es

  seen-is : seen ≡ option_map way_of (lookup_entry (nat_eq b) es)
  seen-is = find-shown b n n es fits

  mapped : (o : Option (ℕ × Bool)) → is_some (option_map way_of o) ≡ is_some o
  mapped None = refl
  mapped (Some e) = refl

  -- the map has the block just where the row has it
  pub hit-is : is_some (lookup (nat_eq b) es) ≡ is_some seen
  hit-is = lookup-is b zero es ∙ sym (ap is_some seen-is ∙ mapped (lookup_entry (nat_eq b) es))

  on-hit : (e : ℕ × Bool) → lookup_entry (nat_eq b) es ≡ Some e
      → shown n touched ≡ next_row wb a b w row (Some (way_of e)) fifo
  on-hit e q = (elim fifo as (λ t.
      shown n (cond t (cond (wb && w) (set_value (nat_eq b) es true) es) (used_entries b wb w es))
      ≡ cond t (cond (wb && w) (changed (holds_block b) dirtied row) row)
      (shifted (holds_block b) (valid_way b (wb && (w || e.1))) row)) [
        | true ↦ (elim (wb && w) as (λ t. shown n (cond t (set_value (nat_eq b) es true) es)
            ≡ cond t (changed (holds_block b) dirtied row) row)
            [ true ↦ sym (changed-shown b n n es) | false ↦ refl ])
        | false ↦ ap (λ o. shown n (used b wb w es o)) q
            ∙ ap (λ z. take n (valid_way z (wb && (w || e.1))
            ∷ map way_of (remove_entry (nat_eq b) es)
            ++ replicate n empty_way)) (found-first b zero es e q)
            ∙ sym (shifted-shown b n n es (valid_way b (wb && (w || e.1))) (omega arith))
      ]) ∙ sym (next-hit fifo wb a w b row (way_of e))

  -- after a hit, the map shows the row after the access
  pub hit-row : is_some (lookup (nat_eq b) es) ≡ true
      → shown n touched ≡ next_row wb a b w row seen fifo
  hit-row h = (elim (lookup_entry (nat_eq b) es) as (λ o. lookup_entry (nat_eq b) es ≡ o
      → shown n touched ≡ next_row wb a b w row seen fifo) [
        | Some e ↦ λ q. on-hit e q ∙ ap (λ s. next_row wb a b w row s fifo)
            (sym (seen-is ∙ ap (option_map way_of) q))
        | None ↦ λ q. let no : true ≡ false = sym h ∙ lookup-is b zero es ∙ ap is_some q in cc
      ]) refl

  -- and nothing is pushed out
  pub hit-back : is_some (lookup (nat_eq b) es) ≡ true → pushed_out wb a b w row seen ≡ None
  hit-back h = (elim (lookup_entry (nat_eq b) es) as (λ o. lookup_entry (nat_eq b) es ≡ o
      → pushed_out wb a b w row seen ≡ None) [
        | Some e ↦ λ q. ap (pushed_out wb a b w row) (seen-is ∙ ap (option_map way_of) q)
            ∙ out-hit wb a w b row (way_of e)
        | None ↦ λ q. let no : true ≡ false = sym h ∙ lookup-is b zero es ∙ ap is_some q in cc
      ]) refl

  module _ (h : is_some (lookup (nat_eq b) es) ≡ false) where
    none : lookup_entry (nat_eq b) es ≡ None
    none = none-of (lookup_entry (nat_eq b) es) (sym (lookup-is b zero es) ∙ h)

    unseen : seen ≡ None
    unseen = seen-is ∙ ap (option_map way_of) none

    -- an access that misses touches no entry
    pub miss-same : touched ≡ es
    miss-same = (elim fifo as (λ t.
        cond t (cond (wb && w) (set_value (nat_eq b) es true) es) (used_entries b wb w es) ≡ es) [
          | true ↦ (elim (wb && w) as (λ t. cond t (set_value (nat_eq b) es true) es ≡ es)
              [ true ↦ set-absent b zero true es none | false ↦ refl ])
          | false ↦ ap (used b wb w es) none
        ])

    -- after a write that passes by, the map shows the row after the access
    pub pass-row : (not w || a) ≡ false → shown n touched ≡ next_row wb a b w row seen fifo
    pass-row l = ap (shown n) miss-same
        ∙ sym (ap (λ s. next_row wb a b w row s fifo) unseen ∙ next-miss fifo wb a w b row
        ∙ cond-false (not w || a) _ _ l)

    -- and nothing is pushed out
    pub pass-back : (not w || a) ≡ false → pushed_out wb a b w row seen ≡ None
    pass-back l = ap (pushed_out wb a b w row) unseen ∙ out-none wb a w b row l

    put : Bool → Option (ℕ × Bool) → Entries
    put v o = option_map_or (λ e. (e.0, v) ∷ remove_entry (nat_eq b) es) o
        ((b, v) ∷ take (n - 1) es)

    put-is : (v : Bool) → put_entries nat_eq (lru_cache es n) b v ≡ (b, v) ∷ take (n - 1) es
    unfolding put
    put-is v = ap (put v) none

    module _ (m : ℕ) (size : n ≡ suc m) (l : (not w || a) ≡ true) where
      one_less : n - 1 ≡ m
      one_less = omega arith

      -- after a load, the map shows the row after the access
      pub load-row : shown n (put_entries nat_eq (lru_cache es n) b (wb && w))
          ≡ next_row wb a b w row seen fifo
      load-row = ap (shown n) (put-is (wb && w) ∙ ap (λ k. (b, wb && w) ∷ take k es) one_less)
          ∙ subst (λ k. take k (map way_of ((b, wb && w) ∷ take m es) ++ replicate n empty_way)
          ≡ take k (valid_way b (wb && w) ∷ map way_of es ++ replicate n empty_way)) (sym size)
          (ap (λ l. valid_way b (wb && w) ∷ l) (take-shown b zero m es (replicate n empty_way)))
          ∙ ap (λ fs. take n (valid_way b (wb && w) ∷ map way_of fs ++ replicate n empty_way))
          (sym (removed-absent b zero es none))
          ∙ sym (shifted-shown b n n es (valid_way b (wb && w)) (omega arith))
          ∙ sym (ap (λ s. next_row wb a b w row s fifo) unseen ∙ next-miss fifo wb a w b row
          ∙ cond-true (not w || a) _ _ l)

      -- and what it displaces is what the row pushes out
      pub load-back : option_map_or dirty_entry (displaced nat_eq (lru_cache es n) b (wb && w)) None
          ≡ pushed_out wb a b w row seen
      load-back = ap (λ o. option_map_or dirty_entry
          (option_map_or (λ old. Some (b, old)) o (slice_get es (n - 1))) None)
          (lookup-none b zero es none)
          ∙ ap (λ k. option_map_or dirty_entry (slice_get es k) None) one_less
          ∙ sym (ap (pushed_out wb a b w row) unseen ∙ out-miss wb a w b row l
          ∙ subst (λ k. dirty_block (leaving (holds_block b) (valid_way b (wb && w))
          (take k (map way_of es ++ replicate n empty_way)))
          ≡ option_map_or dirty_entry (slice_get es m) None) (sym size)
          (leaving-shown b n m es (valid_way b (wb && w)) (omega arith) none))

-- a number above 0 is the next after the one before it
pub suc_pred : (n : ℕ) → 0 < n → n ≡ suc (n - 1)
suc_pred n h = omega arith

-- a mark that is not set adds nothing to what a write sets
pub or-nothing : (wb w : Bool) → (wb && (w || false)) ≡ (wb && w)
or-nothing wb true = refl
or-nothing wb false = refl
