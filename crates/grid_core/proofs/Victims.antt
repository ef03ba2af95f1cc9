-- The block that a cache of n ways evicts stands last among the first n.
use Rattle.std.proofs.Common.{◌≡◌, ℕ, suc, ◌*◌, ◌-◌, ◌%◌, ◌<◌, ◌≤◌, Bool, true, false, cond, ◌&&◌}
use Rattle.std.proofs.Common.{ltb}
use Rattle.std.proofs.Common.{List, length, map, replicate, get_or, Some, None}
use Rattle.std.proofs.Common.{inl, inr, refl, sym, ap, ◌∙◌, arith}
use Rattle.std.specs.Option.{option_map}
use Rattle.std.proofs.lemmas.Bool.{cases_lt}
use Rattle.std.proofs.lemmas.List.{length-map, get_or-append_right, get_or_append_left, get_or-map}
use Rattle.std.proofs.lemmas.List.{get_or-replicate}
use Rattle.std.proofs.Math.Seq.{get_or-take}
use Rattle.cache_core.specs.declared.access.Access.{Access}
use Rattle.cache_core.specs.History.{Rules, History, block_of}
use Rattle.cache_core.specs.Residents.{hits, renews, renewals, is_resident, victim}
use Rattle.cache_core.specs.Dirty.{is_written, is_dirty}
use Rattle.cache_core.specs.Parts.{dirty_victim, outcome_of}
use Rattle.cache_core.specs.Order.{ranked}
use Rattle.cache_core.proofs.Shift.{padded}
use Rattle.cache_core.proofs.Members.{mid-true}
use Rattle.cache_core.proofs.Victim.{last-resident, load-full, load-room}
use Rattle.grid_core.specs.Slot.{Slot, no_slot}
use Rattle.grid_core.specs.Ways.{with_ways, IsStacked}
use Rattle.grid_core.specs.Levels.{dirty_level}
use Rattle.grid_core.specs.Pushed.{dirty_in}
use Rattle.grid_core.specs.Standing.{slot_at, slots_of}
use Rattle.grid_core.proofs.Distances.{renews-all, renewals-same, stacked-ways}
use Rattle.grid_core.proofs.Levels.{written-level}

module _ (r : Rules) (st : IsStacked r) (n m : ℕ) (size : n
    ≡ suc m) (le : n ≤ r.assoc) (h : History)
    (x : Access) where
  abbrev q : Rules
  q = with_ways n r

  abbrev b : ℕ
  b = block_of r x

  abbrev s : ℕ
  s = b % r.sets

  abbrev ranks : List ℕ
  ranks = ranked r s (renewals r h)

  abbrev last : Slot
  last = get_or (slots_of r h s) m no_slot

  order-same : ranked q s (renewals q h) ≡ ranks
  order-same = ap (λ ms. ranked r s ms) (renewals-same r st n h)

  last-is : last ≡ get_or (padded (slot_at r h) no_slot r.assoc ranks) m no_slot
  unfolding slots_of
  last-is = get_or-take r.assoc (padded (slot_at r h) no_slot r.assoc ranks) m no_slot (omega arith)

  last-full : m < length ranks → last ≡ slot_at r h (get_or ranks m 0)
  last-full full = last-is
      ∙ get_or_append_left (map (slot_at r h) ranks) (replicate r.assoc no_slot) no_slot m
      (omega (arith, length-map ranks (slot_at r h)))
      ∙ get_or-map (slot_at r h) ranks m 0 no_slot full

  last-room : length ranks ≤ m → last ≡ no_slot
  last-room short = last-is
      ∙ get_or-append_right (map (slot_at r h) ranks) (replicate r.assoc no_slot)
      (length ranks) m no_slot (length-map ranks (slot_at r h)) short
      ∙ get_or-replicate r.assoc (m - length ranks) no_slot no_slot (omega arith)

  map-cond : (t : Bool) (v : ℕ) → option_map (λ z. z * r.bsize) (cond t (Some v) None)
      ≡ cond t (Some (v * r.bsize)) None
  map-cond true v = refl
  map-cond false v = refl

  module _ (miss : hits q (renewals q h) x ≡ false) where
    renewed : renews q (renewals q h) x ≡ true
    renewed = renews-all q (stacked-ways n r st) (renewals q h) x

    full-back : (full : m < length ranks) → dirty_victim q h (victim q h x)
        ≡ option_map (λ z. z * r.bsize) (dirty_in r.wback n last)
    unfolding is_dirty
    full-back full =
        let full' : m < length (ranked q s (renewals q h)) = omega (arith, ap length order-same) in
        let v = get_or ranks m 0 in
        let v' = get_or (ranked q s (renewals q h)) m 0 in
        let same : v' ≡ v = ap (λ l. get_or l m 0) order-same in
        ap (dirty_victim q h) (load-full q h x m size miss renewed full')
        ∙ ap (λ t. cond t (Some (v' * r.bsize)) None)
        (mid-true r.wback (is_resident q (renewals q h) v') (is_written q h v')
        (last-resident q h x m size miss renewed full'))
        ∙ ap (λ z. cond (r.wback && is_written q h z) (Some (z * r.bsize)) None) same
        ∙ ap (λ t. cond (r.wback && t) (Some (v * r.bsize)) None)
        (written-level r st n (omega arith) le h v)
        ∙ sym (map-cond (r.wback && ltb (dirty_level r h v) n) v)
        ∙ sym (ap (λ t. option_map (λ z. z * r.bsize) (dirty_in r.wback n t)) (last-full full))

    room-back : (short : length ranks ≤ m) → dirty_victim q h (victim q h x)
        ≡ option_map (λ z. z * r.bsize) (dirty_in r.wback n last)
    room-back short =
        let short' : length (ranked q s (renewals q h)) ≤ m = omega (arith, ap length order-same) in
        ap (dirty_victim q h) (load-room q h x m size miss renewed short')
        ∙ sym (ap (λ t. option_map (λ z. z * r.bsize) (dirty_in r.wback n t)) (last-room short))

    -- so it is written back if its level is less than n
    pub back-is : (outcome_of q h x).back ≡ option_map (λ z. z * r.bsize) (dirty_in r.wback n last)
    unfolding outcome_of
    back-is = elim (cases_lt m (length ranks)) [ inl l ↦ full-back l | inr l ↦ room-back l ]
