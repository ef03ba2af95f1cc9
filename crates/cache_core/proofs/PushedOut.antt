-- What a load pushes out of a row is the victim, if it was dirty.
use Rattle.std.proofs.Common.{◌≡◌, ℕ, suc, ◌*◌, ◌-◌, ◌<◌, ◌≤◌, true, false, cond, List, ◌∷◌}
use Rattle.std.proofs.Common.{length, take, map, replicate, get_or, Some, None, inl, inr, refl, sym}
use Rattle.std.proofs.Common.{ap, ◌∙◌, arith}
use Rattle.std.specs.List.{list_any}
use Rattle.std.proofs.lemmas.Bool.{cases_lt}
use Rattle.std.proofs.lemmas.List.{length-map, get_or-append_right, get_or_append_left, get_or-map}
use Rattle.std.proofs.lemmas.List.{get_or-replicate}
use Rattle.cache_core.specs.declared.access.Access.{Access}
use Rattle.cache_core.specs.declared.ways.Way.{Way}
use Rattle.cache_core.specs.History.{Rules, History}
use Rattle.cache_core.specs.Residents.{renews, hits, renewals, is_resident, victim}
use Rattle.cache_core.specs.Dirty.{is_written, is_dirty}
use Rattle.cache_core.specs.Parts.{dirty_victim}
use Rattle.cache_core.specs.Order.{ranked}
use Rattle.cache_core.specs.Row.{holds_block, empty_way, leaving, dirty_block, way_at, row_of}
use Rattle.cache_core.proofs.AtAccess.{at_access}
use Rattle.cache_core.proofs.Reuse.{has}
use Rattle.cache_core.proofs.Shift.{padded, any-padded, leaving-none}
use Rattle.cache_core.proofs.RowTurns.{at_block, room}
use Rattle.cache_core.proofs.Members.{mid-true}
use Rattle.cache_core.proofs.Victim.{front-b, last-resident, load-full, load-room}

-- a load into a set
module _ (r : Rules) (h : History) (x : Access) (m : ℕ) (size : r.assoc ≡ suc m)
    (miss : hits r (renewals r h) x ≡ false) (yes : renews r (renewals r h) x ≡ true)
    (pos : 0 < r.bsize) (c : Way) where
  open at_access r h x use {b, s, ms}

  abbrev ranks : List ℕ
  ranks = ranked r s ms

  abbrev block_addr : ℕ
  block_addr = b * r.bsize

  abbrev shown : List Way
  shown = padded (way_at r h) empty_way r.assoc ranks

  none_here : list_any (holds_block block_addr) (take r.assoc shown) ≡ false
  none_here = any-padded (way_at r h) empty_way r.assoc (holds_block block_addr) b
      (at_block r pos h b) refl r.assoc ranks
      ∙ ap (λ n. has (take n ranks) b) size ∙ front-b r h x m size miss yes

  leaving-is : leaving (holds_block block_addr) c (row_of r h s) ≡ get_or shown m c
  unfolding row_of
  leaving-is = leaving-none (holds_block block_addr) r.assoc shown c none_here (room r pos h x)
      ∙ ap (λ n. get_or (c ∷ shown) n c) size

  out-full : m < length ranks → dirty_block (leaving (holds_block block_addr) c (row_of r h s))
      ≡ dirty_victim r h (victim r h x)
  unfolding is_dirty
  out-full full = ap dirty_block (leaving-is
      ∙ get_or_append_left (map (way_at r h) ranks) (replicate r.assoc empty_way) c m
      (omega (arith, length-map ranks (way_at r h)))
      ∙ get_or-map (way_at r h) ranks m 0 c full)
      ∙ ap (λ t. cond t (Some (get_or ranks m 0 * r.bsize)) None)
      (sym (mid-true r.wback (is_resident r ms (get_or ranks m 0))
      (is_written r h (get_or ranks m 0)) (last-resident r h x m size miss yes full)))
      ∙ sym (ap (dirty_victim r h) (load-full r h x m size miss yes full))

  out-room : length ranks ≤ m → dirty_block (leaving (holds_block block_addr) c (row_of r h s))
      ≡ dirty_victim r h (victim r h x)
  out-room le = ap dirty_block (leaving-is
      ∙ get_or-append_right (map (way_at r h) ranks) (replicate r.assoc empty_way)
      (length ranks) m c (length-map ranks (way_at r h)) le
      ∙ get_or-replicate r.assoc (m - length ranks) empty_way c (omega arith))
      ∙ sym (ap (dirty_victim r h) (load-room r h x m size miss yes le))

  -- what the code pushes out is the victim, if it was dirty
  pub out-is : dirty_block (leaving (holds_block block_addr) c (row_of r h s))
      ≡ dirty_victim r h (victim r h x)
  out-is = elim (cases_lt m (length ranks)) [ inl l ↦ out-full l | inr l ↦ out-room l ]
