-- Before the first access.
use Rattle.std.proofs.Common.{◌≡◌, ℕ, true, false, cond, List, [], ◌∷◌}
use Rattle.std.proofs.Common.{◌++◌, take}
use Rattle.std.proofs.Common.{map, replicate, refl, sym, ap, ◌∙◌, arith}
use Rattle.std.proofs.lemmas.List.{take-replicate}
use Rattle.cache_core.specs.History.{Rules, History, flush}
use Rattle.cache_core.specs.Residents.{renewals}
use Rattle.cache_core.specs.Order.{ranked}
use Rattle.cache_core.proofs.Nothing.{renewals-start, renewals-flush}
use Rattle.grid_core.specs.Standing.{slot_at, slots_of}
use Rattle.grid_core.specs.Slot.{no_slot}

module _ (r : Rules) where
  ranked-none : (s : ℕ) → ranked r s [] ≡ []
  ranked-none s = (elim r.fifo as (λ t. cond {A = List ℕ} t [] [] ≡ [])
      [ true ↦ refl | false ↦ refl ])

  module _ (h : History) (none : renewals r h ≡ []) where
    slots-none : (s : ℕ) → slots_of r h s ≡ replicate r.assoc no_slot
    unfolding slots_of
    slots-none s =
        ap (λ l. take r.assoc (map (slot_at r h) (ranked r s l) ++ replicate r.assoc no_slot)) none
        ∙ ap (λ l. take r.assoc (map (slot_at r h) l ++ replicate r.assoc no_slot)) (ranked-none s)
        ∙ take-replicate r.assoc r.assoc no_slot (omega arith)

  -- all slots are empty at the start, and after a flush
  pub slots-start : (t : ℕ) → replicate r.assoc no_slot ≡ slots_of r [] t
  slots-start t = sym (slots-none [] (renewals-start r) t)

  pub slots-flushed : (h : History) (t : ℕ) → replicate r.assoc no_slot ≡ slots_of r (flush ∷ h) t
  slots-flushed h t = sym (slots-none (flush ∷ h) (renewals-flush r h) t)
