-- The outcome of one access in the cache of n ways, by the distances of its block.
use Rattle.std.proofs.Common.{◌≡◌, ℕ, suc, ◌≤◌, Bool, true, cond, not, ◌&&◌, ◌||◌, ◌==◌}
use Rattle.std.proofs.Common.{ltb, Option, Some, None, ap, ◌∙◌}
use Rattle.std.specs.List.{list_any}
use Rattle.std.proofs.Math.Bool.{or-false}
use Rattle.cache_core.specs.declared.access.Access.{Access}
use Rattle.cache_core.specs.declared.access.MissKind.{MissKind}
use Rattle.cache_core.specs.declared.access.MissKind.TheVariants.{Compulsory, Capacity, Conflict}
use Rattle.cache_core.specs.History.{Rules, History, block_of, is_write}
use Rattle.cache_core.specs.Residents.{hits, renewals}
use Rattle.cache_core.specs.Kinds.{shadow_of, referenced_blocks, kind_of_miss}
use Rattle.cache_core.specs.Parts.{outcome_of, dirty_victim}
use Rattle.cache_core.proofs.Victim.{lru-hit}
use Rattle.grid_core.specs.Ways.{with_ways, IsStacked, stack_distance}
use Rattle.grid_core.proofs.Distances.{hits-distance, stacked-ways, uses-all}

-- the kind of a miss, by whether it hits, the block is known, and the shadow hits
abbrev pub kind_made : Bool → Bool → Bool → Option MissKind
kind_made hit referenced in_shadow = cond hit None
    (Some (cond referenced (cond in_shadow Conflict Capacity) Compulsory))

module _ (r : Rules) (st : IsStacked r) (n : ℕ) (le : n ≤ r.assoc) (h : History) (x : Access) where
  abbrev q : Rules
  q = with_ways n r

  abbrev b : ℕ
  b = block_of r x

  pub outcome-hit : (outcome_of q h x).hit ≡ ltb (stack_distance r h b) n
  unfolding outcome_of
  outcome-hit = hits-distance r st n le h x

  pub outcome-fetch : (outcome_of q h x).fetch ≡ not (ltb (stack_distance r h b) n)
  unfolding outcome_of
  outcome-fetch = ap (λ t. t && not (hits q (renewals q h) x))
      (uses-all q (stacked-ways n r st) (renewals q h) x)
      ∙ ap not (hits-distance r st n le h x)

  pub outcome-through : (outcome_of q h x).through ≡ (is_write x && not r.wback)
  unfolding outcome_of
  outcome-through = ap (λ t. is_write x && (not r.wback || not t))
      (uses-all q (stacked-ways n r st) (renewals q h) x)
      ∙ ap (λ t. is_write x && t) (or-false (not r.wback))

  pub outcome-kind : (outcome_of q h x).kind ≡ kind_made (ltb (stack_distance r h b) n)
      (list_any (λ z. z == block_of q x) (referenced_blocks q h))
      (hits (shadow_of q) (renewals (shadow_of q) h) x)
  unfolding outcome_of kind_of_miss
  outcome-kind = ap (λ t. kind_made t (list_any (λ z. z == block_of q x) (referenced_blocks q h))
      (hits (shadow_of q) (renewals (shadow_of q) h) x)) (hits-distance r st n le h x)

  -- a hit writes nothing back
  pub outcome-kept : (m : ℕ) → n ≡ suc m → ltb (stack_distance r h b) n ≡ true
      → (outcome_of q h x).back ≡ None
  unfolding outcome_of
  outcome-kept m size near = ap (dirty_victim q h)
      (lru-hit q h x m size st.lru (hits-distance r st n le h x ∙ near)
      (uses-all q (stacked-ways n r st) (renewals q h) x))
