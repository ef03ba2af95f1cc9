-- Whether the shadow of a cache has a block, and the order of the blocks after a use, by numbers.
use Rattle.std.proofs.Common.{◌≡◌, ℕ, Bool, true, eqb, List, ◌∷◌, map, Some}
use Rattle.std.proofs.Common.{unwrap_or, refl, sym, ap, ◌∙◌}
use Rattle.cache_core.specs.declared.access.Access.{Access}
use Rattle.cache_core.specs.History.{History, Rules, access, block_of}
use Rattle.cache_core.specs.Kinds.{shadow_of}
use Rattle.cache_core.specs.Residents.{distinct, hits, renewals}
use Rattle.cache_core.proofs.Reuse.{has}
use Rattle.cache_core.proofs.Shadow.{eqb-comm}
use Rattle.marked_list.specs.Recency.{brought_front, is_among}
use Rattle.marked_list.proofs.LevelLaws.{shadow-holds}
use Rattle.grid_core.specs.Numbers.{number_at}
use Rattle.grid_core.specs.Shadows.{number_by}
use Rattle.grid_core.specs.Ways.{IsStacked}
use Rattle.grid_core.proofs.Distances.{renewals-size}
use Rattle.grid_core.proofs.Numbering.{among-map, front-map}
use Rattle.stamped_cache.proofs.Holds.{same-number}
use Rattle.stamped_cache.proofs.Residents.{access-renews}

module _ (blocks : List ℕ) (r : Rules) (st : IsStacked r) (h : History) (x : Access) (n : ℕ)
    (is : number_at blocks (block_of r x) ≡ Some n)
    (named : (y : ℕ) → has (distinct (renewals r h)) y ≡ true
    → number_at blocks y ≡ Some (number_by blocks y)) where
  abbrev b : ℕ
  b = block_of r x

  abbrev num : ℕ → ℕ
  num = number_by blocks

  abbrev ys : List ℕ
  ys = distinct (renewals r h)

  -- the number of a block that was used is n just if it is the block of the access
  agree : (y : ℕ) → has ys y ≡ true → eqb (num y) n ≡ eqb y b
  agree y there = eqb-comm (num y) n ∙ same-number blocks b n is y (num y) (named y there)
      ∙ eqb-comm b y

  -- the access brings the number of its block to the front
  pub order-next : brought_front n (map num ys) ≡ map num (distinct (renewals r (access x ∷ h)))
  order-next = front-map num n b num (ap (λ o. unwrap_or o 0) is) (λ y e. refl) ys agree
      ∙ ap (λ l. map num (distinct l)) (sym (access-renews r st h x))

  -- the shadow has the block just if its number is among the first ones
  pub near-is : (near : Bool) → near ≡ is_among n (map num ys) r.blocks
      → near ≡ hits (shadow_of r) (renewals (shadow_of r) h) x
  near-is near at = at ∙ among-map num n b r.blocks ys agree
      ∙ ap (λ l. is_among b (distinct l) r.blocks) (renewals-size r (shadow_of r) st
      (record { lru = refl; allocates = st.allocates }) refl h)
      ∙ sym (shadow-holds r (renewals (shadow_of r) h) b)
