-- Proofs by the two cases of a Boolean.
use Rattle.std.proofs.Common.{◌≡◌, Bool, true, false, refl}

module _ {G : Type 0} where
  -- what follows where the Boolean is true, and where it is false, holds
  pub by_cases : (b : Bool) → (b ≡ true → G) → (b ≡ false → G) → G
  by_cases b is isnt = (elim b as (λ t. b ≡ t → G) [ true ↦ is | false ↦ isnt ]) refl
