-- Inside the crate: the block that was used last.
use Rattle.std.specs.Prelude.{◌≡◌, ℕ, List, Option, Some, slice_get}
use Rattle.std.specs.Option.{ForSome}

-- if there is such a block, it is the first one of the shadow
abbrev pub IsFirst : Option ℕ → List (ℕ × Unit {0}) → Type 0
IsFirst last shadow = ForSome last (λ b. slice_get shadow 0 ≡ Some (b, tt))
