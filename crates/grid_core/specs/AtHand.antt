-- The numbers of blocks that were looked up recently.
use Rattle.std.specs.Prelude.{◌≡◌, ◌≢◌, ◌-◌, ◌^◌, ℕ, List, Option, Some}
use Rattle.std.specs.List.{All}
use Rattle.grid_core.specs.declared.at_hand.Entry.{Entry}

-- the number that is kept for a block, if one is (2 ^ 64 - 1 is none), is the one that m has for it
pub record HasRightNumber (m : ℕ → Option ℕ) (e : Entry) : Type 0 where
  pub number : e.number ≢ 2 ^ 64 - 1 → m e.block ≡ Some e.number

-- the same of all
abbrev pub HaveRightNumbers : (ℕ → Option ℕ) → List Entry → Type 0
HaveRightNumbers m = All (HasRightNumber m)
