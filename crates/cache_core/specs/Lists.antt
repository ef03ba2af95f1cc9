-- How one list begins with another.
use Rattle.std.specs.Prelude.{◌≡◌, List, ◌++◌}

-- the second list begins with the first one
abbrev pub IsBeginning : {X : Type 0} → List X → List X → Type 0
IsBeginning {X} before all = (rest : List X) × (all ≡ before ++ rest)
