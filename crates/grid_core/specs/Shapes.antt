-- From geometries to rows.
use Rattle.std.specs.Prelude.{◌≡◌, ℕ, ◌<◌, ◌≤◌, ◌==◌, Bool, List, length, get_or, map}
use Rattle.std.specs.List.{list_any, All}
use Rattle.cache_core.specs.declared.geometry.Geometry.{Geometry}
use Rattle.cache_core.specs.Geometry.{bsize_of, sets_of, assoc_of}
use Rattle.grid_core.specs.declared.cells.Shape.{Shape}
use Rattle.grid_core.specs.declared.stack.Stack.{Stack}
use Rattle.grid_core.specs.Standing.{RowsSuit, rules_of_rows}

-- a geometry with as many sets, and as many ways or more
pub record IsWider (g wide : Geometry) : Type 0 where
  pub same_bsize : bsize_of wide ≡ bsize_of g
  pub same_sets : sets_of wide ≡ sets_of g
  pub fits : assoc_of g ≤ assoc_of wide

-- the rows at this index serve a cache of this geometry, so many ways and this write policy
pub record IsSuited (stacks : List Stack) (g : Geometry) (ways : ℕ) (wback : Bool) (index : ℕ)
    : Type 0 where
  pub inside : index < length stacks
  pub suits : (d : Stack) → RowsSuit (rules_of_rows (get_or stacks index d)) g ways wback

-- all rows have blocks of n bytes
abbrev pub HaveBsize : ℕ → List Stack → Type 0
HaveBsize n stacks = All (λ r. r.bsize ≡ n) (map rules_of_rows stacks)

-- the size is among the sizes
abbrev pub has_size : List ℕ → ℕ → Bool
has_size sizes size = list_any (λ m. m == size) sizes

-- the rows that a shape names serve its cache
pub record IsSuitedShape (stacks : List Stack) (s : Shape) : Type 0 where
  pub suited : IsSuited stacks s.geometry s.ways s.wback s.stack
  pub ways : s.ways ≡ assoc_of s.geometry
  pub some : 0 < s.ways
