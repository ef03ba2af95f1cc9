-- The numbers of a geometry.
use Rattle.std.specs.Prelude.{◌≡◌, ℕ, ◌*◌, ◌/◌}
use Rattle.cache_core.specs.declared.geometry.Geometry.{Geometry}

-- the size of the cache in bytes
unfoldable pub size_of : Geometry → ℕ
size_of g = g.size

-- the size of a block in bytes
unfoldable pub bsize_of : Geometry → ℕ
bsize_of g = g.bsize

-- how many ways a set has
unfoldable pub assoc_of : Geometry → ℕ
assoc_of g = g.assoc

-- how many sets there are
abbrev pub sets_of : Geometry → ℕ
sets_of g = size_of g / (bsize_of g * assoc_of g)

-- how many blocks the cache holds
abbrev pub blocks_of : Geometry → ℕ
blocks_of g = size_of g / bsize_of g

-- the geometry has this size, block size and associativity
pub record IsMadeOf (g : Geometry) (size bsize assoc : ℕ) : Type 0 where
  pub has_size : size_of g ≡ size
  pub has_bsize : bsize_of g ≡ bsize
  pub has_assoc : assoc_of g ≡ assoc
