-- The fully associative LRU cache of as many blocks.
use Rattle.std.specs.Prelude.{◌≡◌, false}
use Rattle.cache_core.specs.declared.geometry.Geometry.{Geometry}
use Rattle.cache_core.specs.declared.policy.Policy.{Policy}
use Rattle.cache_core.specs.Geometry.{bsize_of, sets_of, blocks_of}
use Rattle.cache_core.specs.Policy.{is_fifo}

-- a geometry of one set, with the block size and the number of blocks of g
pub record IsWholeOf (w g : Geometry) : Type 0 where
  pub one : sets_of w ≡ 1
  pub same_bsize : bsize_of w ≡ bsize_of g
  pub same_blocks : blocks_of w ≡ blocks_of g

-- an LRU policy that writes as p does
pub record IsLruOf (q p : Policy) : Type 0 where
  pub lru : is_fifo q ≡ false
  pub same_wback : q.wback ≡ p.wback
  pub same_walloc : q.walloc ≡ p.walloc
