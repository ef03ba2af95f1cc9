-- The history of a cache, and the rules that it follows. The definitions of a cache work on its
-- whole history: they count over lists, and have no ways, no dirty bits and no order within a set.
use Rattle.std.specs.Prelude.{ℕ, ◌/◌, Bool, true, false, List}
use Rattle.cache_core.specs.declared.access.Access.{Access}
use Rattle.cache_core.specs.declared.access.Class.TheVariants.{Instr, Read, Write, Misc}

-- one request to a cache
pub data Event : Type 0 where
  access : Access → Event
  flush : Event

-- all requests to a cache, the newest first
abbrev pub History : Type 0
History = List Event

-- the shape and the policy of a cache
pub record Rules : Type 0 where
  -- the size of a block in bytes
  pub bsize : ℕ
  pub sets : ℕ
  -- how many blocks a set holds, and how many the whole cache holds
  pub assoc : ℕ
  pub blocks : ℕ
  -- replacement is FIFO (first in, first out) if true, LRU (least recently used) if false
  pub fifo : Bool
  -- a write that uses its block makes it dirty if true; if false, each write is sent to the next
  -- level (write through)
  pub wback : Bool
  -- a write that misses loads its block
  pub walloc : Bool

-- the number of the block that holds the address
abbrev pub block_of : Rules → Access → ℕ
block_of r x = x.addr / r.bsize

-- the access is an instruction fetch
abbrev pub is_instr : Access → Bool
is_instr x = elim x.class as (λ _. Bool) [ Instr ↦ true | _ ↦ false ]

-- the access is a read
abbrev pub is_read : Access → Bool
is_read x = elim x.class as (λ _. Bool) [ Read ↦ true | _ ↦ false ]

-- the access is a write
abbrev pub is_write : Access → Bool
is_write x = elim x.class as (λ _. Bool) [ Write ↦ true | _ ↦ false ]

-- the access is another data reference, which acts as a read
abbrev pub is_misc : Access → Bool
is_misc x = elim x.class as (λ _. Bool) [ Misc ↦ true | _ ↦ false ]
