-- How often blocks are written back.
use Rattle.std.specs.Prelude.{◌≡◌, ◌+◌, ◌<◌, Bool, true, ◌&&◌, not, length}
use Rattle.cache_core.specs.declared.access.Access.{Access}
use Rattle.cache_core.specs.History.{History, Rules, block_of, is_write}
use Rattle.cache_core.specs.Dirty.{is_dirty, dirty_blocks}
use Rattle.cache_core.specs.Counts.{tally, counts_of}

-- an access writes to a block that is not dirty
abbrev pub is_first_write : Rules → History → Access → Bool
is_first_write r h x = is_write x && not (is_dirty r h (block_of r x))

-- what was written back and what is dirty now are as many blocks as writes made dirty
abbrev pub WriteBacksAreFirstWrites : Type 0
WriteBacksAreFirstWrites = (r : Rules) → r.walloc ≡ true → r.wback ≡ true → 0 < r.assoc →
    (h : History) → (counts_of r h).written_back + length (dirty_blocks r h)
    ≡ tally (is_first_write r) h
