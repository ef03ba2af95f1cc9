use Rattle.std.proofs.Common.{◌≡◌, ◌++◌, take, drop}
use Rattle.cache_core.specs.Row.{holds_block, changed, dirtied}
use Rattle.cache_core.proofs.ways.mark_dirty.Given as goal

abbrev pub invariant-loop-way : goal.invariant-loop-way
invariant-loop-way l = take l.way-index l.row
    ++ changed (holds_block l.block_addr) dirtied (drop l.way-index l.row)
    ≡ changed (holds_block l.block_addr) dirtied l.initial.row
