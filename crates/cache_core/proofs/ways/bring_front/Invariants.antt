use Rattle.std.proofs.Common.{◌≡◌, ◌++◌, take, drop}
use Rattle.cache_core.specs.Row.{holds_block, shifted, leaving}
use Rattle.cache_core.proofs.ways.bring_front.Given as goal

-- the rest of the pass gives the result of the whole pass
abbrev pub invariant-loop-way : goal.invariant-loop-way
invariant-loop-way l = record {
  row : take l.way-index l.row
      ++ shifted (holds_block l.block_addr) l.carried (drop l.way-index l.row)
      ≡ shifted (holds_block l.block_addr) l.initial.carried l.initial.row;
  leaves : leaving (holds_block l.block_addr) l.carried (drop l.way-index l.row)
      ≡ leaving (holds_block l.block_addr) l.initial.carried l.initial.row;
}
