use Rattle.std.proofs.Common.{◌≡◌, ◌++◌, ℕ, take}
use Rattle.std.specs.List.{flat_map}
use Rattle.cache_core.specs.Geometry.{bsize_of}
use Rattle.grid_core.specs.Numbered.{blocks_in}
use Rattle.stage_core.specs.SecondLevel.{back}
use Rattle.grid_run.specs.Numbering.{StayNumbered, part_to, sent_to}
use Rattle.grid_run.proofs.parts.ask_write_backs.Given as goal

-- the write-backs that were passed were added
abbrev pub invariant-loop-addr : goal.invariant-loop-addr
invariant-loop-addr l = record {
  asked : (k : ℕ) → sent_to k l.waiting.items ≡ sent_to k l.initial.waiting.items
      ++ flat_map (λ a. part_to k l.fn.users (back a)) (take l.addr-index l.addrs);
  numbers : StayNumbered (bsize_of l.fn.first) (blocks_in l.initial.numbers)
      l.initial.waiting.items (blocks_in l.numbers) l.waiting.items;
}
