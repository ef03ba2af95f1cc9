use Rattle.std.proofs.Common.{◌≡◌, ◌++◌, ℕ, map, take}
use Rattle.std.specs.List.{flat_map}
use Rattle.cache_core.specs.Geometry.{bsize_of}
use Rattle.cache_core.specs.History.{History}
use Rattle.grid_core.specs.Cells.{items_of}
use Rattle.grid_core.specs.Numbered.{blocks_in}
use Rattle.grid_core.specs.Written.{rules_at_index, written_by}
use Rattle.stage_core.specs.SecondLevel.{back}
use Rattle.grid_run.specs.Fronts.{front_rules}
use Rattle.grid_run.specs.Numbering.{StayNumbered, sent_to}
use Rattle.grid_run.specs.Senders.{cells_for}
use Rattle.grid_run.proofs.front.Front.send_flush.Given as goal

-- the write-backs of the caches that were passed were added
abbrev pub invariant-loop-sender : goal.invariant-loop-sender
invariant-loop-sender l = record {
  backs : (h : History)
      → map items_of l.fn.self.lists.items ≡ map (written_by h) (front_rules l.fn.self)
      → (k : ℕ) → sent_to k l.waiting.items ≡ sent_to k l.initial.waiting.items
      ++ flat_map (λ cell. map back (written_by h (rules_at_index (front_rules l.fn.self) cell)))
      (cells_for k (take l.sender-index l.senders));
  numbers : StayNumbered (bsize_of l.fn.first) (blocks_in l.initial.numbers)
      l.initial.waiting.items (blocks_in l.numbers) l.waiting.items;
}
