use Rattle.std.proofs.Common.{◌≡◌, ◌==◌}
use Rattle.std.specs.List.{list_any}
use Rattle.cache_core.specs.History.{block_of}
use Rattle.cache_core.specs.Kinds.{referenced_blocks}
use Rattle.grid_core.specs.Cells.{shape_rules}
use Rattle.grid_core.specs.StackedCells.{stacked_rules}
use Rattle.grid_core.proofs.Silence.{at-rules}
use Rattle.grid_core.proofs.stacked.Stacked.knew.Goals as goal

pub returns : goal.returns
unfolding stacked_rules
returns c = λ h x answered.
    let old = c.args.self.now in
    at-rules shape_rules (λ r. old.prior.known
    ≡ list_any (λ b. b == block_of r x) (referenced_blocks r h)) old.shapes.items
    (λ k d lt. (answered.prior k d lt).known) 0 c.requires
