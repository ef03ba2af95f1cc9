use Rattle.std.proofs.Common.{◌≡◌, ◌∙◌, true, get_or, arith}
use Rattle.std.proofs.lemmas.Grind.{common_steps}
use Rattle.cache_core.specs.Row.{holds_block, empty_way, dirtied}
use Rattle.cache_core.proofs.PassSteps.{changed-stop}
use Rattle.cache_core.proofs.ways.mark_dirty.Goals as goal

pub returns-then-way-block_addr : goal.returns-then-way-block_addr
returns-then-way-block_addr c =
    let passes : holds_block c.args.block_addr
    (get_or c.loop-way.row c.loop-way.way-index empty_way)
    ≡ true = grind (arith, common_steps) in
    changed-stop (holds_block c.args.block_addr) c.loop-way.row c.loop-way.way-index empty_way
    (omega arith) passes dirtied ∙ c.loop-way.invariant
