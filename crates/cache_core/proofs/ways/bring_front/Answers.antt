use Rattle.std.proofs.Common.{◌≡◌, ◌∙◌, true, get_or, arith}
use Rattle.std.proofs.lemmas.Grind.{common_steps}
use Rattle.cache_core.specs.Row.{holds_block, empty_way}
use Rattle.cache_core.proofs.PassSteps.{shifted-stop}
use Rattle.cache_core.proofs.ways.bring_front.Goals as goal

pub returns-then-found-clause-row : goal.returns-then-found-clause-row
returns-then-found-clause-row c =
    let passes : holds_block c.args.block_addr
    (get_or c.loop-way.row c.loop-way.way-index empty_way)
    ≡ true = grind (arith, common_steps) in
    shifted-stop (holds_block c.args.block_addr) c.loop-way.row c.loop-way.way-index empty_way
    (omega arith) passes c.loop-way.carried ∙ c.loop-way.invariant.row
