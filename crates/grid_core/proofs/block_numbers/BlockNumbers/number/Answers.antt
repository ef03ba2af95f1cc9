use Rattle.grid_core.specs.Numbered.{blocks_in}
use Rattle.grid_core.specs.Numbers.{number_at}
use Rattle.grid_core.proofs.Numbers.{with-known}
use Rattle.grid_core.proofs.block_numbers.BlockNumbers.number.Goals as goal

pub returns-in-Some-clause-only : goal.returns-in-Some-clause-only
unfolding blocks_in
returns-in-Some-clause-only c =
    let keys = c.args.self.now.blocks.keys in
    with-known keys c.args.block c.in-Some.number
    (c.in-Some.ensures (number_at keys) c.args.self.now.right)
