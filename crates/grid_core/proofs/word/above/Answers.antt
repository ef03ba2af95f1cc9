use Rattle.grid_core.proofs.Strides.{above-masked}
use Rattle.grid_core.proofs.word.above.Goals as goal

pub returns : goal.returns
returns c = above-masked c.args.stride c.requires.power.0 c.args.addr c.requires.power.1
