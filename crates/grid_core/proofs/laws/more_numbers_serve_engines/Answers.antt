use Rattle.grid_core.proofs.MoreNumbers.{engine-more}
use Rattle.grid_core.proofs.laws.more_numbers_serve_engines.Goals as goal

pub returns : goal.returns
returns c = engine-more
