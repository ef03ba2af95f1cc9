use Rattle.std.proofs.Common.{length}
use Rattle.grid_run.proofs.banks.+take_over_all.Given as goal

-- each call has a bank fewer
abbrev pub decreases-take_over_all : goal.decreases-take_over_all
decreases-take_over_all l = length l.banks.now
