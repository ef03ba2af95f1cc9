use Rattle.std.proofs.Common.{w32}
use Rattle.std.proofs.lemmas.Bool.{eq-eqb}
use Rattle.std.proofs.lemmas.Nat.Bits.{bit_at-trailing_zeros}
use Rattle.shared_list.proofs.users.first.Goals as goal

pub returns-clause-has : goal.returns-clause-has
returns-clause-has c = eq-eqb _ 1
    (bit_at-trailing_zeros w32 c.args.users c.requires c.ranges.users.fits).1
