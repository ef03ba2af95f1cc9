use Rattle.cache_core.specs.Residents.{renewals}
use Rattle.cache_core.proofs.Reuse.{has-ways_of}
use Rattle.cache_core.proofs.laws.ordered_ways_are_residents.Goals as goal

pub returns : goal.returns
returns c = λ r h b. has-ways_of r (renewals r h) b
