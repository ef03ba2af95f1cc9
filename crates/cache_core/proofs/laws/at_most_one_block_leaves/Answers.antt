use Rattle.cache_core.proofs.Victim.{only-one}
use Rattle.cache_core.proofs.laws.at_most_one_block_leaves.Goals as goal

pub returns : goal.returns
returns c = λ r h x a b. only-one r h x a b
