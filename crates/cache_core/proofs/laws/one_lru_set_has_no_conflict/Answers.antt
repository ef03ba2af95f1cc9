use Rattle.cache_core.proofs.OneSet.{no-conflict}
use Rattle.cache_core.proofs.laws.one_lru_set_has_no_conflict.Goals as goal

pub returns : goal.returns
returns c = λ r one h x. no-conflict r one h x
