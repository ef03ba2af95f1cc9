use Rattle.std.proofs.Common.{rules}
use Rattle.std.proofs.lemmas.Fn.{filter_same}
use Rattle.shared_list.specs.Log.{has_users}
use Rattle.shared_list.proofs.shorten.keep_used.Goals as goal

pub returns : goal.returns
returns c = filter_same _ has_users _ (λ x b f k. search rules) _ _ c.retain.ensures.filtered
