use Rattle.shared_list.specs.Users.{bits_of}
use Rattle.shared_list.proofs.users.Users.without.Goals as goal

pub returns-clause-less : goal.returns-clause-less
unfolding bits_of
returns-clause-less c = c.without.ensures.less
