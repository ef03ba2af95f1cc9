use Rattle.std.proofs.Common.{get_or}
use Rattle.marked_list.proofs.Oldest.{smaller-behind}
use Rattle.shared_list.specs.Log.{seen_by}
use Rattle.shared_list.specs.Shared.{order_by, users_of}
use Rattle.shared_list.specs.Stamps.{stamps_of}
use Rattle.shared_list.proofs.list.SharedList.oldest.Goals as goal

pub returns-clause-oldest : goal.returns-clause-oldest
unfolding order_by users_of
returns-clause-oldest c = λ all k lt.
    let self = c.args.self.now in
    let u = c.args.user in
    let numbers = c.args.numbers.now in
    let found = c.least.result in
    smaller-behind (seen_by u self.log.items) (stamps_of self.stamps u)
    (self.kept u c.requires.user).stamped (get_or numbers found 0) (get_or numbers k 0)
    (all found 0 c.least.ensures.inside) (all k 0 lt) (c.least.ensures.least k lt)
