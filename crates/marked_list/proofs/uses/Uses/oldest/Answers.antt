use Rattle.std.proofs.Common.{◌≤◌, get_or, reverse, subst}
use Rattle.marked_list.specs.Log.{uses_of}
use Rattle.marked_list.specs.Uses.{stamp_at}
use Rattle.marked_list.proofs.Oldest.{smaller-behind}
use Rattle.marked_list.proofs.uses.Uses.oldest.Goals as goal

pub returns-clause-oldest : goal.returns-clause-oldest
unfolding uses_of
returns-clause-oldest c = λ all k lt.
    let uses = c.args.self.now in
    let numbers = c.args.numbers.now in
    let found = c.least_stamped.result in
    let b = get_or numbers found 0 in
    let other = get_or numbers k 0 in
    smaller-behind (reverse uses.log.items) uses.stamps.items uses.stamped b other
    (all found 0 c.least_stamped.ensures.inside) (all k 0 lt)
    (subst (λ l. stamp_at l b ≤ stamp_at l other) c.deref.ensures.value
    (c.least_stamped.ensures.least k lt))
