use Rattle.std.proofs.Common.{arith}
use Rattle.shared_list.proofs.Seen.{user-inside}
use Rattle.shared_list.proofs.shorten.restamp.Goals as goal

pub stamp_users-requires-clause-users : goal.stamp_users-requires-clause-users
stamp_users-requires-clause-users c = λ q lq has-it.
    let inside = user-inside c.args.log.now _ c.requires.users c.requires.low c.loop-place.place q
    c.loop-place-test.true lq has-it in
    omega (arith, inside, c.loop-place.invariant.users)
