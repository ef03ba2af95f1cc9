use Rattle.std.proofs.Common.{◌+◌, ◌*◌, cond, get_or, ap, ◌∙◌, arith}
use Rattle.shared_list.proofs.Columns.{place-inside}
use Rattle.stamped_cache.specs.declared.state.State.TheVariants.{Absent}
use Rattle.stamped_cache.specs.States.{state_blocks, state_users, states_of}
use Rattle.stamped_cache.proofs.Places.{item-put, same-place}
use Rattle.stamped_cache.proofs.states.States.set.Goals as goal

pub returns-clause-sets : goal.returns-clause-sets
unfolding states_of state_users state_blocks
returns-clause-sets c = λ q n low.
    let s = c.args.self.now in
    let K = s.users in
    let b = c.args.number in
    let u = c.args.user in
    item-put s.states.items (b * K + u) (n * K + q) c.args.state Absent
    (omega (arith, place-inside b s.blocks K u c.requires.room c.requires.user, s.wide))
    ∙ ap (λ t. cond t c.args.state (get_or s.states.items (n * K + q) Absent))
    (same-place n b K q u low c.requires.user)
