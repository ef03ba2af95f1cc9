use Rattle.std.proofs.Common.{◌≡◌, ◌<◌, ℕ, get_or}
use Rattle.stamped_cache.specs.declared.state.State.TheVariants.{Absent}
use Rattle.stamped_cache.proofs.states.forget_each.Given as goal

-- the states that were passed are absent
abbrev pub invariant-loop-state : goal.invariant-loop-state
invariant-loop-state l =
    (k : ℕ) → k < l.state-index → get_or l.state-items k Absent ≡ Absent
