use Rattle.std.proofs.Common.{◌≡◌, suc, ◌+◌, ◌*◌, ◌%◌, List, [], ◌∷◌, ◌++◌, length, slice_get}
use Rattle.std.proofs.Common.{slice_index, Some, arith, ap, refl, sym, subst, ◌∙◌, length-append}
use Rattle.stage_core.specs.Config.{ring_of}
use Rattle.stage_core.specs.Network.{Consistent, Machine, enabled, steps_made, messages}
use Rattle.stage_core.specs.Network.{next, run, start as at_start}
use Rattle.stage_core.specs.Network.Choices.{named, IsNamedFrom}
use Rattle.stage_core.specs.Network.Cores.{CoreState, IsSameRun, enabled_in, parts_for}
use Rattle.stage_core.specs.declared.config.Config.{Config}
use Rattle.stage_core.proofs.network.Schedules.{steps-bound, steps-done}
use Rattle.stage_core.proofs.network.Chosen.{run-more, named-more}
use Rattle.stage_core.proofs.network.Steps.{driven, working}
use Rattle.stage_core.proofs.network.schedule.run.Goals as goal

-- the number of messages does not change during a run
same-messages : {old new : CoreState} → IsSameRun old new
    → messages (parts_for new.config) new.events ≡ messages (parts_for old.config) old.events
same-messages {old = old} {new = new} s =
    ap (λ (c : Config). messages (parts_for c) new.events) s.config
    ∙ ap (messages (parts_for old.config)) s.events

after : (c : goal.In_ok-step)
    → Consistent (parts_for c.run.core.config) c.run.core.events c.step.new.self.network
    × (steps_made c.step.new.self.network ≡ suc (steps_made c.run.core.network))
after c =
    let step = c.in_ok-step.ensures.step in
    driven (c.enabled.ensures.consistent c.run.invariant.works) step.0 step.2

-- the schedule so far, with the step that was made
longer : (c : goal.In_ok-step) → let start = c.args.core.now in
    (ms : List Machine)
    × (run (parts_for start.config) (ring_of start.config) ms start.network
    ≡ Some c.step.new.self.network)
    × IsNamedFrom (parts_for start.config) (ring_of start.config) c.args.choices.now 0 ms
    start.network
    × (c.run.made + 1 ≡ length ms)
longer c =
    let start = c.args.core.now in
    let old = c.run.core in
    let so_far = c.run.invariant.schedule in
    let made = c.in_ok-step.ensures.step in
    let parts = parts_for start.config in
    let capacity = ring_of start.config in
    let config = c.run.invariant.same.config in
    let moved : next parts capacity made.0 old.network ≡ Some c.step.new.self.network =
    subst (λ (x : Config). next (parts_for x) (ring_of x) made.0 old.network
    ≡ Some c.step.new.self.network) config made.2.step in
    let can : enabled_in old ≡ enabled parts capacity old.network =
    working old c.run.invariant.works
    ∙ ap (λ (x : Config). enabled (parts_for x) (ring_of x) old.network) config in
    let number : c.chosen-nth.result
    ≡ slice_index c.args.choices.now c.run.made % length (enabled_in old) =
    c.chosen-nth.ensures.exact
    ∙ ap (λ n. slice_index c.args.choices.now c.run.made % n) c.enabled-in-run.ensures.count in
    let chosen : named c.args.choices.now c.run.made (enabled parts capacity old.network)
    ≡ Some made.0 =
    ap (named c.args.choices.now c.run.made) (sym can)
    ∙ ap (slice_get (enabled_in old)) (sym number) ∙ made.1 in (
      so_far.0 ++ made.0 ∷ [],
      run-more parts capacity so_far.0 made.0 start.network old.network _ so_far.1 moved,
      named-more parts capacity c.args.choices.now 0 c.run.made so_far.0 made.0 start.network
          old.network so_far.2 so_far.1 (omega (arith, so_far.3)) chosen,
      omega (arith, so_far.3, length-append so_far.0 (made.0 ∷ [])),
    )

pub run-init : goal.run-init
run-init c = record {
  works = ap (λ (s : CoreState). s.failed) c.requires.start;
  same = record { config = refl; events = refl };
  made = sym (ap (λ (s : CoreState). steps_made s.network) c.requires.start);
  schedule = ([], refl, tt, refl);
}

pub overflow_add-made : goal.overflow_add-made
overflow_add-made c =
    let old = c.run.core in
    omega (
      arith,
      c.run.invariant.made,
      steps-bound (parts_for old.config) old.events old.network
          (c.enabled.ensures.consistent c.run.invariant.works),
      same-messages c.run.invariant.same,
      c.requires.short,
    )

pub run-smaller : goal.run-smaller
run-smaller c =
    let old = c.run.core in
    let a = after c in
    omega (
      arith,
      a.1,
      steps-bound (parts_for old.config) old.events c.step.new.self.network a.0,
      same-messages c.run.invariant.same,
      c.run.invariant.made,
    )

pub run-preserved : goal.run-preserved
run-preserved c =
    let same = c.step.ensures.run in
    record {
      works = c.in_ok-step.ensures.step.2.works;
      same = record {
        config = same.config ∙ c.run.invariant.same.config;
        events = same.events ∙ c.run.invariant.same.events;
      };
      made = omega (arith, (after c).1, c.run.invariant.made);
      schedule = longer c;
    }

pub totals-requires : goal.totals-requires
totals-requires c = record {
  works = c.run.invariant.works;
  finished = c.enabled.ensures.goes_on c.run.invariant.works (omega (arith, c.run-test.false));
}

pub returns-clause-steps : goal.returns-clause-steps
returns-clause-steps c =
    let last = c.run.core in
    let works = c.run.invariant.works in
    c.run.invariant.made
    ∙ steps-done (parts_for last.config) last.events last.network
    (c.enabled.ensures.consistent works)
    (c.enabled.ensures.goes_on works (omega arith))
    ∙ ap (λ n. 2 * n) (same-messages c.run.invariant.same)

pub returns-clause-schedule : goal.returns-clause-schedule
returns-clause-schedule c =
    let start = c.args.core.now in
    let so_far = c.run.invariant.schedule in
    let begins : start.network ≡ at_start start.events =
    ap (λ (s : CoreState). s.network) c.requires.start in (
      so_far.0,
      record {
        named = subst (IsNamedFrom (parts_for start.config) (ring_of start.config)
            c.args.choices.now 0 so_far.0) begins so_far.2;
        last = c.run.core.network;
        leads = ap (run (parts_for start.config) (ring_of start.config) so_far.0) (sym begins)
            ∙ so_far.1;
        finished = c.enabled.ensures.goes_on c.run.invariant.works (omega arith);
      },
      so_far.3,
    )
