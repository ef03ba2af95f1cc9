use Rattle.std.proofs.Common.{◌≡◌, ◌*◌, List, length, IfOk, arith, ap, subst, sym, ◌∙◌}
use Rattle.stage_core.specs.Events.{events}
use Rattle.stage_core.specs.SecondLevel.{totals}
use Rattle.stage_core.specs.Config.{hierarchy_of, ring_of}
use Rattle.stage_core.specs.Network.{Machine, messages}
use Rattle.stage_core.specs.Network.Choices.{IsNamed}
use Rattle.stage_core.specs.Network.Cores.{CoreState, parts_for, started}
use Rattle.stage_core.proofs.network.Bounds.{few-messages}
use Rattle.stage_core.proofs.network.schedule.drive.Goals as goal

pub run-requires-clause-start : goal.run-requires-clause-start
run-requires-clause-start c =
    c.in_ok-core.ensures
    ∙ sym (ap (λ (s : CoreState). started s.config s.events) c.in_ok-core.ensures)

pub run-requires-clause-short : goal.run-requires-clause-short
run-requires-clause-short c =
    let es = events c.args.selection.now c.args.records.now in
    omega (
      arith,
      ap (λ (s : CoreState). messages (parts_for s.config) s.events) c.in_ok-core.ensures,
      few-messages c.second_level_sees_at_most_two.ensures (hierarchy_of c.args.config.now) es,
      c.selections_make_at_most_two.ensures c.args.selection.now c.args.records.now,
      c.requires.short,
    )

pub returns-clause-totals : goal.returns-clause-totals
returns-clause-totals c =
    subst (λ (s : CoreState). IfOk c.run.result
    (λ answer. answer.0 ≡ totals (hierarchy_of s.config) s.events))
    c.in_ok-core.ensures c.run.ensures.totals

pub returns-clause-steps : goal.returns-clause-steps
returns-clause-steps c =
    subst (λ (s : CoreState). IfOk c.run.result
    (λ answer. answer.1 ≡ 2 * messages (parts_for s.config) s.events))
    c.in_ok-core.ensures c.run.ensures.steps

pub returns-clause-schedule : goal.returns-clause-schedule
returns-clause-schedule c =
    subst (λ (s : CoreState). IfOk c.run.result (λ answer. (ms : List Machine)
    × IsNamed (parts_for s.config) (ring_of s.config) c.args.choices.now s.events ms
    × (answer.1 ≡ length ms)))
    c.in_ok-core.ensures c.run.ensures.schedule
