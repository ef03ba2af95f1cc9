use Rattle.std.proofs.Common.{◌≡◌, ◌+◌, length, reverse, get_or, eqb}
use Rattle.std.proofs.Common.{sym, ◌∙◌, arith}
use Rattle.std.proofs.lemmas.Bool.{eqb-true, eq-eqb}
use Rattle.cache_core.proofs.Cases.{by_cases}
use Rattle.marked_list.specs.Uses.{living, since, dead}
use Rattle.marked_list.proofs.Passing.{pass-dead, pass-living, pass-end}
use Rattle.marked_list.proofs.uses.behind_living.Goals as goal
use Rattle.marked_list.proofs.uses.behind_living.Goals.{then-loop-index-test+else-log-index}
use Rattle.marked_list.proofs.uses.behind_living.Goals.{else-loop-index-test}

pub loop-index-preserved : goal.loop-index-preserved
loop-index-preserved c =
    let log = c.args.log.now in
    let i = c.loop-index.index in
    record {
      inside = c.loop-index-test.true;
      window = c.loop-index.invariant.window
          ∙ pass-dead log i c.loop-index.invariant.inside
          (eq-eqb (get_or log i 0) dead c.if-log-index.true);
    }

pub returns-clause-one_less : goal.returns-clause-one_less
returns-clause-one_less c =
    let log = c.args.log.now in
    let i = c.loop-index.index in
    let inside = c.loop-index.invariant.inside in
    let window = living (since c.args.place (reverse log)) in
    by_cases (eqb (get_or log i 0) dead)
    (λ e. let end : i + 1 ≡ length log = elim c.loop-index-test.branch [
      | then-loop-index-test+else-log-index w ↦
          absurd (w.if-log-index.false (eqb-true (get_or log i 0) dead e))
      | else-loop-index-test w ↦ omega (arith, inside, w.loop-index-test.false)
    ] in
    pass-end log i inside e end window (sym c.loop-index.invariant.window))
    (λ e. pass-living log i inside e window (sym c.loop-index.invariant.window))
