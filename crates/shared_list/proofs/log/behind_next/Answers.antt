use Rattle.std.proofs.Common.{◌≡◌, ◌≢◌, ◌<◌, ◌+◌, length, map, get_or, eqb}
use Rattle.std.proofs.Common.{sym, ◌∙◌, arith}
use Rattle.std.proofs.lemmas.Bool.{eq-eqb}
use Rattle.cache_core.proofs.Cases.{by_cases}
use Rattle.marked_list.specs.Uses.{living, since, dead}
use Rattle.marked_list.proofs.Living.{differs}
use Rattle.marked_list.proofs.Passing.{pass-dead, pass-living, pass-end}
use Rattle.shared_list.specs.Log.{no_use, seen, seen_by}
use Rattle.shared_list.proofs.Seen.{length-seen, seen-at}
use Rattle.shared_list.proofs.log.behind_next.Goals as goal
use Rattle.shared_list.proofs.log.behind_next.Goals.{then-loop-index-test+else-not-has}
use Rattle.shared_list.proofs.log.behind_next.Goals.{else-loop-index-test}

pub loop-index-preserved : goal.loop-index-preserved
loop-index-preserved c =
    let log = c.args.log.now in
    let q = c.args.user in
    let i = c.loop-index.index in
    let inside : i < length log = c.loop-index.invariant.inside in
    record {
      inside = c.loop-index-test.true;
      window = c.loop-index.invariant.window
          ∙ pass-dead (map (seen q) log) i (omega (arith, inside, length-seen q log))
          (eq-eqb _ dead (seen-at log i q _ inside (sym c.if-not-has.true ∙ c.has.ensures)));
    }

pub returns-clause-one_less : goal.returns-clause-one_less
returns-clause-one_less c =
    let log = c.args.log.now in
    let q = c.args.user in
    let uses = map (seen q) log in
    let i = c.loop-index.index in
    let inside : i < length log = c.loop-index.invariant.inside in
    let within : i < length uses = omega (arith, inside, length-seen q log) in
    let window = living (since c.args.place (seen_by q log)) in
    let is = sym c.loop-index.invariant.window in
    elim c.loop-index-test.branch [
      | then-loop-index-test+else-not-has w ↦
          let low : (get_or log i (no_use 0)).number < dead = c.requires.low i (no_use 0) inside in
          let ne : get_or uses i 0 ≢ dead = λ e.
          (let at = seen-at log i q _ inside (sym w.if-not-has.false ∙ w.has.ensures) in
          omega (arith, low, at, e)) in
          pass-living uses i within (differs (get_or uses i 0) ne) window is
      | else-loop-index-test w ↦
          let end : i + 1 ≡ length uses =
          omega (arith, inside, w.loop-index-test.false, length-seen q log) in
          by_cases (eqb (get_or uses i 0) dead)
          (λ e. pass-end uses i within e end window is)
          (λ e. pass-living uses i within e window is)
    ]
