use Rattle.std.proofs.Common.{arith}
use Rattle.grid_core.specs.Shades.{ShadeHasCounted}
use Rattle.grid_core.specs.Singles.{HasSettled}
use Rattle.grid_core.proofs.Shadings.{shaded-still}
use Rattle.grid_core.proofs.caches.Caches.clear.Goals as goal

pub invariant_of-self : goal.invariant_of-self
invariant_of-self c = record {
  shaded = shaded-still c.args.self.now.shaded c.flush_stacked.ensures.rules
      c.clear_shades.ensures.rules c.clear_all.ensures.shading;
}

pub flush_stacked-requires : goal.flush_stacked-requires
flush_stacked-requires c =
    let low = c.requires.step.1.stacked in
    let lt = c.requires.step.2 in
    omega arith

pub clear_shades-requires : goal.clear_shades-requires
unfolding HasSettled ShadeHasCounted
clear_shades-requires c =
    let step = c.requires.step in
    (step.0, step.1.shades, step.2)

pub clear_all-requires-clause-step : goal.clear_all-requires-clause-step
unfolding HasSettled ShadeHasCounted
clear_all-requires-clause-step c =
    let step = c.requires.step in
    (step.0, step.1.singles, step.2)

pub returns-clause-stands : goal.returns-clause-stands
returns-clause-stands c = λ blocks h e listed. record {
  stacked = c.flush_stacked.ensures.stands blocks h e.stacked;
  shades = c.clear_shades.ensures.stands h e.shades;
  singles = c.clear_all.ensures.stands h e.singles listed;
}

pub returns-clause-step : goal.returns-clause-step
unfolding HasSettled ShadeHasCounted
returns-clause-step c = λ n s. record {
  stacked =
      let more = c.flush_stacked.ensures.served in
      let low = s.stacked in
      omega arith;
  shades = c.clear_shades.ensures.counted n s.shades;
  singles = c.clear_all.ensures.settled n s.singles;
}

pub returns-clause-rules : goal.returns-clause-rules
returns-clause-rules c = record {
  together = c.flush_stacked.ensures.rules;
  apart = c.clear_all.ensures.rules;
  shades = c.clear_shades.ensures.rules;
}
