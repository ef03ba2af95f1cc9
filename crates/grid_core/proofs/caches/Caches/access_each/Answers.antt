use Rattle.std.proofs.Common.{refl, ◌∙◌, arith}
use Rattle.grid_core.specs.Shades.{ShadeHasCounted}
use Rattle.grid_core.specs.Singles.{HasSettled}
use Rattle.grid_core.proofs.Shadings.{shaded-still}
use Rattle.grid_core.proofs.caches.Caches.access_each.Goals as goal

pub invariant_of-self : goal.invariant_of-self
invariant_of-self c = record {
  shaded = shaded-still c.args.self.now.shaded refl refl c.serve_all.ensures.shading;
}

pub invariant_of-self-in-Break-branch-2 : goal.invariant_of-self-in-Break-branch-2
invariant_of-self-in-Break-branch-2 c = record {
  shaded = shaded-still c.args.self.now.shaded refl c.serve_shades.ensures.rules
      c.serve_all.ensures.shading;
}

pub invariant_of-self-in-Break-branch-3 : goal.invariant_of-self-in-Break-branch-3
invariant_of-self-in-Break-branch-3 c = record {
  shaded = shaded-still c.args.self.now.shaded c.serve_stacked.ensures.rules
      c.serve_shades.ensures.rules c.serve_all.ensures.shading;
}

pub invariant_of-self-2 : goal.invariant_of-self-2
invariant_of-self-2 c = record {
  shaded = shaded-still c.args.self.now.shaded c.serve_stacked.ensures.rules
      (c.settle_shades.ensures.rules ∙ c.serve_shades.ensures.rules)
      (c.settle_all.ensures.shading ∙ c.serve_all.ensures.shading);
}

pub serve_all-requires : goal.serve_all-requires
unfolding HasSettled ShadeHasCounted
serve_all-requires c = (c.requires.0, c.requires.1.singles)

pub serve_stacked-requires : goal.serve_stacked-requires
serve_stacked-requires c =
    let low = c.requires.1.stacked in
    let lt = c.requires.2 in
    omega arith

pub settle_shades-requires : goal.settle_shades-requires
unfolding HasSettled ShadeHasCounted
settle_shades-requires c = (
  c.requires.0,
  c.in_ok-serve_shades.ensures.counted c.requires.0 c.requires.1.shades,
  c.requires.2,
)

pub settle_all-requires-clause-pending : goal.settle_all-requires-clause-pending
unfolding HasSettled ShadeHasCounted
settle_all-requires-clause-pending c = (
  c.requires.0,
  c.in_ok-serve_all.ensures.pending c.requires.0 c.requires.1.singles,
  c.requires.2,
)

pub settle_all-requires-clause-shaded : goal.settle_all-requires-clause-shaded
settle_all-requires-clause-shaded c =
    shaded-still c.args.self.now.shaded c.serve_stacked.ensures.rules
    (c.settle_shades.ensures.rules ∙ c.serve_shades.ensures.rules)
    c.serve_all.ensures.shading

pub returns-clause-stands : goal.returns-clause-stands
returns-clause-stands c = λ blocks h number e.
    let x = c.args.access in
    let stacked = c.in_ok-serve_stacked.ensures.answers blocks h number e.stacked in
    let shades = c.in_ok-serve_shades.ensures.reached h e.shades in
    record {
      stacked = c.in_ok-serve_stacked.ensures.stands blocks h number e.stacked;
      shades = c.settle_shades.ensures.stands h shades;
      singles = c.settle_all.ensures.stands h (c.in_ok-serve_all.ensures.reached h e.singles)
          stacked (c.settle_shades.ensures.hit h shades);
    }

pub returns-clause-answers : goal.returns-clause-answers
returns-clause-answers c = λ blocks h number e.
    let stacked = c.in_ok-serve_stacked.ensures.answers blocks h number e.stacked in
    record {
      stacked = stacked;
      singles = c.settle_all.ensures.answers h (c.in_ok-serve_all.ensures.reached h e.singles)
          stacked (c.settle_shades.ensures.hit h
          (c.in_ok-serve_shades.ensures.reached h e.shades));
    }

pub returns-clause-step : goal.returns-clause-step
unfolding HasSettled ShadeHasCounted
returns-clause-step c = λ n s. record {
  stacked =
      let more = c.in_ok-serve_stacked.ensures.served in
      let low = s.stacked in
      omega arith;
  shades = c.settle_shades.ensures.counted n
      (c.in_ok-serve_shades.ensures.counted n s.shades);
  singles = c.settle_all.ensures.settled n (c.in_ok-serve_all.ensures.pending n s.singles);
}

pub returns-clause-rules : goal.returns-clause-rules
returns-clause-rules c = record {
  together = c.serve_stacked.ensures.rules;
  apart = c.settle_all.ensures.rules ∙ c.serve_all.ensures.rules;
  shades = c.settle_shades.ensures.rules ∙ c.serve_shades.ensures.rules;
}
