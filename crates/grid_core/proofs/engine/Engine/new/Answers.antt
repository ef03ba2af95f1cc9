use Rattle.std.proofs.Common.{◌≡◌, List, map, refl, sym, ap, subst, ◌∙◌, arith}
use Rattle.std.specs.List.{All}
use Rattle.cache_core.specs.Geometry.{bsize_of}
use Rattle.cache_core.specs.History.{Rules}
use Rattle.grid_core.specs.Engines.{engine_has_failed, engine_served}
use Rattle.grid_core.specs.Numbers.{HaveBlocksOf}
use Rattle.grid_core.specs.Places.{IsSeated, planned_rules}
use Rattle.grid_core.specs.Shades.{ShadeHasCounted, shade_rules}
use Rattle.grid_core.specs.Singles.{HasSettled, single_rules}
use Rattle.grid_core.specs.StackedCells.{stacked_rules}
use Rattle.grid_core.specs.Standing.{stack_rules}
use Rattle.grid_core.proofs.Shadings.{shaded-still}
use Rattle.grid_core.proofs.Silence.{at-rules}
use Rattle.grid_core.proofs.engine.Engine.new.Goals as goal

pub invariant_of-result : goal.invariant_of-result
invariant_of-result c =
    let plan = c.in-Ok.plan in
    let p = c.args.policy in
    let rules : stacked_rules c.in-Ok-new.stacked ≡ planned_rules p.wback plan.together.items =
    c.in-Ok-new.ensures.rules ∙ ap (planned_rules p.wback) c.deref.ensures.value in
    record { shaded = shaded-still c.in-Ok.ensures.shaded rules refl refl }

pub invariant_of-result-2 : goal.invariant_of-result-2
unfolding HasSettled ShadeHasCounted
invariant_of-result-2 c =
    let plan = c.in-Ok.plan in
    let p = c.args.policy in
    let stacked = c.in-Ok-new.stacked in
    let rules : stacked_rules stacked ≡ planned_rules p.wback plan.together.items =
    c.in-Ok-new.ensures.rules ∙ ap (planned_rules p.wback) c.deref.ensures.value in
    record {
      seated = subst (λ (l : List Rules). All (IsSeated p l (map single_rules plan.singles.items)
          (map shade_rules plan.shades.items)) plan.seats.items) (sym rules)
          c.in-Ok.ensures.seated;
      sized = subst (λ (l : List Rules). HaveBlocksOf (bsize_of c.args.first) l) (sym rules)
          (λ some. at-rules (λ g. stack_rules g p.wback)
          (λ r. r.bsize ≡ bsize_of c.args.first) plan.together.items c.in-Ok.ensures.same 0
          some);
      step = λ works. record {
        stacked = (let none = c.in-Ok-new.ensures.served in omega arith);
        shades = λ k d lt. (c.in-Ok.ensures.fresh_shades k d lt).counted;
        singles = λ k d lt. (c.in-Ok.ensures.fresh k d lt).settled;
      };
    }

pub returns-clause-stands : goal.returns-clause-stands
unfolding engine_served engine_has_failed
returns-clause-stands c = λ blocks. record {
  working = refl;
  served = refl;
  caches = record {
    stacked = λ some. c.in-Ok-new.ensures.stands blocks;
    shades = λ k d lt. (c.in-Ok.ensures.fresh_shades k d lt).stands;
    singles = λ k d lt. (c.in-Ok.ensures.fresh k d lt).stands;
  };
}
