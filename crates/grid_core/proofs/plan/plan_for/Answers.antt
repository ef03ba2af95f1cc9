use Rattle.std.proofs.Common.{◌≡◌, ◌<◌, ◌∷◌, ◌++◌, [], length, map, take, sym, ap, subst}
use Rattle.std.proofs.Common.{◌∙◌, arith}
use Rattle.std.specs.List.{All}
use Rattle.std.proofs.lemmas.List.{map-append, map_more}
use Rattle.std.proofs.lemmas.List.Elements.{All-push, All-weaker}
use Rattle.cache_core.specs.Geometry.{bsize_of}
use Rattle.cache_core.specs.Standing.{rules_from}
use Rattle.grid_core.specs.Places.{IsSeated, planned_rules}
use Rattle.grid_core.specs.Shades.{shade_rules}
use Rattle.grid_core.specs.Singles.{single_rules}
use Rattle.grid_core.specs.Standing.{stack_rules}
use Rattle.grid_core.proofs.Seats.{begins-map, seated-longer}
use Rattle.grid_core.proofs.plan.plan_for.Goals as goal

pub loop-geometry-preserved : goal.loop-geometry-preserved
loop-geometry-preserved c =
    let i = c.loop-geometry.geometry-index in
    let gs = c.args.geometries.now in
    let p = c.args.policy in
    let e = c.geometry-item.result in
    let inside : i < length gs = omega arith in
    let old = c.loop-geometry.seats.items in
    let v = c.in_ok-seat.seat in
    let new = c.push.new.self.items in
    let is : new ≡ old ++ v ∷ [] = c.in_ok-push.ensures.items in
    let rs = planned_rules p.wback c.loop-geometry.together.items in
    let rs' = planned_rules p.wback c.seat_for.new.together.items in
    let ss = map single_rules c.loop-geometry.singles.items in
    let ss' = map single_rules c.seat_for.new.singles.items in
    let ts = map shade_rules c.loop-geometry.shades.items in
    let ts' = map shade_rules c.seat_for.new.shades.items in
    let grows = begins-map (λ g. stack_rules g p.wback) c.loop-geometry.together.items
    c.seat_for.new.together.items c.in_ok-seat.ensures.together in
    record {
      rules = ap (map (λ s. rules_from s.geometry p)) is
          ∙ map-append (λ s. rules_from s.geometry p) old (v ∷ [])
          ∙ ap (λ l. l ++ rules_from v.geometry p ∷ []) c.loop-geometry.invariant.rules
          ∙ ap (λ g. map (λ g. rules_from g p) (take i gs) ++ rules_from g p ∷ [])
          (c.in_ok-seat.ensures.geometry ∙ c.geometry-item.is)
          ∙ sym (map_more (λ g. rules_from g p) gs i e inside);
      seated = subst (All (IsSeated p rs' ss' ts')) (sym is)
          (All-push (IsSeated p rs' ss' ts') old v
          (All-weaker (IsSeated p rs ss ts) (IsSeated p rs' ss' ts')
          (seated-longer rs rs' ss ss' ts ts' grows c.in_ok-seat.ensures.apart
          c.in_ok-seat.ensures.shades p) old
          c.loop-geometry.invariant.seated) c.in_ok-seat.ensures.seated);
      shaded = c.in_ok-seat.ensures.shaded (bsize_of c.args.first)
          (ap bsize_of c.geometry-item.is ∙ c.requires i e inside)
          c.loop-geometry.invariant.same c.loop-geometry.invariant.shaded;
      same = c.in_ok-seat.ensures.same (bsize_of c.args.first)
          (ap bsize_of c.geometry-item.is ∙ c.requires i e inside)
          c.loop-geometry.invariant.same;
      words = c.in_ok-seat.ensures.words c.loop-geometry.invariant.words;
      fresh = c.in_ok-seat.ensures.fresh c.loop-geometry.invariant.fresh;
      fresh_shades = c.in_ok-seat.ensures.fresh_shades c.loop-geometry.invariant.fresh_shades;
    }
