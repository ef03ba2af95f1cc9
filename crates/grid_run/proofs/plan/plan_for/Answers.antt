use Rattle.std.proofs.Common.{◌≡◌, ◌+◌, ◌∷◌, ◌++◌, [], length, ap, map, ◌∙◌, sym, subst, arith}
use Rattle.std.proofs.lemmas.List.{length_push}
use Rattle.grid_run.specs.Grids.{IsBoundedRow}
use Rattle.grid_run.specs.Lanes.{task_of_plan}
use Rattle.grid_run.proofs.RowPlaces.{places-more}
use Rattle.grid_run.proofs.plan.plan_for.Goals as goal

pub place_for-requires : goal.place_for-requires
place_for-requires c =
    subst IsBoundedRow (sym c.index-rows-index.is)
    (c.requires c.loop-index.index c.index-rows-index.result c.loop-index-test.true)

pub loop-index-preserved : goal.loop-index-preserved
loop-index-preserved c =
    let i = c.loop-index.index in
    let old = c.loop-index.places.items in
    let new = c.add_to.new.list.items in
    let v = c.in_ok-place.place in
    let is : new ≡ old ++ v ∷ [] = c.in_ok-add_to.ensures.joined in
    let now = c.loop-index.invariant in
    record {
      as_many = ap length is ∙ length_push old v ∙ ap (λ n. n + 1) now.as_many;
      each = places-more (map task_of_plan c.loop-index.lanes.items)
          (map task_of_plan c.place_for.new.lanes.items) c.args.rows.now old new i
          c.index-rows-index.result v c.in_ok-place.ensures.keeps now.as_many
          c.loop-index-test.true c.index-rows-index.is is c.in_ok-place.ensures.place now.each;
      sound = c.in_ok-place.ensures.sound now.sound;
    }

pub returns-clause-places : goal.returns-clause-places
returns-clause-places c =
    let now = c.loop-index.invariant in
    record {
      as_many = (let end = c.loop-index-test.false in omega arith);
      each = λ k r p lt. now.each k r p (omega arith);
    }
