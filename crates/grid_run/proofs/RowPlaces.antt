-- Lanes and the places of rows, while more caches join them.
use Rattle.std.proofs.Common.{◌≡◌, ℕ, ◌+◌, ◌<◌, [], ◌∷◌, ◌++◌, List, length, get_or, map, set}
use Rattle.std.proofs.Common.{Option, Some, None, ap, sym, subst, ◌∙◌, inl, inr, arith}
use Rattle.std.proofs.lemmas.Bool.{cases_lt}
use Rattle.std.proofs.lemmas.List.{get_or-map, get_or_push, get_or_read, length-map, map_push}
use Rattle.std.proofs.lemmas.List.{map-set}
use Rattle.stage_core.specs.Config.{hierarchy_of}
use Rattle.stage_core.specs.SecondLevel.{Hierarchy}
use Rattle.stage_core.specs.declared.selection.Selection.{Selection}
use Rattle.grid_run.specs.Lanes.{LaneTask, task_of_plan}
use Rattle.grid_run.specs.Plans.{KeepsBehind, KeepsPlaces, KeepsPlacesIn}
use Rattle.grid_run.specs.Rows.{IsPlaceIn, IsPlaceOf, RowHasPlace}
use Rattle.grid_run.specs.Seats.{Keeps}
use Rattle.grid_run.specs.declared.grid.Row.{Row}
use Rattle.grid_run.specs.declared.grid.Setup.{Setup}
use Rattle.grid_run.specs.declared.grid.Setup.TheVariants.{Simulated, Refused}
use Rattle.grid_run.specs.declared.plan.LanePlan.{LanePlan}
use Rattle.grid_run.specs.declared.plan.Place.{Place}
use Rattle.grid_run.proofs.Growing.{at-changed, at-push, at-set, inside-push, inside-set}

-- places stay in a lane whose seats stay
pub places-grow : (t u : LaneTask) → u.selection ≡ t.selection → Keeps t.i u.i → Keeps t.d u.d
    → KeepsBehind t.backs u.backs → KeepsPlacesIn t u
places-grow t u same on_i on_d behind = λ c s p own.
    let moved = behind p.i p.d c.u p.u (record {
      family = own.family;
      back = λ other. let b = own.back other in
          record { on_i = b.on_i; on_d = b.on_d; cell = b.cell };
    }) in
    record {
      selection = same ∙ own.selection;
      i = on_i c.i p.i own.i;
      d = on_d c.d p.d own.d;
      family = moved.family;
      back = λ other. let b = moved.back other in
          record { on_i = b.on_i; on_d = b.on_d; cell = b.cell };
    }

-- places stay where a lane joins the others
pub lanes-joined : (xs ys : List LanePlan) (x : LanePlan) → ys ≡ xs ++ x ∷ []
    → KeepsPlaces (map task_of_plan xs) (map task_of_plan ys)
lanes-joined xs ys x is = λ c s p own.
    let old = map task_of_plan xs in
    let new = map task_of_plan ys in
    let joined = ap (map task_of_plan) is ∙ map_push task_of_plan xs x in
    record {
      lane = inside-push old new p.lane (task_of_plan x) joined own.lane;
      inside = λ other. at-push (λ t. IsPlaceIn t c s p) old new p.lane (task_of_plan x) other
          joined own.lane (own.inside other);
    }

module _ (xs : List LanePlan) (k : ℕ) (x y : LanePlan) (lt : k < length xs) where
  lane-inside : k < length (map task_of_plan xs)
  lane-inside = subst (λ n. k < n) (sym (length-map xs task_of_plan)) lt

  -- places stay where a lane keeps its own
  pub lanes-kept : x ≡ get_or xs k x → KeepsPlacesIn (task_of_plan x) (task_of_plan y)
      → KeepsPlaces (map task_of_plan xs) (map task_of_plan (set xs k y))
  lanes-kept at keeps = λ c s p own.
      let old = map task_of_plan xs in
      let z = task_of_plan y in
      subst (λ (l : List LaneTask). IsPlaceOf l c s p) (sym (map-set task_of_plan xs k y))
      (record {
        lane = inside-set old k p.lane z own.lane;
        inside = λ other. at-set (λ t. IsPlaceIn t c s p) old k p.lane z other lane-inside
            (λ was. keeps c s p (subst (λ t. IsPlaceIn t c s p)
            (get_or-map task_of_plan xs k x other lt ∙ ap task_of_plan (sym at)) was))
            (own.inside other);
      })

  -- a place in the lane is one of all lanes
  pub place-of : (c : Hierarchy) (s : Selection) (p : Place) → p.lane ≡ k
      → IsPlaceIn (task_of_plan y) c s p → IsPlaceOf (map task_of_plan (set xs k y)) c s p
  place-of c s p is own =
      let old = map task_of_plan xs in
      let z = task_of_plan y in
      subst (λ (l : List LaneTask). IsPlaceOf l c s p) (sym (map-set task_of_plan xs k y))
      (record {
        lane = subst (λ n. n < length (set old k z)) (sym is) (inside-set old k k z lane-inside);
        inside = λ other. subst (λ n. IsPlaceIn (get_or (set old k z) n other) c s p) (sym is)
            (at-changed (λ t. IsPlaceIn t c s p) old k z other lane-inside own);
      })

-- what a row has stays
pub place-stays : (ts us : List LaneTask) → KeepsPlaces ts us → (setup : Setup)
    (o : Option Place) → RowHasPlace ts setup o → RowHasPlace us setup o
place-stays ts us keeps (Simulated c s) (Some p) has = keeps (hierarchy_of c) s p has
place-stays ts us keeps (Simulated c s) None has = absurd has
place-stays ts us keeps (Refused fault) (Some p) has = absurd has
place-stays ts us keeps (Refused fault) None has = tt

-- one more row has its place
pub places-more : (ts us : List LaneTask) (rows : List Row) (xs ys : List (Option Place)) (i : ℕ)
    (row : Row) (o : Option Place) → KeepsPlaces ts us → length xs ≡ i → i < length rows
    → row ≡ get_or rows i row → ys ≡ xs ++ o ∷ [] → RowHasPlace us row.setup o
    → ((k : ℕ) (r : Row) (p : Option Place) → k < i
    → RowHasPlace ts (get_or rows k r).setup (get_or xs k p))
    → (k : ℕ) (r : Row) (p : Option Place) → k < i + 1
    → RowHasPlace us (get_or rows k r).setup (get_or ys k p)
places-more ts us rows xs ys i row o keeps long inside at is has all k r p lt =
    elim (cases_lt k i) [
      | inl low ↦ at-push (RowHasPlace us (get_or rows k r).setup) xs ys k o p is (omega arith)
          (place-stays ts us keeps (get_or rows k r).setup (get_or xs k p) (all k r p low))
      | inr high ↦
          let same : k ≡ i = omega arith in
          let last : get_or ys i p ≡ o =
          ap (λ l. get_or l i p) is ∙ get_or_push xs o p i long in
          subst (λ j. RowHasPlace us (get_or rows j r).setup (get_or ys j p)) (sym same)
          (subst (RowHasPlace us (get_or rows i r).setup) (sym last)
          (subst (λ (q : Row). RowHasPlace us q.setup o) (get_or_read rows i row inside at r) has))
    ]
