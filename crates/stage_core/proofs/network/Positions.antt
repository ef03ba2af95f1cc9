-- How far the splitter is in its list of pushes, in numbers.
use Rattle.std.proofs.Common.{◌≡◌, ℕ, ◌+◌, ◌≤◌, List, [], ◌∷◌, ◌++◌, length, refl, sym, ap}
use Rattle.std.proofs.Common.{◌∙◌, arith, length-append}
use Rattle.stage_core.specs.Places.{flat_map_after}
use Rattle.stage_core.specs.Network.Pushes.{Push, Order, To, pushes, pushes_at, turns_in, sent_to}
use Rattle.stage_core.specs.Network.Pushes.{ending}
use Rattle.din_trace.specs.declared.record.DinRecord.{DinRecord}
use Rattle.din_trace.specs.declared.record.Label.{Label}
use Rattle.din_trace.specs.declared.record.Label.TheVariants as label
use Rattle.stage_core.specs.declared.message.Side.{Side}
use Rattle.stage_core.specs.declared.message.Side.TheVariants as side
use Rattle.stage_core.specs.declared.message.Turn.{Turn}
use Rattle.stage_core.specs.declared.message.Turn.TheVariants as turn
use Rattle.stage_core.specs.declared.message.ToStage.{ToStage}
use Rattle.stage_core.proofs.network.Sums.{last_by, last_by-more}
use Rattle.stage_core.proofs.Sides.{each_side}
use Rattle.stage_core.proofs.network.Ends.{visit, visits, few-visits}
use Rattle.stage_core.proofs.network.StreamCounts.{turns_in-append, sent_to-append}

-- how many messages of the current event are still to be pushed to a side
abbrev pub pending : Side → List Push → ℕ
pending s [] = 0
pending s (Order t ∷ ps) = 0
pending side.I (To side.I m ∷ ps) = 1
pending side.I (To side.D m ∷ ps) = 0
pending side.D (To side.D m ∷ ps) = 1
pending side.D (To side.I m ∷ []) = 0
pending side.D (To side.I m ∷ Order t ∷ ps) = 0
pending side.D (To side.I m ∷ To side.I m' ∷ ps) = 0
pending side.D (To side.I m ∷ To side.D m' ∷ ps) = 1

-- the position of the splitter, after some of its pushes and before the others
pub record Position (pushed still : List Push) : Type 0 where
  pub count : (s : Side) → length (sent_to s pushed) + pending s still ≡ visits s (turns_in pushed)
  pub both : pending side.I still + pending side.D still
      ≤ 1 + last_by (visit side.D) 0 (turns_in pushed)

-- the pushes of the next event follow, or none
abbrev Boundary : List Push → Type 0
Boundary [] = Unit {0}
Boundary (Order t ∷ ps) = Unit {0}
Boundary (To s m ∷ ps) = ⊥

abbrev Positions : List Push → Type 0
Positions ps = (pushed still : List Push) → pushed ++ still ≡ ps → Position pushed still

at_boundary : (m : ToStage) (tail : List Push) → Boundary tail
    → pending side.D (To side.I m ∷ tail) ≡ 0
at_boundary m [] h = refl
at_boundary m (Order t ∷ ps) h = refl
at_boundary m (To s x ∷ ps) h = absurd h

-- before the first push of an event
before_place : (t : Turn) (ps still : List Push) → still ≡ Order t ∷ ps → Position [] still
before_place t ps still e = rw e record { count = λ s. refl; both = omega arith }

-- the splitter has come to a position by some pushes: it is there too if those of an event came
-- before, which have a message for each visit of its turn
after_place : (t : Turn) (ms ps still : List Push) → turns_in ms ≡ []
    → ((s : Side) → length (sent_to s ms) ≡ visit s t) → Position ps still
    → Position (Order t ∷ (ms ++ ps)) still
after_place t ms ps still turns sent p =
    let none : turns_in (ms ++ ps) ≡ turns_in ps =
    turns_in-append ms ps ∙ ap (λ x. x ++ turns_in ps) turns in
    record {
      count = λ s. omega (
        arith,
        p.count s,
        sent s,
        ap (visits s) none,
        ap length (sent_to-append s ms ps),
        length-append (sent_to s ms) (sent_to s ps),
      );
      both = omega (
        arith,
        p.both,
        last_by-more (visit side.D) t (turns_in ps),
        ap (λ x. last_by (visit side.D) 0 (t ∷ x)) none,
      );
    }

-- among the pushes of an event with a message to one side
place_one : (s : Side) (t : Turn) (m : ToStage) (tail : List Push)
    → ((r : Side) → pending r (To s m ∷ tail) ≡ visit r t)
    → ((r : Side) → length (sent_to r (To s m ∷ [])) ≡ visit r t)
    → Positions tail → Positions (Order t ∷ To s m ∷ tail)
place_one s t m tail awaited sent rest [] still e = before_place t _ still e
place_one s t m tail awaited sent rest (x ∷ []) still e =
    let ex : x ≡ Order t = cc in
    let es : still ≡ To s m ∷ tail = cc in
    rw (ex, es) record {
      count = λ r. omega (arith, awaited r);
      both = omega (arith, awaited side.I, awaited side.D, few-visits side.I t);
    }
place_one s t m tail awaited sent rest (x ∷ y ∷ ps) still e =
    let ex : x ≡ Order t = cc in
    let ey : y ≡ To s m = cc in
    let es : ps ++ still ≡ tail = cc in
    rw (ex, ey) (after_place t (To s m ∷ []) ps still refl sent (rest ps still es))

-- among those of an event with a message to each side
place_both : (t : Turn) (m m' : ToStage) (tail : List Push) → ((r : Side) → visit r t ≡ 1)
    → Positions tail → Positions (Order t ∷ To side.I m ∷ To side.D m' ∷ tail)
place_both t m m' tail v rest [] still e = before_place t _ still e
place_both t m m' tail v rest (x ∷ []) still e =
    let ex : x ≡ Order t = cc in
    let es : still ≡ To side.I m ∷ To side.D m' ∷ tail = cc in
    rw (ex, es) record {
      count = each_side _ (omega (arith, v side.I)) (omega (arith, v side.D));
      both = omega (arith, v side.D);
    }
place_both t m m' tail v rest (x ∷ y ∷ []) still e =
    let ex : x ≡ Order t = cc in
    let ey : y ≡ To side.I m = cc in
    let es : still ≡ To side.D m' ∷ tail = cc in
    rw (ex, ey, es) record {
      count = each_side _ (omega (arith, v side.I)) (omega (arith, v side.D));
      both = omega arith;
    }
place_both t m m' tail v rest (x ∷ y ∷ z ∷ ps) still e =
    let ex : x ≡ Order t = cc in
    let ey : y ≡ To side.I m = cc in
    let ez : z ≡ To side.D m' = cc in
    let es : ps ++ still ≡ tail = cc in
    rw (ex, ey, ez) (after_place t (To side.I m ∷ To side.D m' ∷ []) ps still refl
    (each_side _ (sym (v side.I)) (sym (v side.D))) (rest ps still es))

no_more : Positions []
no_more [] still e = rw e record { count = λ s. refl; both = omega arith }
no_more (x ∷ ps) still e = absurd (cc)

boundary : (before es : List DinRecord) → Boundary (flat_map_after pushes_at before es ++ ending)
boundary before [] = tt
boundary before (e ∷ es) = tt

place_i : (m : ToStage) (tail : List Push) → Boundary tail → Positions tail
    → Positions (Order turn.I ∷ To side.I m ∷ tail)
place_i m tail b rest = place_one side.I turn.I m tail (each_side _ refl (at_boundary m tail b))
    (each_side _ refl refl) rest

place_d : (m : ToStage) (tail : List Push) → Positions tail
    → Positions (Order turn.D ∷ To side.D m ∷ tail)
place_d m tail rest =
    place_one side.D turn.D m tail (each_side _ refl refl) (each_side _ refl refl) rest

positions_at : (l : Label) (a : ℕ) (before es : List DinRecord)
    → Positions
    (flat_map_after pushes_at (before ++ record { label = l; addr = a } ∷ []) es ++ ending)
    → Positions (flat_map_after pushes_at before (record { label = l; addr = a } ∷ es) ++ ending)
positions_at label.Instr a before es rest = place_i _ _ (boundary _ es) rest
positions_at label.Read a before es rest = place_d _ _ rest
positions_at label.Write a before es rest = place_d _ _ rest
positions_at label.Misc a before es rest = place_d _ _ rest
positions_at label.Flush a before es rest =
    place_both turn.Both _ _ _ (each_side _ refl refl) rest

positions : (before es : List DinRecord) → Positions (flat_map_after pushes_at before es ++ ending)
positions before [] = place_both turn.Finish _ _ [] (each_side _ refl refl) no_more
positions before (e ∷ es) = positions_at e.label e.addr before es (positions (before ++ e ∷ []) es)

-- the position of the splitter after any of its pushes
pub position : (es : List DinRecord) (pushed still : List Push) → pushed ++ still ≡ pushes es
    → Position pushed still
position es = positions [] es
