-- A first-level stage after one more message.
use Rattle.std.proofs.Common.{◌≡◌, true, false, List, [], ◌∷◌, ◌++◌, refl, ap, sym, ◌∙◌, subst}
use Rattle.std.proofs.Common.{append-nil}
use Rattle.pipe_rings.specs.Rings.{sent, received, SameTx, SameRx}
use Rattle.pipe_rings.proofs.Ends.{tx_stays, rx_stays, none_held}
use Rattle.cache_core.specs.Standing.{rules_of}
use Rattle.stage_core.specs.SecondLevel.{Parts, parts_of}
use Rattle.stage_core.specs.Streams.{reply, replies, is_finish}
use Rattle.stage_core.specs.Standing.{StageStandsFor, cache_of, side_of, outbox_of, took_finish}
use Rattle.stage_core.specs.Waiting.{HasAnswered}
use Rattle.stage_core.specs.declared.message.ToStage.{ToStage}
use Rattle.stage_core.specs.declared.message.ToStage.TheVariants.{Ref, Flush, Finish}
use Rattle.stage_core.specs.declared.l1_stage.L1Stage.{L1Stage}
use Rattle.stage_core.proofs.Place.{flat_map_with_past-more}
use Rattle.run_threads.specs.declared.ends.StageEnds.{StageEnds}
use Rattle.run_threads.specs.Ends.{UnusedStage}
use Rattle.run_threads.specs.Threads.{StageServed, StageServedAll}
use Rattle.run_threads.specs.Waits.{AnswersPublished, OfStage}

-- a stage that has sent nothing holds no answer back
pub unused-published : (ends : StageEnds) → UnusedStage ends → AnswersPublished ends
unused-published ends new = record {
  held = none_held ends.to_merge new.to_merge;
  announced = new.announced;
}

-- the messages sent in two steps, put together
pub grows : {X : Type 0} (now mid was out answer : List X) → now ≡ mid ++ out → out ≡ answer
    → mid ≡ was → now ≡ was ++ answer
grows now mid was out answer sends is same = sends ∙ ap (λ l. mid ++ l) is
    ∙ ap (λ l. l ++ answer) same

-- the stage received a message, served it and sent its answer
pub record Serves (stage : L1Stage) (was : StageEnds) (m : ToStage) (next : L1Stage)
    (now : StageEnds) : Type 0 where
  pub from_splitter : SameRx was.from_splitter now.from_splitter
  pub to_merge : SameTx was.to_merge now.to_merge
  pub got : received now.from_splitter ≡ received was.from_splitter ++ m ∷ []
  pub side : side_of next ≡ side_of stage
  pub rules : rules_of (cache_of next) ≡ rules_of (cache_of stage)
  pub sends : (before : List ToStage) → StageStandsFor stage before → sent now.to_merge
      ≡ sent was.to_merge ++ reply (parts_of (rules_of (cache_of stage))) (side_of stage) before m
  pub empty : outbox_of next ≡ []
  pub stands : (before : List ToStage) → StageStandsFor stage before
      → StageStandsFor next (before ++ m ∷ [])

-- what the stage that served all has sent
pub all-sent : (began : L1Stage) (start : StageEnds) (stage : L1Stage) (now : StageEnds)
    → StageServed began start stage now → sent now.to_merge
    ≡ replies (parts_of (rules_of (cache_of stage))) (side_of stage) (received now.from_splitter)
all-sent began start stage now served =
    sym (append-nil (sent now.to_merge)) ∙ ap (λ l. sent now.to_merge ++ l) (sym served.empty)
    ∙ served.answered

-- a stage that was sent one more message has answered it too, if its answer was added to what it
-- has sent and has still to send
pub answers-more : (began : L1Stage) (start : StageEnds) (stage : L1Stage) (was : StageEnds)
    (m : ToStage) (next : L1Stage) (now : StageEnds) → StageServed began start stage was
    → received now.from_splitter ≡ received was.from_splitter ++ m ∷ []
    → side_of next ≡ side_of stage → rules_of (cache_of next) ≡ rules_of (cache_of stage)
    → sent now.to_merge ++ outbox_of next ≡ sent was.to_merge
    ++ reply (parts_of (rules_of (cache_of stage))) (side_of stage) (received was.from_splitter) m
    → OfStage HasAnswered next now
answers-more began start stage was m next now going got side rules adds =
    let before : List ToStage = received was.from_splitter in
    let parts : Parts = parts_of (rules_of (cache_of stage)) in
    rw (rules, side, got) (adds
    ∙ ap (λ l. l ++ reply parts (side_of stage) before m) (all-sent began start stage was going)
    ∙ sym (flat_map_with_past-more (reply parts (side_of stage)) before m))

pub serves-more : (began : L1Stage) (start : StageEnds) (stage : L1Stage) (was : StageEnds)
    (m : ToStage) (next : L1Stage) (now : StageEnds)
    → StageServed began start stage was → Serves stage was m next now
    → StageServed began start next now
serves-more began start stage was m next now going one =
    let before : List ToStage = received was.from_splitter in
    record {
      rings = record {
        from_splitter = rx_stays start.from_splitter was.from_splitter now.from_splitter
            going.rings.from_splitter one.from_splitter;
        to_merge = tx_stays start.to_merge was.to_merge now.to_merge going.rings.to_merge
            one.to_merge;
      };
      side = one.side ∙ going.side;
      rules = one.rules ∙ going.rules;
      stands = subst (StageStandsFor next) (sym one.got) (one.stands before going.stands);
      answered = answers-more began start stage was m next now going one.got one.side one.rules
          (ap (λ l. sent now.to_merge ++ l) one.empty ∙ append-nil (sent now.to_merge)
          ∙ one.sends before going.stands);
      empty = one.empty;
    }

finish-is : (m : ToStage) → is_finish m ≡ true → m ≡ Finish
finish-is (Ref place c a) is = cc
finish-is (Flush place) is = cc
finish-is Finish is = refl

-- after `Finish`, the stage has served its whole stream
pub serves-finish : (began : L1Stage) (start : StageEnds) (stage : L1Stage) (was : StageEnds)
    (m : ToStage) (next : L1Stage) (now : StageEnds)
    → StageServed began start stage was → took_finish stage ≡ false → Serves stage was m next now
    → is_finish m ≡ true → StageServedAll began start next now
serves-finish began start stage was m next now going goes_on one last = record {
  served = serves-more began start stage was m next now going one;
  finish = record {
    before = received was.from_splitter;
    last = one.got ∙ ap (λ x. received was.from_splitter ++ x ∷ []) (finish-is m last);
    only = sym going.stands.finish ∙ goes_on;
  };
}

-- a stage that publishes has served what it had served
pub served-publishes : (began : L1Stage) (start : StageEnds) (stage : L1Stage)
    (now later : StageEnds)
    → StageServed began start stage now → later.from_splitter ≡ now.from_splitter
    → SameTx now.to_merge later.to_merge → sent later.to_merge ≡ sent now.to_merge
    → StageServed began start stage later
served-publishes began start stage now later going same ring kept = record {
  rings = record {
    from_splitter = subst (SameRx start.from_splitter) (sym same) going.rings.from_splitter;
    to_merge = tx_stays start.to_merge now.to_merge later.to_merge going.rings.to_merge ring;
  };
  side = going.side;
  rules = going.rules;
  stands = rw same going.stands;
  answered = rw (same, kept) going.answered;
  empty = going.empty;
}
