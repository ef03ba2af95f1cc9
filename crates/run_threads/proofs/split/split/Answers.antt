use Rattle.std.proofs.Common.{rules, ◌≡◌, ◌∙◌, ap, sym, subst, refl, ℕ, List, [], ◌∷◌, ◌++◌, Option}
use Rattle.std.proofs.Common.{Some, None, Result, Ok, count_by, arith, inl, inr, ◌<◌, true, false}
use Rattle.std.proofs.Common.{length}
use Rattle.din_trace.specs.Text.{Remaining}
use Rattle.din_trace.specs.Remaining.{Script, Fate, Open, Follows}
use Rattle.din_trace.specs.Source.{HasLeft, Takes, room_of}
use Rattle.din_trace.specs.declared.record.DinRecord.{DinRecord}
use Rattle.din_trace.specs.declared.fault.TraceFault.{TraceFault}
use Rattle.din_trace.proofs.Calls.{Answers, Calls, calls, no_calls}
use Rattle.stage_core.specs.Events.{events, events_at, picked, picked_events, is_reference}
use Rattle.stage_core.specs.Waiting.{HasPosted}
use Rattle.stage_core.specs.declared.selection.Selection.{Selection}
use Rattle.stage_core.proofs.Sides.{each_side}
use Rattle.stage_core.proofs.Place.{flat_map_with_past-more}
use Rattle.run_threads.specs.Faults.{MayAnswer}
use Rattle.run_threads.specs.Threads.{LeavesRest}
use Rattle.run_threads.specs.Waits.{splitter_at}
use Rattle.run_threads.proofs.Splitting.{same-ends, ends-stay, posted-same, left-record}
use Rattle.run_threads.proofs.Splitting.{left-end, left-fault, rest-answer, rest-cut, answers-fault}
use Rattle.run_threads.proofs.split.split.Goals as goal
use Rattle.run_threads.proofs.split.split.Goals.{After-next_record}
use Rattle.run_threads.proofs.split.split.Given.{Over}

-- the calls of the source so far, and then this one, are calls too
composed : (g : Over) (c : After-next_record g) (given : List ℕ) (fate : Fate)
    → Takes g.R.ByteReader.remaining g.R.ByteReader.failures c.loop.source c.next_record.new.source
    given fate
    → Calls g.R.ByteReader.remaining g.R.ByteReader.failures c.args.source.now
    c.next_record.new.source c.loop.invariant.given given c.loop.invariant.fate fate
composed g c given fate went =
    let going = c.loop.invariant in
    calls g.R.ByteReader.remaining g.R.ByteReader.failures c.args.source.now c.loop.source
    c.next_record.new.source going.given given going.fate fate going.went went
    c.next_record.ensures.settled

-- a splitter that stops after an answer of the source leaves the rest of the records there
stops : (g : Over) (c : After-next_record g) (answer : Result (Option DinRecord) TraceFault)
    → Answers g.R.ByteReader.remaining g.R.ByteReader.failures c.loop.source
    c.next_record.new.source answer
    → (given : List ℕ) × (fate : Fate)
    × Takes g.R.ByteReader.remaining g.R.ByteReader.failures c.args.source.now
    c.next_record.new.source given fate
    × ((first last : Script) (l : Remaining) → Follows fate given first last
    → HasLeft c.args.source.now first l
    → LeavesRest l (HasLeft c.next_record.new.source last))
stops g c answer reads =
    let all = composed g c reads.0 reads.1 reads.2 in
    (all.given, all.fate, all.went, rest-answer c.loop.invariant all answer reads.3)

pub next_record-requires : goal.next_record-requires
next_record-requires g c = (
  search rules,
  (events c.args.selection c.loop.invariant.past, false, c.loop.invariant.posted),
)

pub loop-init : goal.loop-init
loop-init g c = record {
  past = [];
  given = [];
  fate = Open;
  went = no_calls g.R.ByteReader.remaining g.R.ByteReader.failures c.args.source.now;
  left = λ first last l is left.
      (l, refl, refl, subst (λ s. HasLeft c.args.source.now s l) is left);
  chosen = c.new-selector.ensures.selection;
  offered = c.new-selector.ensures.none;
  room = inl c.new-selector.ensures.none.count;
  at_most = omega (arith, c.new-splitter.ensures);
  rings = same-ends c.args.ends.now;
  counted = c.new-splitter.ensures ∙ sym (ap length c.requires.unused.order);
  posted = record {
    order = c.requires.unused.order;
    to = each_side _ c.requires.unused.to_i c.requires.unused.to_d;
  };
  faultless = λ none. none;
}

pub loop-preserved : goal.loop-preserved
loop-preserved g c =
    let c₁ = (goal.at.loop-preserved g c).After-next_record in
    let going = c.loop.invariant in
    let read = c.in-Ok.ensures.reads in
    let all = composed g c₁ read.0 read.1 read.2 in
    let next = c.in-Ok-Some.next in
    let answered : c.in-Ok.answer ≡ Ok (Some next) =
    c.in-Ok-Some.is ∙ ap (λ (found : Option DinRecord). Ok found)
    (rw c.in-Ok-Some.is at c.in-Ok-Some.field-0-is) in
    let less : room_of c.next_record.new.source < room_of c.loop.source =
    (rw answered at c.in-Ok.ensures.records) refl in
    let offers = c.offer-picked.ensures in
    let picks = offers.picked going.past going.offered
    ∙ ap (λ (s : Selection). picked s (count_by is_reference (going.past ++ next ∷ [])) next)
    going.chosen in
    let es : List DinRecord = events c.args.selection going.past in
    let longer = ap (λ p. es ++ picked_events p) picks
    ∙ sym (flat_map_with_past-more (events_at c.args.selection) going.past next) in
    let posts : (xs : List DinRecord) → HasPosted (splitter_at xs false c.next_record.new.ends)
    → HasPosted (splitter_at (xs ++ picked_events c.offer-picked.result) false
    c.send_picked.new.ends) = search rules in
    record {
      past = going.past ++ next ∷ [];
      given = all.given;
      fate = all.fate;
      went = all.went;
      left = left-record going all c.in-Ok.answer read.3 next answered;
      chosen = offers.selection ∙ going.chosen;
      offered = offers.stands going.past going.offered;
      room = inr (elim going.room [
        | inl e ↦ omega (arith, offers.offered, c.in-Ok.ensures.room)
        | inr h ↦ omega (arith, offers.offered)
      ]);
      at_most = omega (arith, offers.offered, c.send_picked.ensures.place, going.at_most);
      rings = ends-stay c.args.ends.now c.next_record.new.ends c.send_picked.new.ends
          (ends-stay c.args.ends.now c.loop.ends c.next_record.new.ends going.rings
          c.next_record.ensures.rings) c.send_picked.ensures.rings;
      counted = search rules;
      posted = subst (λ (l : List DinRecord).
          HasPosted (splitter_at l false c.send_picked.new.ends)) longer
          (posts es (posted-same es false c.loop.ends c.next_record.new.ends
          c.next_record.ensures.sent going.posted));
      faultless = λ none. rw answered at c.in-Ok.ensures.told;
    }

pub returns-in_default-clause-reads : goal.returns-in_default-clause-reads
returns-in_default-clause-reads g c =
    let read = c.in_default.ensures.reads in
    let c₁ = (goal.at.returns-in_default-clause-reads g c).After-next_record in
    let all = composed g c₁ read.0 read.1 read.2 in (
      all.given,
      all.fate,
      all.went,
      λ first last l is left. (tt, rest-cut c.loop.invariant all read.3 first last l is left),
    )

pub returns-then-is_err-clause-reads : goal.returns-then-is_err-clause-reads
returns-then-is_err-clause-reads g c =
    let c₁ = (goal.at.returns-then-is_err-clause-reads g c).After-next_record in
    let stop = stops g c₁ c.in-Ok.answer c.in-Ok.ensures.reads in
    (stop.0, stop.1, stop.2, λ first last l is left. (tt, stop.3 first last l is left))

pub returns-in-Err-clause-reads : goal.returns-in-Err-clause-reads
returns-in-Err-clause-reads g c =
    let read = c.in-Ok.ensures.reads in
    let c₁ = (goal.at.returns-in-Err-clause-reads g c).After-next_record in
    let going = c.loop.invariant in
    let all = composed g c₁ read.0 read.1 read.2 in (
      all.given,
      all.fate,
      all.went,
      λ first last l is left. (
        subst (MayAnswer l.fault) (sym c.fault_of_source.ensures)
            (answers-fault l.fault c.in-Err.fault
            (left-fault going all c.in-Ok.answer read.3 c.in-Err.fault c.in-Err.is first last l is
            left)),
        rest-answer going all c.in-Ok.answer read.3 first last l is left,
      ),
    )

pub returns-then-is_err-2-clause-reads : goal.returns-then-is_err-2-clause-reads
returns-then-is_err-2-clause-reads g c =
    let c₁ = (goal.at.returns-then-is_err-2-clause-reads g c).After-next_record in
    let stop = stops g c₁ c.in-Ok.answer c.in-Ok.ensures.reads in
    (stop.0, stop.1, stop.2, λ first last l is left. (tt, stop.3 first last l is left))

pub returns-in-Ok-None-clause-reads : goal.returns-in-Ok-None-clause-reads
returns-in-Ok-None-clause-reads g c =
    let c₁ = (goal.at.returns-in-Ok-None-clause-reads g c).After-next_record in
    let going = c.loop.invariant in
    let read = c.in-Ok.ensures.reads in
    let all = composed g c₁ read.0 read.1 read.2 in
    let answered : c.in-Ok.answer ≡ Ok None =
    c.in-Ok-None.is ∙ ap (λ (found : Option DinRecord). Ok found)
    (rw c.in-Ok-None.is at c.in-Ok-None.field-0-is) in
    let closes : (xs : List DinRecord) → HasPosted (splitter_at xs false c.next_record.new.ends)
    → HasPosted (splitter_at xs true c.send_end.new.ends) = search rules in (
      all.given,
      all.fate,
      all.went,
      λ first last l is left.
          let none = left-end going all c.in-Ok.answer read.3 answered first last l is left in (
            none.0,
            subst (λ (rs : List DinRecord).
                HasPosted (splitter_at (events c.args.selection rs) true c.send_end.new.ends))
                (sym none.1)
                (closes (events c.args.selection going.past) (posted-same _ false c.loop.ends
                c.next_record.new.ends c.next_record.ensures.sent going.posted)),
            none.2,
          ),
    )
