-- The splitter after one more record.
use Rattle.std.proofs.Common.{◌≡◌, ◌⊎◌, ℕ, ◌+◌, ◌*◌, ◌≤◌, ◌^◌, Bool, false}
use Rattle.std.proofs.Common.{List, [], ◌∷◌, ◌++◌, map, take, drop, length}
use Rattle.std.proofs.Common.{Option, Some, None, Result, Ok, Err, option_to_list}
use Rattle.std.proofs.Common.{refl, ap, sym, ◌∙◌, subst, append_assoc, append-nil}
use Rattle.std.proofs.lemmas.List.{map-append, length-map, take-append-drop}
use Rattle.pipe_rings.specs.Rings.{sent}
use Rattle.pipe_rings.proofs.Ends.{tx_stays}
use Rattle.din_trace.specs.Text.{Remaining}
use Rattle.din_trace.specs.Remaining.{Script, Fate, Follows, first_answer, after_first}
use Rattle.din_trace.specs.Source.{HasLeft, Takes, fault_in, room_of}
use Rattle.din_trace.specs.declared.record.DinRecord.{DinRecord}
use Rattle.din_trace.specs.declared.fault.TraceFault.{TraceFault}
use Rattle.din_trace.specs.declared.source.Source.{Source}
use Rattle.din_trace.proofs.Calls.{Calls}
use Rattle.din_trace.proofs.Scripts.{first_record, first_end, first_fault-is}
use Rattle.stage_core.specs.Places.{flat_map_with_past}
use Rattle.stage_core.specs.Events.{events, asked}
use Rattle.stage_core.specs.Streams.{turn_of, message, messages_to}
use Rattle.stage_core.specs.Standing.{Offers, WasOffered}
use Rattle.stage_core.specs.Waiting.{HasPosted}
use Rattle.stage_core.specs.declared.message.Side.{Side}
use Rattle.stage_core.specs.declared.message.Side.TheVariants as side
use Rattle.stage_core.specs.declared.message.Turn.{Turn}
use Rattle.stage_core.specs.declared.message.ToStage.{ToStage}
use Rattle.stage_core.specs.declared.message.Routed.{Routed}
use Rattle.stage_core.specs.declared.selection.Selection.{Selection}
use Rattle.stage_core.proofs.Sides.{each_side}
use Rattle.stage_core.proofs.Place.{flat_map_with_past-more}
use Rattle.run_threads.specs.declared.ends.SplitterEnds.{SplitterEnds}
use Rattle.din_trace.specs.declared.fault.TraceFault.TheVariants.{Bad, TooLong, Read, Memory}
use Rattle.run_threads.specs.Faults.{MayAnswer, source_fault}
use Rattle.run_threads.specs.Ends.{SameSplitterEnds, SentSame}
use Rattle.run_threads.specs.Threads.{Sends, LeavesRest, at_end}
use Rattle.run_threads.specs.Waits.{splitter_at}

pub same-ends : (ends : SplitterEnds) → SameSplitterEnds ends ends
same-ends ends = record {
  order = (((refl, refl, refl, refl), refl), refl);
  to_i = (((refl, refl, refl, refl), refl), refl);
  to_d = (((refl, refl, refl, refl), refl), refl);
}

pub ends-stay : (a b c : SplitterEnds) → SameSplitterEnds a b → SameSplitterEnds b c
    → SameSplitterEnds a c
ends-stay a b c s t = record {
  order = tx_stays a.order b.order c.order s.order t.order;
  to_i = tx_stays a.to_i b.to_i c.to_i s.to_i t.to_i;
  to_d = tx_stays a.to_d b.to_d c.to_d s.to_d t.to_d;
}

-- ends that have sent the same messages have posted those of the same events
pub posted-same : (es : List DinRecord) (closed : Bool) (was now : SplitterEnds)
    → SentSame was now → HasPosted (splitter_at es closed was)
    → HasPosted (splitter_at es closed now)
posted-same es closed was now same going = record {
  order = same.order ∙ going.order;
  to = each_side _ (same.to_i ∙ going.to side.I) (same.to_d ∙ going.to side.D);
}

-- the turns of some events
abbrev turns : List DinRecord → List Turn
turns es = map (λ e. turn_of e.label) es

-- the messages to a side after those of one more event
more-to : (s : Side) (es : List DinRecord) (e : DinRecord) (place : ℕ) (was now : List ToStage)
    (out : Option ToStage) → was ≡ flat_map_with_past (messages_to s) es ++ []
    → place ≡ length es → option_to_list out ≡ map (message (place + 1)) (asked s e)
    → now ≡ was ++ option_to_list out
    → now ≡ flat_map_with_past (messages_to s) (es ++ e ∷ []) ++ []
more-to s es e place was now out going count routed sends =
    let before : List ToStage = flat_map_with_past (messages_to s) es in
    sends ∙ ap (λ l. l ++ option_to_list out) (going ∙ append-nil before)
    ∙ ap (λ l. before ++ l) (routed ∙ ap (λ n. map (message (n + 1)) (asked s e)) count)
    ∙ sym (flat_map_with_past-more (messages_to s) es e) ∙ sym (append-nil _)

-- the splitter after the messages of one more event
pub sends-event : (es : List DinRecord) (e : DinRecord) (place : ℕ) (routed : Routed)
    (was now : SplitterEnds) → HasPosted (splitter_at es false was)
    → place ≡ length (sent was.order) → routed.turn ≡ turn_of e.label
    → option_to_list routed.i ≡ map (message (place + 1)) (asked side.I e)
    → option_to_list routed.d ≡ map (message (place + 1)) (asked side.D e)
    → Sends was routed now → HasPosted (splitter_at (es ++ e ∷ []) false now)
sends-event es e place routed was now going counted turn i d sends =
    let posted : sent was.order ≡ turns es = going.order ∙ append-nil (turns es) in
    let count : place ≡ length es =
    counted ∙ ap length posted ∙ length-map es (λ (x : DinRecord). turn_of x.label) in
    record {
      order = sends.order ∙ ap (λ l. l ++ routed.turn ∷ []) posted
          ∙ ap (λ t. turns es ++ t ∷ []) turn
          ∙ sym (map-append (λ (x : DinRecord). turn_of x.label) es (e ∷ []))
          ∙ sym (append-nil (turns (es ++ e ∷ [])));
      to = each_side _
          (more-to side.I es e place _ _ routed.i (going.to side.I) count i sends.to_i)
          (more-to side.D es e place _ _ routed.d (going.to side.D) count d sends.to_d);
    }

-- the splitter has read these records of a source, and sent all messages of the events that are
-- selected from them
pub record Splits {R : Type 0} (remaining : R → Option (List ℕ)) (failures : R → ℕ)
    (selection : Selection) (start : Source R) (began : SplitterEnds) (offers : Offers) (place : ℕ)
    (now : Source R) (ends : SplitterEnds) : Type 0 where
  pub past : List DinRecord
  pub given : List ℕ
  pub fate : Fate
  pub went : Takes remaining failures start now given fate
  pub left : (first last : Script) (l : Remaining) → Follows fate given first last
      → HasLeft start first l → (rest : Remaining) × (l.records ≡ past ++ rest.records)
      × (rest.fault ≡ l.fault) × HasLeft now last rest
  pub chosen : offers.selection ≡ selection
  pub offered : WasOffered offers past
  -- the records read and those that the source can still give are at most 2 ^ 40
  pub room : (offers.records ≡ 0) ⊎ (offers.records + room_of now ≤ 2 ^ 40)
  pub at_most : place ≤ 2 * offers.records
  pub rings : SameSplitterEnds began ends
  -- the splitter has counted as many events as it has sent turns
  pub counted : place ≡ length (sent ends.order)
  pub posted : HasPosted (splitter_at (events selection past) false ends)
  pub faultless : fault_in start ≡ None → fault_in now ≡ None

module _ {R : Type 0} {remaining : R → Option (List ℕ)} {failures : R → ℕ} {selection : Selection}
    {start : Source R} {began : SplitterEnds} {offers : Offers} {place : ℕ} {now : Source R}
    {ends : SplitterEnds}
    (going : Splits remaining failures selection start began offers place now ends)
    {next : Source R} {given : List ℕ} {fate : Fate}
    (all : Calls remaining failures start next going.given given going.fate fate) where
  -- what was left at the start and what is left after the last call are related like this
  abbrev Leaves : (Remaining → (Remaining → Type 0) → Type 0) → Type 0
  Leaves P = (first last : Script) (l : Remaining) → Follows all.fate all.given first last
      → HasLeft start first l → P l (HasLeft next last)

  -- if the last call gave no answer, nothing was removed from what was left
  pub rest-cut : ((before later : Script) (l : Remaining) → Follows fate given before later
      → HasLeft now before l → HasLeft next later l) → Leaves LeavesRest
  rest-cut keeps first last l is has =
      let mid = all.between first last is in
      let rest = going.left first mid.0 l mid.1 has in
      record {
        gone = going.past;
        rest = rest.0;
        records = rest.1;
        fault = rest.2;
        left = keeps mid.0 last rest.0 mid.2 rest.3;
      }

  module _ (result : Result (Option DinRecord) TraceFault)
      (reads : (before later : Script) (l : Remaining) → Follows fate given before later
      → HasLeft now before l → (result ≡ first_answer l) × HasLeft next later (after_first l)) where
    -- what was left before the last call, and what it answered
    before-last : Leaves (λ l left. (rest : Remaining) × (l.records ≡ going.past ++ rest.records)
        × (rest.fault ≡ l.fault) × (result ≡ first_answer rest) × left (after_first rest))
    before-last first last l is has =
        let mid = all.between first last is in
        let rest = going.left first mid.0 l mid.1 has in
        let after = reads mid.0 last rest.0 mid.2 rest.3 in
        (rest.0, rest.1, rest.2, after.0, after.1)

    pub left-record : (r : DinRecord) → result ≡ Ok (Some r) → Leaves (λ l left. (rest : Remaining)
        × (l.records ≡ (going.past ++ r ∷ []) ++ rest.records) × (rest.fault ≡ l.fault)
        × left rest)
    left-record r was first last l is has =
        let rest = before-last first last l is has in (
          after_first rest.0,
          rest.1 ∙ ap (λ rs. going.past ++ rs) (first_record rest.0 r (sym was ∙ rest.3))
              ∙ sym (append_assoc going.past (r ∷ []) (drop 1 rest.0.records)),
          rest.2,
          rest.4,
        )

    pub left-end : result ≡ Ok None
        → Leaves (λ l left. (l.fault ≡ None) × (l.records ≡ going.past) × left at_end)
    left-end was first last l is has =
        let rest = before-last first last l is has in
        let none = first_end rest.0 (sym was ∙ rest.3) in (
          sym rest.2 ∙ none.1,
          rest.1 ∙ ap (λ rs. going.past ++ rs) none.0 ∙ append-nil going.past,
          subst (λ (x : Remaining). HasLeft next last x)
              (ap (λ rs. after_first (record { records = rs; fault = rest.0.fault })) none.0
              ∙ ap (λ f. record { records = []; fault = f }) none.1) rest.4,
        )

    -- the rest, whatever the last call answered
    pub rest-answer : Leaves LeavesRest
    rest-answer first last l is has =
        let rest = before-last first last l is has in
        record {
          gone = going.past ++ take 1 rest.0.records;
          rest = after_first rest.0;
          records = rest.1 ∙ ap (λ rs. going.past ++ rs) (sym (take-append-drop 1 rest.0.records))
              ∙ sym (append_assoc going.past (take 1 rest.0.records) (drop 1 rest.0.records));
          fault = rest.2;
          left = rest.4;
        }

    pub left-fault : (f : TraceFault) → result ≡ Err f → Leaves (λ l left. l.fault ≡ Some f)
    left-fault f was first last l is has =
        let rest = before-last first last l is has in
        sym rest.2 ∙ (first_fault-is rest.0 f (sym was ∙ rest.3)).1

-- a run may answer the fault of its source
pub answers-fault : (left : Option TraceFault) (f : TraceFault) → left ≡ Some f
    → MayAnswer left (source_fault f)
answers-fault left (Bad line why) is = is
answers-fault left TooLong is = is
answers-fault left Read is = is
answers-fault left Memory is = tt
