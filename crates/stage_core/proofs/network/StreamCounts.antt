-- Numbers of the five streams of an event list: how many turns, ends of answers and Finishes.
use Rattle.std.proofs.Common.{◌≡◌, ℕ, ◌+◌, List, [], ◌∷◌, ◌++◌, map, length, refl, sym, ap, ◌∙◌}
use Rattle.std.proofs.Common.{append_assoc, arith}
use Rattle.stage_core.specs.Places.{flat_map_after}
use Rattle.cache_core.specs.History.{Event, access, flush}
use Rattle.stage_core.specs.Events.{asked, access_of}
use Rattle.stage_core.specs.SecondLevel.{Parts}
use Rattle.stage_core.specs.Network.Pushes.{Push, Order, To, pushes, pushes_at, turns_in, sent_to}
use Rattle.stage_core.specs.Network.Pushes.{for_side, ending}
use Rattle.stage_core.specs.Streams.{order, turn_of, to_side, messages_to, message, answer}
use Rattle.stage_core.specs.Streams.{numbered, reply, replies, taken_in}
use Rattle.din_trace.specs.declared.record.DinRecord.{DinRecord}
use Rattle.din_trace.specs.declared.record.Label.{Label}
use Rattle.din_trace.specs.declared.record.Label.TheVariants as label
use Rattle.cache_core.specs.declared.access.Class.TheVariants as class
use Rattle.stage_core.specs.declared.message.Side.{Side}
use Rattle.stage_core.specs.declared.message.Side.TheVariants as side
use Rattle.stage_core.specs.declared.message.What.{What}
use Rattle.stage_core.specs.declared.message.Turn.TheVariants as turn
use Rattle.stage_core.specs.declared.message.ToStage.{ToStage}
use Rattle.stage_core.specs.declared.message.ToStage.TheVariants as to_stage
use Rattle.stage_core.specs.declared.message.FromStage.TheVariants as from_stage
use Rattle.stage_core.proofs.network.Sums.{total, total-append, last_by, last_by-append}
use Rattle.stage_core.proofs.network.Sums.{last_by-both}
use Rattle.stage_core.proofs.network.Ends.{visits, end, ends, finish, finishes}

-- the pushes of the splitter into each ring are its stream
pub turns_in-append : (ps qs : List Push) → turns_in (ps ++ qs) ≡ turns_in ps ++ turns_in qs
turns_in-append [] qs = refl
turns_in-append (Order t ∷ ps) qs = ap (λ x. t ∷ x) (turns_in-append ps qs)
turns_in-append (To s m ∷ ps) qs = turns_in-append ps qs

-- what two lists of pushes send to a side is what the first sends, and then the second
pub sent_to-append : (s : Side) (ps qs : List Push)
    → sent_to s (ps ++ qs) ≡ sent_to s ps ++ sent_to s qs
sent_to-append s [] qs = refl
sent_to-append s (Order t ∷ ps) qs = sent_to-append s ps qs
sent_to-append s (To r m ∷ ps) qs = ap (λ x. for_side s r m ++ x) (sent_to-append s ps qs)
    ∙ sym (append_assoc (for_side s r m) _ _)

abbrev Streams : List DinRecord → List DinRecord → Type 0
Streams before es =
    (turns_in (flat_map_after pushes_at before es ++ ending)
    ≡ map (λ e. turn_of e.label) es ++ turn.Finish ∷ [])
    × (sent_to side.I (flat_map_after pushes_at before es ++ ending)
    ≡ flat_map_after (messages_to side.I) before es ++ to_stage.Finish ∷ [])
    × (sent_to side.D (flat_map_after pushes_at before es ++ ending)
    ≡ flat_map_after (messages_to side.D) before es ++ to_stage.Finish ∷ [])
    × (visits side.I (map (λ e. turn_of e.label) es ++ turn.Finish ∷ [])
    ≡ length (flat_map_after (messages_to side.I) before es ++ to_stage.Finish ∷ []))
    × (visits side.D (map (λ e. turn_of e.label) es ++ turn.Finish ∷ [])
    ≡ length (flat_map_after (messages_to side.D) before es ++ to_stage.Finish ∷ []))

-- an event with a request to D alone
streams_d : (e : DinRecord) (x : Event) (before es : List DinRecord) → turn_of e.label ≡ turn.D
    → asked side.I e ≡ [] → asked side.D e ≡ x ∷ [] → Streams (before ++ e ∷ []) es
    → Streams before (e ∷ es)
streams_d e x before es t i d h =
    rw (t, i, d) (
      ap (λ y. turn.D ∷ y) h.0,
      h.1,
      ap (λ y. message (length before + 1) x ∷ y) h.2,
      omega (arith, h.3),
      omega (arith, h.4),
    )

streams_at : (l : Label) (a : ℕ) (before es : List DinRecord)
    → Streams (before ++ record { label = l; addr = a } ∷ []) es
    → Streams before (record { label = l; addr = a } ∷ es)
streams_at label.Instr a before es h = (
  ap (λ x. turn.I ∷ x) h.0,
  ap (λ x. to_stage.Ref (length before + 1) class.Instr a ∷ x) h.1,
  h.2,
  omega (arith, h.3),
  omega (arith, h.4),
)
streams_at label.Read a before es h =
    streams_d _ (access_of class.Read a) before es refl refl refl h
streams_at label.Write a before es h =
    streams_d _ (access_of class.Write a) before es refl refl refl h
streams_at label.Misc a before es h =
    streams_d _ (access_of class.Misc a) before es refl refl refl h
streams_at label.Flush a before es h = (
  ap (λ x. turn.Both ∷ x) h.0,
  ap (λ x. to_stage.Flush (length before + 1) ∷ x) h.1,
  ap (λ x. to_stage.Flush (length before + 1) ∷ x) h.2,
  omega (arith, h.3),
  omega (arith, h.4),
)

streams : (before es : List DinRecord) → Streams before es
streams before [] = (refl, refl, refl, refl, refl)
streams before (e ∷ es) = streams_at e.label e.addr before es (streams (before ++ e ∷ []) es)

-- the splitter's turns are the stream of the order ring
pub turns_in-pushes : (es : List DinRecord) → turns_in (pushes es) ≡ order es
turns_in-pushes es = (streams [] es).0

-- its messages to a side are the stream to that side
pub sent_to-pushes : (s : Side) (es : List DinRecord) → sent_to s (pushes es) ≡ to_side s es
sent_to-pushes side.I es = (streams [] es).1
sent_to-pushes side.D es = (streams [] es).2

-- the order ring has a turn for each message to a side
pub visits-order : (s : Side) (es : List DinRecord) → visits s (order es) ≡ length (to_side s es)
visits-order side.I es = (streams [] es).3
visits-order side.D es = (streams [] es).4

finish-turn_of : (l : Label) → finish (turn_of l) ≡ 0
finish-turn_of label.Read = refl
finish-turn_of label.Write = refl
finish-turn_of label.Instr = refl
finish-turn_of label.Misc = refl
finish-turn_of label.Flush = refl

-- the order ring has exactly one Finish, as its last message
pub finishes-order : (es : List DinRecord) → finishes (order es) ≡ 1
finishes-order [] = refl
finishes-order (e ∷ es) = omega (arith, finish-turn_of e.label, finishes-order es)

-- its stream ends with Finish
pub last-order : (es : List DinRecord) → last_by finish 0 (order es) ≡ 1
last-order es = last_by-append finish 0 (map (λ e. turn_of e.label) es) turn.Finish []

-- a ring to a stage has exactly one Finish, as its last message
abbrev pub finish_in : ToStage → ℕ
finish_in (to_stage.Ref p c a) = 0
finish_in (to_stage.Flush p) = 0
finish_in to_stage.Finish = 1

finish_in-messages : (p : ℕ) (es : List Event) → total finish_in (map (message p) es) ≡ 0
finish_in-messages p [] = refl
finish_in-messages p (access x ∷ es) = omega (arith, finish_in-messages p es)
finish_in-messages p (flush ∷ es) = omega (arith, finish_in-messages p es)

finish_in-messages_to : (s : Side) (before es : List DinRecord)
    → total finish_in (flat_map_after (messages_to s) before es) ≡ 0
finish_in-messages_to s before [] = refl
finish_in-messages_to s before (e ∷ es) =
    omega (
      arith,
      total-append finish_in (messages_to s before e)
          (flat_map_after (messages_to s) (before ++ e ∷ []) es),
      finish_in-messages (length before + 1) (asked s e),
      finish_in-messages_to s (before ++ e ∷ []) es,
    )

-- the stream to a side has one Finish
pub finish_in-to_side : (s : Side) (es : List DinRecord) → total finish_in (to_side s es) ≡ 1
finish_in-to_side s es = omega (
  arith,
  total-append finish_in (flat_map_after (messages_to s) [] es)
      (to_stage.Finish ∷ []),
  finish_in-messages_to s [] es,
)

-- and ends with it
pub last-to_side : (s : Side) (es : List DinRecord) → last_by finish_in 0 (to_side s es) ≡ 1
last-to_side s es = last_by-append finish_in 0 (flat_map_after (messages_to s) [] es)
    to_stage.Finish []

-- the answer to each message of a stage has exactly one end, as its last message
ends-numbered : (p n : ℕ) (ws : List What) → ends (numbered p n ws) ≡ 0
ends-numbered p n [] = refl
ends-numbered p n (w ∷ ws) = omega (arith, ends-numbered p (n + 1) ws)

ends-answer : (p : ℕ) (ws : List What) → ends (answer p ws) ≡ 1
ends-answer p ws = omega (
  arith,
  total-append end (numbered p 1 ws)
      (from_stage.Done p (length ws) ∷ []),
  ends-numbered p 1 ws,
)

last-answer : (p : ℕ) (ws : List What) → last_by end 1 (answer p ws) ≡ 1
last-answer p ws = last_by-append end 1 (numbered p 1 ws) (from_stage.Done p (length ws)) []

module _ (parts : Parts) (s : Side) where
  ends-reply : (before : List ToStage) (m : ToStage) → ends (reply parts s before m) ≡ 1
  ends-reply before (to_stage.Ref p c a) = ends-answer p _
  ends-reply before (to_stage.Flush p) = ends-answer p _
  ends-reply before to_stage.Finish = refl

  last-reply : (before : List ToStage) (m : ToStage) → last_by end 1 (reply parts s before m) ≡ 1
  last-reply before (to_stage.Ref p c a) = last-answer p (parts s (taken_in before) (access_of c a))
  last-reply before (to_stage.Flush p) = last-answer p (parts s (taken_in before) flush)
  last-reply before to_stage.Finish = refl

  ends-flat_map_after : (before ms : List ToStage)
      → ends (flat_map_after (reply parts s) before ms) ≡ length ms
  ends-flat_map_after before [] = refl
  ends-flat_map_after before (m ∷ ms) =
      omega (
        arith,
        total-append end (reply parts s before m)
            (flat_map_after (reply parts s) (before ++ m ∷ []) ms),
        ends-reply before m,
        ends-flat_map_after (before ++ m ∷ []) ms,
      )

  last-flat_map_after : (before ms : List ToStage)
      → last_by end 1 (flat_map_after (reply parts s) before ms) ≡ 1
  last-flat_map_after before [] = refl
  last-flat_map_after before (m ∷ ms) =
      last_by-both end 1 1 (reply parts s before m)
      (flat_map_after (reply parts s) (before ++ m ∷ []) ms)
      (last-reply before m) (last-flat_map_after (before ++ m ∷ []) ms)

-- a stage answers each message with one end
pub ends-replies : (parts : Parts) (s : Side) (ms : List ToStage)
    → ends (replies parts s ms) ≡ length ms
ends-replies parts s ms = ends-flat_map_after parts s [] ms

-- and its answers end with one
pub last-replies : (parts : Parts) (s : Side) (ms : List ToStage)
    → last_by end 1 (replies parts s ms) ≡ 1
last-replies parts s ms = last-flat_map_after parts s [] ms
