-- What a stage receives and sends for each event.
use Rattle.std.proofs.Common.{◌≡◌, ℕ, ◌+◌, ◌≤◌, List, [], ◌∷◌, ◌++◌, length, map, refl, sym, ap}
use Rattle.std.proofs.Common.{◌∙◌, append_assoc, append-nil, arith}
use Rattle.std.specs.List.{flat_map}
use Rattle.std.proofs.lemmas.Grind.{flat_map-append}
use Rattle.cache_core.specs.History.{Event, access, flush, History}
use Rattle.din_trace.specs.declared.record.DinRecord.{DinRecord}
use Rattle.stage_core.specs.Places.{flat_map_after, flat_map_with_past}
use Rattle.stage_core.specs.Events.{asked, newest_first, history}
use Rattle.stage_core.specs.SecondLevel.{Parts, sent_up}
use Rattle.stage_core.specs.Streams.{numbered, answer, answered, reply, message, messages_to}
use Rattle.stage_core.specs.Streams.{asked_in, taken_in, to_side}
use Rattle.stage_core.specs.Merging.{what_in}
use Rattle.stage_core.specs.Plain.{brought}
use Rattle.stage_core.specs.Laws.{StagesAnswerTheirStreams}
use Rattle.stage_core.specs.declared.message.What.{What}
use Rattle.stage_core.specs.declared.message.Side.{Side}
use Rattle.stage_core.specs.declared.message.ToStage.{ToStage}
use Rattle.stage_core.specs.declared.message.ToStage.TheVariants as to_stage
use Rattle.stage_core.specs.declared.message.FromStage.TheVariants as from_stage
use Rattle.stage_core.proofs.Place.{flat_map_after-append, flat_map_with_past-more}
use Rattle.stage_core.proofs.Few.{few-asked}
use Rattle.stage_core.proofs.Stands.{taken_in-more}

asked_in-message : (p : ℕ) (e : Event) → asked_in (message p e) ≡ e ∷ []
asked_in-message p (access x) = refl
asked_in-message p flush = refl

asked_in-messages : (p : ℕ) (es : List Event) → flat_map asked_in (map (message p) es) ≡ es
asked_in-messages p [] = refl
asked_in-messages p (e ∷ es) =
    ap (λ l. l ++ flat_map asked_in (map (message p) es)) (asked_in-message p e)
    ∙ ap (λ l. e ∷ l) (asked_in-messages p es)

messages_to-flat_map_after : (s : Side) (before es : List DinRecord)
    → flat_map asked_in (flat_map_after (messages_to s) before es) ≡ flat_map (asked s) es
messages_to-flat_map_after s before [] = refl
messages_to-flat_map_after s before (e ∷ es) =
    flat_map-append asked_in (messages_to s before e)
    (flat_map_after (messages_to s) (before ++ e ∷ []) es)
    ∙ ap (λ l. l ++ flat_map asked_in (flat_map_after (messages_to s) (before ++ e ∷ []) es))
    (asked_in-messages (length before + 1) (asked s e))
    ∙ ap (λ l. asked s e ++ l) (messages_to-flat_map_after s (before ++ e ∷ []) es)

-- the history of a stage's cache after the messages of an event list
pub taken_in-messages_to : (s : Side) (es : List DinRecord)
    → taken_in (flat_map_with_past (messages_to s) es) ≡ history s es
taken_in-messages_to s es = ap newest_first (messages_to-flat_map_after s [] es)

reply-message : (parts : Parts) (s : Side) (ms : List ToStage) (p : ℕ) (e : Event)
    → reply parts s ms (message p e) ≡ answer p (parts s (taken_in ms) e)
reply-message parts s ms p (access x) = refl
reply-message parts s ms p flush = refl

what_in-numbered : (p n : ℕ) (ws : List What) → flat_map what_in (numbered p n ws) ≡ ws
what_in-numbered p n [] = refl
what_in-numbered p n (w ∷ ws) = ap (λ l. w ∷ l) (what_in-numbered p (n + 1) ws)

-- the requests in an answer are its parts
pub what_in-answer : (p : ℕ) (ws : List What) → flat_map what_in (answer p ws) ≡ ws
what_in-answer p ws =
    flat_map-append what_in (numbered p 1 ws) (from_stage.Done p (length ws) ∷ [])
    ∙ append-nil (flat_map what_in (numbered p 1 ws)) ∙ what_in-numbered p 1 ws

module _ (parts : Parts) (s : Side) where
  brought-messages : (before : List ToStage) (p : ℕ) (es : List Event)
      → brought parts s before (map (message p) es) ≡ flat_map (parts s (taken_in before)) es
  brought-messages before p [] = refl
  brought-messages before p (e ∷ es) =
      ap (λ l. l ++ brought parts s before (map (message p) es))
      (ap (flat_map what_in) (reply-message parts s before p e)
      ∙ what_in-answer p (parts s (taken_in before) e))
      ∙ ap (λ l. parts s (taken_in before) e ++ l) (brought-messages before p es)

  -- the requests in the answers to an event's messages are what the side sends up for it
  pub brought-messages_to : (before : List DinRecord) (e : DinRecord)
      → brought parts s (flat_map_with_past (messages_to s) before) (messages_to s before e)
      ≡ sent_up parts s before e
  brought-messages_to before e =
      brought-messages (flat_map_with_past (messages_to s) before) (length before + 1) (asked s e)
      ∙ ap (λ h. flat_map (parts s h) (asked s e)) (taken_in-messages_to s before)

  replies-messages : (before : List ToStage) (h : History) (p : ℕ) (es : List Event) → length es ≤ 1
      → taken_in before ≡ h → flat_map_after (reply parts s) before (map (message p) es)
      ≡ flat_map (λ e. answer p (parts s h e)) es
  replies-messages before h p [] few same = refl
  replies-messages before h p (e ∷ []) few same =
      ap (λ l. l ++ []) (reply-message parts s before p e ∙ ap (λ g. answer p (parts s g e)) same)
  replies-messages before h p (e ∷ f ∷ es) few same = absurd (omega arith)

  replies-messages_to : (before : List DinRecord) (e : DinRecord)
      → flat_map_after (reply parts s) (flat_map_with_past (messages_to s) before)
      (messages_to s before e) ≡ answered parts s before e
  replies-messages_to before e =
      replies-messages (flat_map_with_past (messages_to s) before) (history s before)
      (length before + 1) (asked s e)
      (few-asked s e.label e.addr) (taken_in-messages_to s before)

  replies-flat_map_after : (before es : List DinRecord)
      → flat_map_after (reply parts s) (flat_map_with_past (messages_to s) before)
      (flat_map_after (messages_to s) before es ++ to_stage.Finish ∷ [])
      ≡ flat_map_after (answered parts s) before es
      ++ from_stage.Finish ∷ []
  replies-flat_map_after before [] = refl
  replies-flat_map_after before (e ∷ es) =
      let rest : List ToStage = flat_map_after (messages_to s) (before ++ e ∷ []) es
      ++ to_stage.Finish ∷ [] in
      ap (flat_map_after (reply parts s) (flat_map_with_past (messages_to s) before))
      (append_assoc (messages_to s before e) (flat_map_after (messages_to s) (before ++ e ∷ []) es)
      (to_stage.Finish ∷ []))
      ∙ flat_map_after-append (reply parts s) (flat_map_with_past (messages_to s) before)
      (messages_to s before e) rest
      ∙ ap (λ l. l
      ++ flat_map_after (reply parts s)
      (flat_map_with_past (messages_to s) before ++ messages_to s before e) rest)
      (replies-messages_to before e)
      ∙ ap (λ (l : List ToStage). answered parts s before e
      ++ flat_map_after (reply parts s) l rest)
      (sym (flat_map_with_past-more (messages_to s) before e))
      ∙ ap (λ l. answered parts s before e ++ l) (replies-flat_map_after (before ++ e ∷ []) es)
      ∙ sym (append_assoc (answered parts s before e)
      (flat_map_after (answered parts s) (before ++ e ∷ []) es) (from_stage.Finish ∷ []))

-- what a stage answers to its whole stream is the whole stream to the merge
pub replies-to_side : StagesAnswerTheirStreams
replies-to_side parts s es = replies-flat_map_after parts s [] es

-- the history of a stage's cache after its whole stream
pub taken_in-to_side : (s : Side) (es : List DinRecord) → taken_in (to_side s es) ≡ history s es
taken_in-to_side s es = taken_in-more (flat_map_with_past (messages_to s) es) to_stage.Finish
    ∙ taken_in-messages_to s es
