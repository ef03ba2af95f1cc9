-- No message of an event is Finish.
use Rattle.std.proofs.Common.{◌≡◌, ℕ, ◌+◌, Bool, false, ◌||◌, List, [], ◌∷◌, ◌++◌, length, map}
use Rattle.std.proofs.Common.{refl, ap, ◌∙◌}
use Rattle.std.specs.List.{flat_map, list_any}
use Rattle.std.proofs.lemmas.List.Folds.{list_any-append}
use Rattle.cache_core.specs.History.{Event}
use Rattle.din_trace.specs.declared.record.DinRecord.{DinRecord}
use Rattle.din_trace.specs.declared.record.Label.{Label}
use Rattle.din_trace.specs.declared.record.Label.TheVariants as label
use Rattle.stage_core.specs.Places.{flat_map_after, flat_map_with_past}
use Rattle.stage_core.specs.Events.{asked, history}
use Rattle.stage_core.specs.SecondLevel.{Parts}
use Rattle.stage_core.specs.Streams.{turn_of, messages_to, numbered, answer, answered, is_finish}
use Rattle.stage_core.specs.Finishes.{is_last_turn, is_last_answer, FinishEndsEachStream}
use Rattle.stage_core.specs.declared.message.Side.{Side}
use Rattle.stage_core.specs.declared.message.What.{What}
use Rattle.stage_core.specs.declared.message.FromStage.TheVariants as from_stage
use Rattle.stage_core.proofs.Turns.{no_finish}

-- if two lists have none, both together have none
none-of : {X : Type 0} (p : X → Bool) (xs ys : List X) → list_any p xs ≡ false
    → list_any p ys ≡ false → list_any p (xs ++ ys) ≡ false
none-of p xs ys x y =
    list_any-append p xs ys ∙ ap (λ b. b || list_any p ys) x ∙ y

-- if no item gives one, the whole list gives none
none-flat_map_after : {X Y : Type 0} (p : Y → Bool) (f : List X → X → List Y)
    → ((before : List X) (x : X) → list_any p (f before x) ≡ false) → (before xs : List X)
    → list_any p (flat_map_after f before xs) ≡ false
none-flat_map_after p f none before [] = refl
none-flat_map_after p f none before (x ∷ xs) =
    none-of p (f before x) (flat_map_after f (before ++ x ∷ []) xs) (none before x)
    (none-flat_map_after p f none (before ++ x ∷ []) xs)

no-last-turn : (l : Label) → is_last_turn (turn_of l) ≡ false
no-last-turn label.Instr = refl
no-last-turn label.Flush = refl
no-last-turn label.Read = refl
no-last-turn label.Write = refl
no-last-turn label.Misc = refl

no-last-turns : (es : List DinRecord)
    → list_any is_last_turn (map (λ e. turn_of e.label) es) ≡ false
no-last-turns [] = refl
no-last-turns (e ∷ es) =
    ap (λ b. b || list_any is_last_turn (map (λ e. turn_of e.label) es)) (no-last-turn e.label)
    ∙ no-last-turns es

no-finish-numbered : (place n k : ℕ) (ws : List What)
    → list_any is_last_answer (numbered place n ws ++ from_stage.Done place k ∷ []) ≡ false
no-finish-numbered place n k [] = refl
no-finish-numbered place n k (w ∷ ws) = no-finish-numbered place (n + 1) k ws

no-finish-answered : (parts : Parts) (s : Side) (before : List DinRecord) (p : ℕ)
    (asks : List Event) → list_any is_last_answer
    (flat_map (λ event. answer p (parts s (history s before) event)) asks) ≡ false
no-finish-answered parts s before p [] = refl
no-finish-answered parts s before p (e ∷ asks) =
    none-of is_last_answer (answer p (parts s (history s before) e))
    (flat_map (λ event. answer p (parts s (history s before) event)) asks)
    (no-finish-numbered p 1 _ (parts s (history s before) e))
    (no-finish-answered parts s before p asks)

-- the stream of each ring has one Finish, and ends with it
pub finish-ends : FinishEndsEachStream
finish-ends parts s es = (
  record { before = map (λ e. turn_of e.label) es; last = refl; only = no-last-turns es },
  record {
    before = flat_map_with_past (messages_to s) es;
    last = refl;
    only = none-flat_map_after is_finish (messages_to s)
        (λ before e. no_finish (length before + 1) (asked s e)) []
        es;
  },
  record {
    before = flat_map_with_past (answered parts s) es;
    last = refl;
    only = none-flat_map_after is_last_answer (answered parts s)
        (λ before e. no-finish-answered parts s before (length before + 1) (asked s e)) [] es;
  },
)
