-- A machine after one more event, message or request.
use Rattle.std.proofs.Math.Bool.{or-false}
use Rattle.std.proofs.Common.{◌≡◌, false, ◌||◌, List, [], ◌∷◌, ◌++◌, map, sym, ap}
use Rattle.std.proofs.Common.{subst, ◌∙◌, append-nil}
use Rattle.std.specs.List.{flat_map, list_any}
use Rattle.std.proofs.lemmas.Grind.{flat_map-append}
use Rattle.std.proofs.lemmas.List.{reverse-append, map-append}
use Rattle.std.proofs.lemmas.List.Folds.{list_any-append}
use Rattle.cache_core.specs.History.{History, Event}
use Rattle.cache_core.specs.Standing.{StandsFor}
use Rattle.cache_core.specs.declared.cache.Cache.{Cache}
use Rattle.din_trace.specs.declared.record.DinRecord.{DinRecord}
use Rattle.stage_core.specs.Events.{asked, history, newest_first}
use Rattle.stage_core.specs.SecondLevel.{read_as, second_history}
use Rattle.stage_core.specs.Streams.{taken_in, asked_in, is_finish}
use Rattle.stage_core.specs.Standing.{StageStandsFor, L2StandsFor, cache_of, l2_cache}
use Rattle.stage_core.specs.Standing.{took_finish}
use Rattle.stage_core.specs.declared.l1_stage.L1Stage.{L1Stage}
use Rattle.stage_core.specs.declared.l2_stage.L2Stage.{L2Stage}
use Rattle.stage_core.specs.declared.message.Side.{Side}
use Rattle.stage_core.specs.declared.message.What.{What}
use Rattle.stage_core.specs.declared.message.ToStage.{ToStage}

-- the requests of a list of items, the newest first, after one more item
asked-more : {A : Type 0} (f : A → List Event) (xs : List A) (x : A)
    → newest_first (flat_map f (xs ++ x ∷ [])) ≡ newest_first (f x) ++ newest_first (flat_map f xs)
asked-more f xs x =
    ap newest_first (flat_map-append f xs (x ∷ [])
    ∙ ap (λ l. flat_map f xs ++ l) (append-nil (f x)))
    ∙ reverse-append (flat_map f xs) (f x)

-- one message more adds what it asks for to what a stage was asked
pub taken_in-more : (ms : List ToStage) (m : ToStage)
    → taken_in (ms ++ m ∷ []) ≡ newest_first (asked_in m) ++ taken_in ms
taken_in-more ms m = asked-more asked_in ms m

-- one event more adds what it asks for to a side's history
pub history-more : (s : Side) (es : List DinRecord) (e : DinRecord)
    → history s (es ++ e ∷ []) ≡ newest_first (asked s e) ++ history s es
history-more s es e = asked-more (asked s) es e

pub second_history-more : (ws : List What) (w : What)
    → second_history (ws ++ w ∷ []) ≡ read_as w ∷ second_history ws
second_history-more ws w = ap newest_first (map-append read_as ws (w ∷ []))
    ∙ reverse-append (map read_as ws) (read_as w ∷ [])

no_finish-more : (ms : List ToStage) (m : ToStage) → is_finish m ≡ false
    → list_any is_finish (ms ++ m ∷ []) ≡ list_any is_finish ms
no_finish-more ms m e =
    list_any-append is_finish ms (m ∷ []) ∙ ap (λ t. list_any is_finish ms || (t || false)) e
    ∙ or-false (list_any is_finish ms)

-- if the cache of a stage has served one more request, the stage has received one more message
pub one_event_more : (old new : L1Stage) (ms : List ToStage) (m : ToStage) (e : Event)
    → asked_in m ≡ e ∷ [] → is_finish m ≡ false → took_finish new ≡ took_finish old
    → ((h : History) → StandsFor (cache_of old) h → StandsFor (cache_of new) (e ∷ h))
    → StageStandsFor old ms → StageStandsFor new (ms ++ m ∷ [])
one_event_more old new ms m e asks goes_on same longer st = record {
  cache = subst (λ (h : History). StandsFor (cache_of new) h)
      (sym (taken_in-more ms m ∙ ap (λ l. newest_first l ++ taken_in ms) asks))
      (longer (taken_in ms) st.cache);
  finish = same ∙ st.finish ∙ sym (no_finish-more ms m goes_on);
}

-- if the cache of the second level has served one more event, the second level has served one more
-- request
pub one_what_more : (old new : L2Stage) (ws : List What) (w : What) (e : Event) → read_as w ≡ e
    → ((h : History) → StandsFor (l2_cache old) h → StandsFor (l2_cache new) (e ∷ h))
    → L2StandsFor old ws → L2StandsFor new (ws ++ w ∷ [])
one_what_more old new ws w e reads longer st = record {
  cache = subst (λ (h : History). StandsFor (l2_cache new) h)
      (sym (second_history-more ws w ∙ ap (λ x. x ∷ second_history ws) reads))
      (longer (second_history ws) st.cache);
}

-- what a stage has received depends only on its cache and on whether Finish was received
pub same_stands : (old new : L1Stage) (ms : List ToStage) → cache_of new ≡ cache_of old
    → took_finish new ≡ took_finish old → StageStandsFor old ms → StageStandsFor new ms
same_stands old new ms cache finish st =
    record {
      cache = subst (λ (k : Cache). StandsFor k (taken_in ms)) (sym cache) st.cache;
      finish =
          finish ∙ st.finish;
    }
