-- The machines after one more event.
use Rattle.std.proofs.Common.{◌≡◌, ℕ, ◌+◌, ◌^◌, ◌<◌, ◌≤◌, List, [], ◌∷◌, ◌++◌, length, map}
use Rattle.std.proofs.Common.{Option, option_to_list, sym, ap, subst, ◌∙◌, arith}
use Rattle.std.proofs.Common.{length-append}
use Rattle.std.proofs.lemmas.List.{length-map, length-reverse}
use Rattle.cache_core.specs.History.{Rules}
use Rattle.cache_core.specs.Standing.{rules_of, served_of}
use Rattle.din_trace.specs.declared.record.DinRecord.{DinRecord}
use Rattle.stage_core.specs.Places.{flat_map_with_past}
use Rattle.stage_core.specs.Events.{asked}
use Rattle.stage_core.specs.SecondLevel.{Hierarchy, Parts, parts_of, parts_in, sent_up}
use Rattle.stage_core.specs.SecondLevel.{second_level_requests, read_as, second_history}
use Rattle.stage_core.specs.Streams.{messages_to, message}
use Rattle.stage_core.specs.Standing.{StageStandsFor, L2StandsFor, IsReady, cache_of, side_of}
use Rattle.stage_core.specs.Standing.{l2_cache}
use Rattle.stage_core.specs.Plain.{brought, brought_from, StageRan}
use Rattle.stage_core.specs.Laws.{SecondLevelSeesAtMostTwo}
use Rattle.stage_core.specs.declared.message.Side.{Side}
use Rattle.stage_core.specs.declared.message.Side.TheVariants as side
use Rattle.stage_core.specs.declared.message.What.{What}
use Rattle.stage_core.specs.declared.message.ToStage.{ToStage}
use Rattle.stage_core.specs.declared.l1_stage.L1Stage.{L1Stage}
use Rattle.stage_core.specs.declared.l2_stage.L2Stage.{L2Stage}
use Rattle.stage_core.proofs.Place.{flat_map_with_past-more}
use Rattle.stage_core.proofs.Messages.{taken_in-messages_to, brought-messages_to}
use Rattle.stage_core.proofs.Few.{few-history}

-- the messages of the splitter to a side for the event e, which comes after these events
messages_to-event : (s : Side) (es : List DinRecord) (e : DinRecord) (place : ℕ)
    (o : Option ToStage)
    → place ≡ length es → option_to_list o ≡ map (message (place + 1)) (asked s e)
    → option_to_list o ≡ messages_to s es e
messages_to-event s es e place o at routed = routed ∙ ap (λ n. map (message (n + 1)) (asked s e)) at

-- a stage serves at most one request for each event
pub few-served : {s : Side} {stage : L1Stage} {es : List DinRecord} → StageRan s stage es
    → length es < 2 ^ 41 → served_of (cache_of stage) < 2 ^ 44
few-served {s = s} {es = es} ran short =
    omega (arith, ran.stands.cache.served, ap length (taken_in-messages_to s es), few-history s es)

-- the requests in the answer to an event are what its side sends up
pub brought-event : {s : Side} {stage : L1Stage} {es : List DinRecord} (e : DinRecord) (place : ℕ)
    (o : Option ToStage) → StageRan s stage es → place ≡ length es
    → option_to_list o ≡ map (message (place + 1)) (asked s e)
    → brought_from stage (flat_map_with_past (messages_to s) es) o
    ≡ sent_up (parts_of (rules_of (cache_of stage))) s es e
brought-event {s = s} {stage = stage} {es = es} e place o ran at routed =
    let parts : Parts = parts_of (rules_of (cache_of stage)) in
    ap (brought parts (side_of stage) (flat_map_with_past (messages_to s) es))
    (messages_to-event s es e place o at routed)
    ∙ ap (λ t. brought parts t (flat_map_with_past (messages_to s) es) (messages_to s es e))
    ran.side
    ∙ brought-messages_to parts s es e

-- a stage that has served one more event
pub ran-more : {s : Side} {old new : L1Stage} {es : List DinRecord} (e : DinRecord) (place : ℕ)
    (o : Option ToStage) → StageRan s old es → place ≡ length es
    → option_to_list o ≡ map (message (place + 1)) (asked s e)
    → side_of new ≡ side_of old → IsReady new
    → ((before : List ToStage) → StageStandsFor old before
    → StageStandsFor new (before ++ option_to_list o))
    → StageRan s new (es ++ e ∷ [])
ran-more {s = s} {new = new} {es = es} e place o ran at routed side ready stands = record {
  side = side ∙ ran.side;
  stands = subst (StageStandsFor new)
      (ap (λ l. flat_map_with_past (messages_to s) es ++ l)
      (messages_to-event s es e place o at routed)
      ∙ sym (flat_map_with_past-more (messages_to s) es e))
      (stands (flat_map_with_past (messages_to s) es) ran.stands);
  ready = ready;
}

-- one event more adds I's parts and then D's to what the second level sees
pub second_level_requests-more : (parts : Parts) (es : List DinRecord) (e : DinRecord)
    → second_level_requests parts (es ++ e ∷ []) ≡ second_level_requests parts es
    ++ (sent_up parts side.I es e ++ sent_up parts side.D es e)
second_level_requests-more parts es e = flat_map_with_past-more
    (λ before f. sent_up parts side.I before f
    ++ sent_up parts side.D before f) es e

-- the second level's history is as long as the list of what it was given
pub length-second_history : (ws : List What) → length (second_history ws) ≡ length ws
length-second_history ws = length-reverse (map read_as ws) ∙ length-map ws read_as

-- the second level can still serve the requests of one more event
pub room-above : SecondLevelSeesAtMostTwo → (c : Hierarchy) (es : List DinRecord) (e : DinRecord)
    → length es < 2 ^ 41
    → length (second_level_requests (parts_in c) es)
    + (length (sent_up (parts_in c) side.I es e) + length
    (sent_up (parts_in c) side.D es e)) ≤ 2 ^ 44
room-above few c es e short =
    let more : List What = sent_up (parts_in c) side.I es e ++ sent_up (parts_in c) side.D es e in
    omega (
      arith,
      few c (es ++ e ∷ []),
      length-second_history (second_level_requests (parts_in c) (es ++ e ∷ [])),
      ap length (second_level_requests-more (parts_in c) es e),
      length-append (second_level_requests (parts_in c) es) more,
      length-append (sent_up (parts_in c) side.I es e) (sent_up (parts_in c) side.D es e),
      length-append es (e ∷ []),
    )

-- a second level that stands for a list has served as much as the list holds
pub served-requests : {u : L2Stage} {ws : List What} → L2StandsFor u ws
    → served_of (l2_cache u) ≡ length ws
served-requests {ws = ws} st = st.cache.served ∙ length-second_history ws

abbrev pub the_hierarchy : Rules → Rules → Rules → Hierarchy
the_hierarchy i d u = record { i = i; d = d; u = u }

-- three equal rules make the same hierarchy
pub same-rules : {i d u i' d' u' : Rules} → i' ≡ i → d' ≡ d → u' ≡ u
    → the_hierarchy i' d' u' ≡ the_hierarchy i d u
same-rules {i = i} {d = d} {u = u} {i' = i'} {d' = d'} {u' = u'} ei ed eu =
    ap (λ r. the_hierarchy r d' u') ei ∙ ap (λ r. the_hierarchy i r u') ed
    ∙ ap (λ r. the_hierarchy i d r) eu
