-- A selection makes at most two events of a record, and an event makes at most two requests to the
-- second level, on the whole.
use Rattle.std.proofs.Common.{◌≡◌, ℕ, ◌+◌, ◌*◌, ◌≤◌, Bool, true, false, List, [], ◌∷◌, ◌++◌, length}
use Rattle.std.proofs.Common.{map, Option, Some, None, is_some, option_to_list, count_by}
use Rattle.std.proofs.Common.{refl, ap, append-nil, arith, length-append}
use Rattle.std.specs.List.{flat_map}
use Rattle.std.proofs.lemmas.List.{length-map, length-reverse}
use Rattle.cache_core.specs.declared.access.Access.{Access}
use Rattle.cache_core.specs.declared.access.Outcome.{Outcome}
use Rattle.cache_core.specs.History.{Rules, History, Event, access, flush, block_of, is_write}
use Rattle.cache_core.specs.Parts.{outcome_of, part_count, one_if as one_counted}
use Rattle.cache_core.specs.Residents.{renewals}
use Rattle.cache_core.specs.Dirty.{dirty_blocks}
use Rattle.cache_core.specs.Laws.{PartsAreCharged, FlushesLeaveNoneDirty}
use Rattle.din_trace.specs.declared.record.DinRecord.{DinRecord}
use Rattle.din_trace.specs.declared.record.Label.{Label}
use Rattle.din_trace.specs.declared.record.Label.TheVariants as label
use Rattle.stage_core.specs.Places.{flat_map_after, list_if}
use Rattle.stage_core.specs.Events.{asked, asked_by, newest_first, history, events_at}
use Rattle.stage_core.specs.Events.{picked_events, picked, is_reference, inserted_flush}
use Rattle.stage_core.specs.SecondLevel.{Hierarchy, rules_at, parts_in, parts_of, back}
use Rattle.stage_core.specs.SecondLevel.{access_parts, flush_all, fetch_class, sent_up, read_as}
use Rattle.stage_core.specs.SecondLevel.{second_level_requests}
use Rattle.stage_core.specs.Laws.{SecondLevelSeesAtMostTwo, SelectionsMakeAtMostTwo}
use Rattle.stage_core.specs.declared.selection.Selection.{Selection}
use Rattle.stage_core.specs.declared.selection.Picked.{Picked}
use Rattle.stage_core.specs.declared.message.Side.{Side}
use Rattle.stage_core.specs.declared.message.Side.TheVariants as side
use Rattle.stage_core.specs.declared.message.What.{What}
use Rattle.stage_core.specs.declared.message.What.TheVariants as what
use Rattle.stage_core.proofs.Stands.{history-more}

length-list_if : {A : Type 0} (b : Bool) (x : A) → length (list_if b x) ≡ one_counted b
length-list_if true x = refl
length-list_if false x = refl

length-option : {A : Type 0} (o : Option A) → length (option_to_list o) ≡ one_counted (is_some o)
length-option None = refl
length-option (Some x) = refl

length-access_parts : (s : Side) (first : ℕ) (x : Access) (o : Outcome)
    → length (access_parts s first x o) ≡ part_count o
length-access_parts s first x o =
    let backs : List What = map back (option_to_list o.back) in
    let fetches : List What = list_if o.fetch (what.Fetch (fetch_class s) first) in
    let throughs : List What = list_if o.through (what.Through x.addr) in
    omega (
      arith,
      length-append (backs ++ fetches) throughs,
      length-append backs fetches,
      length-map (option_to_list o.back) back,
      length-option o.back,
      length-list_if o.fetch (what.Fetch (fetch_class s) first),
      length-list_if o.through (what.Through x.addr),
    )

-- how many parts an event may send, now or later as write-backs
abbrev weight : Event → ℕ
weight (access x) = 1 + one_counted (is_write x)
weight flush = 1

few-flush_all : (s : Side) → length (flush_all s) ≤ 1
few-flush_all side.I = omega arith
few-flush_all side.D = omega arith

abbrev weights : List Event → ℕ
weights [] = 0
weights (e ∷ es) = weight e + weights es

-- a label asks a side for one access or flush at most
pub few-asked : (s : Side) (l : Label) (a : ℕ) → length (asked_by s l a) ≤ 1
few-asked side.I label.Read a = omega arith
few-asked side.I label.Write a = omega arith
few-asked side.I label.Instr a = omega arith
few-asked side.I label.Misc a = omega arith
few-asked side.I label.Flush a = omega arith
few-asked side.D label.Read a = omega arith
few-asked side.D label.Write a = omega arith
few-asked side.D label.Instr a = omega arith
few-asked side.D label.Misc a = omega arith
few-asked side.D label.Flush a = omega arith

few-weights : (l : Label) (a : ℕ) → weights (asked_by side.I l a) + weights (asked_by side.D l a)
    ≤ 2
few-weights label.Read a = omega arith
few-weights label.Write a = omega arith
few-weights label.Instr a = omega arith
few-weights label.Misc a = omega arith
few-weights label.Flush a = omega arith

-- so a side has at most as many accesses and flushes as there are events
pub few-history : (s : Side) (es : List DinRecord) → length (history s es) ≤ length es
few-history s [] = omega arith
few-history s (e ∷ es) =
    omega (
      arith,
      few-history s es,
      few-asked s e.label e.addr,
      length-append (asked s e) (flat_map (asked s) es),
      length-reverse (flat_map (asked s) es),
      length-reverse (asked s e ++ flat_map (asked s) es),
    )

module _ (accesses : PartsAreCharged) (flushes : FlushesLeaveNoneDirty) where
  -- how many write-backs are still to come: one for each dirty block
  abbrev owed : Rules → History → ℕ
  owed r h = length (dirty_blocks r h)

  event_pays : (r : Rules) (s : Side) (h : History) (e : Event)
      → length (parts_of r s h e) + owed r (e ∷ h) ≤ owed r h + weight e
  unfolding parts_of
  event_pays r s h (access x) = omega (
    arith,
    accesses r h x,
    length-access_parts s (block_of r x * r.bsize) x (outcome_of r h x),
  )
  event_pays r s h flush =
      let firsts : List ℕ = map (λ b. b * r.bsize) (dirty_blocks r h) in
      omega (
        arith,
        ap length (flushes r h),
        few-flush_all s,
        length-append (map back firsts) (flush_all s),
        length-map firsts back,
        length-map (dirty_blocks r h) (λ b. b * r.bsize),
      )

  events_pay : (r : Rules) (s : Side) (h : History) (es : List Event) → length es ≤ 1
      → length (flat_map (parts_of r s h) es) + owed r (newest_first es ++ h)
      ≤ owed r h + weights es
  events_pay r s h [] le = omega arith
  events_pay r s h (e ∷ []) le = omega (
    arith,
    event_pays r s h e,
    ap length (append-nil (parts_of r s h e)),
  )
  events_pay r s h (e ∷ f ∷ es) le = absurd (omega arith)

  module _ (c : Hierarchy) where
    abbrev owed_at : Side → List DinRecord → ℕ
    owed_at s es = owed (rules_at c s) (history s es)

    side_pays : (s : Side) (before : List DinRecord) (e : DinRecord)
        → length (sent_up (parts_in c) s before e) + owed_at s (before ++ e ∷ [])
        ≤ owed_at s before + weights (asked s e)
    side_pays s before e =
        omega (
          arith,
          events_pay (rules_at c s) s (history s before) (asked s e)
              (few-asked s e.label e.addr),
          ap (owed (rules_at c s)) (history-more s before e),
        )

    abbrev ups : List DinRecord → DinRecord → List What
    ups before e = sent_up (parts_in c) side.I before e ++ sent_up (parts_in c) side.D before e

    few-ups : (before es : List DinRecord) → length (flat_map_after ups before es)
        ≤ owed_at side.I before + owed_at side.D before + 2 * length es
    few-ups before [] = omega arith
    few-ups before (e ∷ es) =
        omega (
          arith,
          few-ups (before ++ e ∷ []) es,
          side_pays side.I before e,
          side_pays side.D before e,
          few-weights e.label e.addr,
          length-append (ups before e) (flat_map_after ups (before ++ e ∷ []) es),
          length-append (sent_up (parts_in c) side.I before e)
              (sent_up (parts_in c) side.D before e),
        )

  nothing-owed : (r : Rules) → owed r [] ≡ 0
  unfolding dirty_blocks renewals
  nothing-owed r = refl

  -- the second level sees at most two requests for each event
  pub few-second_level_requests : SecondLevelSeesAtMostTwo
  few-second_level_requests c es =
      omega (
        arith,
        few-ups c [] es,
        nothing-owed c.i,
        nothing-owed c.d,
        length-reverse (map read_as (second_level_requests (parts_in c) es)),
        length-map (second_level_requests (parts_in c) es) read_as,
      )

few-one : (b : Bool) → one_counted b ≤ 1
few-one true = omega arith
few-one false = omega arith

few-picked : (p : Picked) → length (picked_events p) ≤ 2
few-picked p =
    omega (
      arith,
      length-append (option_to_list p.event) (list_if p.flush inserted_flush),
      length-option p.event,
      length-list_if p.flush inserted_flush,
      few-one (is_some p.event),
      few-one p.flush,
    )

few-flat_map_after : (s : Selection) (before xs : List DinRecord)
    → length (flat_map_after (events_at s) before xs) ≤ 2 * length xs
few-flat_map_after s before [] = omega arith
few-flat_map_after s before (x ∷ xs) =
    omega (
      arith,
      few-flat_map_after s (before ++ x ∷ []) xs,
      few-picked (picked s (count_by is_reference (before ++ x ∷ [])) x),
      length-append (events_at s before x) (flat_map_after (events_at s) (before ++ x ∷ []) xs),
    )

-- a selection makes at most two events of each record
pub few-events : SelectionsMakeAtMostTwo
few-events s records = few-flat_map_after s [] records
