-- A selection that takes all makes each record an event.
use Rattle.std.proofs.Common.{◌≡◌, ◌<◌, ◌+◌, ◌++◌, ◌∷◌, [], ℕ, List, Bool, cond, true}
use Rattle.std.proofs.Common.{refl, ap, ◌∙◌, arith, count_by}
use Rattle.std.proofs.lemmas.List.Sums.{fold_push}
use Rattle.din_trace.specs.declared.record.DinRecord.{DinRecord}
use Rattle.din_trace.specs.declared.record.Label.{Label}
use Rattle.stage_core.specs.Events.{TakesAll, events, events_at, is_reference, picked}
use Rattle.stage_core.specs.Events.{picked_events}
use Rattle.stage_core.specs.Places.{flat_map_after}
use Rattle.stage_core.specs.declared.selection.Selection.{Selection}

-- what is last in a list counts, if it is of those that count
counts-last : {X : Type 0} (p : X → Bool) (xs : List X) (x : X) → p x ≡ true
    → 0 < count_by p (xs ++ x ∷ [])
counts-last {X = X} p xs x is =
    let more : count_by p (xs ++ x ∷ []) ≡ count_by p xs + cond (p x) 1 0 =
    fold_push (λ (n : ℕ) (y : X). n + cond (p y) 1 0) 0 xs x in
    let one = ap (λ b. cond {A = ℕ} b 1 0) is in
    omega (arith, more, one)

-- the record is picked, and no flush is put in behind it
picks-it : (s : Selection) → TakesAll s → (l : Label) (a r : ℕ)
    → (is_reference (record { label = l; addr = a }) ≡ true → 0 < r)
    → picked_events (picked s r (record { label = l; addr = a }))
    ≡ record { label = l; addr = a } ∷ []
picks-it s t l a r some = grind (arith, t.skip, t.max, t.every, some)

-- the events of a record are the record
pub event-itself : (s : Selection) → TakesAll s → (before : List DinRecord) (x : DinRecord)
    → events_at s before x ≡ x ∷ []
event-itself s t before x =
    picks-it s t x.label x.addr (count_by is_reference (before ++ x ∷ []))
    (counts-last is_reference before x)

-- of all records, those that follow others
events-behind : (s : Selection) → TakesAll s → (before records : List DinRecord)
    → flat_map_after (events_at s) before records ≡ records
events-behind s t before [] = refl
events-behind s t before (x ∷ records) =
    ap (λ (l : List DinRecord). l ++ flat_map_after (events_at s) (before ++ x ∷ []) records)
    (event-itself s t before x)
    ∙ ap (λ (l : List DinRecord). x ∷ l) (events-behind s t (before ++ x ∷ []) records)

-- the events of a trace are its records
pub events-themselves : (s : Selection) → TakesAll s → (records : List DinRecord)
    → events s records ≡ records
events-themselves s t records = events-behind s t [] records
