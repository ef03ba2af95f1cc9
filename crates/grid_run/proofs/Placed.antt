-- Where the caches of a configuration are in a lane.
use Rattle.std.proofs.Common.{◌≡◌, ℕ, ◌++◌, ◌∷◌, [], List, get_or, map, ap, sym, subst}
use Rattle.std.proofs.Common.{◌∙◌, append_assoc}
use Rattle.std.proofs.Common.{Result, Ok, Err, OnOk}
use Rattle.std.specs.List.{All}
use Rattle.cache_core.specs.History.{Rules}
use Rattle.din_trace.specs.declared.record.DinRecord.{DinRecord}
use Rattle.stage_core.specs.SecondLevel.{Hierarchy, parts_in, second_level_requests}
use Rattle.stage_core.specs.declared.selection.Selection.{Selection}
use Rattle.stage_core.specs.declared.message.Side.TheVariants as side
use Rattle.stage_core.proofs.Worked.{second_level_requests-more, the_hierarchy}
use Rattle.grid_run.specs.Backs.{AreSeatedIn, AreSeatedOn, AreWaiting, BackTask, RequestsFor}
use Rattle.grid_run.specs.Backs.{SharedSeats, followed_by, parts_at, sent_behind}
use Rattle.grid_run.specs.Senders.{seats_at}
use Rattle.grid_run.specs.Backs.{sent_on_side}
use Rattle.grid_run.specs.Banks.{IsUserAt, each_of, tasks_of_banks}
use Rattle.grid_run.specs.FirstLevels.{FirstTask, HasServed}
use Rattle.grid_run.specs.Fronts.{front_rules}
use Rattle.grid_run.specs.Lanes.{LaneTask, lane_task}
use Rattle.grid_run.specs.Rows.{IsBackOf, IsPlaceIn}
use Rattle.grid_run.specs.Seats.{IsCellOf, SeatRules, rules_of_seat}
use Rattle.grid_run.specs.SecondCaches.{second_rules}
use Rattle.grid_run.specs.declared.back.Back.{Back}
use Rattle.grid_run.specs.declared.first_levels.FirstLevels.{FirstLevels}
use Rattle.grid_run.specs.declared.lane.Lane.{Lane}
use Rattle.grid_run.specs.declared.picker.Picker.{Picker}
use Rattle.grid_run.specs.declared.plan.Place.{Place}
use Rattle.grid_run.specs.declared.queue.Queue.{Queue}
use Rattle.grid_run.specs.declared.seat.BothSeats.{BothSeats}

-- what follows from two facts of the answer Ok
pub on-ok-both : {T E A B C : Type 0} (r : Result T E) → (A → B → C) → OnOk r A → OnOk r B
    → OnOk r C
on-ok-both (Ok t) f a b = f a b
on-ok-both (Err e) f a b = tt

-- and from three
pub on-ok-all : {T E A B C D : Type 0} (r : Result T E) → (A → B → C → D) → OnOk r A → OnOk r B
    → OnOk r C → OnOk r D
on-ok-all (Ok t) f a b c = f a b c
on-ok-all (Err e) f a b c = tt

-- what follows where the answer is Ok
pub ok-so : {T E P : Type 0} (r : Result T E) {v : T} → r ≡ Ok v → OnOk r P → P
ok-so (Ok t) is p = p
ok-so (Err e) is p = absurd cc

-- first levels with another picker have served the same
pub served-by-same : (given : RequestsFor) (p : Picker) (f : FirstLevels) (es : List DinRecord)
    → HasServed given es f → HasServed given es (record f { picker = p })
served-by-same given p f es served =
    record { i = served.i; d = served.d; queues = served.queues }

-- seats of caches of both sides are seats of caches of each
pub seated-on-i : {i d : SeatRules} (ps : List SharedSeats) → All (AreSeatedIn i d) ps
    → All (AreSeatedOn side.I i) ps
seated-on-i ps all k p lt =
    record { each = λ j q inside. record { seat = ((all k p lt).each j q inside).on_i } }

pub seated-on-d : {i d : SeatRules} (ps : List SharedSeats) → All (AreSeatedIn i d) ps
    → All (AreSeatedOn side.D d) ps
seated-on-d ps all k p lt =
    record { each = λ j q inside. record { seat = ((all k p lt).each j q inside).on_d } }

-- what both sides send for one more event comes after all before
pub both-sides : (i d : SeatRules) (es : List DinRecord) (e : DinRecord) (p : BothSeats)
    → followed_by (followed_by (sent_behind i d es) (sent_on_side side.I i es e))
    (sent_on_side side.D d es e) p
    ≡ sent_behind i d (es ++ e ∷ []) p
both-sides i d es e p =
    append_assoc (sent_behind i d es p) (sent_on_side side.I i es e p)
    (sent_on_side side.D d es e p)
    ∙ sym (second_level_requests-more (parts_at i d p) es e)

-- what waits behind caches of the same rules
pub served-same : {i i' d d' : SeatRules} (given : RequestsFor) (es : List DinRecord)
    (qs : List Queue) → i ≡ i' → d ≡ d' → All (AreWaiting given (sent_behind i' d' es)) qs
    → All (AreWaiting given (sent_behind i d es)) qs
served-same {i' = i'} {d = d} given es qs on_i on_d all =
    subst (λ (t : SeatRules). All (AreWaiting given (sent_behind t d es)) qs) (sym on_i)
    (subst (λ (t : SeatRules). All (AreWaiting given (sent_behind i' t es)) qs) (sym on_d) all)

module _ (l : Lane) (c : Hierarchy) (s : Selection) (p : Place)
    (place : IsPlaceIn (lane_task l) c s p) (b : Back) (k : ℕ)
    (at : IsUserAt (each_of (tasks_of_banks l.banks.items)) p.u.family b k) where
  -- what is done at the place
  abbrev here : BackTask
  here = record { i = p.i; d = p.d; rules = [] }

  -- the second levels at the place are those of the configuration
  pub back-there : IsBackOf (get_or (each_of (tasks_of_banks l.banks.items)) p.u.family here) c p
  unfolding lane_task
  back-there = place.back here

  -- its cell is one of theirs
  pub cell-there : IsCellOf (second_rules b.second.caches) c.u p.u.cell
  cell-there = subst (λ rs. IsCellOf rs c.u p.u.cell) (at.rules here) back-there.cell

  -- and they get what the first level of the configuration sends
  pub requests-there : (es : List DinRecord) →
      sent_behind (map front_rules l.first.i.items) (map front_rules l.first.d.items) es
      (seats_at b.users.items k)
      ≡ second_level_requests (parts_in c) es
  unfolding lane_task
  requests-there es =
      let is = map front_rules l.first.i.items in
      let ds = map front_rules l.first.d.items in
      let there = seats_at b.users.items k in
      let on-i = ap (λ (q : BothSeats). q.i) (sym (at.seats here)) ∙ back-there.on_i in
      let on-d = ap (λ (q : BothSeats). q.d) (sym (at.seats here)) ∙ back-there.on_d in
      ap (λ (r : Rules). second_level_requests
      (parts_in (the_hierarchy r (rules_of_seat ds there.d) c.u)) es)
      (ap (rules_of_seat is) on-i ∙ place.i.rules)
      ∙ ap (λ (r : Rules). second_level_requests (parts_in (the_hierarchy c.i r c.u)) es)
      (ap (rules_of_seat ds) on-d ∙ place.d.rules)

-- first levels of equal parts
abbrev first_of : Selection → SeatRules → SeatRules → List SharedSeats → FirstTask
first_of s i d ps = record { selection = s; i = i; d = d; seats = ps }

pub same-first : {s s' : Selection} {i i' d d' : SeatRules} {ps ps' : List SharedSeats} → s ≡ s'
    → i ≡ i' → d ≡ d' → ps ≡ ps' → first_of s i d ps ≡ first_of s' i' d' ps'
same-first o p q r = cc

-- lanes of equal parts
abbrev lane_of : Selection → SeatRules → SeatRules → List BackTask → LaneTask
lane_of s i d bs = record { selection = s; i = i; d = d; backs = bs }

pub same-lane : {s s' : Selection} {i i' d d' : SeatRules} {bs bs' : List BackTask} → s ≡ s'
    → i ≡ i' → d ≡ d' → bs ≡ bs' → lane_of s i d bs ≡ lane_of s' i' d' bs'
same-lane o p q r = cc
