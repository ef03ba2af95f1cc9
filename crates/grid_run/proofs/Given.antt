-- What first levels sent for the records that they were given.
use Rattle.std.proofs.Common.{◌≡◌, ◌≤◌, ◌*◌, ◌^◌, ◌++◌, ◌∷◌, [], ℕ, List, length, get_or, map}
use Rattle.std.proofs.Common.{ap, sym}
use Rattle.std.proofs.Common.{subst}
use Rattle.std.proofs.Common.{◌∙◌, append-nil, arith, length-append}
use Rattle.std.specs.Global.{Vec}
use Rattle.std.specs.List.{All}
use Rattle.std.proofs.lemmas.List.Elements.{All-cons}
use Rattle.din_trace.specs.declared.record.DinRecord.{DinRecord}
use Rattle.grid_core.proofs.ListLoops.{told-at}
use Rattle.stage_core.specs.Events.{events}
use Rattle.stage_core.specs.Laws.{SecondLevelSeesAtMostTwo, SelectionsMakeAtMostTwo}
use Rattle.stage_core.specs.SecondLevel.{second_history}
use Rattle.stage_core.proofs.Worked.{length-second_history, the_hierarchy}
use Rattle.grid_run.specs.Backs.{AreFewRequests, AreSeatedIn, HasNone, IsPlacedIn, RequestsFor}
use Rattle.grid_run.specs.Backs.{SharedSeats, SharedTask, each_task, queue_seats}
use Rattle.grid_run.specs.Senders.{seats_at}
use Rattle.grid_run.specs.Backs.{seats_of_shared, sent_behind, task_at}
use Rattle.grid_run.specs.Banks.{WasAsked, each_of}
use Rattle.grid_run.specs.FirstLevels.{FirstTask, WasGiven, first_task, numbered_by, sent_by}
use Rattle.grid_run.specs.Fronts.{front_rules}
use Rattle.grid_run.specs.Numbering.{sent_to}
use Rattle.grid_run.specs.Picking.{picked_by}
use Rattle.grid_run.specs.Seats.{SeatRules, rules_of_seat}
use Rattle.grid_run.specs.Lanes.{FirstLevelsHaveServed, HasGiven}
use Rattle.grid_run.specs.declared.bank.Bank.{Bank}
use Rattle.grid_run.specs.declared.first_levels.FirstLevels.{FirstLevels}
use Rattle.grid_run.specs.declared.lane.Lane.{Lane}
use Rattle.grid_run.specs.declared.queue.Queue.{Queue}
use Rattle.grid_run.proofs.BankLemmas.{all-behind, all-front}

-- for few records they sent few requests
pub few-sent : SecondLevelSeesAtMostTwo → SelectionsMakeAtMostTwo → (t : FirstTask)
    (records : List DinRecord) → length records ≤ 2 ^ 40 → AreFewRequests (sent_by t records)
few-sent sees makes t records few = record {
  few = λ p.
      let es = events t.selection records in
      let i = rules_of_seat t.i p.i in
      let d = rules_of_seat t.d p.d in
      let seen : length (second_history (sent_by t records p)) ≤ 2 * length es =
      sees (the_hierarchy i d d) es in
      omega (
        arith,
        seen,
        length-second_history (sent_by t records p),
        makes t.selection records,
        few,
      );
}

-- for few records second levels were asked for few requests, also while they are lent
pub few-asked : SecondLevelSeesAtMostTwo → SelectionsMakeAtMostTwo → (l : Lane) (lent : List Bank)
    (records : List DinRecord) → lent ≡ l.banks.items → length records ≤ 2 ^ 40
    → FirstLevelsHaveServed records l
    → (blocks : List ℕ) × (all : RequestsFor) × All (WasAsked blocks all) lent × AreFewRequests all
few-asked sees makes l lent records are few taken =
    let sent = sent_by (first_task l.first) taken.past in (
      numbered_by l.first,
      sent,
      subst (All (WasAsked (numbered_by l.first) sent)) (sym are) taken.lane.asked,
      few-sent sees makes (first_task l.first) taken.past (omega (arith, taken.some, few)),
    )

-- where second levels are behind seats of a lane, so are their queues
pub seated : (i d : SeatRules) (ts : List SharedTask) → All (IsPlacedIn i d) (each_of ts)
    → All (AreSeatedIn i d) (map seats_of_shared ts)
seated i d [] placed = λ k p lt. absurd (omega arith)
seated i d (t ∷ ts) placed =
    let own : AreSeatedIn i d t.seats = record {
      each = λ k p lt.
          let there = told-at (task_at t.rules) (IsPlacedIn i d) t.seats.users
          (all-front (IsPlacedIn i d) (each_task t) (each_of ts) placed) k p lt in
          record { on_i = there.on_i; on_d = there.on_d };
    } in
    All-cons (AreSeatedIn i d) t.seats (map seats_of_shared ts) own
    (seated i d ts (all-behind (IsPlacedIn i d) (each_task t) (each_of ts) placed))

-- first levels whose queues are empty have given all that they sent to the second levels
pub emptied : (f : FirstLevels) (qs : Vec Queue) (records : List DinRecord)
    (before : RequestsFor) → map queue_seats qs.items ≡ map queue_seats f.queues.items
    → All HasNone qs.items → WasGiven before records f
    → WasGiven (sent_by (first_task (record f { queues = qs })) records)
    records (record f { queues = qs })
unfolding first_task
emptied f qs records before seats none given =
    let is = map front_rules f.i.items in
    let ds = map front_rules f.d.items in
    let sent = sent_behind is ds (events (picked_by f.picker) records) in
    record {
      seated = subst (λ (ps : List SharedSeats). All (AreSeatedIn is ds) ps) (sym seats)
          given.seated;
      picked = given.picked;
      served = record {
        i = given.served.i;
        d = given.served.d;
        queues = λ k q lt.
            record {
              all = λ j inside.
                  let p = seats_at (get_or qs.items k q).users.items j in
                  sym (ap (λ ws. sent p ++ sent_to j ws) (none k q lt).none
                  ∙ append-nil (sent p));
            };
      };
    }

-- a lane whose second levels were given all has taken the records
pub taken-all : {l : Lane} {records : List DinRecord} → HasGiven records records l
    → FirstLevelsHaveServed records l
taken-all {records = records} given =
    record { past = records; some = omega (arith); lane = given }

-- a lane has taken more where its first levels were given more
pub taken-more : {l m : Lane} {records more : List DinRecord} → FirstLevelsHaveServed records l
    → ((past : List DinRecord) (rs : List DinRecord) → HasGiven past rs l
    → HasGiven past (rs ++ more) m) → FirstLevelsHaveServed (records ++ more) m
taken-more {records = records} {more = more} taken given = record {
  past = taken.past;
  some = omega (arith, taken.some, length-append records more);
  lane = given taken.past records taken.lane;
}
