use Rattle.std.proofs.Common.{◌≡◌, ◌<◌, ℕ, List, length, map, ap, sym, subst, ◌∙◌, arith}
use Rattle.std.specs.List.{All}
use Rattle.cache_core.specs.Counts.{counts_of}
use Rattle.cache_core.specs.History.{Rules}
use Rattle.cache_core.specs.declared.counts.Counts.{Counts}
use Rattle.cache_core.specs.declared.counts.PerClass.{PerClass}
use Rattle.din_trace.specs.declared.record.DinRecord.{DinRecord}
use Rattle.stage_core.specs.Events.{events, history}
use Rattle.stage_core.specs.SecondLevel.{Hierarchy, parts_in, second_history, second_level_requests}
use Rattle.stage_core.specs.declared.message.What.{What}
use Rattle.stage_core.specs.declared.message.Side.TheVariants as side
use Rattle.stage_core.specs.declared.selection.Selection.{Selection}
use Rattle.grid_core.specs.FullyAssociative.{shadow_misses}
use Rattle.grid_run.specs.Backs.{BackTask, WereAsked, sent_behind}
use Rattle.grid_run.specs.Banks.{IsUserAt, NothingWaitsIn, WasAsked, each_of, tasks_of_banks}
use Rattle.grid_run.specs.FirstLevels.{HasServed, first_task, numbered_by, sent_by}
use Rattle.grid_run.specs.Fronts.{FrontAt, front_rules}
use Rattle.grid_run.specs.Lanes.{lane_task}
use Rattle.grid_run.specs.SecondCaches.{SecondStandsBy, second_users}
use Rattle.grid_run.specs.Picking.{picked_by}
use Rattle.grid_run.specs.Rows.{IsPlaceIn}
use Rattle.grid_run.specs.declared.back.Back.{Back}
use Rattle.grid_run.specs.declared.bank.Bank.{Bank}
use Rattle.grid_run.specs.declared.figures.Figures.{Figures}
use Rattle.grid_run.specs.declared.lane.Lane.{Lane}
use Rattle.grid_run.specs.declared.plan.Place.{Place}
use Rattle.grid_run.proofs.Behind.{at-seat, rules-seated}
use Rattle.grid_run.proofs.Placed.{cell-there, requests-there}
use Rattle.grid_run.proofs.Shelves.{seat-there}
use Rattle.grid_run.proofs.Rooms.{settled-served}
use Rattle.grid_run.proofs.lane.Lane.figures.Goals as goal

abbrev made : (i d u : Counts) (i' d' u' : PerClass) → Figures
made i d u i' d' u' = record {
  totals = record { i = i; d = d; u = u };
  shadows = record { i = i'; d = d'; u = u' };
}

-- figures of equal parts
same-figures : {i j d e u v : Counts} {i' j' d' e' u' v' : PerClass} → i ≡ j → d ≡ e → u ≡ v
    → i' ≡ j' → d' ≡ e' → u' ≡ v' → made i d u i' d' u' ≡ made j e v j' e' v'
same-figures p q r p' q' r' = cc

-- the place is one of the banks of the lane
place-inside : (l : Lane) (c : Hierarchy) (s : Selection) (p : Place)
    → IsPlaceIn (lane_task l) c s p → (banks : List Bank) → banks ≡ l.banks.items
    → p.u.family < length (each_of (tasks_of_banks banks))
unfolding lane_task
place-inside l c s p place banks is = subst (λ (bs : List Bank).
    p.u.family < length (each_of (tasks_of_banks bs))) (sym is) place.family

-- the user that was found in them is that of the lane at this index
user-there : (banks items : List Bank) → banks ≡ items → (b : Back) (index k : ℕ)
    → IsUserAt (each_of (tasks_of_banks banks)) index b k
    → IsUserAt (each_of (tasks_of_banks items)) index b k
user-there banks items is b index k at =
    subst (λ (bs : List Bank). IsUserAt (each_of (tasks_of_banks bs)) index b k) is at

-- a user of second levels is one of their caches
user-inside : {ts : List BackTask} {index k : ℕ} (b : Back) → IsUserAt ts index b k
    → k < second_users b.second.caches
user-inside b at = omega (arith, at.inside, b.as_many)

pub back_at-user-requires : goal.back_at-user-requires
back_at-user-requires c =
    place-inside c.args.self.now c.requires.0 c.requires.1 c.args.place.now c.requires.2
    c.deref.result.now c.deref.ensures.value

pub counts-requires-3 : goal.counts-requires-3
counts-requires-3 c =
    let l = c.args.self.now in
    let p = c.args.place.now in
    let b = c.back_at-user.result.0.now in
    let k = c.back_at-user.result.1 in
    let at = user-there c.deref.result.now l.banks.items c.deref.ensures.value b p.u.family k
    c.back_at-user.ensures.user in
    record {
      user = user-inside b c.back_at-user.ensures.user;
      cell = (cell-there l c.requires.0 c.requires.1 p c.requires.2 b k at).inside;
    }

pub shadow_misses-requires-3 : goal.shadow_misses-requires-3
shadow_misses-requires-3 c =
    let l = c.args.self.now in
    let p = c.args.place.now in
    let b = c.back_at-user.result.0.now in
    let k = c.back_at-user.result.1 in
    let at = user-there c.deref.result.now l.banks.items c.deref.ensures.value b p.u.family k
    c.back_at-user.ensures.user in
    record {
      user = user-inside b c.back_at-user.ensures.user;
      cell = (cell-there l c.requires.0 c.requires.1 p c.requires.2 b k at).inside;
    }

pub returns : goal.returns
unfolding lane_task first_task
returns c = λ rules chosen past place taken.
    let l = c.args.self.now in
    let p = c.args.place.now in
    let fi = c.index.result.now in
    let fd = c.index-2.result.now in
    let b = c.back_at-user.result.0.now in
    let k = c.back_at-user.result.1 in
    let sel : events (picked_by l.first.picker) past ≡ events chosen past =
    ap (λ (s : Selection). events s past) place.selection in
    let es : List DinRecord = events chosen past in
    let f = l.first in
    let blocks = numbered_by f in
    let given = sent_by (first_task f) past in
    let served = subst (λ (rs : List DinRecord). HasServed given rs f) sel
    taken.lane.given.served in
    let on-i = seat-there place.i in
    let on-d = seat-there place.d in
    let h-i = history side.I es in
    let h-d = history side.D es in
    let st-i = at-seat f.i.items p.i fi c.index.ensures on-i (FrontAt blocks h-i) served.i in
    let st-d = at-seat f.d.items p.d fd c.index-2.ensures on-d (FrontAt blocks h-d) served.d in
    let are = c.deref.ensures.value in
    let at = user-there c.deref.result.now l.banks.items are b p.u.family k
    c.back_at-user.ensures.user in
    let were = c.back_at-user.ensures.asked blocks _
    (subst (All (WasAsked blocks _)) (sym are) taken.lane.asked) in
    let asked = subst (λ (rs : List DinRecord). WereAsked blocks
    (sent_behind (map front_rules f.i.items) (map front_rules f.d.items) rs) b) sel were in
    let settled = c.back_at-user.ensures.settled
    (subst (All NothingWaitsIn) (sym are) taken.idle) in
    let st-u = subst (λ (ws : List What). SecondStandsBy blocks b.second.caches k
    (second_history ws))
    (requests-there l rules chosen p place b k at es)
    (settled-served _ b.second _ asked.second settled k (user-inside b at)) in
    let h-u = second_history (second_level_requests (parts_in rules) es) in
    let rules-i = rules-seated f.i.items p.i fi c.index.ensures on-i ∙ place.i.rules in
    let rules-d = rules-seated f.d.items p.d fd c.index-2.ensures on-d ∙ place.d.rules in
    let rules-u = (cell-there l rules chosen p place b k at).rules in
    let i = c.counts.ensures _ h-i st-i.stands ∙ ap (λ (r : Rules). counts_of r h-i) rules-i in
    let d = c.counts-2.ensures _ h-d st-d.stands ∙ ap (λ (r : Rules). counts_of r h-d) rules-d in
    let u = c.counts-3.ensures _ h-u st-u ∙ ap (λ (r : Rules). counts_of r h-u) rules-u in
    let i' = c.shadow_misses.ensures _ h-i st-i.stands
    ∙ ap (λ (r : Rules). shadow_misses r h-i) rules-i in
    let d' = c.shadow_misses-2.ensures _ h-d st-d.stands
    ∙ ap (λ (r : Rules). shadow_misses r h-d) rules-d in
    let u' = c.shadow_misses-3.ensures _ h-u st-u
    ∙ ap (λ (r : Rules). shadow_misses r h-u) rules-u in
    same-figures i d u i' d' u'
