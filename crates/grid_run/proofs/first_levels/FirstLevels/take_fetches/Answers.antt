use Rattle.std.proofs.Common.{◌++◌, List, get_or, map, take, refl, subst, sym, arith}
use Rattle.std.specs.List.{All}
use Rattle.cache_core.specs.History.{History}
use Rattle.din_trace.specs.declared.record.DinRecord.{DinRecord}
use Rattle.grid_core.specs.Numbered.{blocks_in}
use Rattle.grid_core.proofs.ListLoops.{told-at}
use Rattle.stage_core.specs.Events.{events}
use Rattle.stage_core.proofs.Selections.{events-themselves}
use Rattle.grid_run.specs.Backs.{AreSeatedIn, parts_at, queue_seats, sent_behind}
use Rattle.grid_run.specs.Senders.{no_seats, seats_at}
use Rattle.grid_run.specs.FirstLevels.{AreSeated, HasServed, first_task}
use Rattle.grid_run.specs.Fronts.{FrontAt, front_rules}
use Rattle.grid_run.specs.Picking.{picked_by}
use Rattle.grid_run.proofs.Behind.{waiting-same}
use Rattle.grid_run.proofs.Fetching.{data-stay, requests-stay}
use Rattle.grid_run.proofs.Placed.{same-first, served-same}
use Rattle.grid_run.proofs.StayNumbered.{queues-same}
use Rattle.grid_run.proofs.first_levels.FirstLevels.take_fetches.Goals as goal

pub serve_fetches-requires : goal.serve_fetches-requires
serve_fetches-requires c =
    let room = c.requires.room in
    let sel = picked_by c.args.self.now.picker in
    let few = c.selections_make_at_most_two.ensures sel room.1 in
    record {
      room = (_, events sel room.1, room.2.served.i, omega (arith, few, room.3));
    }

pub returns-clause-given : goal.returns-clause-given
unfolding first_task queue_seats
returns-clause-given c = λ given past was.
    let f = c.args.self.now in
    let more = take c.serve_fetches.result c.args.part.now in
    let done = c.serve_fetches.ensures in
    let is = map front_rules f.i.items in
    let ds = map front_rules f.d.items in
    let qs = f.queues.items in
    let sel = picked_by f.picker in
    let takes = c.if-not-is_whole.ensures.takes refl in
    let served = subst (λ (es : List DinRecord). HasServed given es f)
    (events-themselves sel takes past) was.served in
    record {
      seated = subst AreSeated (sym (same-first {s = sel} refl done.rules refl refl)) was.seated;
      picked = c.if-not-is_whole.ensures.picked refl (past ++ more);
      served = subst (λ (es : List DinRecord). HasServed given es
          (record f { i = c.serve_fetches.new.fronts }))
          (sym (events-themselves sel takes (past ++ more)))
          (record {
            i = done.stands _ past served.i;
            d = subst (λ (h : History). All (FrontAt (blocks_in f.numbers) h) f.d.items)
                (data-stay past more done.no_data) served.d;
            queues = served-same given (past ++ more) qs done.rules refl
                (waiting-same given (sent_behind is ds past) (sent_behind is ds (past ++ more)) qs
                (λ k q j lt inside.
                let here = told-at queue_seats (AreSeatedIn is ds) qs was.seated k q lt in
                let on = here.each j no_seats inside in
                requests-stay (parts_at is ds (seats_at (get_or qs k q).users.items j)) past more
                (done.silent _ past served.i _ on.on_i) done.no_data)
                served.queues);
          });
    }

pub returns-clause-numbers : goal.returns-clause-numbers
returns-clause-numbers c = queues-same _ _

pub returns-clause-task : goal.returns-clause-task
unfolding first_task
returns-clause-task c = same-first refl c.serve_fetches.ensures.rules refl refl
