use Rattle.std.proofs.Common.{◌∷◌, [], List, length, map, ap, sym, subst, ◌∙◌, arith}
use Rattle.std.specs.Global.{Vec}
use Rattle.std.proofs.lemmas.List.{length-map}
use Rattle.cache_core.specs.History.{Rules}
use Rattle.cache_core.specs.declared.policy.Policy.{Policy}
use Rattle.grid_core.specs.Standing.{stack_rules}
use Rattle.grid_run.specs.Backs.{each_task, task_at}
use Rattle.grid_run.specs.Senders.{MayShare}
use Rattle.grid_run.specs.Twins.{twin_rules}
use Rattle.grid_run.specs.declared.seat.BothSeats.{BothSeats}
use Rattle.grid_run.proofs.Alikes.{may-share, seats_before, tasks-same}
use Rattle.grid_run.proofs.backs.twins_for.Goals as goal

pub new-requires-2-clause-share : goal.new-requires-2-clause-share
new-requires-2-clause-share c =
    let asked = c.requires in
    subst (λ (ps : List BothSeats). MayShare ps) (sym c.in_ok-users.ensures)
    (may-share c.args.shelves.now asked.some asked.few asked.alike)

pub returns : goal.returns
returns c =
    let ss = c.args.shelves.now in
    let first = c.index-shelves-0.result in
    let twins = c.in_ok-twins.twins in
    let rs = twin_rules twins ∷ [] in
    let own = c.requires.rules first
    ∙ ap (λ (r : Rules). r ∷ []) (sym (c.in_ok-twins.ensures.rules
    ∙ ap (λ (p : Policy). stack_rules c.args.geometry p.wback) c.policy.ensures)) in
    record {
      tasks = ap each_task c.new-2.ensures.task
          ∙ ap (λ (ps : List BothSeats). map (task_at rs) ps) c.in_ok-users.ensures
          ∙ tasks-same rs ss (λ k d lt. (c.requires.alike first k d lt).rules ∙ own);
      asked = λ blocks. c.new-2.ensures.asked blocks (λ q lt.
          c.in_ok-twins.ensures.stands blocks q (omega (arith, lt, c.in_ok-twins.ensures.users)));
      settled = c.new-2.ensures.settled;
      users = ap (λ (v : Vec BothSeats). length v.items) c.new-2.ensures.users
          ∙ ap length c.in_ok-users.ensures ∙ length-map ss seats_before;
    }
