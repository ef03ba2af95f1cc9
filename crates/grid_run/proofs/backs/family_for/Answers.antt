use Rattle.std.proofs.Common.{◌≡◌, ℕ, List, length, get_or, map, ap, sym, ◌∙◌, arith}
use Rattle.std.specs.Global.{Vec}
use Rattle.std.proofs.lemmas.List.{get_or_default, length-map}
use Rattle.grid_run.specs.Backs.{each_task, task_at}
use Rattle.grid_run.specs.Families.{family_rules}
use Rattle.grid_run.specs.Seats.{rules_on}
use Rattle.grid_run.specs.declared.plan.BackShelf.{BackShelf}
use Rattle.grid_run.specs.declared.seat.BothSeats.{BothSeats}
use Rattle.grid_run.proofs.Alikes.{seats_before, tasks-same}
use Rattle.grid_run.proofs.backs.family_for.Goals as goal

pub returns : goal.returns
returns c =
    let ss = c.args.shelves.now in
    let first = c.index-shelves-0.result in
    let rs = family_rules c.in_ok-family.family in
    record {
      tasks = ap each_task c.new-2.ensures.task
          ∙ ap (λ (ps : List BothSeats). map (task_at rs) ps) c.in_ok-users.ensures
          ∙ tasks-same rs ss (λ k d lt.
          let at : k ≡ 0 = omega (arith, lt, c.requires) in
          ap (λ (j : ℕ). rules_on (get_or ss j d).shelf) at
          ∙ ap (λ (s : BackShelf). rules_on s.shelf)
          (get_or_default ss 0 d first (omega (arith, c.requires)))
          ∙ sym c.in_ok-family.ensures.rules);
      asked = λ blocks. c.new-2.ensures.asked blocks (λ q lt.
          c.in_ok-family.ensures.stands blocks);
      settled = c.new-2.ensures.settled;
      users = ap (λ (v : Vec BothSeats). length v.items) c.new-2.ensures.users
          ∙ ap length c.in_ok-users.ensures ∙ length-map ss seats_before;
    }
