use Rattle.std.proofs.Common.{◌++◌, [], List, get_or, map, take, ap, sym, ◌∙◌}
use Rattle.std.proofs.lemmas.List.{flat_map_more, map-append, take_more}
use Rattle.grid_run.specs.Backs.{SharedSeats, back_seats, seats_of_shared}
use Rattle.grid_run.specs.Banks.{bank_task, tasks_of_banks}
use Rattle.grid_run.specs.declared.back.Back.{Back}
use Rattle.grid_run.specs.declared.bank.Bank.{Bank}
use Rattle.grid_run.proofs.BankLemmas.{seats-of-bank}
use Rattle.grid_run.proofs.queues.queues_for.Goals as goal

pub loop-bank-preserved : goal.loop-bank-preserved
loop-bank-preserved c =
    let now = c.loop-bank.invariant in
    let done = c.in_ok-add_queues.ensures in
    let xs = c.args.banks.now in
    let i = c.loop-bank.bank-index in
    let b = c.bank-item.result in
    let before = tasks_of_banks (take i xs) in
    record {
      seats = done.seats
          ∙ ap (λ (l : List SharedSeats). l ++ map back_seats c.deref.result.now) now.seats
          ∙ ap (λ (l : List Back). map seats_of_shared before ++ map back_seats l)
          c.deref.ensures.value
          ∙ ap (λ (l : List SharedSeats). map seats_of_shared before ++ l) (sym (seats-of-bank b))
          ∙ sym (map-append seats_of_shared before (bank_task b))
          ∙ ap (λ (x : Bank). map seats_of_shared (before ++ bank_task x)) c.bank-item.is
          ∙ ap (map seats_of_shared) (flat_map_more bank_task [] (take i xs) (get_or xs i b)
          ∙ ap tasks_of_banks (sym (take_more xs i b c.loop-bank-test.true)));
      none = done.none now.none;
    }
