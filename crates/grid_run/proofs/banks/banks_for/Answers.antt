use Rattle.std.proofs.Common.{◌≡◌, ◌≢◌, ◌++◌, [], ◌∷◌, List, length, map, take, ap, sym, ◌∙◌}
use Rattle.std.proofs.Common.{append-nil, arith}
use Rattle.std.proofs.lemmas.Bool.{eqb-false, eqb-true}
use Rattle.std.proofs.lemmas.List.{flat_map_more, nil_from_length, take-append-drop}
use Rattle.grid_run.specs.Backs.{no_requests, task_of_shelf}
use Rattle.grid_run.specs.Banks.{WasAsked, bank_task, each_of, tasks_of_banks}
use Rattle.grid_run.specs.declared.bank.Bank.{Bank}
use Rattle.grid_run.specs.declared.plan.BackShelf.{BackShelf}
use Rattle.grid_run.proofs.BankLemmas.{each-append, more-done}
use Rattle.grid_run.proofs.Growing.{all-push}
use Rattle.grid_run.proofs.banks.banks_for.Goals as goal

-- what the users of one more bank do comes last
one-more : (old new : List Bank) (bank : Bank) → new ≡ old ++ bank ∷ []
    → each_of (tasks_of_banks new) ≡ each_of (tasks_of_banks old) ++ each_of (bank_task bank)
one-more old new bank is =
    ap (λ (l : List Bank). each_of (tasks_of_banks l)) is
    ∙ ap each_of (sym (flat_map_more bank_task [] old bank))
    ∙ each-append (tasks_of_banks old) (bank_task bank)

pub banks-smaller : goal.banks-smaller
banks-smaller c =
    let some : length c.banks.rest.now ≢ 0 =
    eqb-false (length c.banks.rest.now) 0 (sym c.banks-test.ensures) in
    omega (
      arith,
      c.split_at.ensures.back_len,
      c.min.ensures,
      c.size_of_bank-size.ensures,
      some,
    )

pub banks-preserved : goal.banks-preserved
banks-preserved c =
    let bank = c.in_ok-new.field-0 in
    let rest = c.banks.rest.now in
    let n = c.min.result in
    let part = c.split_at.result.0.now in
    let behind = c.split_at.result.1.now in
    let cut = c.split_at.ensures in
    let joined = c.in_ok-add_to.ensures.joined in
    record {
      tasks = ap (λ ts. ts ++ map task_of_shelf behind)
          (one-more c.banks.banks.items c.add_to.new.list.items bank joined)
          ∙ more-done (each_of (tasks_of_banks c.banks.banks.items)) (each_of (bank_task bank)) rest
          part behind c.in_ok-new.ensures.tasks
          (ap (λ l. l ++ behind) cut.front ∙ ap (λ l. take n rest ++ l) cut.back
          ∙ take-append-drop n rest)
          ∙ c.banks.invariant.tasks;
      asked = λ blocks. all-push (WasAsked blocks no_requests) c.banks.banks.items
          c.add_to.new.list.items bank joined (c.banks.invariant.asked blocks)
          (c.in_ok-new.ensures.asked blocks);
    }

pub returns : goal.returns
returns c =
    let rest = c.banks.rest.now in
    let done = each_of (tasks_of_banks c.banks.banks.items) in
    let none : rest ≡ [] =
    nil_from_length rest (eqb-true (length rest) 0 (sym c.banks-test.ensures)) in
    record {
      tasks = sym (append-nil done)
          ∙ ap (λ (l : List BackShelf). done ++ map task_of_shelf l) (sym none)
          ∙ c.banks.invariant.tasks;
      asked = c.banks.invariant.asked;
    }
