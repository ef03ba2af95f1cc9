use Rattle.std.proofs.Common.{rules, subst, ◌∙◌, arith}
use Rattle.std.specs.List.{All}
use Rattle.std.proofs.lemmas.List.Elements.{All-cons}
use Rattle.grid_run.specs.Backs.{AreWaiting, HasNumbers}
use Rattle.grid_run.specs.Banks.{NothingWaitsIn, WasAsked}
use Rattle.grid_run.proofs.BankLemmas.{all-behind, all-front, behind-seats, enough-queues}
use Rattle.grid_run.proofs.BankLemmas.{near-seats, of-first, of-rest}
use Rattle.grid_run.proofs.banks.+take_over_all.Goals as goal

pub split_at_mut-near-requires : goal.split_at_mut-near-requires
split_at_mut-near-requires t c =
    let bank = c.in-Some.bank.now in
    let enough = enough-queues bank c.in-Some.banks.now c.in-Some.ensures.cases.0 c.args.queues.now
    c.requires.seats in
    omega (arith, enough, c.len.ensures, bank.backs.ok.0)

pub take_over-requires-clause-seats : goal.take_over-requires-clause-seats
take_over-requires-clause-seats t c =
    let bank = c.in-Some.bank.now in
    let cut = c.split_at_mut-near.ensures in
    near-seats bank c.in-Some.banks.now c.in-Some.ensures.cases.0 c.args.queues.now c.requires.seats
    c.split_at_mut-near.result.0.now c.split_at_mut-near.result.1.now cut.value
    (cut.front_len ∙ c.len.ensures ∙ bank.backs.ok.0)

pub take_over_all-requires : goal.take_over_all-requires
take_over_all-requires t c =
    let bank = c.in-Some.bank.now in
    let rest = c.in-Some.banks.now in
    let cut = c.split_at_mut-near.ensures in (
      search rules,
      (
        behind-seats bank rest c.in-Some.ensures.cases.0 c.args.queues.now c.requires.seats
            c.split_at_mut-near.result.0.now c.split_at_mut-near.result.1.now cut.value
            (cut.front_len ∙ c.len.ensures ∙ bank.backs.ok.0),
        of-rest bank rest c.in-Some.ensures.cases.0 NothingWaitsIn c.requires.settled,
      ),
    )

pub returns-clause-asked : goal.returns-clause-asked
returns-clause-asked t c = λ blocks served all waiting numbered were.
    let bank = c.in-Some.bank.now in
    let rest = c.in-Some.banks.now in
    let is = c.in-Some.ensures.cases.0 in
    let near = c.split_at_mut-near.result.0.now in
    let behind = c.split_at_mut-near.result.1.now in
    let cut = c.split_at_mut-near.ensures.value in
    let both = subst (All (AreWaiting served all)) cut waiting in
    let have = subst (All (HasNumbers blocks)) cut numbered in
    All-cons (WasAsked blocks all) c.take_over.new.self c.take_over_all.new.banks
    (c.take_over.ensures.asked blocks served all
    (all-front (AreWaiting served all) near behind both)
    (all-front (HasNumbers blocks) near behind have)
    (of-first bank rest is (WasAsked blocks served) were))
    (c.take_over_all.ensures.asked blocks served all
    (all-behind (AreWaiting served all) near behind both)
    (all-behind (HasNumbers blocks) near behind have)
    (of-rest bank rest is (WasAsked blocks served) were))
