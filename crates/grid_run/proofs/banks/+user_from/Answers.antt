use Rattle.std.proofs.Common.{◌≡◌, ◌+◌, ◌-◌, ◌<◌, ◌++◌, ◌∷◌, [], List, length, map, ap, sym, subst}
use Rattle.std.proofs.Common.{◌∙◌, length-append, arith}
use Rattle.std.specs.List.{All, flat_map}
use Rattle.std.proofs.lemmas.List.{nil_from_length}
use Rattle.std.proofs.lemmas.List.Elements.{All-head, All-tail}
use Rattle.grid_run.specs.Backs.{NothingWaits, SharedTask, WereAsked, back_task, each_task}
use Rattle.grid_run.specs.Banks.{IsUserAt, NothingWaitsIn, WasAsked, bank_task, each_of}
use Rattle.grid_run.specs.Banks.{tasks_of_banks}
use Rattle.grid_run.specs.declared.back.Back.{Back}
use Rattle.grid_run.specs.declared.bank.Bank.{Bank}
use Rattle.grid_run.proofs.BankLemmas.{of-first, of-rest}
use Rattle.grid_run.proofs.UserTasks.{each-long, user-behind, user-front, user-of}
use Rattle.grid_run.proofs.banks.+user_from.Goals as goal

-- where no second levels are left, those of the next bank come
module _ (backs ds : List Back) (banks behind : List Bank) (bank : Bank) (none : backs ≡ [])
    (is : banks ≡ bank ∷ behind) (are : ds ≡ bank.backs.items) where
  opened : map back_task backs ++ tasks_of_banks banks
      ≡ map back_task ds ++ tasks_of_banks behind
  unfolding bank_task
  opened =
      ap (λ (l : List Back). map back_task l ++ tasks_of_banks banks) none
      ∙ ap tasks_of_banks is
      ∙ ap (λ (l : List Back). map back_task l ++ tasks_of_banks behind) (sym are)

  fewer : length ds + length (flat_map (λ (b : Bank). b.backs.items) behind) + length behind
      < length backs + length (flat_map (λ (b : Bank). b.backs.items) banks) + length banks
  fewer =
      let f = λ (b : Bank). b.backs.items in
      omega (
        arith,
        ap length are,
        ap length is,
        ap (λ (l : List Bank). length (flat_map f l)) is,
        length-append bank.backs.items (flat_map f behind),
      )

-- what all do is what the first ones do, and then what the others do
module _ (backs others : List Back) (back : Back) (ts : List SharedTask)
    (is : backs ≡ back ∷ others) where
  first-then : each_of (map back_task backs ++ ts)
      ≡ each_task (back_task back) ++ each_of (map back_task others ++ ts)
  first-then = ap (λ (l : List Back). each_of (map back_task l ++ ts)) is

  first-more : length (each_of (map back_task backs ++ ts))
      ≡ length back.users.items + length (each_of (map back_task others ++ ts))
  first-more =
      omega (
        arith,
        ap length first-then,
        length-append (each_task (back_task back)) (each_of (map back_task others ++ ts)),
        each-long back,
      )

pub user_from-requires : goal.user_from-requires
user_from-requires t c =
    let none = nil_from_length c.args.backs.now c.in_default.ensures.cases in
    let is = c.in-Some-split_first.ensures.cases.0 in
    let are = c.deref.ensures.value in (
      omega (arith, c.decreases, fewer _ _ _ _ c.in-Some-split_first.bank.now none is are),
      subst (λ (ts : List SharedTask). c.args.index < length (each_of ts))
          (opened _ _ _ _ c.in-Some-split_first.bank.now none is are) c.requires,
    )

pub returns-in_default-clause-user : goal.returns-in_default-clause-user
returns-in_default-clause-user t c =
    let none = nil_from_length c.args.backs.now c.in_default.ensures.cases in
    subst (λ (ts : List SharedTask). IsUserAt (each_of ts) c.args.index c.user_from.result.0.now
    c.user_from.result.1)
    (sym (opened _ _ _ _ c.in-Some-split_first.bank.now none c.in-Some-split_first.ensures.cases.0
    c.deref.ensures.value)) c.user_from.ensures.user

pub returns-in_default-clause-asked : goal.returns-in_default-clause-asked
returns-in_default-clause-asked t c = λ blocks all backs banks.
    let bank = c.in-Some-split_first.bank.now in
    let behind = c.in-Some-split_first.behind.now in
    let is = c.in-Some-split_first.ensures.cases.0 in
    c.user_from.ensures.asked blocks all
    (subst (All (WereAsked blocks all)) (sym c.deref.ensures.value)
    (of-first bank behind is (WasAsked blocks all) banks).each)
    (of-rest bank behind is (WasAsked blocks all) banks)

pub returns-in_default-clause-settled : goal.returns-in_default-clause-settled
returns-in_default-clause-settled t c = λ backs banks.
    let bank = c.in-Some-split_first.bank.now in
    let behind = c.in-Some-split_first.behind.now in
    let is = c.in-Some-split_first.ensures.cases.0 in
    c.user_from.ensures.settled
    (subst (All NothingWaits) (sym c.deref.ensures.value)
    (of-first bank behind is NothingWaitsIn banks).each)
    (of-rest bank behind is NothingWaitsIn banks)

pub returns-then-index-count-clause-user : goal.returns-then-index-count-clause-user
returns-then-index-count-clause-user t c =
    let back = c.in-Some.back.now in
    let others = c.in-Some.others.now in
    let ts = tasks_of_banks c.args.banks.now in
    let lt : c.args.index < length back.users.items =
    omega (arith, c.if-index-count.true, c.len-count.ensures, back.users.ok.0) in
    subst (λ us. IsUserAt us c.args.index back c.args.index)
    (sym (first-then c.args.backs.now others back ts c.in-Some.ensures.cases.0))
    (user-front (each_task (back_task back)) (each_of (map back_task others ++ ts)) c.args.index
    back c.args.index (omega (arith, lt, each-long back)) (user-of back c.args.index lt))

pub returns-then-index-count-clause-asked : goal.returns-then-index-count-clause-asked
returns-then-index-count-clause-asked t c = λ blocks all backs banks.
    All-head (WereAsked blocks all) c.in-Some.back.now c.in-Some.others.now
    (subst (All (WereAsked blocks all)) c.in-Some.ensures.cases.0 backs)

pub returns-then-index-count-clause-settled : goal.returns-then-index-count-clause-settled
returns-then-index-count-clause-settled t c = λ backs banks.
    All-head NothingWaits c.in-Some.back.now c.in-Some.others.now
    (subst (All NothingWaits) c.in-Some.ensures.cases.0 backs)

pub user_from-requires-2 : goal.user_from-requires-2
user_from-requires-2 t c =
    let back = c.in-Some.back.now in
    let is = c.in-Some.ensures.cases.0 in (
      omega (arith, c.decreases, ap length is),
      omega (
        arith,
        c.requires,
        c.if-index-count.false,
        c.len-count.ensures,
        back.users.ok.0,
        first-more c.args.backs.now c.in-Some.others.now back (tasks_of_banks c.args.banks.now) is,
      ),
    )

pub returns-clause-user : goal.returns-clause-user
returns-clause-user t c =
    let back = c.in-Some.back.now in
    let others = c.in-Some.others.now in
    let ts = tasks_of_banks c.args.banks.now in
    let b = c.user_from-2.result.0.now in
    let k = c.user_from-2.result.1 in
    let rest = each_of (map back_task others ++ ts) in
    let long : c.len-count.result ≡ length (each_task (back_task back)) =
    omega (arith, c.len-count.ensures, back.users.ok.0, each-long back) in
    subst (λ us. IsUserAt us c.args.index b k)
    (sym (first-then c.args.backs.now others back ts c.in-Some.ensures.cases.0))
    (user-behind (each_task (back_task back)) rest c.args.index b k
    (omega (arith, c.if-index-count.false, long))
    (subst (λ n. IsUserAt rest (c.args.index - n) b k) long c.user_from-2.ensures.user))

pub returns-clause-asked : goal.returns-clause-asked
returns-clause-asked t c = λ blocks all backs banks.
    c.user_from-2.ensures.asked blocks all
    (All-tail (WereAsked blocks all) c.in-Some.back.now c.in-Some.others.now
    (subst (All (WereAsked blocks all)) c.in-Some.ensures.cases.0 backs)) banks

pub returns-clause-settled : goal.returns-clause-settled
returns-clause-settled t c = λ backs banks.
    c.user_from-2.ensures.settled
    (All-tail NothingWaits c.in-Some.back.now c.in-Some.others.now
    (subst (All NothingWaits) c.in-Some.ensures.cases.0 backs)) banks
