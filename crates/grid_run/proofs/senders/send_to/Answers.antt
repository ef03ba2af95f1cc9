use Rattle.std.proofs.Common.{◌≡◌, ◌<◌, ◌||◌, ℕ, List, ◌∷◌, [], length, get_or, true, refl, ap, sym}
use Rattle.std.proofs.Common.{◌∙◌, arith}
use Rattle.std.proofs.lemmas.Bool.{eq-eqb, ne_eqb}
use Rattle.std.proofs.lemmas.List.{get_or_default, length-set}
use Rattle.shared_list.specs.Users.{is_user}
use Rattle.grid_run.specs.declared.senders.Sender.{Sender}
use Rattle.grid_run.proofs.Growing.{all-push, at-set}
use Rattle.grid_run.proofs.SenderCells.{other-cell, own-cell}
use Rattle.grid_run.proofs.senders.send_to.Goals as goal

-- two elements that are at the index are one
same-at : (xs : List Sender) (i : ℕ) (x y : Sender) → i < length xs → x ≡ get_or xs i x
    → y ≡ get_or xs i y → y ≡ get_or xs i x
same-at xs i x y lt here there = there ∙ get_or_default xs i y x lt

pub returns-then-index-cell-clause-own : goal.returns-then-index-cell-clause-own
returns-then-index-cell-clause-own c =
    let xs = c.args.each.now.items in
    let i = c.saturating_sub-last.result in
    let x = c.index_mut.result.now in
    let lt : i < length xs =
    omega (arith, c.if-last-len.true, c.len-2.ensures, c.args.each.now.ok.0) in
    let at = c.index_mut.ensures.value in
    let y : Sender = record { cell = x.cell; users = c.with.result } in
    own-cell xs i x y lt (ap (λ (s : Sender). s.cell) at) c.args.user
    (c.with.ensures c.args.user c.requires.low
    ∙ ap (λ t. t || is_user c.index-then-index-cell.result.now.users c.args.user)
    (eq-eqb c.args.user c.args.user refl))
    c.requires.alone
    ∙ ap (λ n. n ∷ []) (ap (λ (s : Sender). s.cell) (at
    ∙ sym (same-at xs i x c.index.result.now lt at c.index.ensures)) ∙ c.if-index-cell.true)

pub returns-then-index-cell-clause-others : goal.returns-then-index-cell-clause-others
returns-then-index-cell-clause-others c = λ k low ne.
    let xs = c.args.each.now.items in
    let i = c.saturating_sub-last.result in
    let x = c.index_mut.result.now in
    let before = c.index-then-index-cell.result.now in
    let lt : i < length xs =
    omega (arith, c.if-last-len.true, c.len-2.ensures, c.args.each.now.ok.0) in
    let at = c.index_mut.ensures.value in
    let y : Sender = record { cell = x.cell; users = c.with.result } in
    other-cell xs i x y lt (ap (λ (s : Sender). s.cell) at) k
    (c.with.ensures k low ∙ ap (λ t. t || is_user before.users k) (ne_eqb k c.args.user ne)
    ∙ ap (λ (s : Sender). is_user s.users k)
    (same-at xs i x before lt at c.index-then-index-cell.ensures))

pub returns-then-index-cell-clause-cells : goal.returns-then-index-cell-clause-cells
returns-then-index-cell-clause-cells c = λ users s n at is have holds all k d inside.
    let xs = c.args.each.now.items in
    let i = c.saturating_sub-last.result in
    let x = c.index_mut.result.now in
    let lt : i < length xs =
    omega (arith, c.if-last-len.true, c.len-2.ensures, c.args.each.now.ok.0) in
    let there = c.index_mut.ensures.value in
    let y : Sender = record { cell = x.cell; users = c.with.result } in
    let same = ap (λ (s : Sender). s.cell) (there
    ∙ sym (same-at xs i x c.index.result.now lt there c.index.ensures)) ∙ c.if-index-cell.true in
    at-set (λ (z : Sender). holds z.cell ≡ true) xs i k y d lt
    (λ own. ap holds (same ∙ is) ∙ all n (omega arith))
    (have holds (λ j below. all j (omega (arith, below))) k d
    (omega (arith, inside, length-set xs i y)))

pub returns-clause-cells : goal.returns-clause-cells
returns-clause-cells c = λ users s n at is have holds all.
    let x : Sender = record { cell = c.args.cell; users = c.one-users.result } in
    all-push (λ (z : Sender). holds z.cell ≡ true) c.args.each.now.items c.add_to.new.list.items x
    c.in_ok-add_to.ensures.joined (have holds (λ j below. all j (omega (arith, below))))
    (ap holds is ∙ all n (omega arith))
