use Rattle.std.proofs.Common.{◌≡◌, ◌<◌, ◌∷◌, [], ap, inl, inr, subst, sym, ◌∙◌, arith, refl}
use Rattle.std.proofs.lemmas.Bool.{cases_eq}
use Rattle.grid_run.specs.Senders.{cells_for, seat_on, seats_at}
use Rattle.grid_run.specs.declared.seat.Seat.{Seat}
use Rattle.grid_run.proofs.senders.senders_for.Goals as goal

pub loop-user-preserved : goal.loop-user-preserved
loop-user-preserved c =
    let now = c.loop-user.invariant in
    let done = c.in_ok-send_to.ensures in
    let n = c.loop-user.user in
    let users = c.args.users.now in
    let few : n < 32 = omega (arith, c.loop-user-test.true, c.requires.few) in
    let own = done.own ∙ ap (λ (s : Seat). s.cell ∷ []) c.on.ensures in
    record {
      cells = λ k below. elim (cases_eq k n) [
        | inl e ↦ subst (λ j. cells_for j c.send_to.new.each.items
            ≡ (seat_on c.args.side (seats_at users j)).cell ∷ []) (sym e) own
        | inr ne ↦ done.others k (omega (arith, below, few)) ne
            ∙ now.cells k (omega (arith, below, ne))
      ];
      rest = λ k past low. done.others k low (omega (arith, past))
          ∙ now.rest k (omega (arith, past)) low;
      inside = done.cells users c.args.side n refl (ap (λ (s : Seat). s.cell) c.on.ensures)
          now.inside;
    }

pub returns : goal.returns
returns c =
    let now = c.loop-user.invariant in
    let n = c.loop-user.user in
    let past = c.loop-user-test.false in
    record {
      family = λ k lt. c.requires.family k lt
          ∙ sym (ap (λ (s : Seat). s.family) c.on-family.ensures);
      cells = λ k lt. now.cells k (omega (arith, lt, past));
      inside = λ holds all. now.inside holds
          (λ k lt. all k (omega (arith, lt, c.loop-user.auto.user-end)));
    }
