use Rattle.std.proofs.Common.{◌≡◌, ◌<◌, ◌≤◌, ◌∷◌, [], ℕ}
use Rattle.grid_run.specs.Senders.{seat_on, seats_at}
use Rattle.grid_run.specs.Senders.{HaveCells, cells_for}
use Rattle.grid_run.proofs.senders.senders_for.Given as goal

-- to each user that was passed one cache sends, and to the others none
abbrev pub invariant-loop-user : goal.invariant-loop-user
invariant-loop-user l = record {
  cells : (k : ℕ) → k < l.user → cells_for k l.each.items
      ≡ (seat_on l.fn.side (seats_at l.users k)).cell ∷ [];
  rest : (k : ℕ) → l.user ≤ k → k < 32 → cells_for k l.each.items ≡ [];
  inside : HaveCells l.fn.side l.users l.user l.each.items;
}
