use Rattle.std.proofs.Common.{◌+◌, length}
use Rattle.std.specs.List.{flat_map}
use Rattle.grid_run.specs.declared.bank.Bank.{Bank}
use Rattle.grid_run.proofs.banks.+user_from.Given as goal

-- each call has fewer second levels or banks
abbrev pub decreases-user_from : goal.decreases-user_from
decreases-user_from l =
    length l.backs.now + length (flat_map (λ (b : Bank). b.backs.items) l.banks.now)
    + length l.banks.now
