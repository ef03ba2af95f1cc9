use Rattle.grid_run.proofs.front.Front.new.Goals as goal

pub returns-clause-stands : goal.returns-clause-stands
returns-clause-stands c = λ blocks. record {
  stands = c.in_ok-new.ensures.stands blocks;
  last = record { known = λ k is. absurd cc };
}
