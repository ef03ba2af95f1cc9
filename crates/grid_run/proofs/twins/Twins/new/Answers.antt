use Rattle.grid_run.proofs.twins.Twins.new.Goals as goal

pub returns-clause-stands : goal.returns-clause-stands
returns-clause-stands c = λ blocks q lt. record { cache = c.in_ok-new.ensures.stands blocks q lt }
