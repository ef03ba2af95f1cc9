use Rattle.grid_run.proofs.back.Back.new.Goals as goal

pub returns-clause-asked : goal.returns-clause-asked
returns-clause-asked c = λ blocks stands. record { second = c.new.ensures.asked blocks stands }
