use Rattle.std.proofs.Common.{sym, ◌∙◌}
use Rattle.std.proofs.lemmas.Bool.{false≢true}
use Rattle.grid_core.specs.Standing.{found_in, rules_of_rows}
use Rattle.grid_core.proofs.Counted.{counted-first}
use Rattle.grid_core.proofs.Staying.{none-misses, rows-stay}
use Rattle.grid_core.proofs.stack.Stack.pass.Goals as goal

pub returns-clause-stands : goal.returns-clause-stands
unfolding rules_of_rows
returns-clause-stands c = λ h x st first. record {
  rows = rows-stay c.args.self.now h x first st;
}

pub returns-clause-moved : goal.returns-clause-moved
unfolding rules_of_rows found_in
returns-clause-moved c = λ h x st first. record {
  found = sym first.first;
  backs = λ n some fits miss.
      absurd (false≢true (sym miss ∙ none-misses c.args.self.now h x first n some fits));
}

pub returns-clause-counted : goal.returns-clause-counted
unfolding rules_of_rows
returns-clause-counted c = λ sizes h x stay counted.
    let old = c.args.self.now in
    counted-first (rules_of_rows old) sizes h x old.histogram stay counted
