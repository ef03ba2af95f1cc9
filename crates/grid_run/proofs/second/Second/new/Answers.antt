use Rattle.std.proofs.Common.{List, [], length, ap, sym, arith}
use Rattle.grid_run.specs.Numbering.{sent_to}
use Rattle.grid_run.specs.declared.numbered.Numbered.{Numbered}
use Rattle.grid_run.proofs.second.Second.new.Goals as goal

pub returns-clause-asked : goal.returns-clause-asked
returns-clause-asked c = λ blocks stands. record {
  served = λ q. [];
  stands = stands;
  all = λ q lt. sym (ap (sent_to q) c.new.ensures.items);
  numbered = λ k d lt. absurd (let none = ap (λ (l : List Numbered). length l)
      c.new.ensures.items in omega arith);
}
