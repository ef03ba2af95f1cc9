use Rattle.std.proofs.Common.{◌++◌, ap, sym, subst}
use Rattle.std.specs.Global.{Vec}
use Rattle.std.specs.List.{All}
use Rattle.grid_run.specs.Numbering.{IsNumbered, sent_to}
use Rattle.grid_run.specs.SecondCaches.{second_bsize}
use Rattle.grid_run.specs.declared.numbered.Numbered.{Numbered}
use Rattle.grid_run.proofs.Rooms.{settled-served}
use Rattle.grid_run.proofs.second.Second.swap_waiting.Goals as goal

pub returns-clause-asked : goal.returns-clause-asked
returns-clause-asked c = λ blocks ws numbered asked. record {
  served = ws;
  stands = settled-served blocks c.args.self.now ws asked c.requires.settled;
  all = λ q lt. ap (λ (v : Vec Numbered). ws q ++ sent_to q v.items) (sym c.swap.ensures.x_after);
  numbered = subst (λ (v : Vec Numbered).
      All (IsNumbered blocks (second_bsize c.args.self.now.caches)) v.items)
      (sym c.swap.ensures.x_after) numbered;
}
