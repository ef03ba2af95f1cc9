use Rattle.std.proofs.Common.{◌++◌, List, length, ap, sym, subst, ◌∙◌, append-nil, arith}
use Rattle.std.proofs.Common.{length-append}
use Rattle.std.specs.List.{All}
use Rattle.grid_run.specs.Numbering.{IsNumbered, sent_to}
use Rattle.grid_run.specs.SecondCaches.{second_bsize}
use Rattle.grid_run.specs.declared.numbered.Numbered.{Numbered}
use Rattle.grid_run.proofs.SecondTurns.{served-alike}
use Rattle.grid_run.proofs.second.Second.settle.Goals as goal

pub serve_each-requires : goal.serve_each-requires
serve_each-requires c =
    let blocks = c.requires.room.0 in
    let asked = c.requires.room.2 in
    let waiting = c.args.self.now.waiting.items in
    let n = second_bsize c.args.self.now.caches in
    let are = c.deref.ensures.value in
    record {
      room = (
        blocks,
        record {
          past = asked.served;
          stands = asked.stands;
          numbered = subst (λ (l : List Numbered). All (IsNumbered blocks n) l) (sym are)
              asked.numbered;
          short = λ q lt.
              omega (
                arith,
                c.requires.room.3 q,
                ap length (asked.all q lt),
                length-append (asked.served q) (sent_to q waiting),
                ap (λ l. length (sent_to q l)) are,
              );
        },
      );
    }

pub returns-clause-asked : goal.returns-clause-asked
returns-clause-asked c = λ blocks ws asked.
    let done = c.serve_each.new.self in
    let n = second_bsize c.args.self.now.caches in
    let are = c.deref.ensures.value in
    let numbered = subst (λ (l : List Numbered). All (IsNumbered blocks n) l) (sym are)
    asked.numbered in
    record {
      served = ws;
      stands = served-alike blocks done (λ q. asked.served q ++ sent_to q c.deref.result.now) ws
          (λ q lt. ap (λ l. asked.served q ++ sent_to q l) are
          ∙ sym (asked.all q (omega (arith, lt, c.serve_each.ensures.users))))
          (c.in_ok-serve_each.ensures.served blocks asked.served numbered asked.stands);
      all = λ q lt. sym (ap (λ l. ws q ++ sent_to q l) c.clear.ensures.items ∙ append-nil (ws q));
      numbered = λ k d lt. absurd (let none = ap (λ (l : List Numbered). length l)
          c.clear.ensures.items in omega arith);
    }
