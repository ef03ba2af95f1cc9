use Rattle.std.proofs.Common.{◌++◌, ℕ, get_or, ap, sym, ◌∙◌, append-nil}
use Rattle.std.specs.List.{flat_map}
use Rattle.std.proofs.lemmas.List.{take_all}
use Rattle.std.proofs.lemmas.List.Folds.{flat_map-map}
use Rattle.stage_core.specs.SecondLevel.{back}
use Rattle.grid_run.specs.Numbering.{part_to, sent_to}
use Rattle.grid_run.proofs.MoreNumbers.{right-more}
use Rattle.grid_run.proofs.SentTo.{made-to}
use Rattle.grid_run.proofs.StayNumbered.{stay-on, stay-same}
use Rattle.grid_run.proofs.parts.ask_write_backs.Goals as goal

pub loop-addr-init : goal.loop-addr-init
loop-addr-init c = record {
  asked = λ k. sym (append-nil (sent_to k c.args.waiting.now.items));
  numbers = stay-same _ _ _;
}

pub ask-requires : goal.ask-requires
ask-requires c = record {
  known = right-more _ _ c.loop-addr.invariant.numbers.grows _ c.requires.known;
}

pub loop-addr-preserved : goal.loop-addr-preserved
loop-addr-preserved c =
    let xs = c.args.addrs.now in
    let i = c.loop-addr.addr-index in
    record {
      asked = λ k.
          let goes = λ (a : ℕ). part_to k c.args.users (back a) in
          c.in_ok-ask.ensures.asked k
          ∙ ap (λ l. l ++ goes (get_or xs i 0)) (c.loop-addr.invariant.asked k)
          ∙ made-to goes (sent_to k c.args.waiting.now.items) xs i 0 c.loop-addr-test.true;
      numbers = stay-on c.loop-addr.invariant.numbers c.in_ok-ask.ensures.numbers;
    }

pub returns-clause-asked : goal.returns-clause-asked
returns-clause-asked c = λ k.
    let xs = c.args.addrs.now in
    let goes = λ (a : ℕ). part_to k c.args.users (back a) in
    let old = sent_to k c.args.waiting.now.items in
    c.loop-addr.invariant.asked k
    ∙ ap (λ l. old ++ flat_map goes l) (take_all c.loop-addr.addr-index xs c.loop-addr-test.false)
    ∙ ap (λ l. old ++ l) (sym (flat_map-map (part_to k c.args.users) back xs))

pub returns-clause-numbers : goal.returns-clause-numbers
returns-clause-numbers c = c.loop-addr.invariant.numbers
