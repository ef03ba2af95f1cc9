use Rattle.std.proofs.Common.{◌++◌, [], ℕ, List, get_or, map, take, option_to_list, refl, ap}
use Rattle.std.proofs.Common.{sym, ◌∙◌, append-nil, append_assoc}
use Rattle.std.specs.List.{flat_map}
use Rattle.std.specs.Prelude.{if◌then◌else◌}
use Rattle.std.proofs.lemmas.List.{take_all}
use Rattle.grid_core.specs.Written.{rules_at_index, written_by}
use Rattle.shared_list.specs.Users.{is_user}
use Rattle.stage_core.specs.SecondLevel.{back, flush_all}
use Rattle.stage_core.specs.declared.message.What.{What}
use Rattle.grid_run.specs.Fronts.{front_rules}
use Rattle.grid_run.specs.Numbering.{part_to, sent_to}
use Rattle.grid_run.specs.Senders.{cells_for}
use Rattle.grid_run.proofs.Events.{flush-parts}
use Rattle.grid_run.proofs.Families.{list-at}
use Rattle.grid_run.proofs.SenderCells.{backs-to, flush-to, made-next, no_sender}
use Rattle.std.proofs.lemmas.Result.{on_ok_weaker}
use Rattle.grid_run.proofs.MoreNumbers.{right-more}
use Rattle.grid_run.proofs.StayNumbered.{stay-on}
use Rattle.grid_run.proofs.front.Front.send_flush.Goals as goal

pub ask_write_backs-requires : goal.ask_write_backs-requires
ask_write_backs-requires c = record {
  known = right-more _ _ c.loop-sender.invariant.numbers.grows _ c.requires.known;
}

pub ask_part-requires : goal.ask_part-requires
ask_part-requires c = record {
  known = right-more _ _ c.loop-sender.invariant.numbers.grows _ c.requires.known;
}

pub loop-sender-preserved : goal.loop-sender-preserved
loop-sender-preserved c =
    let now = c.loop-sender.invariant in
    let rules = front_rules c.args.self.now in
    let xs = c.args.senders.now in
    let i = c.loop-sender.sender-index in
    let lt = c.loop-sender-test.true in
    let x = get_or xs i no_sender in
    record {
      backs = λ h lists k.
          let goes = λ (cell : ℕ). map back (written_by h (rules_at_index rules cell)) in
          let before = sent_to k c.loop-sender.waiting.items in
          let start = sent_to k c.args.waiting.now.items in
          let is = c.deref.ensures.value
          ∙ list-at h rules c.args.self.now.lists.items lists x.cell c.index-list.result.now
          (c.requires.inside i no_sender lt) c.index-list.ensures in
          c.in_ok-ask_write_backs.ensures.asked k
          ∙ ap (λ (l : List What). before ++ l) (backs-to k x.users c.deref.result.now)
          ∙ ap (λ (l : List ℕ). before ++ (if is_user x.users k then map back l else [])) is
          ∙ ap (λ (l : List What). l ++ (if is_user x.users k then goes x.cell else []))
          (now.backs h lists k)
          ∙ append_assoc start (flat_map goes (cells_for k (take i xs))) _
          ∙ ap (λ (l : List What). start ++ l) (sym (made-next k xs i no_sender lt goes));
      numbers = stay-on now.numbers c.in_ok-ask_write_backs.ensures.numbers;
    }

pub returns-clause-sent : goal.returns-clause-sent
returns-clause-sent c =
    let now = c.loop-sender.invariant in
    let s = c.args.side in
    let rules = front_rules c.args.self.now in
    let xs = c.args.senders.now in
    on_ok_weaker c.ask_part.result (λ last h lists k cell is.
    let r = rules_at_index rules cell in
    let there = ap (cells_for k) (take_all c.loop-sender.sender-index xs c.loop-sender-test.false)
    ∙ is in
    let start = sent_to k c.args.waiting.now.items in
    let backs = map back (written_by h r) in
    let sent = now.backs h lists k
    ∙ ap (λ (l : List ℕ). start ++ flat_map (λ (n : ℕ).
    map back (written_by h (rules_at_index rules n))) l) there
    ∙ ap (λ l. start ++ l) (append-nil backs) in
    last k
    ∙ ap (λ (l : List What). l ++ flat_map (part_to k c.none.result)
    (option_to_list c.flush_part-flush.result)) sent
    ∙ ap (λ (l : List What). (start ++ backs) ++ l)
    (ap (flat_map (part_to k c.none.result)) c.flush_part-flush.ensures
    ∙ flush-to k c.none.result s)
    ∙ append_assoc start backs (flush_all s)
    ∙ ap (λ (l : List What). start ++ l)
    (flush-parts r s h (written_by h r) (flush_all s) refl refl))
    c.ask_part.ensures.asked

pub returns-clause-numbers : goal.returns-clause-numbers
returns-clause-numbers c =
    on_ok_weaker c.ask_part.result (stay-on c.loop-sender.invariant.numbers)
    c.ask_part.ensures.numbers
