use Rattle.std.proofs.Common.{◌≡◌, ◌&&◌, ◌||◌, ◌++◌, [], ℕ, List, Bool, true, false, get_or}
use Rattle.std.proofs.Common.{length, map, take, option_to_list, refl, ap}
use Rattle.std.proofs.Common.{sym, ◌∙◌, append-nil, append_assoc}
use Rattle.std.specs.List.{flat_map, list_any}
use Rattle.std.specs.Prelude.{if◌then◌else◌}
use Rattle.std.proofs.lemmas.List.{take_all}
use Rattle.std.proofs.lemmas.Result.{on_ok_weaker}
use Rattle.cache_core.specs.Parts.{outcome_of}
use Rattle.cache_core.specs.declared.access.Outcome.{Outcome}
use Rattle.grid_core.specs.Written.{rules_at_index}
use Rattle.shared_list.specs.Users.{is_user}
use Rattle.stage_core.specs.Places.{list_if}
use Rattle.stage_core.specs.SecondLevel.{back, fetch_class}
use Rattle.stage_core.specs.declared.message.What.{What}
use Rattle.stage_core.specs.declared.message.What.TheVariants as what
use Rattle.grid_run.specs.Fronts.{front_rules}
use Rattle.grid_run.specs.Numbering.{part_to, sent_to}
use Rattle.grid_run.specs.Senders.{cells_for}
use Rattle.grid_run.proofs.Events.{access-parts}
use Rattle.grid_run.proofs.MoreNumbers.{right-more}
use Rattle.grid_run.proofs.SenderCells.{any-next, backs-to, cell-of, made-next, no_sender, part-if}
use Rattle.grid_run.proofs.StayNumbered.{stay-on}
use Rattle.grid_run.proofs.front.Front.send_access.Goals as goal

pub ask_part-requires : goal.ask_part-requires
ask_part-requires c = record {
  known = right-more _ _ c.loop-sender.invariant.numbers.grows _ c.requires.known;
}

pub ask_part-requires-2 : goal.ask_part-requires-2
ask_part-requires-2 c = record {
  known = right-more _ _ c.loop-sender.invariant.numbers.grows _ c.requires.known;
}

pub ask_part-requires-3 : goal.ask_part-requires-3
ask_part-requires-3 c = record {
  known = right-more _ _
      (stay-on c.loop-sender.invariant.numbers c.in_ok-ask_part-2.ensures.numbers).grows _
      c.requires.known;
}

pub loop-sender-preserved : goal.loop-sender-preserved
loop-sender-preserved c =
    let now = c.loop-sender.invariant in
    let access = c.args.access in
    let rules = front_rules c.args.self.now in
    let xs = c.args.senders.now in
    let i = c.loop-sender.sender-index in
    let lt = c.loop-sender-test.true in
    let x = get_or xs i no_sender in
    let made = c.outcome-outcome.result in
    record {
      backs = λ h served k.
          let goes = λ (cell : ℕ).
          map back (option_to_list (outcome_of (rules_at_index rules cell) h access).back) in
          let before = sent_to k c.loop-sender.waiting.items in
          let start = sent_to k c.args.waiting.now.items in
          let done = flat_map goes (cells_for k (take i xs)) in
          let is = c.outcome-outcome.ensures h access served in
          c.in_ok-ask_part.ensures.asked k
          ∙ ap (λ (l : List What). before ++ flat_map (part_to k x.users) l)
          (c.back_part-back.ensures
          ∙ ap (λ (p : Outcome). map back (option_to_list p.back)) is)
          ∙ ap (λ (l : List What). before ++ l) (backs-to k x.users _)
          ∙ ap (λ (l : List What). l ++ (if is_user x.users k then goes x.cell else []))
          (now.backs h served k)
          ∙ append_assoc start done _
          ∙ ap (λ (l : List What). start ++ l) (sym (made-next k xs i no_sender lt goes));
      fetching = λ h served k.
          let sends = λ (cell : ℕ). (outcome_of (rules_at_index rules cell) h access).fetch in
          c.joined-fetching.ensures k
          ∙ ap (λ (b : Bool). b || (is_user x.users k && made.fetch)) (now.fetching h served k)
          ∙ ap (λ (p : Outcome). list_any sends (cells_for k (take i xs))
          || (is_user x.users k && p.fetch)) (c.outcome-outcome.ensures h access served)
          ∙ sym (any-next k xs i no_sender lt sends);
      writing = λ h served k.
          let sends = λ (cell : ℕ). (outcome_of (rules_at_index rules cell) h access).through in
          c.joined-writing.ensures k
          ∙ ap (λ (b : Bool). b || (is_user x.users k && made.through)) (now.writing h served k)
          ∙ ap (λ (p : Outcome). list_any sends (cells_for k (take i xs))
          || (is_user x.users k && p.through)) (c.outcome-outcome.ensures h access served)
          ∙ sym (any-next k xs i no_sender lt sends);
      numbers = stay-on now.numbers c.in_ok-ask_part.ensures.numbers;
    }

or-none : (b : Bool) → (b || false) ≡ b
or-none true = refl
or-none false = refl

pub returns-clause-sent : goal.returns-clause-sent
returns-clause-sent c =
    let now = c.loop-sender.invariant in
    let x = c.args.access in
    let s = c.args.side in
    let rules = front_rules c.args.self.now in
    let xs = c.args.senders.now in
    let first = c.first_byte-block.result in
    on_ok_weaker c.ask_part-3.result (λ last h served k cell is.
    let r = rules_at_index rules cell in
    let o = outcome_of r h x in
    let inside = cell-of (length rules) k xs cell c.requires.inside is in
    let there = ap (cells_for k) (take_all c.loop-sender.sender-index xs c.loop-sender-test.false)
    ∙ is in
    let start = sent_to k c.args.waiting.now.items in
    let backs = map back (option_to_list o.back) in
    let fetch = what.Fetch (fetch_class s) first in
    let through = what.Through x.addr in
    let fetches : is_user c.loop-sender.fetching k ≡ o.fetch = now.fetching h served k
    ∙ ap (list_any (λ (n : ℕ). (outcome_of (rules_at_index rules n) h x).fetch)) there
    ∙ or-none o.fetch in
    let writes : is_user c.loop-sender.writing k ≡ o.through = now.writing h served k
    ∙ ap (list_any (λ (n : ℕ). (outcome_of (rules_at_index rules n) h x).through)) there
    ∙ or-none o.through in
    let fetched = ap (flat_map (part_to k c.loop-sender.fetching)) c.fetch_part-fetch.ensures
    ∙ part-if k c.loop-sender.fetching c.is_empty.result fetch refl
    (λ e. c.is_empty.ensures.none e k)
    ∙ ap (λ b. list_if b fetch) fetches in
    let written = ap (flat_map (part_to k c.loop-sender.writing)) c.through_part-through.ensures
    ∙ part-if k c.loop-sender.writing c.is_empty-2.result through refl
    (λ e. c.is_empty-2.ensures.none e k)
    ∙ ap (λ b. list_if b through) writes in
    let sent = now.backs h served k
    ∙ ap (λ (l : List ℕ). start ++ flat_map (λ (n : ℕ).
    map back (option_to_list (outcome_of (rules_at_index rules n) h x).back)) l) there
    ∙ ap (λ l. start ++ l) (append-nil backs) in
    last k
    ∙ ap (λ (l : List What). l ++ flat_map (part_to k c.loop-sender.writing)
    (option_to_list c.through_part-through.result)) (c.in_ok-ask_part-2.ensures.asked k
    ∙ ap (λ (l : List What). l ++ flat_map (part_to k c.loop-sender.fetching)
    (option_to_list c.fetch_part-fetch.result)) sent
    ∙ ap (λ (l : List What). (start ++ backs) ++ l) fetched)
    ∙ ap (λ (l : List What). ((start ++ backs) ++ list_if o.fetch fetch) ++ l) written
    ∙ ap (λ (l : List What). l ++ list_if o.through through)
    (append_assoc start backs (list_if o.fetch fetch))
    ∙ append_assoc start (backs ++ list_if o.fetch fetch) (list_if o.through through)
    ∙ ap (λ (l : List What). start ++ l) (access-parts r s h x o first backs
    (list_if o.fetch fetch) (list_if o.through through) refl
    (c.first_byte-block.ensures cell inside) refl refl refl)) c.ask_part-3.ensures.asked

pub returns-clause-numbers : goal.returns-clause-numbers
returns-clause-numbers c =
    on_ok_weaker c.ask_part-3.result
    (stay-on (stay-on c.loop-sender.invariant.numbers c.in_ok-ask_part-2.ensures.numbers))
    c.ask_part-3.ensures.numbers
