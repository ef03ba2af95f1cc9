use Rattle.std.proofs.Common.{◌≢◌, ◌≤◌, ℕ, List, Option, Some, None, length, sym, ap, subst, ◌∙◌}
use Rattle.std.proofs.Common.{arith}
use Rattle.std.specs.List.Sorted.{IsStrictlyIncreasing}
use Rattle.std.proofs.lemmas.List.{length-reverse}
use Rattle.marked_list.specs.declared.marks.Mark.{Mark}
use Rattle.marked_list.specs.Recency.{index_of}
use Rattle.marked_list.specs.Log.{uses_of}
use Rattle.marked_list.specs.Marks.{covers, AreMarks, IsUseAfter, counted_with}
use Rattle.marked_list.specs.Marked.{order_of, marked_sizes}
use Rattle.marked_list.specs.Uses.{dead, living}
use Rattle.marked_list.proofs.Windows.{level-marks}
use Rattle.marked_list.proofs.Counted.{count-next, living-le}
use Rattle.marked_list.proofs.Living.{living-next, length-buried}
use Rattle.marked_list.proofs.marked.Marked.serve.Goals as goal

counted-le : (last : Option ℕ) (n : ℕ) → n ≤ counted_with last n
counted-le None n = omega arith
counted-le (Some place) n = omega arith

pub last_use-last-requires : goal.last_use-last-requires
last_use-last-requires c = let low = c.requires.low in omega arith

pub counted-self-requires : goal.counted-self-requires
unfolding uses_of
counted-self-requires c =
    let old = c.args.self.now in
    let le = living-le (uses_of old.uses) in
    let long = length-reverse old.uses.log.items in
    let short = old.uses.short in
    omega (arith, old.counted)

pub move_each-level-requires : goal.move_each-level-requires
move_each-level-requires c = λ i lt.
    let old = c.args.self.now in
    let within = (old.marked i lt).within in
    let longer = ap (λ (l : List ℕ). length l) c.in_ok-add.ensures.added in
    let same = length-buried c.args.number (uses_of old.uses) in
    omega (arith, within, longer)

pub invariant_of-self-2 : goal.invariant_of-self-2
unfolding uses_of
invariant_of-self-2 c =
    let old = c.args.self.now in
    let b = c.args.number in
    let ms = uses_of old.uses in
    let low : b ≢ dead = omega (arith, c.requires.low) in
    let added = c.in_ok-add.ensures.added in
    let after : IsUseAfter ms b c.last_use-last.result old.used = record {
      low = low;
      before = c.last_use-last.ensures;
      many = old.counted;
      once = old.uses.once;
    } in
    record {
      marked = subst (λ l. AreMarks l c.move_each-level.new.marks.items) (sym added)
          (c.move_each-level.ensures.moves ms b added after old.rises old.marked);
      counted = c.counted-self.ensures
          ∙ ap (counted_with c.last_use-last.result) old.counted
          ∙ ap (λ o. counted_with o (length (living ms))) c.last_use-last.ensures
          ∙ sym (count-next ms b low old.uses.once)
          ∙ sym (ap (λ l. length (living l)) added);
      rises = λ e. subst IsStrictlyIncreasing (sym c.move_each-level.ensures.sizes) (old.rises e);
      short =
          let longer = ap (λ (l : List ℕ). length l) added in
          let same = length-buried b ms in
          let more = counted-le c.last_use-last.result old.used in
          omega (arith, c.requires.short, longer, same, more, c.counted-self.ensures);
    }

pub returns-clause-level : goal.returns-clause-level
unfolding order_of marked_sizes
returns-clause-level c =
    let old = c.args.self.now in
    let b = c.args.number in
    c.move_each-level.ensures.level
    ∙ ap (λ o. index_of (λ (k : Mark). covers k.place o) old.marks.items) c.last_use-last.ensures
    ∙ level-marks (uses_of old.uses) b (omega (arith, c.requires.low)) old.marks.items old.marked

pub returns-clause-order : goal.returns-clause-order
unfolding order_of
returns-clause-order c =
    let b = c.args.number in
    let ms = uses_of c.args.self.now.uses in
    ap living c.in_ok-add.ensures.added ∙ living-next b ms (omega (arith, c.requires.low))
