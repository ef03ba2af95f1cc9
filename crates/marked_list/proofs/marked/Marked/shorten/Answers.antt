use Rattle.std.proofs.Common.{ℕ, List, length, map, sym, ap, subst, ◌∙◌, arith}
use Rattle.std.specs.List.Sorted.{IsStrictlyIncreasing}
use Rattle.marked_list.specs.Log.{uses_of}
use Rattle.marked_list.specs.Marks.{AreMarks, mark_size, settled}
use Rattle.marked_list.specs.Marked.{order_of, marked_sizes}
use Rattle.marked_list.specs.Uses.{living}
use Rattle.marked_list.proofs.Counted.{settled-marks, sizes-settled}
use Rattle.marked_list.proofs.Living.{living-twice}
use Rattle.marked_list.proofs.marked.Marked.shorten.Goals as goal

pub invariant_of-self : goal.invariant_of-self
invariant_of-self c =
    let old = c.args.self.now in
    let ms = uses_of old.uses in
    let last = c.shorten.ensures.uses in
    record {
      marked = subst (λ l. AreMarks l c.settle_each.new.marks.items) (sym last)
          (subst (AreMarks (living ms)) (sym (c.settle_each.ensures
          ∙ ap (λ n. map (settled n) old.marks.items) old.counted))
          (settled-marks ms old.marks.items old.marked));
      counted = old.counted ∙ ap (λ (l : List ℕ). length l) (sym (living-twice ms))
          ∙ sym (ap (λ l. length (living l)) last);
      rises = λ e. subst IsStrictlyIncreasing (sym (ap (map mark_size) c.settle_each.ensures
          ∙ sizes-settled old.used old.marks.items)) (old.rises e);
      short = let same = ap (λ (l : List ℕ). length l) last in omega (arith, same, old.counted);
    }

pub returns-clause-short : goal.returns-clause-short
returns-clause-short c =
    let old = c.args.self.now in
    let same = ap (λ (l : List ℕ). length l) c.shorten.ensures.uses in
    omega (arith, same, old.counted)

pub returns-clause-order : goal.returns-clause-order
unfolding order_of
returns-clause-order c = ap living c.shorten.ensures.uses
    ∙ living-twice (uses_of c.args.self.now.uses)

pub returns-clause-sizes : goal.returns-clause-sizes
unfolding marked_sizes
returns-clause-sizes c = ap (map mark_size) c.settle_each.ensures
    ∙ sizes-settled c.args.self.now.used c.args.self.now.marks.items
