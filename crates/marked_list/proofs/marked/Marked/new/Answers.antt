use Rattle.std.proofs.Common.{◌≤◌, ℕ, List, [], length, map, sym, ap, subst, ◌∙◌, arith}
use Rattle.std.specs.List.Sorted.{IsStrictlyIncreasing}
use Rattle.marked_list.specs.declared.marks.Mark.{Mark}
use Rattle.marked_list.specs.Marks.{AreMarks, mark_size}
use Rattle.marked_list.specs.Marked.{marked_sizes}
use Rattle.marked_list.specs.Uses.{living}
use Rattle.marked_list.proofs.Windows.{fresh-marks, sizes-fresh}
use Rattle.marked_list.proofs.marked.Marked.new.Goals as goal

pub invariant_of-result : goal.invariant_of-result
invariant_of-result c =
    let sizes = c.args.sizes.now in
    let marks = c.in_ok-marks.marks.items in
    let none = sym c.new.ensures.uses in
    record {
      marked = subst (λ l. AreMarks l marks) none
          (subst (AreMarks []) (sym c.in_ok-marks.ensures) (fresh-marks sizes c.requires));
      counted = ap (λ (l : List ℕ). length (living l)) none;
      rises = λ e. subst (λ (l : List Mark). IsStrictlyIncreasing (map mark_size l))
          (sym c.in_ok-marks.ensures)
          (subst IsStrictlyIncreasing (sym (sizes-fresh sizes)) (c.is_rising.ensures e));
      short = subst (λ (l : List ℕ). length l ≤ 4096) none (omega arith);
    }

pub returns-clause-sizes : goal.returns-clause-sizes
unfolding marked_sizes
returns-clause-sizes c = ap (map mark_size) c.in_ok-marks.ensures ∙ sizes-fresh c.args.sizes.now
