use Rattle.std.proofs.Common.{◌≤◌, ℕ, List, [], length, map, sym, ap, subst, ◌∙◌, arith}
use Rattle.std.specs.List.Sorted.{IsStrictlyIncreasing}
use Rattle.marked_list.specs.Log.{uses_of}
use Rattle.marked_list.specs.Marks.{AreMarks, mark_size}
use Rattle.marked_list.specs.Marked.{marked_sizes}
use Rattle.marked_list.specs.Uses.{living}
use Rattle.marked_list.proofs.Windows.{restarted-marks, sizes-restarted}
use Rattle.marked_list.proofs.marked.Marked.clear.Goals as goal

pub invariant_of-self : goal.invariant_of-self
invariant_of-self c =
    let old = c.args.self.now in
    let none = sym c.clear.ensures.uses in
    record {
      marked = subst (λ l. AreMarks l c.restart_each.new.marks.items) none
          (subst (AreMarks []) (sym c.restart_each.ensures)
          (restarted-marks (uses_of old.uses) old.marks.items old.marked));
      counted = ap (λ (l : List ℕ). length (living l)) none;
      rises = λ e. subst IsStrictlyIncreasing (sym (ap (map mark_size) c.restart_each.ensures
          ∙ sizes-restarted old.marks.items)) (old.rises e);
      short = subst (λ (l : List ℕ). length l ≤ 4096) none (omega arith);
    }

pub returns-clause-sizes : goal.returns-clause-sizes
unfolding marked_sizes
returns-clause-sizes c = ap (map mark_size) c.restart_each.ensures
    ∙ sizes-restarted c.args.self.now.marks.items
