use Rattle.std.proofs.Common.{◌≡◌, ◌<◌, ◌≤◌, ℕ, List, map, get_or}
use Rattle.marked_list.specs.Uses.{used_next}
use Rattle.marked_list.specs.Log.{uses_of}
use Rattle.marked_list.specs.Marks.{IsMark, IsUseAfter, mark_size, no_mark}
use Rattle.marked_list.proofs.marks.move_rest.Given as goal

-- the marks that were passed are moved, and the others are as they were
abbrev pub invariant-loop-index : goal.invariant-loop-index
invariant-loop-index l = record {
  sizes : map mark_size l.marks ≡ map mark_size l.initial.marks;
  moves : (ms : List ℕ) (b : ℕ) → uses_of l.uses ≡ used_next b ms →
      IsUseAfter ms b l.last l.used → (k : ℕ) → l.from ≤ k → k < l.index →
      IsMark ms (get_or l.initial.marks k no_mark) →
      IsMark (used_next b ms) (get_or l.marks k no_mark);
  before : (k : ℕ) → k < l.from → get_or l.marks k no_mark ≡ get_or l.initial.marks k no_mark;
  left : (k : ℕ) → l.index ≤ k → get_or l.marks k no_mark ≡ get_or l.initial.marks k no_mark;
}
