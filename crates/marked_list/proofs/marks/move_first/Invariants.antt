use Rattle.std.proofs.Common.{◌≡◌, ◌<◌, ◌≤◌, ◌+◌, ℕ, List, map, drop, get_or}
use Rattle.marked_list.specs.declared.marks.Mark.{Mark}
use Rattle.marked_list.specs.Recency.{index_of}
use Rattle.marked_list.specs.Uses.{used_next}
use Rattle.marked_list.specs.Log.{uses_of}
use Rattle.marked_list.specs.Marks.{AreMarks, IsMark, IsUseAfter, covers, mark_size, no_mark}
use Rattle.marked_list.proofs.marks.move_first.Given as goal

-- the marks that were passed are moved and do not have the use, and the others are as they were
abbrev pub invariant-loop-index : goal.invariant-loop-index
invariant-loop-index l = record {
  level : l.index + index_of (λ (k : Mark). covers k.place l.last) (drop l.index l.initial.marks)
      ≡ index_of (λ (k : Mark). covers k.place l.last) l.initial.marks;
  sizes : map mark_size l.marks ≡ map mark_size l.initial.marks;
  moves : (ms : List ℕ) (b : ℕ) → uses_of l.uses ≡ used_next b ms →
      IsUseAfter ms b l.last l.used → AreMarks ms l.initial.marks → (k : ℕ) → k < l.index →
      IsMark (used_next b ms) (get_or l.marks k no_mark);
  left : (k : ℕ) → l.index ≤ k → get_or l.marks k no_mark ≡ get_or l.initial.marks k no_mark;
}
