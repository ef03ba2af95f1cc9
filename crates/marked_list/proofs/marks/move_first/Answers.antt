use Rattle.std.proofs.Common.{◌≡◌, ◌≢◌, ◌<◌, length, get_or, sym, ap, subst, ◌∙◌, arith}
use Rattle.std.proofs.Common.{get_or-set_other}
use Rattle.std.proofs.lemmas.List.{set-get_or}
use Rattle.marked_list.specs.Uses.{used_next}
use Rattle.marked_list.specs.declared.marks.Mark.{Mark}
use Rattle.marked_list.specs.Marks.{covers, IsMark, no_mark}
use Rattle.marked_list.proofs.Windows.{sizes-set}
use Rattle.marked_list.proofs.MarkSteps.{at-any, one-more, level-found, level-passed}
use Rattle.marked_list.proofs.marks.move_first.Goals as goal

pub loop-index-preserved : goal.loop-index-preserved
loop-index-preserved c =
    let i = c.loop-index.index in
    let xs = c.loop-index.marks in
    let first = c.args.marks.now in
    let inside : i < length xs = omega arith in
    let inside' : i < length first = omega arith in
    let same : get_or first i no_mark ≡ get_or xs i no_mark =
    sym (c.loop-index.invariant.left i (omega arith)) in
    record {
      level = level-passed c.args.last first i _ inside'
          (ap (λ (k : Mark). covers k.place c.args.last) same ∙ sym c.is_since.ensures
          ∙ c.if-is_since.false)
          c.loop-index.invariant.level;
      sizes = sizes-set xs i c.move_mark.new.mark _ c.move_mark.ensures.size
          ∙ c.loop-index.invariant.sizes;
      moves = λ ms b log after are.
          one-more (IsMark (used_next b ms)) xs i c.move_mark.new.mark inside
          (c.loop-index.invariant.moves ms b log after are)
          (c.move_mark.ensures.moves ms b log after
          (at-any (IsMark ms) xs i no_mark _ inside
          (subst (IsMark ms) same (are i inside'))));
      left = λ k le. let ne : k ≢ i = omega arith in
          get_or-set_other xs i k c.move_mark.new.mark no_mark ne
          ∙ c.loop-index.invariant.left k (omega arith);
    }

pub returns-then-is_since-clause-level : goal.returns-then-is_since-clause-level
returns-then-is_since-clause-level c =
    let i = c.loop-index.index in
    let first = c.args.marks.now in
    let inside : i < length first = omega arith in
    level-found c.args.last first i _ inside
    (ap (λ (k : Mark). covers k.place c.args.last)
    (sym (c.loop-index.invariant.left i (omega arith)))
    ∙ sym c.is_since.ensures ∙ c.if-is_since.true)
    c.loop-index.invariant.level

pub returns-then-is_since-clause-moves : goal.returns-then-is_since-clause-moves
returns-then-is_since-clause-moves c = λ ms b log after are k lt.
    subst (λ l. IsMark (used_next b ms) (get_or l k no_mark))
    (sym (set-get_or c.loop-index.marks c.loop-index.index no_mark))
    (c.loop-index.invariant.moves ms b log after are k lt)

pub returns-then-is_since-clause-left : goal.returns-then-is_since-clause-left
returns-then-is_since-clause-left c = λ k le.
    ap (λ l. get_or l k no_mark) (set-get_or c.loop-index.marks c.loop-index.index no_mark)
    ∙ c.loop-index.invariant.left k le

pub returns-clause-moves : goal.returns-clause-moves
returns-clause-moves c = λ ms b log after are k lt.
    let inside : k < c.loop-index.index = omega arith in
    c.loop-index.invariant.moves ms b log after are k inside
