use Rattle.std.proofs.Common.{◌≡◌, ◌≢◌, ◌<◌, ◌≤◌, length, get_or, set, sym, subst, ◌∙◌}
use Rattle.std.proofs.Common.{arith, below_more, get_or-set_same, get_or-set_other}
use Rattle.marked_list.specs.Uses.{used_next}
use Rattle.marked_list.specs.Marks.{IsMark, no_mark}
use Rattle.marked_list.proofs.Windows.{sizes-set}
use Rattle.marked_list.proofs.MarkSteps.{at-any}
use Rattle.marked_list.proofs.marks.move_rest.Goals as goal

pub loop-index-preserved : goal.loop-index-preserved
loop-index-preserved c =
    let i = c.loop-index.index in
    let xs = c.loop-index.marks in
    let v = c.move_mark.new.mark in
    let first = c.args.marks.now in
    let inside : i < length xs = omega arith in
    let same : get_or first i no_mark ≡ get_or xs i no_mark =
    sym (c.loop-index.invariant.left i (omega arith)) in
    record {
      sizes = sizes-set xs i v _ c.move_mark.ensures.size ∙ c.loop-index.invariant.sizes;
      moves = λ ms b log after k from lt. below_more
          (λ n. c.args.from ≤ n → IsMark ms (get_or first n no_mark)
          → IsMark (used_next b ms) (get_or (set xs i v) n no_mark)) i
          (λ n before ge mark. let ne : n ≢ i = omega arith in
          subst (IsMark (used_next b ms)) (sym (get_or-set_other xs i n v no_mark ne))
          (c.loop-index.invariant.moves ms b log after n ge before mark))
          (λ ge mark. subst (IsMark (used_next b ms)) (sym (get_or-set_same xs i v no_mark inside))
          (c.move_mark.ensures.moves ms b log after
          (at-any (IsMark ms) xs i no_mark _ inside (subst (IsMark ms) same mark))))
          k lt from;
      before = λ k lt. let start : c.args.from ≤ i = c.loop-index.auto.index in
          let ne : k ≢ i = omega arith in
          get_or-set_other xs i k v no_mark ne ∙ c.loop-index.invariant.before k lt;
      left = λ k le. let ne : k ≢ i = omega arith in get_or-set_other xs i k v no_mark ne
          ∙ c.loop-index.invariant.left k (omega arith);
    }

pub returns-clause-moves : goal.returns-clause-moves
returns-clause-moves c = λ ms b log after k from lt mark.
    let inside : k < c.loop-index.index = omega arith in
    c.loop-index.invariant.moves ms b log after k from inside mark
