use Rattle.std.proofs.Common.{◌≡◌, ◌<◌, length, sym, ap, subst, ◌∙◌, arith}
use Rattle.std.specs.List.{All}
use Rattle.std.proofs.lemmas.List.Sorted.{All-permutation}
use Rattle.cache_core.specs.Geometry.{bsize_of}
use Rattle.grid_core.specs.Slot.{HasWords}
use Rattle.grid_core.proofs.parts.rows_for.Goals as goal

pub stack_for-requires : goal.stack_for-requires
stack_for-requires c =
    let ordered = c.deref-geometry-items.result.now in
    let i = c.loop-geometry.geometry-index in
    let g = c.geometry-item.result in
    let inside : i < length ordered = omega arith in
    let all : All HasWords ordered =
    subst (All HasWords) (sym c.deref-geometry-items.ensures.value)
    (All-permutation HasWords c.args.geometries.now
    c.in_ok-ordered.ordered.items c.in_ok-ordered.ensures.same c.requires.words) in
    record {
      words = (subst HasWords (sym c.geometry-item.is) (all i g inside), c.requires.words);
    }

pub loop-geometry-preserved : goal.loop-geometry-preserved
loop-geometry-preserved c =
    let first = c.args.first in
    let ordered = c.deref-geometry-items.result.now in
    let i = c.loop-geometry.geometry-index in
    let g = c.geometry-item.result in
    let inside : i < length ordered = omega arith in
    let all : All (λ g. bsize_of g ≡ bsize_of first) ordered =
    subst (All (λ g. bsize_of g ≡ bsize_of first)) (sym c.deref-geometry-items.ensures.value)
    (All-permutation (λ g. bsize_of g ≡ bsize_of first) c.args.geometries.now
    c.in_ok-ordered.ordered.items c.in_ok-ordered.ensures.same c.requires.one_size) in
    record {
      one_size = c.in_ok-stack_for.ensures.sizes (bsize_of first)
          (ap bsize_of c.geometry-item.is ∙ all i g inside) c.loop-geometry.invariant.one_size;
      empty = c.in_ok-stack_for.ensures.empty c.loop-geometry.invariant.empty;
    }
