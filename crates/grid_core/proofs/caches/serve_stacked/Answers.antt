use Rattle.std.proofs.Common.{◌≡◌, ◌<◌, ℕ, List, length, subst}
use Rattle.std.proofs.lemmas.Result.{on_ok_weaker}
use Rattle.cache_core.specs.declared.access.Access.{Access}
use Rattle.cache_core.specs.Geometry.{bsize_of}
use Rattle.cache_core.specs.History.{Rules}
use Rattle.grid_core.specs.declared.stacked.Stacked.{Stacked}
use Rattle.grid_core.specs.Cells.{shape_rules}
use Rattle.grid_core.specs.Numbers.{IsNumberIn, IsNumberOf}
use Rattle.grid_core.specs.StackedCells.{stacked_rules}
use Rattle.grid_core.proofs.Silence.{at-rules}
use Rattle.grid_core.proofs.caches.serve_stacked.Goals as goal

-- where there are caches, the number of the block is one for their block size
told : (blocks : List ℕ) (s : Stacked) (x : Access) (number : ℕ)
    → IsNumberIn blocks (stacked_rules s) x number → 0 < length (stacked_rules s)
    → IsNumberOf blocks (bsize_of s.geometry) x number
unfolding stacked_rules
told blocks s x number is some =
    subst (λ n. IsNumberOf blocks n x number)
    (at-rules shape_rules (λ r. r.bsize ≡ bsize_of s.geometry) s.shapes.items
    (λ k d lt. (s.ranked k d lt).same) 0 some)
    (is some)

pub returns-clause-stands : goal.returns-clause-stands
returns-clause-stands c =
    on_ok_weaker c.access.result (λ stands blocks h is follows some.
    let old = c.args.stacked.now in
    let before = subst (λ (rs : List Rules). 0 < length rs) c.access.ensures.rules some in
    stands blocks h (told blocks old c.args.access c.args.number is before) (follows before))
    c.access.ensures.stands

pub returns-clause-answers : goal.returns-clause-answers
returns-clause-answers c =
    on_ok_weaker c.access.result (λ answers blocks h is follows some.
    let old = c.args.stacked.now in
    let before = subst (λ (rs : List Rules). 0 < length rs) c.access.ensures.rules some in
    answers blocks h (told blocks old c.args.access c.args.number is before) (follows before))
    c.access.ensures.answers
