use Rattle.std.proofs.Common.{◌≡◌, ℕ, suc, drop, Some, true, eqb, length}
use Rattle.std.proofs.Common.{is_some, unwrap_or, List}
use Rattle.std.proofs.Common.{refl, sym, ap, ◌∙◌, arith}
use Rattle.cache_core.proofs.Reuse.{has}
use Rattle.marked_list.specs.Recency.{level_of, brought_front}
use Rattle.marked_list.specs.Marked.{marked_sizes, order_of, was_used}
use Rattle.grid_core.specs.Numbers.{number_at}
use Rattle.grid_core.specs.Shadows.{is_known, number_by, shadow_sizes, was_number_used}
use Rattle.grid_core.specs.Totals.{total}
use Rattle.grid_core.proofs.Numbering.{tells, level-map, front-map, known-front}
use Rattle.grid_core.proofs.Numbers.{number-apart, number-low}
use Rattle.grid_core.proofs.Renumbered.{low-after, used-after, used-some}
use Rattle.grid_core.proofs.Totals.{level-le, total-set, total-behind}
use Rattle.grid_core.proofs.shadows.Shadows.touch.Goals as goal

-- among blocks that were used, a block has the number of b just if it is b
number-tells : (blocks : List ℕ) (b n : ℕ) (ys : List ℕ) → number_at blocks b ≡ Some n
    → ((y : ℕ) → has ys y ≡ true → number_at blocks y ≡ Some (number_by blocks y))
    → (y : ℕ) → has ys y ≡ true → eqb (number_by blocks y) n ≡ eqb y b
number-tells blocks b n ys is all y h =
    ap (eqb (number_by blocks y)) (sym (ap (λ o. unwrap_or o (length blocks)) is))
    ∙ tells (number_at blocks) (length blocks) (number-low blocks) (number-apart blocks) b y
    (ap (λ o. is_some o) (all y h))

pub count_at-requires-clause-inside : goal.count_at-requires-clause-inside
count_at-requires-clause-inside c =
    let s = c.args.self.now in
    let is = c.in_ok-level.ensures.level in
    let le = level-le (marked_sizes s.order) (order_of s.order) c.args.number in
    let long = s.leveled in
    omega arith

pub returns-clause-low : goal.returns-clause-low
returns-clause-low c =
    let s = c.args.self.now in
    let is = c.in_ok-level.ensures.level in
    let le = level-le (marked_sizes s.order) (order_of s.order) c.args.number in
    omega arith

pub returns-clause-levels : goal.returns-clause-levels
returns-clause-levels c =
    let s = c.args.self.now in
    let is = c.in_ok-level.ensures.level in
    let le = level-le (marked_sizes s.order) (order_of s.order) c.args.number in
    let long = s.leveled in
    ap total c.count_at.ensures
    ∙ total-set c.args.access s.levels.items c.in_ok-level.level (omega arith)

pub returns-clause-far : goal.returns-clause-far
returns-clause-far c = λ k.
    let s = c.args.self.now in
    let is = c.in_ok-level.ensures.level in
    let le = level-le (marked_sizes s.order) (order_of s.order) c.args.number in
    let long = s.leveled in
    ap (λ l. total (drop (suc k) l)) c.count_at.ensures
    ∙ total-behind c.args.access s.levels.items c.in_ok-level.level k (omega arith)

pub returns-clause-known : goal.returns-clause-known
returns-clause-known c = λ blocks is.
    c.knows-known.ensures ∙ sym (ap (was_number_used (was_used c.args.self.now.order)) is)

pub returns-clause-level : goal.returns-clause-level
returns-clause-level c = λ blocks ys is held.
    let s = c.args.self.now in
    let b = c.args.block in
    let n = c.args.number in
    let some = λ (y : ℕ) (h : has ys y ≡ true). used-some (was_used s.order) (number_at blocks y)
    (held.known y h) in
    c.in_ok-level.ensures.level
    ∙ ap (λ l. level_of (shadow_sizes s) l n) held.order
    ∙ level-map (number_by blocks) n b (shadow_sizes s) ys (number-tells blocks b n ys is some)

pub returns-clause-order : goal.returns-clause-order
returns-clause-order c = λ blocks ys is held.
    let s = c.args.self.now in
    let b = c.args.block in
    let n = c.args.number in
    let some = λ (y : ℕ) (h : has ys y ≡ true). used-some (was_used s.order) (number_at blocks y)
    (held.known y h) in
    record {
      order = c.in_ok-level.ensures.order
          ∙ ap (brought_front n) held.order
          ∙ front-map (number_by blocks) n b (number_by blocks) (ap (λ o. unwrap_or o 0) is)
          (λ y e. refl) ys (number-tells blocks b n ys is some);
      known = λ y h. used-after (was_used s.order) _ blocks b n is c.in_ok-level.ensures.used y
          ∙ known-front (is_known blocks s) b ys held.known y h;
    }

pub returns-clause-adds : goal.returns-clause-adds
returns-clause-adds c = λ blocks is q.
    used-after (was_used c.args.self.now.order) _ blocks c.args.block c.args.number is
    c.in_ok-level.ensures.used q

pub returns-clause-numbers : goal.returns-clause-numbers
returns-clause-numbers c = λ blocks is low.
    low-after (was_used c.args.self.now.order) _ blocks c.args.block c.args.number is
    c.in_ok-level.ensures.used low
