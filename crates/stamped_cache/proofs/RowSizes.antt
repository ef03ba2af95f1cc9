-- How many blocks the rows of a cache hold.
use Rattle.std.proofs.Common.{◌≡◌, ◌<◌, ◌≤◌, ◌+◌, ◌*◌, ℕ, drop, length, get_or, length-take}
use Rattle.std.proofs.Common.{length-drop, sym, subst, ◌∙◌, arith}
use Rattle.std.proofs.Math.Nat.{mul-le-mul_right}
use Rattle.std.proofs.lemmas.List.{get_or_default}
use Rattle.cache_core.specs.Row.{row}
use Rattle.stamped_cache.specs.declared.rows.Rows.{Rows}
use Rattle.stamped_cache.specs.Rows.{row_held, rows_in, set_ways}

-- no more than they have ways
pub held-low : (rows : Rows) (s : ℕ) → length (row_held rows s) ≤ rows.ways
unfolding row_held
held-low rows s = omega (
  arith,
  length-take (get_or rows.filled.items s 0) (row rows.ways s rows.numbers.items),
  length-take rows.ways (drop (s * rows.ways) rows.numbers.items),
)

-- the row of a set is inside the list of all numbers
pub inside-all : (rows : Rows) (s : ℕ) → s < rows_in rows
    → (s + 1) * rows.ways ≤ length rows.numbers.items
unfolding rows_in
inside-all rows s inside = let wide = rows.wide in
    subst (λ n. (s + 1) * rows.ways ≤ n) (sym wide) (mul-le-mul_right rows.ways (omega arith))

-- a set has room if it holds fewer blocks than it has ways
pub has-room : (rows : Rows) (s n : ℕ) → s < rows_in rows → n ≡ get_or rows.filled.items s n
    → length (row_held rows s) < set_ways rows → n < rows.ways
unfolding row_held rows_in set_ways
has-room rows s n inside is room =
    let all : (s + 1) * rows.ways ≤ length rows.numbers.items = inside-all rows s inside in
    let same = is ∙ get_or_default rows.filled.items s n 0 inside in
    let low = rows.low s 0 inside in
    omega (
      arith,
      length-take (get_or rows.filled.items s 0) (row rows.ways s rows.numbers.items),
      length-take rows.ways (drop (s * rows.ways) rows.numbers.items),
      length-drop (s * rows.ways) rows.numbers.items,
    )
