-- The stamps of one user among those of all, which stand together for each block.
use Rattle.std.proofs.Common.{◌≡◌, ◌≢◌, ℕ, ◌+◌, ◌*◌, ◌/◌, ◌<◌, ◌≤◌, ◌&&◌, Bool, true, false, cond}
use Rattle.std.proofs.Common.{eqb, ltb}
use Rattle.std.proofs.Common.{List, length, map, get_or, set, sym, ap, ◌∙◌, arith}
use Rattle.std.proofs.Common.{get_or-set_same, get_or-set_other}
use Rattle.std.specs.List.{range_with_len}
use Rattle.std.proofs.Math.Nat.{mul-le-mul_right}
use Rattle.std.proofs.lemmas.Bool.{eqb-true, eqb-false, ltb-true, ltb-false}
use Rattle.std.proofs.lemmas.List.{get_or_past}
use Rattle.std.proofs.lemmas.List.FromFn.{get_or-map-range_with_len, length-map-range_with_len}
use Rattle.std.proofs.lemmas.Nat.{div-mul-add}
use Rattle.cache_core.proofs.Cases.{by_cases}
use Rattle.marked_list.specs.Uses.{never, stamp_at}

-- the stamps of user q, for so many blocks
abbrev pub column : ℕ → ℕ → List ℕ → ℕ → List ℕ
column users blocks items q =
    map (λ b. get_or items (b * users + q) never) (range_with_len 0 blocks)

-- the place of the stamp of a block is told by the block and the user
pub place-inside : (b m users q : ℕ) → b < m → q < users → b * users + q < m * users
place-inside b m users q lt low =
    let rows : (b + 1) * users ≤ m * users = mul-le-mul_right users (omega arith) in
    omega (arith, rows)

pub places-apart : (b n users q u : ℕ) → q < users → u < users → b * users + q ≡ n * users + u
    → (b ≡ n) × (q ≡ u)
places-apart b n users q u lq lu e =
    let same : b ≡ n = sym (div-mul-add b users q lq) ∙ ap (λ z. z / users) e
    ∙ div-mul-add n users u lu in (
      same,
      (let e₂ : n * users + q ≡ n * users + u = ap (λ z. z * users + q) (sym same) ∙ e in
          omega (arith, e₂)),
    )

module _ (users m : ℕ) (items : List ℕ) (wide : length items ≡ m * users) where
  -- a stamp of the column is the one at its place
  pub column-at : (q b : ℕ) → q < users
      → stamp_at (column users m items q) b ≡ get_or items (b * users + q) never
  column-at q b low = by_cases (ltb b m)
      (λ e. get_or-map-range_with_len (λ z. get_or items (z * users + q) never) 0 m b b never
      (ltb-true b m e) (omega arith))
      (λ e. let past : m ≤ b = ltb-false b m e in
      let rows : m * users ≤ b * users = mul-le-mul_right users past in
      let long = length-map-range_with_len (λ z. get_or items (z * users + q) never) 0 m in
      get_or_past (column users m items q) b never (omega (arith, long))
      ∙ sym (get_or_past items (b * users + q) never (omega (arith, rows, wide))))

  module _ (n u v : ℕ) (lu : u < users) (room : n < m) where
    inside : n * users + u < length items
    inside = omega (arith, place-inside n m users u room lu, wide)

    -- once a stamp was set
    pub item-set : (q b : ℕ) → q < users
        → get_or (set items (n * users + u) v) (b * users + q) never
        ≡ cond (eqb n b && eqb u q) v (get_or items (b * users + q) never)
    item-set q b lq = by_cases (eqb n b)
        (λ e. by_cases (eqb u q)
        (λ f. let here : b * users + q ≡ n * users + u =
        ap (λ z. z * users + q) (sym (eqb-true n b e))
        ∙ ap (λ z. n * users + z) (sym (eqb-true u q f)) in
        ap (λ z. get_or (set items (n * users + u) v) z never) here
        ∙ get_or-set_same items (n * users + u) v never inside
        ∙ sym (ap (λ t. cond t v (get_or items (b * users + q) never)) (both true e ∙ f)))
        (λ f. let ne : b * users + q ≢ n * users + u =
        λ g. eqb-false u q f (sym (places-apart b n users q u lq lu g).1) in
        get_or-set_other items (n * users + u) (b * users + q) v never ne
        ∙ sym (ap (λ t. cond t v (get_or items (b * users + q) never)) (both true e ∙ f))))
        (λ e. let ne : b * users + q ≢ n * users + u =
        λ g. eqb-false n b e (sym (places-apart b n users q u lq lu g).0) in
        get_or-set_other items (n * users + u) (b * users + q) v never ne
        ∙ sym (ap (λ t. cond t v (get_or items (b * users + q) never)) (both false e)))
      where
        both : (t : Bool) → eqb n b ≡ t → (eqb n b && eqb u q) ≡ (t && eqb u q)
        both t e = ap (λ z. z && eqb u q) e
