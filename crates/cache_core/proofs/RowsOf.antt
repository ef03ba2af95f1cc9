-- Rows of one length, one after another in one list.
use Rattle.std.proofs.Common.{◌≡◌, ◌≢◌, ℕ, ◌+◌, ◌-◌, ◌*◌, ◌<◌, ◌≤◌, inl, inr, List, length, take}
use Rattle.std.proofs.Common.{drop, sym, ap, ◌∙◌, arith}
use Rattle.std.proofs.Math.Nat.{mul-le-mul_right}
use Rattle.std.proofs.lemmas.Bool.{cases_order}
use Rattle.std.proofs.lemmas.List.{drop-take}
use Rattle.std.proofs.lemmas.Slice.{take-put_mid_below, drop-put_mid}
use borrow.Rule.Slice.PartMut.{put_mid}
use Rattle.cache_core.specs.Row.{row}

module _ {X : Type 0} (n s t : ℕ) (xs ys : List X) (apart : s ≢ t)
    (inside : (t + 1) * n ≤ length xs) (long : length ys ≡ n) where
  below : s < t → (s + 1) * n ≤ t * n
  below h = mul-le-mul_right n (omega arith)

  above : t < s → (t + 1) * n ≤ s * n
  above h = mul-le-mul_right n (omega arith)

  -- the other rows are as before
  pub row-put_mid_other : row n s (put_mid (t * n) (t * n + n - t * n) xs ys) ≡ row n s xs
  row-put_mid_other = elim (cases_order s t) [
    | inl same ↦ absurd (apart same)
    | inr d ↦ elim d [
      | inl h ↦ let le = below h in
          sym (drop-take (s * n) n (put_mid (t * n) (t * n + n - t * n) xs ys))
          ∙ ap (drop (s * n)) (take-put_mid_below (t * n) (t * n + n - t * n) xs ys (s * n + n)
          (omega arith) (omega arith)) ∙ drop-take (s * n) n xs
      | inr h ↦ let le = above h in
          ap (take n) (drop-put_mid (t * n) (t * n + n - t * n) xs ys (s * n) (omega arith)
          (omega arith) (omega arith))
    ]
  ]
