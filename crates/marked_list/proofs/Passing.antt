-- The last uses from a place on, when the place moves over one use.
use Rattle.std.proofs.Common.{◌≡◌, ℕ, ◌-◌, ◌+◌, ◌<◌, Bool, true, false, cond, not, eqb, List, []}
use Rattle.std.proofs.Common.{◌∷◌, ◌++◌, take, length, reverse, get_or, sym, ap, ◌∙◌, arith}
use Rattle.std.proofs.lemmas.List.{length-append, length-reverse, reverse-reverse, get_or-reverse}
use Rattle.std.proofs.lemmas.List.{append-nil, take_at, take_more}
use Rattle.std.proofs.lemmas.List.Elements.{filter-append}
use Rattle.marked_list.specs.Uses.{since, dead, living}

module _ (log : List ℕ) (i : ℕ) (lt : i < length log) where
  abbrev ms : List ℕ
  ms = reverse log

  abbrev x : ℕ
  x = get_or log i 0

  inside : i < length ms
  inside = omega (arith, length-reverse log)

  stands : x ≡ get_or ms (length ms - (i + 1)) 0
  stands = sym (ap (λ l. get_or l i 0) (reverse-reverse log)) ∙ get_or-reverse ms i 0 inside
      ∙ ap (λ k. get_or ms k 0) (omega arith)

  since-more : since i ms ≡ since (i + 1) ms ++ x ∷ []
  since-more = let within = inside in
      let j : length ms - i ≡ length ms - (i + 1) + 1 = omega arith in
      ap (λ k. take k ms) j ∙ take_more ms (length ms - (i + 1)) 0 (omega arith)
      ∙ ap (λ z. since (i + 1) ms ++ z ∷ []) (sym stands)

  passed : (t : Bool) → eqb x dead ≡ t
      → living (since i ms) ≡ living (since (i + 1) ms) ++ cond (not t) (x ∷ []) []
  passed t e = ap living since-more
      ∙ filter-append (λ m. not (eqb m dead)) (since (i + 1) ms) (x ∷ [])
      ∙ ap (λ u. living (since (i + 1) ms) ++ cond (not u) (x ∷ []) []) e

  -- an index moves over a use that is dead
  pub pass-dead : eqb x dead ≡ true → living (since i ms) ≡ living (since (i + 1) ms)
  pass-dead e = passed true e ∙ append-nil (living (since (i + 1) ms))

  -- and over one that is the last of its block
  pub pass-last : eqb x dead ≡ false
      → living (since i ms) ≡ living (since (i + 1) ms) ++ x ∷ []
  pass-last e = passed false e

  -- then the window loses its last block
  pub pass-living : eqb x dead ≡ false → (w : List ℕ) → living (since i ms) ≡ w
      → living (since (i + 1) ms) ≡ take (length w - 1) w
  pass-living e w is = let d = living (since (i + 1) ms) in
      let whole : w ≡ d ++ x ∷ [] = sym is ∙ pass-last e in
      sym (ap (λ l. take (length l - 1) l) whole
      ∙ take_at d (x ∷ []) (length (d ++ x ∷ []) - 1) (omega (arith, length-append d (x ∷ []))))

  -- and if the last use of all is dead, the window was empty
  pub pass-end : eqb x dead ≡ true → i + 1 ≡ length log → (w : List ℕ) → living (since i ms) ≡ w
      → living (since (i + 1) ms) ≡ take (length w - 1) w
  pass-end e end w is = let none : length ms - (i + 1) ≡ 0 = omega (arith, length-reverse log) in
      let empty : living (since (i + 1) ms) ≡ [] = ap (λ k. living (take k ms)) none in
      let nothing : w ≡ [] = sym is ∙ pass-dead e ∙ empty in
      empty ∙ sym (ap (λ l. take (length l - 1) l) nothing)
