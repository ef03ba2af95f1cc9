-- How many points a product has, option by option.
use Rattle.std.proofs.Common.{◌≡◌, ◌∙◌, ℕ, ◌+◌, ◌*◌, ◌<◌, ◌≤◌, Bool, true, false, List, [], ◌∷◌}
use Rattle.std.proofs.Common.{◌++◌, length, take, drop, get_or, map, ap, ap₂, sym, arith, subst}
use Rattle.std.proofs.Common.{nat_eq, ltb, cond}
use Rattle.std.proofs.Math.Nat.{mul-le-mul, mul-le-mul_left}
use borrow.Author.Tests.{ltb-false, ltb-true}
use Rattle.std.specs.List.{fold, slice_split}
use Rattle.std.proofs.lemmas.List.{append-nil, length-append, length-map, take-append-drop}
use Rattle.std.proofs.lemmas.List.Concat.{flat_map-append}
use Rattle.std.proofs.lemmas.List.Splits.{length-slice_split}
use Rattle.std.proofs.lemmas.List.Sums.{fold-append, fold_more}
use Rattle.clap.specs.Words.{Row, Text}
use Rattle.dinero_options.specs.declared.opt.Opt.{Opt}
use Rattle.grid_options.specs.Grid.{extended, grid_text, takes_list, values_of}

pub length-extended : (ps : List (List Text)) (vs : List Text)
    → length (extended ps vs) ≡ length ps * length vs
unfolding extended
length-extended [] vs = let none : 0 ≡ 0 * length vs = omega arith in none
length-extended (p ∷ ps) vs =
    let front = length-map vs (λ v. p ++ v ∷ []) in
    let rest = length-extended ps vs in
    rw (length-append (map (λ v. p ++ v ∷ []) vs) _, front, rest) (omega arith)

-- one more point, with each value behind it
pub extended_more : (ps : List (List Text)) (p : List Text) (vs : List Text)
    → extended (ps ++ p ∷ []) vs ≡ extended ps vs ++ map (λ v. p ++ v ∷ []) vs
unfolding extended
extended_more ps p vs =
    flat_map-append (λ q. map (λ v. q ++ v ∷ []) vs) ps (p ∷ [])
    ∙ ap (λ l. extended ps vs ++ l) (append-nil (map (λ v. p ++ v ∷ []) vs))

-- each option has a value
pub some_value : (rows : List Row) (x : Opt) → 1 ≤ length (values_of rows x)
unfolding values_of
some_value rows x = go (takes_list x)
  where
    cut : (text : Text) → 1 ≤ length (slice_split (λ byte. nat_eq byte 44) text)
    cut text = omega (arith, length-slice_split (λ byte. nat_eq byte 44) text)

    go : (b : Bool) → 1 ≤ length (cond b (slice_split (λ byte. nat_eq byte 44) (grid_text rows x))
        (grid_text rows x ∷ []))
    go true = cut (grid_text rows x)
    go false = omega arith

module _ (values : Opt → List Text) (some : (x : Opt) → 1 ≤ length (values x)) where
  abbrev pub from : List (List Text) → List Opt → List (List Text)
  from ps xs = fold (λ points x. extended points (values x)) ps xs

  -- the points after one more option
  pub points_more : (xs : List Opt) (i : ℕ) (x : Opt) (ps : List (List Text))
      → i < length xs → x ≡ get_or xs i x
      → from ps (take (i + 1) xs) ≡ extended (from ps (take i xs)) (values x)
  points_more xs i x ps lt is =
      fold_more (λ points y. extended points (values y)) ps xs i x lt
      ∙ ap (λ y. extended (from ps (take i xs)) (values y)) (sym is)

  -- more options give no fewer points
  pub grows : (xs : List Opt) (ps : List (List Text)) → length ps ≤ length (from ps xs)
  grows [] ps = omega arith
  grows (x ∷ xs) ps =
      let one = length-extended ps (values x) in
      let more = mul-le-mul_left {m = 1} {n = length (values x)} (length ps) (some x) in
      let rest = grows xs (extended ps (values x)) in
      omega arith

  -- too many points after some of the options are too many after all
  pub stays_above : (xs : List Opt) (i : ℕ) (x : Opt) (ps : List (List Text)) (n : ℕ)
      → i < length xs → x ≡ get_or xs i x
      → n < length (from ps (take i xs)) * length (values x) → n < length (from ps xs)
  stays_above xs i x ps n lt is above =
      let here = points_more xs i x ps lt is in
      let split : from ps xs ≡ from (from ps (take (i + 1) xs)) (drop (i + 1) xs) =
      ap (from ps) (sym (take-append-drop (i + 1) xs))
      ∙ fold-append (λ points y. extended points (values y)) ps (take (i + 1) xs) _ in
      let many = length-extended (from ps (take i xs)) (values x) in
      let rest = grows (drop (i + 1) xs) (from ps (take (i + 1) xs)) in
      let a = ap length here in
      let b = ap length split in
      omega arith

-- what the test for too many points says of lengths that are equal to those tested
pub above_test : (k n m a b : ℕ) → ltb k (n * m) ≡ true → n ≡ a → m ≡ b → k < a * b
above_test k n m a b test na mb =
    let test-fact : k < n * m = ltb-true k (n * m) test in
    subst (λ j. k < j) (ap₂ (λ x y. x * y) na mb) test-fact

pub within_test : (k n m : ℕ) → k ≡ n * m → 1 ≤ n → 1 ≤ m → ltb 4096 (n * m) ≡ false
    → (1 ≤ k) × (k ≤ 4096)
within_test k n m e some next test =
    let most : n * m ≤ 4096 = ltb-false 4096 (n * m) test in
    let least = mul-le-mul {n₁ = 1} {m₁ = 1} {n₂ = n} {m₂ = m} some next in
    (omega arith, omega arith)
