-- What holds of the element at an index, while a list grows or another element changes.
use Rattle.std.proofs.Common.{◌≡◌, ℕ, ◌<◌, [], ◌∷◌, ◌++◌, List, length, get_or, set}
use Rattle.std.proofs.Common.{Result, Ok, Err, IfOk, OnOk, ap, sym, subst, ◌∙◌, inl, inr, arith}
use Rattle.std.specs.List.{All}
use Rattle.std.proofs.lemmas.Bool.{cases_eq}
use Rattle.std.proofs.lemmas.List.{get_or-set_other, get_or-set_same, get_or_append_left}
use Rattle.std.proofs.lemmas.List.{get_or_push, length_push, length-set}
use Rattle.std.proofs.lemmas.List.Elements.{All-push, All-same}
use Rattle.grid_run.specs.Plans.{HasAt}

module _ {X : Type 0} (P : X → Type 0) where
  -- once another joins the list
  pub at-push : (xs ys : List X) (k : ℕ) (x d : X) → ys ≡ xs ++ x ∷ [] → k < length xs
      → P (get_or xs k d) → P (get_or ys k d)
  at-push xs ys k x d is lt own =
      subst P (sym (ap (λ l. get_or l k d) is ∙ get_or_append_left xs (x ∷ []) d k lt)) own

  -- of the one that joined
  pub at-last : (xs ys : List X) (k : ℕ) (x d : X) → ys ≡ xs ++ x ∷ [] → k ≡ length xs
      → P x → P (get_or ys k d)
  at-last xs ys k x d is last own =
      subst P (sym (ap (λ l. get_or l k d) is ∙ get_or_push xs x d k (sym last))) own

  -- of each, if it holds of the one that joined
  pub all-push : (xs ys : List X) (x : X) → ys ≡ xs ++ x ∷ [] → All P xs → P x → All P ys
  all-push xs ys x is all own = All-same P ys (xs ++ x ∷ []) is (All-push P xs x all own)

  -- once the element at i has changed, if it keeps what holds
  pub at-set : (xs : List X) (i k : ℕ) (x d : X) → i < length xs → (P (get_or xs i d) → P x)
      → P (get_or xs k d) → P (get_or (set xs i x) k d)
  at-set xs i k x d lt keeps own = elim (cases_eq k i) [
    | inl e ↦ subst P (sym (ap (λ j. get_or (set xs i x) j d) e ∙ get_or-set_same xs i x d lt))
        (keeps (subst (λ j. P (get_or xs j d)) e own))
    | inr ne ↦ subst P (sym (get_or-set_other xs i k x d ne)) own
  ]

  -- of the one that changed
  pub at-changed : (xs : List X) (i : ℕ) (x d : X) → i < length xs → P x
      → P (get_or (set xs i x) i d)
  at-changed xs i x d lt own = subst P (sym (get_or-set_same xs i x d lt)) own

  -- of an element that was found
  pub at-found : (xs : List X) (k : ℕ) (x : X) → HasAt P xs k → x ≡ get_or xs k x → P x
  at-found xs k x found is = subst P (sym is) (found.has x)

-- of all of a list that has one element, once that has changed
pub only-changed : {X : Type 0} (P : X → Type 0) (xs : List X) (x : X) → length xs ≡ 1 → P x
    → All P (set xs 0 x)
only-changed P xs x one own k d lt =
    let first : k ≡ 0 = omega (arith, lt, one, length-set xs 0 x) in
    subst (λ j. P (get_or (set xs 0 x) j d)) (sym first)
    (at-changed P xs 0 x d (omega (arith, one)) own)

module _ {X : Type 0} where
  -- the indices stay
  pub inside-push : (xs ys : List X) (k : ℕ) (x : X) → ys ≡ xs ++ x ∷ [] → k < length xs
      → k < length ys
  inside-push xs ys k x is lt = let len = ap length is ∙ length_push xs x in omega arith

  pub inside-set : (xs : List X) (i k : ℕ) (x : X) → k < length xs → k < length (set xs i x)
  inside-set xs i k x lt = subst (λ n. k < n) (sym (length-set xs i x)) lt

  -- and there is a last one
  pub inside-last : (xs ys : List X) (k : ℕ) (x : X) → ys ≡ xs ++ x ∷ [] → k ≡ length xs
      → k < length ys
  inside-last xs ys k x is last = let len = ap length is ∙ length_push xs x in omega arith

-- an element that has joined is at the index that was answered
pub joined-at : {X E : Type 0} (P : X → Type 0) (xs ys : List X) (x : X) (r : Result ℕ E)
    → IfOk r (λ k. k ≡ length xs) → OnOk r (ys ≡ xs ++ x ∷ []) → P x → IfOk r (HasAt P ys)
joined-at P xs ys x (Ok k) last is own = record {
  inside = inside-last xs ys k x is last;
  has = λ d. at-last P xs ys k x d is last own;
}
joined-at P xs ys x (Err why) last is own = tt
