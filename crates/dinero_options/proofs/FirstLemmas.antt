-- The first element of a list that passes a test, looked for from the front.
use Rattle.std.proofs.Common.{◌≡◌, ◌∙◌, ℕ, ◌+◌, ◌<◌, Bool, true, false, List, length, take, drop}
use Rattle.std.proofs.Common.{get_or, Some, None, ap, refl, sym}
use Rattle.std.specs.List.{find}
use Rattle.std.proofs.lemmas.List.{drop_more, take-append-drop, take_more}
use Rattle.std.proofs.lemmas.List.Folds.{find-append}

module _ {X : Type 0} (p : X → Bool) (xs : List X) (i : ℕ) (d : X) where
  -- if none before it passes, an element that passes is the first
  pub found_first : find p (take i xs) ≡ None → i < length xs → p (get_or xs i d) ≡ true
      → find p xs ≡ Some (get_or xs i d)
  found_first none lt hit =
      ap (find p) (sym (take-append-drop i xs)) ∙ find-append p (take i xs) (drop i xs)
      ∙ rw (none, drop_more xs i d lt, hit) refl

  -- if it does not pass either, none up to it passes
  pub none_more : find p (take i xs) ≡ None → i < length xs → p (get_or xs i d) ≡ false
      → find p (take (i + 1) xs) ≡ None
  none_more none lt miss =
      ap (find p) (take_more xs i d lt) ∙ find-append p (take i xs) _ ∙ rw (none, miss) refl
