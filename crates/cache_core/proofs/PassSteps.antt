-- The last step of a pass over a row: the way at index i passes the test.
use Rattle.std.proofs.Common.{◌≡◌, ℕ, ◌<◌, Bool, true, List, ◌++◌, length, take, drop, set, get_or}
use Rattle.std.proofs.Common.{add-one}
use Rattle.std.proofs.lemmas.List.{drop_more, set_split}
use Rattle.cache_core.specs.Row.{shifted, changed}

module _ {X : Type 0} (p : X → Bool) (xs : List X) (i : ℕ) (d : X) (inside : i < length xs)
    (passes : p (get_or xs i d) ≡ true) where
  -- a pass that shifts the ways ends there
  pub shifted-stop : (c : X) → set xs i c ≡ take i xs ++ shifted p c (drop i xs)
  shifted-stop c = rw (drop_more xs i d inside, passes, add-one) (set_split xs i c inside)

  -- so does a pass that changes one
  pub changed-stop : (g : X → X)
      → set xs i (g (get_or xs i d)) ≡ take i xs ++ changed p g (drop i xs)
  changed-stop g = rw (drop_more xs i d inside, passes, add-one)
      (set_split xs i (g (get_or xs i d)) inside)
