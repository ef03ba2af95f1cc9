-- Caches that are served together.
use Rattle.std.proofs.Common.{◌≡◌, ℕ, ◌<◌, List, length, get_or, map, ap, sym, ◌∙◌, arith}
use Rattle.std.specs.Global.{Vec}
use Rattle.std.proofs.lemmas.List.{get_or-map, length-map}
use Rattle.cache_core.specs.History.{History, Rules}
use Rattle.grid_core.specs.Cells.{items_of}
use Rattle.grid_core.specs.Written.{no_rules, rules_at_index, written_by}

module _ (h : History) (rs : List Rules) (xs : List (Vec ℕ))
    (lists : map items_of xs ≡ map (written_by h) rs) where
  -- there is a list for each cache
  pub list-inside : (k : ℕ) → k < length rs → k < length xs
  list-inside k lt =
      omega (arith, lt, ap length lists, length-map xs items_of, length-map rs (written_by h))

  -- and it is that of the blocks that the cache writes back
  pub list-at : (k : ℕ) (v : Vec ℕ) → k < length rs → v ≡ get_or xs k v
      → items_of v ≡ written_by h (rules_at_index rs k)
  list-at k v lt at =
      ap items_of at
      ∙ sym (get_or-map items_of xs k v (items_of v) (list-inside k lt))
      ∙ ap (λ l. get_or l k (items_of v)) lists
      ∙ get_or-map (written_by h) rs k no_rules (items_of v) lt
