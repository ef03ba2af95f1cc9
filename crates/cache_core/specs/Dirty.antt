-- Which blocks are dirty: written in this cache, and not yet at the next level.
use Rattle.std.specs.Prelude.{ℕ, Bool, false, ◌&&◌, ◌||◌, if◌then◌else◌, nat_lt, ◌==◌, List, []}
use Rattle.std.specs.Prelude.{◌∷◌, filter}
use Rattle.cache_core.specs.History.{access, flush, History, Rules, block_of, is_write}
use Rattle.cache_core.specs.Residents.{hits, uses, renewals, is_resident}

-- a rising list with this number inserted, unless it is there already
abbrev pub inserted : ℕ → List ℕ → List ℕ
inserted x [] = x ∷ []
inserted x (y ∷ ys) =
    if nat_lt x y then x ∷ y ∷ ys else (if x == y then y ∷ ys else y ∷ inserted x ys)

-- the numbers of a list in rising order, each once
abbrev pub rising : List ℕ → List ℕ
rising [] = []
rising (x ∷ xs) = inserted x (rising xs)

module _ (r : Rules) where
  -- whether since the last flush a write used block b, when b was last loaded or after that
  unfoldable pub is_written : History → ℕ → Bool
  is_written [] b = false
  is_written (flush ∷ h) b = false
  is_written (access x ∷ h) b =
      if (block_of r x == b) && uses r (renewals r h) x
      then is_write x || (hits r (renewals r h) x && is_written h b)
      else is_written h b

  -- under write back, block b is dirty if it is resident and written
  unfoldable pub is_dirty : History → ℕ → Bool
  is_dirty h b = r.wback && is_resident r (renewals r h) b && is_written h b

  -- the dirty blocks, in rising order
  unfoldable pub dirty_blocks : History → List ℕ
  dirty_blocks h = rising (filter (is_dirty h) (renewals r h))
