-- What holds of all caches that stand for histories.
use Rattle.std.proofs.Common.{◌≡◌, ◌<◌, ℕ, ◌+◌, ◌*◌, Bool, true, List, Some, refl, sym, subst, ◌∙◌}
use Rattle.std.proofs.Common.{false, None, Option, [], ◌==◌}
use Rattle.std.specs.List.{list_any}
use Rattle.cache_core.specs.Geometry.{sets_of}
use Rattle.cache_core.specs.History.{History, Rules}
use Rattle.cache_core.specs.Kinds.{referenced_blocks}
use Rattle.cache_core.specs.Residents.{distinct, renewals}
use Rattle.cache_core.proofs.Lawful.{sane_of}
use Rattle.cache_core.proofs.Reuse.{has, has-distinct}
use Rattle.cache_core.proofs.Referenced.{renewals-referenced}
use Rattle.shared_list.specs.Shared.{was_used_by}
use Rattle.shared_list.proofs.Columns.{place-inside}
use Rattle.grid_core.specs.Numbers.{number_at}
use Rattle.grid_core.specs.Shadows.{number_by, was_number_used}
use Rattle.grid_core.specs.Ways.{IsStacked}
use Rattle.grid_core.proofs.Renumbered.{used-some}
use Rattle.stamped_cache.specs.declared.caches.StampedCaches.{StampedCaches}
use Rattle.stamped_cache.specs.Rows.{rows_in}
use Rattle.stamped_cache.specs.Stamped.{StampedStandsBy, stamped_rules}

module _ (c : StampedCaches) where
  -- it is LRU and allocates at writes
  pub is-stacked : IsStacked (stamped_rules c)
  unfolding stamped_rules
  is-stacked = record { lru = refl; allocates = refl }

  -- it has ways
  pub assoc-some : 0 < (stamped_rules c).assoc
  unfolding stamped_rules
  assoc-some = (sane_of c.geometry).assoc_pos

  -- and sets
  pub sets-some : 0 < (stamped_rules c).sets
  unfolding stamped_rules
  sets-some = (sane_of c.geometry).sets_pos

-- the row of a set in a user's cache is one of the rows
pub row-inside : (c : StampedCaches) (s u : ℕ) → s < sets_of c.geometry → u < c.users
    → s * c.users + u < rows_in c.rows
row-inside c s u inside low = subst (λ n. s * c.users + u < n) (sym c.deep)
    (place-inside s (sets_of c.geometry) c.users u inside low)

-- each block that was used since the last flush has a number
pub used-named : (blocks : List ℕ) (c : StampedCaches) (q : ℕ) (h : History)
    → StampedStandsBy blocks c q h
    → (y : ℕ) → has (distinct (renewals (stamped_rules c) h)) y ≡ true
    → number_at blocks y ≡ Some (number_by blocks y)
used-named blocks c q h st y there =
    used-some (was_used_by c.list q) (number_at blocks y) (st.known y
    ∙ renewals-referenced (stamped_rules c) h y
    (sym (has-distinct (renewals (stamped_rules c) h) y) ∙ there))

-- blocks that were used by their numbers are used where the same numbers were
pub used-same : (old new : ℕ → Bool) → ((n : ℕ) → new n ≡ old n) → (o : Option ℕ)
    → was_number_used new o ≡ was_number_used old o
used-same old new same None = refl
used-same old new same (Some n) = same n

-- at the start none is used
pub used-none : (used : ℕ → Bool) → ((n : ℕ) → used n ≡ false) → (o : Option ℕ)
    → was_number_used used o ≡ false
used-none used none None = refl
used-none used none (Some n) = none n

-- no block was renewed, and none is known
pub none-renewed : (r : Rules) → renewals r [] ≡ []
unfolding renewals
none-renewed r = refl

pub referenced-none : (r : Rules) (b : ℕ)
    → false ≡ list_any (λ t. t == b) (referenced_blocks r [])
unfolding referenced_blocks
referenced-none r b = refl
