-- The residents of a set, in order of last use (FIFO: of last load).
use Rattle.std.specs.Prelude.{ℕ, List, take, if◌then◌else◌}
use Rattle.cache_core.specs.History.{Rules, History}
use Rattle.cache_core.specs.Residents.{in_set, distinct, renewals}

module _ (r : Rules) where
  -- the renewals of set s in the list, the latest first: of LRU each block once, by its last use,
  -- and of FIFO once for each load
  abbrev pub ranked : ℕ → List ℕ → List ℕ
  ranked s ms = if r.fifo then in_set r s ms else distinct (in_set r s ms)

  -- the first of them, as many as a set has ways
  abbrev pub ways_of : ℕ → List ℕ → List ℕ
  ways_of s ms = take r.assoc (ranked s ms)

  -- the residents of set s after a history
  abbrev pub residents_of : History → ℕ → List ℕ
  residents_of h s = ways_of s (renewals r h)
