-- The block that leaves a full set: the one whose last use is the longest ago.
use Rattle.std.proofs.Common.{◌≡◌, ℕ, ◌-◌, ◌<◌, ◌≤◌, true, List, length, get_or, map, Some}
use Rattle.std.proofs.Common.{sym, ap, subst, ◌∙◌, arith}
use Rattle.std.specs.List.{All}
use Rattle.cache_core.specs.History.{History, Rules}
use Rattle.cache_core.specs.Order.{residents_of}
use Rattle.cache_core.specs.Residents.{distinct, renewals}
use Rattle.cache_core.proofs.Reuse.{has, has-distinct}
use Rattle.cache_core.proofs.Victim.{resident-renewed}
use Rattle.marked_list.specs.Recency.{index_in}
use Rattle.grid_core.specs.Numbers.{number_at}
use Rattle.grid_core.specs.Shadows.{number_by}
use Rattle.grid_core.specs.Ways.{IsStacked}
use Rattle.grid_core.proofs.Numbers.{number-apart}
use Rattle.stamped_cache.specs.declared.state.State.{State}
use Rattle.stamped_cache.specs.Holding.{HoldBy}
use Rattle.stamped_cache.proofs.Holds.{row-length}
use Rattle.stamped_cache.proofs.Named.{number-found, number-there}
use Rattle.stamped_cache.proofs.Oldest.{oldest, place-inside, place-map, read-place}
use Rattle.stamped_cache.proofs.Residents.{has-resident}
use Rattle.stamped_cache.proofs.RowLists.{has-get_or}

module _ (blocks : List ℕ) (r : Rules) (st : IsStacked r) (some : 0 < r.assoc) (h : History)
    (states : ℕ → State) (rows : ℕ → List ℕ) (held : HoldBy blocks r h states rows)
    (named : (y : ℕ) → has (distinct (renewals r h)) y ≡ true
    → number_at blocks y ≡ Some (number_by blocks y))
    (t : ℕ) (lt : t < r.sets) where
  abbrev ys : List ℕ
  ys = distinct (renewals r h)

  abbrev order : List ℕ
  order = map (number_by blocks) ys

  abbrev residents : List ℕ
  residents = residents_of r h t

  used : (y : ℕ) → has residents y ≡ true → has ys y ≡ true
  used y g = has-distinct (renewals r h) y
      ∙ resident-renewed r (renewals r h) y (has-resident r h t y g)

  apart : (a c : ℕ) → has ys a ≡ true → has ys c ≡ true
      → number_by blocks a ≡ number_by blocks c → a ≡ c
  apart a c p q same = number-apart blocks a c (number_by blocks c)
      (named a p ∙ ap Some same) (named c q)

  -- all blocks of a row were used since the last flush
  pub row-used : All (λ n. has order n ≡ true) (rows t)
  row-used k d inside =
      let there : has (rows t) (get_or (rows t) k d) ≡ true = has-get_or (rows t) k d inside in
      let y = number-found (number_by blocks) residents (get_or (rows t) k d)
      (sym ((held.sets t lt).same (get_or (rows t) k d)) ∙ there) in
      subst (λ n. has order n ≡ true) y.2 (number-there (number_by blocks) ys y.0 (used y.0 y.1))

  module _ (full : length (rows t) ≡ r.assoc) (i : ℕ) (low : i < length (rows t))
      (behind : (k : ℕ) → k < length (rows t)
      → index_in (get_or (rows t) k 0) order ≤ index_in (get_or (rows t) i 0) order) where
    filled : length residents ≡ r.assoc
    filled = sym (row-length blocks r h states rows held t lt) ∙ full

    abbrev last : ℕ
    last = get_or residents (r.assoc - 1) 0

    has-last : has residents last ≡ true
    has-last = let all = filled in has-get_or residents (r.assoc - 1) 0 (omega arith)

    last-there : has (rows t) (number_by blocks last) ≡ true
    last-there = (held.sets t lt).same (number_by blocks last)
        ∙ number-there (number_by blocks) residents last has-last

    found : (y : ℕ) × (has residents y ≡ true) × (number_by blocks y ≡ get_or (rows t) i 0)
    found = number-found (number_by blocks) residents (get_or (rows t) i 0)
        (sym ((held.sets t lt).same (get_or (rows t) i 0)) ∙ has-get_or (rows t) i 0 low)

    -- the one that stands furthest behind in the order of all is the last of the residents
    pub leaving-is : get_or (rows t) i 0 ≡ number_by blocks last
    leaving-is =
        let k = place-in in
        let le = behind k.0 k.1 in
        let le2 : index_in (number_by blocks last) order
        ≤ index_in (number_by blocks found.0) order =
        subst (λ n. index_in n order ≤ index_in (number_by blocks found.0) order) k.2
        (subst (λ n. index_in (get_or (rows t) k.0 0) order ≤ index_in n order) (sym found.2) le)
        in
        let le3 = subst (λ n. n ≤ index_in (number_by blocks found.0) order)
        (place-map (number_by blocks) ys apart last (used last has-last)) le2 in
        let le4 = subst (λ n. index_in last ys ≤ n)
        (place-map (number_by blocks) ys apart found.0 (used found.0 found.1)) le3 in
        sym found.2 ∙ ap (number_by blocks) (oldest r st h some t found.0 filled found.1 le4)
      where
        place-in : (k : ℕ) × (k < length (rows t))
            × (get_or (rows t) k 0 ≡ number_by blocks last)
        place-in = (
          index_in (number_by blocks last) (rows t),
          place-inside (rows t) (number_by blocks last) last-there,
          read-place (rows t) (number_by blocks last) last-there,
        )
