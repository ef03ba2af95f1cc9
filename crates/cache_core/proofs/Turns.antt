-- How one access moves the order of the blocks in each set.
use Rattle.std.proofs.Common.{◌≡◌, ℕ, zero, suc, ◌%◌, Bool, true, false, not, eqb, List, [], ◌∷◌}
use Rattle.std.proofs.Common.{take, refl, sym, ap, subst, ◌∙◌, arith}
use Rattle.std.proofs.lemmas.List.{take-take}
use Rattle.std.proofs.lemmas.Bool.{eqb-true, eq-eqb, not-true, and_parts, and_left, and_right}
use Rattle.std.proofs.lemmas.Bool.{cond-true, cond-false}
use Rattle.cache_core.specs.declared.access.Access.{Access}
use Rattle.cache_core.specs.History.{Rules, History, access, flush, block_of}
use Rattle.cache_core.specs.Residents.{in_set, hits, uses, loads, renews, renewals, is_resident}
use Rattle.cache_core.specs.Order.{ranked, ways_of}
use Rattle.cache_core.proofs.Reuse.{has, has-distinct, has-ways_of}
use Rattle.cache_core.proofs.Shift.{without, IsOnce, IsOnce-take, IsOnce-distinct, has-filter_not}
use Rattle.cache_core.proofs.Shift.{has-take_absent}
use Rattle.cache_core.proofs.Cases.{by_cases}

IsOnce-cons_take : (n b : ℕ) (ys : List ℕ) → has (take n ys) b ≡ false → IsOnce (take n ys)
    → IsOnce (take n (b ∷ ys))
IsOnce-cons_take zero b ys h o = tt
IsOnce-cons_take (suc n) b ys h o =
    let e : take n (take (suc n) ys) ≡ take n ys = take-take n (suc n) ys (omega arith) in (
      subst (λ l. has l b ≡ false) e (has-take_absent n b (take (suc n) ys) h),
      subst IsOnce e (IsOnce-take n (take (suc n) ys) o),
    )

module _ (r : Rules) where
  -- a renewal leaves the order of other sets as it is
  pub ranked-other : (s b : ℕ) (ms : List ℕ) → eqb (b % r.sets) s ≡ false
      → ranked r s (b ∷ ms) ≡ ranked r s ms
  ranked-other s b ms e = rw e refl

  -- under FIFO it puts the block in front
  pub ranked-fifo : (b : ℕ) (ms : List ℕ) → r.fifo ≡ true
      → ranked r (b % r.sets) (b ∷ ms) ≡ b ∷ ranked r (b % r.sets) ms
  ranked-fifo b ms f = rw (f, eq-eqb (b % r.sets) (b % r.sets) refl) refl

  -- under LRU it moves the block to the front
  pub ranked-lru : (b : ℕ) (ms : List ℕ) → r.fifo ≡ false
      → ranked r (b % r.sets) (b ∷ ms) ≡ b ∷ without b (ranked r (b % r.sets) ms)
  ranked-lru b ms f = rw (f, eq-eqb (b % r.sets) (b % r.sets) refl) refl

  -- under LRU no block of a set stands twice in its order
  pub IsOnce-ranked : r.fifo ≡ false → (s : ℕ) (ms : List ℕ) → IsOnce (ranked r s ms)
  IsOnce-ranked f s ms = rw f (IsOnce-distinct (in_set r s ms))

  -- a block of another set does not stand in it
  pub absent : (s b : ℕ) (ms : List ℕ) → eqb (b % r.sets) s ≡ false → has (ranked r s ms) b ≡ false
  absent s b ms e = let none = has-filter_not (λ m. eqb (m % r.sets) s) b e ms in
      by_cases r.fifo (λ f. rw f none) (λ f. rw f (has-distinct (in_set r s ms) b ∙ none))

  -- (not by `rw`, which would rewrite the field inside every `renewals r`)
  pub block-fifo : (ms : List ℕ) (x : Access) (t : Bool) → r.fifo ≡ true → loads r ms x ≡ t
      → renews r ms x ≡ t
  block-fifo ms x t f e = cond-true r.fifo (loads r ms x) (uses r ms x) f ∙ e

  -- under LRU an access renews its block where it uses it
  pub block-lru : (ms : List ℕ) (x : Access) (t : Bool) → r.fifo ≡ false → uses r ms x ≡ t
      → renews r ms x ≡ t
  block-lru ms x t f e = cond-false r.fifo (loads r ms x) (uses r ms x) f ∙ e

  -- a hit under FIFO renews nothing
  pub block-hit : (ms : List ℕ) (x : Access) → r.fifo ≡ true → hits r ms x ≡ true
      → renews r ms x ≡ false
  block-hit ms x f hit = block-fifo ms x false f
      (and_right (uses r ms x) (not (hits r ms x)) (ap not hit))

  -- nor does an access that does not use its block
  pub block-unused : (ms : List ℕ) (x : Access) → uses r ms x ≡ false → renews r ms x ≡ false
  block-unused ms x u = by_cases r.fifo
      (λ f. block-fifo ms x false f (and_left (uses r ms x) (not (hits r ms x)) u))
      (λ f. block-lru ms x false f u)

  -- an access that renews its block adds it in front
  pub renewals-yes : (h : History) (x : Access) → renews r (renewals r h) x ≡ true
      → renewals r (access x ∷ h) ≡ block_of r x ∷ renewals r h
  unfolding renewals
  renewals-yes h x e = cond-true (renews r (renewals r h) x) (block_of r x ∷ renewals r h)
      (renewals r h) e

  -- one that does not adds nothing
  pub renewals-no : (h : History) (x : Access) → renews r (renewals r h) x ≡ false
      → renewals r (access x ∷ h) ≡ renewals r h
  unfolding renewals
  renewals-no h x e = cond-false (renews r (renewals r h) x) (block_of r x ∷ renewals r h)
      (renewals r h) e

  -- a block that is not resident is not among the residents of its set
  pub fresh : (h : History) (b : ℕ) → is_resident r (renewals r h) b ≡ false
      → has (ways_of r (b % r.sets) (renewals r h)) b ≡ false
  fresh h b e = has-ways_of r (renewals r h) b ∙ e

  -- no block stands twice among the ways of a set
  once-access : (h : History) (x : Access) (s : ℕ) → IsOnce (ways_of r s (renewals r h))
      → r.fifo ≡ true → IsOnce (ways_of r s (renewals r (access x ∷ h)))
  once-access h x s o f = by_cases (loads r (renewals r h) x)
      (λ e. rw (renewals-yes h x (block-fifo (renewals r h) x true f e))
      (by_cases (eqb (block_of r x % r.sets) s)
      (λ g. let same : block_of r x % r.sets ≡ s =
      eqb-true (block_of r x % r.sets) s g in
      subst (λ z. IsOnce (take r.assoc (ranked r z (block_of r x ∷ renewals r h)))) same
      (rw (ranked-fifo (block_of r x) (renewals r h) f)
      (IsOnce-cons_take r.assoc (block_of r x)
      (ranked r (block_of r x % r.sets) (renewals r h))
      (fresh h (block_of r x) (not-true (hits r (renewals r h) x)
      (and_parts (uses r (renewals r h) x) (not (hits r (renewals r h) x)) e).1))
      (subst (λ z. IsOnce (ways_of r z (renewals r h))) (sym same) o))))
      (λ g. rw (ranked-other s (block_of r x) (renewals r h) g) o)))
      (λ e. rw (renewals-no h x (block-fifo (renewals r h) x false f e)) o)

  once-none : (s : ℕ) → IsOnce (ways_of r s [])
  once-none s = by_cases r.fifo
      (λ f. rw f (IsOnce-take r.assoc [] tt))
      (λ f.
      rw f (IsOnce-take r.assoc [] tt))

  once-fifo : r.fifo ≡ true → (h : History) (s : ℕ) → IsOnce (ways_of r s (renewals r h))
  unfolding renewals
  once-fifo f [] s = once-none s
  once-fifo f (flush ∷ h) s = once-none s
  once-fifo f (access x ∷ h) s = once-access h x s (once-fifo f h s) f

  -- no resident of a set stands twice
  pub IsOnce-ways_of : (h : History) (s : ℕ) → IsOnce (ways_of r s (renewals r h))
  IsOnce-ways_of h s = by_cases r.fifo
      (λ f. once-fifo f h s)
      (λ f. IsOnce-take r.assoc (ranked r s (renewals r h)) (IsOnce-ranked f s (renewals r h)))
