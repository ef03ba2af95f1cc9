-- One level for each block tells in which numbers of ways it is dirty.
use Rattle.std.proofs.Common.{◌≡◌, ℕ, ◌<◌, ◌≤◌, Bool, true, false, cond, ◌&&◌, ◌||◌, eqb, ltb}
use Rattle.std.proofs.Common.{[], ◌∷◌, refl, sym, ap, ◌∙◌, arith}
use Rattle.std.proofs.lemmas.Bool.{eqb-true, le-ltb, lt-ltb, ltb-true, ltb-false, and_right}
use Rattle.cache_core.specs.declared.access.Access.{Access}
use Rattle.cache_core.specs.History.{Rules, History, access, flush, block_of, is_write}
use Rattle.cache_core.specs.Residents.{hits, uses, renewals}
use Rattle.cache_core.specs.Dirty.{is_written}
use Rattle.cache_core.proofs.Cases.{by_cases}
use Rattle.grid_core.specs.Ways.{with_ways, IsStacked, stack_distance}
use Rattle.grid_core.specs.Levels.{dirty_level}
use Rattle.grid_core.specs.Slots.{level_after}
use Rattle.grid_core.proofs.Distances.{uses-all, stacked-ways, hits-distance}

-- a read at distance d of a block of level l
read-level : (d l n : ℕ) → (ltb d n && ltb l n) ≡ ltb (cond (ltb l d) d l) n
read-level d l n = by_cases (ltb l d)
    (λ e. let near = ltb-true l d e in
    further near ∙ sym (ap (λ t. ltb (cond t d l) n) e))
    (λ e. let far = ltb-false l d e in nearer far ∙ sym (ap (λ t. ltb (cond t d l) n) e))
  where
    further : l < d → (ltb d n && ltb l n) ≡ ltb d n
    further near = by_cases (ltb d n)
        (λ e. let lt = ltb-true d n e in ap (λ t. t && ltb l n) e ∙ lt-ltb l n (omega arith)
        ∙ sym e)
        (λ e. ap (λ t. t && ltb l n) e ∙ sym e)

    nearer : d ≤ l → (ltb d n && ltb l n) ≡ ltb l n
    nearer far = by_cases (ltb l n)
        (λ e. let lt = ltb-true l n e in
        ap (λ t. t && ltb l n) (lt-ltb d n (omega arith)))
        (λ e. ap (λ t. ltb d n && t) e ∙ and_right (ltb d n) false refl ∙ sym e)

next-level : (w : Bool) (d l n : ℕ) → 0 < n
    → (w || (ltb d n && ltb l n)) ≡ ltb (level_after w l d) n
next-level true d l n pos = sym (lt-ltb 0 n pos)
next-level false d l n pos = read-level d l n

module _ (r : Rules) (st : IsStacked r) where
  abbrev q : ℕ → Rules
  q n = with_ways n r

  written-step : (n : ℕ) (h : History) (x : Access) (b : ℕ) (same : eqb (block_of r x) b ≡ true)
      → is_written (q n) (access x ∷ h) b
      ≡ (is_write x || (hits (q n) (renewals (q n) h) x && is_written (q n) h b))
  unfolding is_written
  written-step n h x b same = ap (λ t. cond t
      (is_write x || (hits (q n) (renewals (q n) h) x && is_written (q n) h b))
      (is_written (q n) h b))
      (ap (λ t. t && uses (q n) (renewals (q n) h) x) same
      ∙ uses-all (q n) (stacked-ways n r st) (renewals (q n) h) x)

  written-other : (n : ℕ) (h : History) (x : Access) (b : ℕ) (apart : eqb (block_of r x) b ≡ false)
      → is_written (q n) (access x ∷ h) b ≡ is_written (q n) h b
  unfolding is_written
  written-other n h x b apart = ap (λ t. cond (t && uses (q n) (renewals (q n) h) x)
      (is_write x || (hits (q n) (renewals (q n) h) x && is_written (q n) h b))
      (is_written (q n) h b)) apart

  -- the level of the block of an access, and of the others
  pub level-step : (h : History) (x : Access) (b : ℕ) (same : eqb (block_of r x) b ≡ true)
      → dirty_level r (access x ∷ h) b
      ≡ level_after (is_write x) (dirty_level r h b) (stack_distance r h b)
  unfolding dirty_level
  level-step h x b same = ap (λ t. cond t
      (level_after (is_write x) (dirty_level r h b) (stack_distance r h b))
      (dirty_level r h b)) same

  pub level-other : (h : History) (x : Access) (b : ℕ) (apart : eqb (block_of r x) b ≡ false)
      → dirty_level r (access x ∷ h) b ≡ dirty_level r h b
  unfolding dirty_level
  level-other h x b apart = ap (λ t. cond t
      (level_after (is_write x) (dirty_level r h b) (stack_distance r h b))
      (dirty_level r h b)) apart

  module _ (n : ℕ) (pos : 0 < n) (le : n ≤ r.assoc) where
    at-start : (b : ℕ) → false ≡ ltb r.assoc n
    at-start b = sym (le-ltb r.assoc n le)

    -- a block is written in n ways just if its level is less than n
    pub written-level : (h : History) (b : ℕ) → is_written (q n) h b ≡ ltb (dirty_level r h b) n
    unfolding is_written dirty_level
    written-level [] b = at-start b
    written-level (flush ∷ h) b = at-start b
    written-level (access x ∷ h) b = step x h b (written-level h b)
      where
        step : (x : Access) (h : History) (b : ℕ)
            → is_written (q n) h b ≡ ltb (dirty_level r h b) n
            → is_written (q n) (access x ∷ h) b ≡ ltb (dirty_level r (access x ∷ h) b) n
        step x h b before = by_cases (eqb (block_of r x) b)
            (λ e. written-step n h x b e
            ∙ ap (λ t. is_write x || (t && is_written (q n) h b))
            (hits-distance r st n le h x
            ∙ ap (λ z. ltb (stack_distance r h z) n) (eqb-true (block_of r x) b e))
            ∙ ap (λ t. is_write x || (ltb (stack_distance r h b) n && t)) before
            ∙ next-level (is_write x) (stack_distance r h b) (dirty_level r h b) n pos
            ∙ ap (λ l. ltb l n) (sym (level-step h x b e)))
            (λ e. written-other n h x b e ∙ before
            ∙ ap (λ l. ltb l n) (sym (level-other h x b e)))
