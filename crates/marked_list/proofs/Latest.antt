-- A use of the block that was used last.
use Rattle.std.proofs.Common.{◌≡◌, ◌≢◌, ◌<◌, ◌∷◌, ℕ, zero, suc, true, cond, List, [], length}
use Rattle.std.proofs.Common.{get_or, map}
use Rattle.std.proofs.Common.{refl, sym, ap, subst, ◌∙◌, arith}
use Rattle.std.proofs.lemmas.Bool.{eq-eqb}
use Rattle.cache_core.specs.Residents.{distinct}
use Rattle.cache_core.proofs.Shift.{IsOnce, without, without-absent}
use Rattle.marked_list.specs.declared.marks.Mark.{Mark}
use Rattle.marked_list.specs.Recency.{is_among, level_of, brought_front}
use Rattle.marked_list.specs.Marks.{AreMarks, mark_size}
use Rattle.marked_list.specs.Uses.{dead, living}
use Rattle.marked_list.proofs.Living.{living-first, once-is}

without-head : (m : ℕ) (ys : List ℕ) → without m (m ∷ ys) ≡ without m ys
without-head m ys = rw (eq-eqb m m refl) refl

module _ (b : ℕ) (low : b ≢ dead) where
  -- the list is as it was
  pub front-stays : (ms : List ℕ) → distinct (living ms) ≡ living ms → 0 < length ms
      → get_or ms 0 0 ≡ b → living ms ≡ brought_front b (living ms)
  front-stays [] once lt e = absurd (omega arith)
  front-stays (m ∷ ms) once lt e = same m e once
    where
      same : (n : ℕ) → n ≡ b → distinct (living (n ∷ ms)) ≡ living (n ∷ ms)
          → living (n ∷ ms) ≡ brought_front b (living (n ∷ ms))
      same n is o = subst (λ z. distinct (living (z ∷ ms)) ≡ living (z ∷ ms)
          → living (z ∷ ms) ≡ brought_front b (living (z ∷ ms))) (sym is)
          (λ whole. living-first b ms low ∙ ap (λ l. b ∷ l) (sym (without-head b (living ms)
          ∙ without-absent (living ms) b
          (subst IsOnce (living-first b ms low) (once-is (b ∷ ms) whole)).0))
          ∙ sym (ap (brought_front b) (living-first b ms low))) o

  first-among : (n : ℕ) (ys : List ℕ) → 0 < n → is_among b (b ∷ ys) n ≡ true
  first-among zero ys lt = absurd (omega arith)
  first-among (suc n) ys lt = rw (eq-eqb b b refl) refl

  -- and each size has the block
  pub level-front : (ms : List ℕ) → 0 < length ms → get_or ms 0 0 ≡ b → (ks : List Mark)
      → AreMarks ms ks → 0 ≡ level_of (map mark_size ks) (living ms) b
  level-front [] lt e ks are = absurd (omega arith)
  level-front (m ∷ ms) lt e [] are = refl
  level-front (m ∷ ms) lt e (k ∷ ks) are =
      let some = (are 0 (omega arith)).some in
      sym (ap (λ t. cond t 0 (suc (level_of (map mark_size ks) (living (m ∷ ms)) b)))
      (subst (λ l. is_among b l k.size ≡ true)
      (sym (ap (λ n. living (n ∷ ms)) e ∙ living-first b ms low))
      (first-among k.size (living ms) some)))
