-- The stamps of the blocks: the places of their last uses.
use Rattle.std.proofs.Common.{◌≡◌, ◌≢◌, ℕ, ◌<◌, ◌≤◌, ◌||◌, true, false, cond, not, eqb, ltb, List}
use Rattle.std.proofs.Common.{[], ◌∷◌, length, reverse, get_or, set, Some, None, sym, ap, subst}
use Rattle.std.proofs.Common.{◌∙◌, arith, get_or-set_same, get_or-set_other}
use Rattle.std.specs.Prelude.{unwrap_or}
use Rattle.std.proofs.lemmas.Bool.{eqb-true, eqb-false, eq-eqb, lt-ltb, ltb-true, ltb-false}
use Rattle.std.proofs.lemmas.Bool.{false≢true}
use Rattle.std.proofs.lemmas.List.{get_or_past}
use Rattle.std.proofs.lemmas.Option.{none-some}
use Rattle.cache_core.proofs.Cases.{by_cases}
use Rattle.cache_core.proofs.Reuse.{has}
use Rattle.cache_core.proofs.Shift.{has-filter_not}
use Rattle.marked_list.specs.Uses.{AreStamps, HaveStampRoom, buried, dead, forgotten, has_stamp}
use Rattle.marked_list.specs.Uses.{last_in, living, never, stamp_at, stamped_place, used_next}
use Rattle.marked_list.proofs.Counted.{living-le}
use Rattle.marked_list.proofs.LastUse.{has-last, has-there, last-other, last-same, last-there}
use Rattle.marked_list.proofs.LastUse.{none-last}
use Rattle.marked_list.proofs.Living.{has-living, last-buried, length-buried}

set-stamp : (stamps : List ℕ) (b n q : ℕ) → b < length stamps
    → stamp_at (set stamps b n) q ≡ cond (eqb b q) n (stamp_at stamps q)
set-stamp stamps b n q lt = by_cases (eqb b q)
    (λ e. ap (λ z. get_or (set stamps b n) z never) (sym (eqb-true b q e))
    ∙ get_or-set_same stamps b n never lt
    ∙ sym (ap (λ t. cond t n (stamp_at stamps q)) e))
    (λ e. let ne : q ≢ b = λ g. eqb-false b q e (sym g) in
    get_or-set_other stamps b q n never ne
    ∙ sym (ap (λ t. cond t n (stamp_at stamps q)) e))

-- a stamp below the two others says a place, and that its block was used
pub place-some : (n : ℕ) → n < forgotten → stamped_place n ≡ Some n
place-some n lt = ap (λ t. cond t (Some n) None) (lt-ltb n forgotten lt)

place-used : (n : ℕ) → n < forgotten → not (eqb n never) ≡ true
place-used n lt = by_cases (eqb n never)
    (λ e. let same = eqb-true n never e in absurd (omega arith))
    (λ e. ap not e)

pub place-below : (n p : ℕ) → stamped_place n ≡ Some p → n < forgotten
place-below n p is = by_cases (ltb n forgotten)
    (λ e. ltb-true n forgotten e)
    (λ e. absurd (none-some p (sym (ap (λ t. cond t (Some n) None) e) ∙ is)))

-- what is among the last uses is not dead
pub living-low : (ms : List ℕ) (b : ℕ) → has (living ms) b ≡ true → b ≢ dead
living-low ms b h e = false≢true (sym (has-filter_not (λ m. not (eqb m dead)) b
    (ap not (eq-eqb b dead e)) ms) ∙ h)

-- a block that was used has a stamp
pub used-stamped : (ms stamps : List ℕ) → AreStamps ms stamps → (b : ℕ) → b ≢ dead
    → has ms b ≡ true → has_stamp stamps b ≡ true
used-stamped ms stamps st b low h = let u = has-last ms b h in
    place-used (stamp_at stamps b) (place-below (stamp_at stamps b) u.0 (st b low ∙ u.1))

stamp-room : (stamps : List ℕ) (b p : ℕ) → stamped_place (stamp_at stamps b) ≡ Some p
    → b < length stamps
stamp-room stamps b p is = by_cases (ltb b (length stamps))
    (λ e. ltb-true b (length stamps) e)
    (λ e. let none = get_or_past stamps b never (ltb-false b (length stamps) e) in
    let below : never < forgotten = subst (λ n. n < forgotten) none
    (place-below (stamp_at stamps b) p is) in absurd (omega arith))

pub stamps-room : (ms stamps : List ℕ) → AreStamps ms stamps → HaveStampRoom (living ms) stamps
stamps-room ms stamps st b h = let low = living-low ms b h in
    let u = has-last ms b (sym (has-living ms b low) ∙ h) in
    stamp-room stamps b u.0 (st b low ∙ u.1)

-- the stamps have a place for each number of the log
pub room-logged : (log stamps : List ℕ) (i : ℕ) → HaveStampRoom (reverse log) stamps
    → i < length log
    → get_or log i 0 < length stamps
room-logged log stamps i room lt = room (get_or log i 0) (has-there log i lt)

-- the stamps after a use
module _ (old new : List ℕ) (b n : ℕ) (small : n < forgotten)
    (is : (q : ℕ) → stamp_at new q ≡ cond (eqb b q) n (stamp_at old q)) where
  pub stamps-next : (ms : List ℕ) → AreStamps ms old → n ≡ length ms
      → AreStamps (used_next b ms) new
  stamps-next ms st long q low = ap stamped_place (is q) ∙ by_cases (eqb b q)
      (λ e. ap (λ t. stamped_place (cond t n (stamp_at old q))) e ∙ place-some n small
      ∙ ap Some (long ∙ sym (length-buried b ms)) ∙ sym (last-same b q (buried b ms) e))
      (λ e. ap (λ t. stamped_place (cond t n (stamp_at old q))) e ∙ st q low
      ∙ sym (last-buried b q ms e low) ∙ sym (last-other b q (buried b ms) e))

  pub stamped-next : (q : ℕ) → has_stamp new q ≡ (eqb b q || has_stamp old q)
  stamped-next q = ap (λ m. not (eqb m never)) (is q) ∙ by_cases (eqb b q)
      (λ e. ap (λ t. not (eqb (cond t n (stamp_at old q)) never)) e ∙ place-used n small
      ∙ sym (ap (λ t. t || has_stamp old q) e))
      (λ e. ap (λ t. not (eqb (cond t n (stamp_at old q)) never)) e
      ∙ sym (ap (λ t. t || has_stamp old q) e))

-- one more block was stamped with its place
pub restamped-next : (ms stamps : List ℕ) (b : ℕ) (other : ℕ → ℕ)
    → ((q : ℕ) → stamp_at stamps q ≡ unwrap_or (last_in ms q) (other q)) → b < length stamps
    → (q : ℕ) → stamp_at (set stamps b (length ms)) q ≡ unwrap_or (last_in (b ∷ ms) q) (other q)
restamped-next ms stamps b other st lt q = set-stamp stamps b (length ms) q lt
    ∙ by_cases (eqb b q)
    (λ e. ap (λ t. cond t (length ms) (stamp_at stamps q)) e
    ∙ sym (ap (λ o. unwrap_or o (other q)) (last-same b q ms e)))
    (λ e. ap (λ t. cond t (length ms) (stamp_at stamps q)) e
    ∙ st q ∙ sym (ap (λ o. unwrap_or o (other q)) (last-other b q ms e)))

-- the stamps where only the last uses are left
module _ (ms old new : List ℕ) (st : AreStamps ms old) (small : length ms ≤ forgotten)
    (is : (q : ℕ) → stamp_at new q ≡ unwrap_or (last_in (living ms) q) (stamp_at old q)) where
  there : (q p : ℕ) → last_in (living ms) q ≡ Some p → stamp_at new q ≡ p
  there q p at = is q ∙ ap (λ o. unwrap_or o (stamp_at old q)) at

  below : (q p : ℕ) → last_in (living ms) q ≡ Some p → p < forgotten
  below q p at = omega (arith, (last-there (living ms) q p at).0, living-le ms, small)

  kept : (q : ℕ) → has (living ms) q ≡ false → stamp_at new q ≡ stamp_at old q
  kept q e = is q ∙ ap (λ o. unwrap_or o (stamp_at old q)) (none-last (living ms) q e)

  pub restamped : AreStamps (living ms) new
  restamped q low = by_cases (has (living ms) q)
      (λ e. let u = has-last (living ms) q e in
      ap stamped_place (there q u.0 u.1) ∙ place-some u.0 (below q u.0 u.1) ∙ sym u.1)
      (λ e. ap stamped_place (kept q e) ∙ st q low ∙ none-last ms q (sym (has-living ms q low) ∙ e)
      ∙ sym (none-last (living ms) q e))

  pub restamped-same : (q : ℕ) → has_stamp new q ≡ has_stamp old q
  restamped-same q = by_cases (has (living ms) q)
      (λ e. let u = has-last (living ms) q e in
      let low = living-low ms q e in
      ap (λ n. not (eqb n never)) (there q u.0 u.1) ∙ place-used u.0 (below q u.0 u.1)
      ∙ sym (used-stamped ms old st q low (sym (has-living ms q low) ∙ e)))
      (λ e. ap (λ n. not (eqb n never)) (kept q e))

-- the uses of one more block are forgotten
pub unstamped-next : (ms stamps : List ℕ) (b : ℕ) (other : ℕ → ℕ)
    → ((q : ℕ) → stamp_at stamps q ≡ cond (has ms q) forgotten (other q)) → b < length stamps
    → (q : ℕ) → stamp_at (set stamps b forgotten) q ≡ cond (has (b ∷ ms) q) forgotten (other q)
unstamped-next ms stamps b other st lt q = set-stamp stamps b forgotten q lt
    ∙ by_cases (eqb b q)
    (λ e. ap (λ t. cond t forgotten (stamp_at stamps q)) e
    ∙ sym (ap (λ t. cond (t || has ms q) forgotten (other q)) e))
    (λ e. ap (λ t. cond t forgotten (stamp_at stamps q)) e ∙ st q
    ∙ sym (ap (λ t. cond (t || has ms q) forgotten (other q)) e))

-- the stamps where all uses are forgotten
module _ (ms old new : List ℕ) (st : AreStamps ms old)
    (is : (q : ℕ) → stamp_at new q ≡ cond (has (living ms) q) forgotten (stamp_at old q)) where
  pub unstamped : AreStamps [] new
  unstamped q low = ap stamped_place (is q) ∙ by_cases (has (living ms) q)
      (λ e. ap (λ t. stamped_place (cond t forgotten (stamp_at old q))) e)
      (λ e. ap (λ t. stamped_place (cond t forgotten (stamp_at old q))) e ∙ st q low
      ∙ none-last ms q (sym (has-living ms q low) ∙ e))

  pub unstamped-same : (q : ℕ) → has_stamp new q ≡ has_stamp old q
  unstamped-same q = ap (λ n. not (eqb n never)) (is q) ∙ by_cases (has (living ms) q)
      (λ e. let low = living-low ms q e in
      ap (λ t. not (eqb (cond t forgotten (stamp_at old q)) never)) e
      ∙ sym (used-stamped ms old st q low (sym (has-living ms q low) ∙ e)))
      (λ e. ap (λ t. not (eqb (cond t forgotten (stamp_at old q)) never)) e)
