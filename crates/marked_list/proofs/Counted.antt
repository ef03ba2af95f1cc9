-- How many blocks were used, and the marks where each was used once.
use Rattle.std.proofs.Common.{◌≡◌, ◌≢◌, ℕ, zero, suc, ◌-◌, ◌<◌, ◌≤◌, true, false}
use Rattle.std.proofs.Common.{eqb, ltb, List}
use Rattle.std.proofs.Common.{[], ◌∷◌, take, length, map, refl, sym}
use Rattle.std.proofs.Common.{ap, subst, ◌∙◌, arith}
use Rattle.std.proofs.lemmas.Bool.{eqb-true, ltb-true, ltb-false}
use Rattle.std.proofs.lemmas.Bool.{false≢true}
use Rattle.std.proofs.lemmas.List.{take_all}
use Rattle.cache_core.proofs.Reuse.{has}
use Rattle.cache_core.proofs.Shift.{IsOnce, without, without-absent}
use Rattle.cache_core.proofs.Cases.{by_cases}
use Rattle.cache_core.specs.Residents.{distinct}
use Rattle.marked_list.specs.declared.marks.Mark.{Mark}
use Rattle.marked_list.specs.Marks.{AreMarks, IsMark, counted_with, mark_size, settled}
use Rattle.marked_list.specs.Uses.{dead, last_in, living, used_next}
use Rattle.marked_list.proofs.LastUse.{has-last, none-last}
use Rattle.marked_list.proofs.Living.{has-living, living-next, living-take, living-twice, once-is}
use Rattle.std.proofs.Common.{add-one}

-- how many blocks were used
pub count-again : (b : ℕ) (ys : List ℕ) → IsOnce ys → has ys b ≡ true
    → suc (length (without b ys)) ≡ length ys
count-again b [] o h = absurd (false≢true h)
count-again b (y ∷ ys) o h = by_cases (eqb y b)
    (λ e. rw e (ap (λ l. suc (length l)) (without-absent ys b
    (subst (λ z. has ys z ≡ false) (eqb-true y b e) o.0))))
    (λ e. rw e (ap suc (count-again b ys o.1 (sym (rw e refl) ∙ h))))

pub count-new : (b : ℕ) (ys : List ℕ) → has ys b ≡ false
    → suc (length (without b ys)) ≡ suc (length ys)
count-new b ys h = ap (λ l. suc (length l)) (without-absent ys b h)

-- there are no more last uses than uses
pub living-le : (ms : List ℕ) → length (living ms) ≤ length ms
living-le [] = omega arith
living-le (m ∷ ms) = by_cases (eqb m dead)
    (λ e. rw e (omega (arith, living-le ms)))
    (λ e. rw e (omega (arith, living-le ms)))

-- the number of blocks after a use, by the last use before it
pub count-next : (ms : List ℕ) (b : ℕ) → b ≢ dead → distinct (living ms) ≡ living ms
    → length (living (used_next b ms)) ≡ counted_with (last_in ms b) (length (living ms))
count-next ms b low once = ap (λ (l : List ℕ). length l) (living-next b ms low)
    ∙ by_cases (has ms b)
    (λ e. let u = has-last ms b e in
    count-again b (living ms) (once-is ms once) (has-living ms b low ∙ e)
    ∙ sym (ap (λ o. counted_with o (length (living ms))) u.1))
    (λ e. count-new b (living ms) (has-living ms b low ∙ e)
    ∙ sym (ap (λ o. counted_with o (length (living ms))) (none-last ms b e)
    ∙ add-one (length (living ms))))

take-least : (n : ℕ) (ys : List ℕ) → take (length ys - (length ys - n)) ys ≡ take n ys
take-least n ys = by_cases (ltb (length ys) n)
    (λ e. let lt = ltb-true (length ys) n e in
    ap (λ k. take k ys) (let z : length ys - (length ys - n) ≡ length ys = omega arith in z)
    ∙ take_all (length ys) ys (omega arith) ∙ sym (take_all n ys (omega arith)))
    (λ e. let ge = ltb-false (length ys) n e in
    ap (λ k. take k ys) (let z : length ys - (length ys - n) ≡ n = omega arith in z))

settled-mark : (ms : List ℕ) (k : Mark) → 0 < k.size
    → IsMark (living ms) (settled (length (living ms)) k)
settled-mark ms k some = let d = living ms in record {
  some = some;
  within = omega arith;
  window = ap (take k.size) (living-twice ms) ∙ sym (take-least k.size d)
      ∙ sym (living-take (length d - (length d - k.size)) ms);
}

pub settled-marks : (ms : List ℕ) (ks : List Mark) → AreMarks ms ks
    → AreMarks (living ms) (map (settled (length (living ms))) ks)
settled-marks ms [] a i lt = absurd (omega arith)
settled-marks ms (k ∷ ks) a zero lt = let first = a 0 (omega arith) in settled-mark ms k first.some
settled-marks ms (k ∷ ks) a (suc i) lt =
    settled-marks ms ks (λ j below. a (suc j) (omega arith)) i (omega arith)

pub sizes-settled : (n : ℕ) (ks : List Mark) → map mark_size (map (settled n) ks) ≡ map mark_size ks
sizes-settled n [] = refl
sizes-settled n (k ∷ ks) = ap (λ l. k.size ∷ l) (sizes-settled n ks)
