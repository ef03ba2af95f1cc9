-- Counts by class, added.
use Rattle.std.proofs.Common.{◌≡◌, ℕ, zero, suc, ◌<◌, ◌≤◌, true, false, List, [], ◌∷◌, length}
use Rattle.std.proofs.Common.{get_or, set, drop, replicate, cond, ltb, refl, sym, ap, ◌∙◌, arith}
use Rattle.std.proofs.lemmas.Bool.{ltb-true, ltb-false}
use Rattle.std.proofs.Common.{take, ◌-◌}
use Rattle.std.proofs.lemmas.List.{take_rest}
use Rattle.cache_core.specs.declared.access.Access.{Access}
use Rattle.cache_core.specs.declared.counts.PerClass.{PerClass}
use Rattle.cache_core.specs.Counting.{with_one, IsWithin}
use Rattle.cache_core.specs.Counts.{none_by_class}
use Rattle.marked_list.specs.Recency.{is_among, level_of}
use Rattle.grid_core.specs.Totals.{added, total}
use Rattle.grid_core.proofs.Hitting.{with-none}

abbrev classes : ℕ → ℕ → ℕ → ℕ → PerClass
classes a b c d = record { instr = a; read = b; write = c; misc = d }

pub same-classes : (p q : PerClass) → p.instr ≡ q.instr → p.read ≡ q.read → p.write ≡ q.write
    → p.misc ≡ q.misc → p ≡ q
same-classes p q a b c d =
    ap (λ n. classes n p.read p.write p.misc) a ∙ ap (λ n. classes q.instr n p.write p.misc) b
    ∙ ap (λ n. classes q.instr q.read n p.misc) c ∙ ap (λ n. classes q.instr q.read q.write n) d

pub none-added : (p : PerClass) → added none_by_class p ≡ p
none-added p = same-classes (added none_by_class p) p (omega arith) (omega arith) (omega arith)
    (omega arith)

pub one-first : (x : Access) (p q : PerClass)
    → added (with_one x true p) q ≡ with_one x true (added p q)
one-first x p q = same-classes (added (with_one x true p) q) (with_one x true (added p q))
    (omega arith) (omega arith) (omega arith) (omega arith)

pub one-later : (x : Access) (p q : PerClass)
    → added p (with_one x true q) ≡ with_one x true (added p q)
one-later x p q = same-classes (added p (with_one x true q)) (with_one x true (added p q))
    (omega arith) (omega arith) (omega arith) (omega arith)

-- one more in one of the counts is one more in all
pub total-set : (x : Access) (ps : List PerClass) (i : ℕ) → i < length ps
    → total (set ps i (with_one x true (get_or ps i none_by_class))) ≡ with_one x true (total ps)
total-set x [] i lt = absurd (omega arith)
total-set x (p ∷ ps) zero lt = one-first x p (total ps)
total-set x (p ∷ ps) (suc i) lt =
    ap (added p) (total-set x ps i (omega arith)) ∙ one-later x p (total ps)

pub far-in : (x : Access) (ps : List PerClass) (i k : ℕ) → i < length ps → k ≤ i
    → total (drop k (set ps i (with_one x true (get_or ps i none_by_class))))
    ≡ with_one x true (total (drop k ps))
far-in x [] i k lt le = absurd (omega arith)
far-in x (p ∷ ps) i zero lt le = total-set x (p ∷ ps) i lt
far-in x (p ∷ ps) zero (suc k) lt le = absurd (omega arith)
far-in x (p ∷ ps) (suc i) (suc k) lt le = far-in x ps i k (omega arith) (omega arith)

pub far-out : {X : Type 0} (ps : List X) (i k : ℕ) (v : X) → i < k
    → drop k (set ps i v) ≡ drop k ps
far-out [] i k v lt = refl
far-out (p ∷ ps) i zero v lt = absurd (omega arith)
far-out (p ∷ ps) zero (suc k) v lt = refl
far-out (p ∷ ps) (suc i) (suc k) v lt = far-out ps i k v (omega arith)

-- in those behind k it is one more if it is behind k
pub total-behind : (x : Access) (ps : List PerClass) (i k : ℕ) → i < length ps
    → total (drop (suc k) (set ps i (with_one x true (get_or ps i none_by_class))))
    ≡ with_one x (ltb k i) (total (drop (suc k) ps))
total-behind x ps i k lt = (elim (ltb k i) as (λ t. ltb k i ≡ t
    → total (drop (suc k) (set ps i (with_one x true (get_or ps i none_by_class))))
    ≡ with_one x t (total (drop (suc k) ps))) [
      | true ↦ λ e. let below = ltb-true k i e in far-in x ps i (suc k) lt (omega arith)
      | false ↦ λ e. let above = ltb-false k i e in
          let more = with_one x true (get_or ps i none_by_class) in
          ap total (far-out ps i (suc k) more (omega arith))
          ∙ sym (with-none x (total (drop (suc k) ps)))
    ]) refl

-- a larger bound holds too
pub within-more : (p : PerClass) (n m : ℕ) → n ≤ m → IsWithin p n → IsWithin p m
within-more p n m le h =
    let a = h.instr in
    let b = h.read in
    let c = h.write in
    let d = h.misc in
    record { instr = omega arith; read = omega arith; write = omega arith; misc = omega arith }

-- a bound of all is one of each
pub within-each : (n : ℕ) (ps : List PerClass) (i : ℕ) → i < length ps → IsWithin (total ps) n
    → IsWithin (get_or ps i none_by_class) n
within-each n [] i lt all = absurd (omega arith)
within-each n (p ∷ ps) zero lt all =
    let a = all.instr in let b = all.read in let c = all.write in let d = all.misc in
    record { instr = omega arith; read = omega arith; write = omega arith; misc = omega arith }
within-each n (p ∷ ps) (suc i) lt all =
    let a = all.instr in let b = all.read in let c = all.write in let d = all.misc in
    within-each n ps i (omega arith)
    (record { instr = omega arith; read = omega arith; write = omega arith; misc = omega arith })

-- and of the last ones
pub within-last : (n : ℕ) (ps : List PerClass) (k : ℕ) → IsWithin (total ps) n
    → IsWithin (total (drop k ps)) n
within-last n [] zero all = all
within-last n [] (suc k) all = all
within-last n (p ∷ ps) zero all = all
within-last n (p ∷ ps) (suc k) all =
    let a = all.instr in let b = all.read in let c = all.write in let d = all.misc in
    within-last n ps k
    (record { instr = omega arith; read = omega arith; write = omega arith; misc = omega arith })

-- nothing in each is nothing in all
pub total-none : (n : ℕ) → total (replicate n none_by_class) ≡ none_by_class
total-none zero = refl
total-none (suc n) = none-added (total (replicate n none_by_class)) ∙ total-none n

pub drop-none : (n k : ℕ) → total (drop k (replicate n none_by_class)) ≡ none_by_class
drop-none zero zero = refl
drop-none zero (suc k) = refl
drop-none (suc n) zero = total-none (suc n)
drop-none (suc n) (suc k) = drop-none n k

-- a level is at most the number of sizes
pub level-le : (sizes ys : List ℕ) (b : ℕ) → level_of sizes ys b ≤ length sizes
level-le [] ys b = omega arith
level-le (m ∷ sizes) ys b = (elim (is_among b ys m) as (λ t.
    cond t 0 (suc (level_of sizes ys b)) ≤ suc (length sizes)) [
      | true ↦ omega arith
      | false ↦ let le = level-le sizes ys b in omega arith
    ])

-- the rest of a list from k on
pub rest-is : (xs ps : List PerClass) (k : ℕ) → xs ≡ ps
    → take (length xs - k) (drop k xs) ≡ drop k ps
rest-is xs ps k same = take_rest xs k ∙ ap (drop k) same
