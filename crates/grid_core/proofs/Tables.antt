-- Counts by distance and by level, added from a distance and a level on.
use Rattle.std.proofs.Common.{◌≡◌, ℕ, zero, suc, ◌+◌, ◌<◌, ◌≤◌, Bool, true, false, not, ◌&&◌}
use Rattle.std.proofs.Common.{List, [], ◌∷◌, length, get_or, set, drop, map, replicate, ltb}
use Rattle.std.proofs.Common.{refl, sym, ap, subst, ◌∙◌, arith, add-one}
use Rattle.std.specs.Global.{Vec}
use Rattle.std.specs.List.{All}
use Rattle.std.proofs.lemmas.List.{get_or-map, get_or-replicate, length-map, length-replicate}
use Rattle.std.proofs.lemmas.Bool.{ltb-true, ltb-false}
use Rattle.cache_core.specs.declared.access.Access.{Access}
use Rattle.cache_core.specs.declared.counts.PerClass.{PerClass}
use Rattle.cache_core.specs.Counting.{with_one, IsWithin}
use Rattle.cache_core.specs.Counts.{none_by_class}
use Rattle.grid_core.specs.Totals.{added, listed_counts, past, total}
use Rattle.grid_core.proofs.Hitting.{with-none}
use Rattle.grid_core.proofs.Totals.{far-in, far-out, none-added, one-first, one-later}
use Rattle.grid_core.proofs.Totals.{drop-none, same-classes}

-- one more in a count is one more in those from k on, if it is among them
pub total-from : (x : Access) (ps : List PerClass) (i k : ℕ) → i < length ps
    → total (drop k (set ps i (with_one x true (get_or ps i none_by_class))))
    ≡ with_one x (not (ltb i k)) (total (drop k ps))
total-from x ps i k lt = (elim (ltb i k) as (λ t. ltb i k ≡ t
    → total (drop k (set ps i (with_one x true (get_or ps i none_by_class))))
    ≡ with_one x (not t) (total (drop k ps))) [
      | true ↦ λ e. let below = ltb-true i k e in
          let more = with_one x true (get_or ps i none_by_class) in
          ap total (far-out ps i k more below)
          ∙ sym (with-none x (total (drop k ps)))
      | false ↦ λ e. let above = ltb-false i k e in far-in x ps i k lt (omega arith)
    ]) refl

first-if : (x : Access) (t : Bool) (p q : PerClass)
    → added (with_one x t p) q ≡ with_one x t (added p q)
first-if x true p q = one-first x p q
first-if x false p q = ap (λ m. added m q) (with-none x p) ∙ sym (with-none x (added p q))

later-if : (x : Access) (t : Bool) (p q : PerClass)
    → added p (with_one x t q) ≡ with_one x t (added p q)
later-if x true p q = one-later x p q
later-if x false p q = ap (added p) (with-none x q) ∙ sym (with-none x (added p q))

-- a list of which each has a sum: one more in one of these sums is one more in all
module _ {X : Type 0} (f : X → PerClass) (x : Access) (t : Bool) where
  put-in : (ts : List X) (p n : ℕ) (v d : X) → p < length ts → n ≤ p
      → f v ≡ with_one x t (f (get_or ts p d))
      → total (map f (drop n (set ts p v))) ≡ with_one x t (total (map f (drop n ts)))
  put-in [] p n v d lt le one = absurd (omega arith)
  put-in (y ∷ ts) zero zero v d lt le one =
      ap (λ m. added m (total (map f ts))) one ∙ first-if x t (f y) (total (map f ts))
  put-in (y ∷ ts) (suc p) zero v d lt le one =
      ap (added (f y)) (put-in ts p zero v d (omega arith) (omega arith) one)
      ∙ later-if x t (f y) (total (map f ts))
  put-in (y ∷ ts) zero (suc n) v d lt le one = absurd (omega arith)
  put-in (y ∷ ts) (suc p) (suc n) v d lt le one =
      put-in ts p n v d (omega arith) (omega arith) one

-- one more at a distance and a level is one more from n and k on, if it is among them
pub past-set : (x : Access) (ts : List (List PerClass)) (p l n k : ℕ) → p < length ts
    → l < length (get_or ts p []) → past n k (set ts p (set (get_or ts p []) l
    (with_one x true (get_or (get_or ts p []) l none_by_class))))
    ≡ with_one x (not (ltb p n) && not (ltb l k)) (past n k ts)
past-set x ts p l n k lt low =
    let old = get_or ts p [] in
    let new = set old l (with_one x true (get_or old l none_by_class)) in
    let f : List PerClass → PerClass = λ counts. total (drop k counts) in
    (elim (ltb p n) as (λ t. ltb p n ≡ t → past n k (set ts p new)
    ≡ with_one x (not t && not (ltb l k)) (past n k ts)) [
      | true ↦ λ e. let below = ltb-true p n e in
          ap (λ l. total (map f l)) (far-out ts p n new below)
          ∙ sym (with-none x (past n k ts))
      | false ↦ λ e. let above = ltb-false p n e in
          put-in f x (not (ltb l k)) ts p n new [] lt (omega arith) (total-from x old l k low)
    ]) refl

-- the first of those from a place on, and the others
past-step : (ts : List (List PerClass)) (p k : ℕ) → p < length ts
    → past p k ts ≡ added (total (drop k (get_or ts p []))) (past (suc p) k ts)
past-step [] p k lt = absurd (omega arith)
past-step (y ∷ ts) zero k lt = refl
past-step (y ∷ ts) (suc p) k lt = past-step ts p k (omega arith)

-- a bound of a sum is one of its parts
within-left : (n : ℕ) (p q : PerClass) → IsWithin (added p q) n → IsWithin p n
within-left n p q all =
    let a = all.instr in let b = all.read in let c = all.write in let d = all.misc in
    record { instr = omega arith; read = omega arith; write = omega arith; misc = omega arith }

within-right : (n : ℕ) (p q : PerClass) → IsWithin (added p q) n → IsWithin q n
within-right n p q all =
    let a = all.instr in let b = all.read in let c = all.write in let d = all.misc in
    record { instr = omega arith; read = omega arith; write = omega arith; misc = omega arith }

-- the counts at each place are within the bound of all
pub within-place : (n : ℕ) (ts : List (List PerClass)) (p m k : ℕ) → p < length ts → m ≤ p
    → IsWithin (past m k ts) n → IsWithin (total (drop k (get_or ts p []))) n
within-place n [] p m k lt le all = absurd (omega arith)
within-place n (y ∷ ts) zero zero k lt le all =
    within-left n (total (drop k y)) (past 0 k ts) all
within-place n (y ∷ ts) (suc p) zero k lt le all =
    within-place n ts p zero k (omega arith) (omega arith)
    (within-right n (total (drop k y)) (past 0 k ts) all)
within-place n (y ∷ ts) zero (suc m) k lt le all = absurd (omega arith)
within-place n (y ∷ ts) (suc p) (suc m) k lt le all =
    within-place n ts p m k (omega arith) (omega arith) all

-- each of the four counts is at most that of another
record AreLess (p q : PerClass) : Type 0 where
  instr : p.instr ≤ q.instr
  read : p.read ≤ q.read
  write : p.write ≤ q.write
  misc : p.misc ≤ q.misc

less-same : (p : PerClass) → AreLess p p
less-same p = record {
  instr = omega arith;
  read = omega arith;
  write = omega arith;
  misc = omega arith;
}

less-more : (p q s : PerClass) → AreLess p q → AreLess p (added s q)
less-more p q s l =
    let a = l.instr in let b = l.read in let c = l.write in let d = l.misc in
    record { instr = omega arith; read = omega arith; write = omega arith; misc = omega arith }

less-both : (p q s u : PerClass) → AreLess p q → AreLess s u → AreLess (added p s) (added q u)
less-both p q s u l m =
    let a = l.instr in let b = l.read in let c = l.write in let d = l.misc in
    let e = m.instr in let f = m.read in let g = m.write in let i = m.misc in
    record { instr = omega arith; read = omega arith; write = omega arith; misc = omega arith }

less-drop : (ps : List PerClass) (k : ℕ) → AreLess (total (drop k ps)) (total ps)
less-drop [] zero = less-same none_by_class
less-drop [] (suc k) = less-same none_by_class
less-drop (p ∷ ps) zero = less-same (added p (total ps))
less-drop (p ∷ ps) (suc k) = less-more (total (drop k ps)) (total ps) p (less-drop ps k)

less-levels : (ts : List (List PerClass)) (k : ℕ) → AreLess (past 0 k ts) (past 0 0 ts)
less-levels [] k = less-same none_by_class
less-levels (y ∷ ts) k = less-both (total (drop k y)) (total y) (past 0 k ts) (past 0 0 ts)
    (less-drop y k) (less-levels ts k)

less-places : (ts : List (List PerClass)) (n k : ℕ) → AreLess (past n k ts) (past 0 k ts)
less-places [] zero k = less-same none_by_class
less-places [] (suc n) k = less-same none_by_class
less-places (y ∷ ts) zero k = less-same (past 0 k (y ∷ ts))
less-places (y ∷ ts) (suc n) k =
    less-more (past n k ts) (past 0 k ts) (total (drop k y)) (less-places ts n k)

within-less : (b : ℕ) (p q : PerClass) → AreLess p q → IsWithin q b → IsWithin p b
within-less b p q l all =
    let a = l.instr in let c = l.read in let d = l.write in let e = l.misc in
    let f = all.instr in let g = all.read in let h = all.write in let i = all.misc in
    record { instr = omega arith; read = omega arith; write = omega arith; misc = omega arith }

-- all counts are a bound of those from a distance and a level on
pub within-past : (b : ℕ) (ts : List (List PerClass)) (n k : ℕ) → IsWithin (past 0 0 ts) b
    → IsWithin (past n k ts) b
within-past b ts n k all = within-less b (past n k ts) (past 0 k ts) (less-places ts n k)
    (within-less b (past 0 k ts) (past 0 0 ts) (less-levels ts k) all)

-- a table of nothing
pub past-none : (rows levels n k : ℕ)
    → past n k (replicate rows (replicate levels none_by_class)) ≡ none_by_class
past-none zero levels zero k = refl
past-none zero levels (suc n) k = refl
past-none (suc rows) levels zero k =
    ap (λ m. added m (past 0 k (replicate rows (replicate levels none_by_class))))
    (drop-none levels k)
    ∙ none-added (past 0 k (replicate rows (replicate levels none_by_class)))
    ∙ past-none rows levels zero k
past-none (suc rows) levels (suc n) k = past-none rows levels n k

-- each table is as long as they all are
pub wide-at : (ts : List (List PerClass)) (m : ℕ) → All (λ n. n ≡ m) (map length ts)
    → (k : ℕ) (d : List PerClass) → k < length ts → length (get_or ts k d) ≡ m
wide-at ts m all k d lt =
    let long = length-map ts (λ (l : List PerClass). length l) in
    sym (get_or-map length ts k d (length d) lt) ∙ all k (length d) (omega arith)

added-on : (s p q : PerClass) → added (added s p) q ≡ added s (added p q)
added-on s p q = same-classes (added (added s p) q) (added s (added p q)) (omega arith)
    (omega arith) (omega arith) (omega arith)

-- the table at a place of a vector of tables, from a level on
module _ (vs : List (Vec PerClass)) {p : ℕ} {v : Vec PerClass} {l : List PerClass}
    (lt : p < length vs) (is : v ≡ get_or vs p v) (items : l ≡ v.items) (k : ℕ) where
  abbrev ts : List (List PerClass)
  ts = map listed_counts vs

  at : get_or ts p [] ≡ l
  at = get_or-map listed_counts vs p v [] lt ∙ ap listed_counts (sym is) ∙ sym items

  long : p < length ts
  long = omega (arith, length-map vs listed_counts)

  -- it has the level, as all have
  pub level-there : All (λ (counts : List PerClass). k ≤ length counts) ts → k ≤ length l
  level-there all = subst (λ (r : List PerClass). k ≤ length r) at (all p [] long)

  -- its counts are bounded as those of all
  pub within-there : (b m : ℕ) → m ≤ p → IsWithin (past m k ts) b → IsWithin (total (drop k l)) b
  within-there b m le all = subst (λ (r : List PerClass). IsWithin (total (drop k r)) b) at
      (within-place b ts p m k long le all)

  -- the sum so far with this table, and what is left
  pub sum-next : (s f w : PerClass) → added s (past p k ts) ≡ w → f ≡ total (drop k l)
      → added (added s f) (past (p + 1) k ts) ≡ w
  sum-next s f w so sum =
      added-on s f (past (p + 1) k ts)
      ∙ ap (λ n. added s (added f (past n k ts))) (add-one p)
      ∙ ap (λ g. added s (added g (past (suc p) k ts)))
      (sum ∙ ap (λ r. total (drop k r)) (sym at))
      ∙ ap (added s) (sym (past-step ts p k long)) ∙ so

  -- the sum with this table is bounded as the whole
  pub sum-within : (b : ℕ) (s f w : PerClass) → added s (past p k ts) ≡ w
      → f ≡ total (drop k l) → IsWithin w b → IsWithin (added s f) b
  sum-within b s f w so sum all = within-left b (added s f) (past (p + 1) k ts)
      (subst (λ z. IsWithin z b) (sym (sum-next s f w so sum)) all)

-- new tables are of one length
pub wide-new : (ts : List (List PerClass)) (n m : ℕ)
    → ts ≡ replicate n (replicate m none_by_class) → All (λ k. k ≡ m) (map length ts)
wide-new ts n m new = λ k d lt.
    let first = replicate m none_by_class in
    let long = length-map ts (λ (l : List PerClass). length l) in
    let size = ap length new ∙ length-replicate n first in
    get_or-map length ts k first d (omega arith)
    ∙ ap (λ (l : List (List PerClass)). length (get_or l k first)) new
    ∙ ap length (get_or-replicate n k first first (omega arith))
    ∙ length-replicate m none_by_class
