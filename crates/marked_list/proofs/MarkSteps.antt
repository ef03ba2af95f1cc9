-- One mark of a list is moved, and the others stay.
use Rattle.std.proofs.Common.{◌≡◌, ◌≢◌, ◌<◌, ◌≤◌, ◌+◌, ◌∷◌, ℕ, zero, suc, Bool, true, false, not}
use Rattle.std.proofs.Common.{cond, List}
use Rattle.std.proofs.Common.{[], length, map, drop, get_or, set, Option, sym, ap, subst, ◌∙◌, refl}
use Rattle.std.proofs.Common.{arith}
use Rattle.std.proofs.Common.{below_more, get_or-set_same, get_or-set_other, add-one, drop-cons}
use Rattle.std.specs.List.Sorted.{IsStrictlyIncreasing}
use Rattle.std.proofs.lemmas.List.{get_or_default}
use Rattle.std.proofs.lemmas.Bool.{le-ltb}
use Rattle.cache_core.proofs.Shift.{IsOnce}
use Rattle.marked_list.specs.declared.marks.Mark.{Mark}
use Rattle.marked_list.specs.Uses.{dead, last_in, living, used_next}
use Rattle.marked_list.specs.Recency.{is_among, index_of, level_of}
use Rattle.marked_list.specs.Marks.{AreMarks, IsMark, covers, mark_size, no_mark}
use Rattle.marked_list.proofs.LevelLaws.{level-tells}
use Rattle.marked_list.proofs.Windows.{level-marks, mark-covers, stays-inside}

pub at-any : (P : Mark → Type 0) (xs : List Mark) (i : ℕ) (d e : Mark) → i < length xs
    → P (get_or xs i d) → P (get_or xs i e)
at-any P xs i d e lt h = subst P (get_or_default xs i d e lt) h

-- what holds of each passed mark, and of the one that is written, holds of each up to that one
pub one-more : (P : Mark → Type 0) (xs : List Mark) (i : ℕ) (v : Mark) → i < length xs
    → ((k : ℕ) → k < i → P (get_or xs k no_mark)) → P v
    → (k : ℕ) → k < i + 1 → P (get_or (set xs i v) k no_mark)
one-more P xs i v lt before here = below_more _ _
    (λ k h. let ne : k ≢ i = omega arith in
    subst P (sym (get_or-set_other xs i k v no_mark ne)) (before k h))
    (subst P (sym (get_or-set_same xs i v no_mark lt)) here)

module _ (last : Option ℕ) where
  abbrev covering : Mark → Bool
  covering k = covers k.place last

  at-drop : (ks : List Mark) (i : ℕ) → i < length ks
      → index_of covering (drop i ks) ≡ cond (covering (get_or ks i no_mark)) 0
      (suc (index_of covering (drop (i + 1) ks)))
  at-drop ks i lt = ap (index_of covering) (drop-cons ks i no_mark lt)
      ∙ ap (λ n. cond (covering (get_or ks i no_mark)) 0 (suc (index_of covering (drop n ks))))
      (sym (add-one i))

  -- the index of the first that covers the use, from what is left
  pub level-found : (ks : List Mark) (i n : ℕ) → i < length ks
      → covering (get_or ks i no_mark) ≡ true → i + index_of covering (drop i ks) ≡ n → i ≡ n
  level-found ks i n lt e is =
      let none : index_of covering (drop i ks) ≡ 0 = at-drop ks i lt
      ∙ ap (λ t. cond t 0 (suc (index_of covering (drop (i + 1) ks)))) e in omega arith

  pub level-passed : (ks : List Mark) (i n : ℕ) → i < length ks
      → covering (get_or ks i no_mark) ≡ false → i + index_of covering (drop i ks) ≡ n
      → i + 1 + index_of covering (drop (i + 1) ks) ≡ n
  level-passed ks i n lt e is =
      let one : index_of covering (drop i ks) ≡ suc (index_of covering (drop (i + 1) ks)) =
      at-drop ks i lt ∙ ap (λ t. cond t 0 (suc (index_of covering (drop (i + 1) ks)))) e in
      omega arith

-- of rising sizes, the marks from the level on stay where they are
pub rest-stays : (ms : List ℕ) (b : ℕ) → b ≢ dead → IsOnce (living ms) → (ks : List Mark)
    → IsStrictlyIncreasing (map mark_size ks) → AreMarks ms ks
    → (k : ℕ) → index_of (λ (z : Mark). covers z.place (last_in ms b)) ks ≤ k → k < length ks
    → IsMark (used_next b ms) (get_or ks k no_mark)
rest-stays ms b low once ks rising are k le lt =
    let mark = are k lt in
    let size = get_or-map ks k lt in
    stays-inside ms b low once (get_or ks k no_mark) mark
    (mark-covers ms b low (get_or ks k no_mark) mark
    ∙ ap (is_among b (living ms)) (sym size)
    ∙ level-tells (map mark_size ks) rising (living ms) b k
    (omega (arith, sizes-length ks))
    ∙ ap not (le-ltb k (level_of (map mark_size ks) (living ms) b)
    (omega (arith, level-marks ms b low ks are))))
  where
    sizes-length : (zs : List Mark) → length (map mark_size zs) ≡ length zs
    sizes-length [] = refl
    sizes-length (z ∷ zs) = ap suc (sizes-length zs)

    get_or-map : (zs : List Mark) (i : ℕ) → i < length zs
        → get_or (map mark_size zs) i 0 ≡ (get_or zs i no_mark).size
    get_or-map [] i below = absurd (omega arith)
    get_or-map (z ∷ zs) zero below = refl
    get_or-map (z ∷ zs) (suc i) below = get_or-map zs i (omega arith)
