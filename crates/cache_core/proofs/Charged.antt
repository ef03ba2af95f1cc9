-- Each dirty way is charged to an access.
use Rattle.std.proofs.Common.{◌≡◌, ℕ, zero, suc, ◌+◌, ◌≤◌, Bool, true, false, cond, not, ◌&&◌, ◌||◌}
use Rattle.std.proofs.Common.{List, [], ◌∷◌, ◌++◌, length, take, drop, map, filter, replicate}
use Rattle.std.proofs.Common.{Option, Some, None, is_some, refl, sym, ap, subst, ◌∙◌, arith}
use Rattle.std.proofs.lemmas.List.{take-append-drop}
use borrow.Rule.Slice.PartMut.{put_mid}
use Rattle.cache_core.specs.declared.ways.Way.{Way}
use Rattle.cache_core.specs.Row.{shifted, leaving, changed, dirtied, is_dirty_way, block_addr_of}
use Rattle.cache_core.specs.Row.{dirty_count, dirty_block, next_row, pushed_out, holds_block}
use Rattle.cache_core.specs.Row.{empty_way}
use Rattle.std.proofs.lemmas.Bool.{cond-true, cond-false}
use Rattle.cache_core.proofs.RowStep.{valid_way, next-hit, next-miss}
use Rattle.cache_core.proofs.Steps.{out-hit, out-miss, out-none}

abbrev one : Way → ℕ
one w = cond (is_dirty_way w) 1 0

one-le : (w : Way) → one w ≤ 1
one-le w = (elim (is_dirty_way w) as (λ t. cond t 1 0 ≤ 1)
    [ true ↦ omega arith | false ↦ omega arith ])

-- the dirty ways of two rows are those of the one and those of the other
pub dirty_count-append : (xs ys : List Way)
    → dirty_count (xs ++ ys) ≡ dirty_count xs + dirty_count ys
dirty_count-append [] ys = omega arith
dirty_count-append (x ∷ xs) ys = let rest = dirty_count-append xs ys in omega arith

-- the dirty ways before and the new one are the dirty ways after and the one that is removed
dirty_count-shifted : (p : Way → Bool) (c : Way) (xs : List Way)
    → dirty_count (shifted p c xs) + one (leaving p c xs) ≡ dirty_count xs + one c
dirty_count-shifted p c [] = refl
dirty_count-shifted p c (x ∷ xs) =
    (elim (p x) as (λ t. (one c + dirty_count (cond t xs (shifted p x xs)))
    + one (cond t x (leaving p x xs)) ≡ (one x + dirty_count xs) + one c) [
      | true ↦ omega arith
      | false ↦ let rest = dirty_count-shifted p x xs in omega arith
    ])

dirty_count-changed : (p : Way → Bool) (xs : List Way)
    → dirty_count (changed p dirtied xs) ≤ dirty_count xs + 1
dirty_count-changed p [] = omega arith
dirty_count-changed p (x ∷ xs) =
    (elim (p x) as (λ t. dirty_count (cond t (dirtied x ∷ xs) (x ∷ changed p dirtied xs))
    ≤ (one x + dirty_count xs) + 1) [
      | true ↦ let le = one-le (dirtied x) in omega arith
      | false ↦ let rest = dirty_count-changed p xs in omega arith
    ])

pushes : (w : Way) → ◌≡◌ {A = ℕ} (cond (is_some (dirty_block w)) 1 0) (one w)
pushes w = (elim (is_dirty_way w) as (λ t.
    ◌≡◌ {A = ℕ} (cond (is_some (cond t (Some w.block_addr) None)) 1 0) (cond t 1 0))
    [ true ↦ refl | false ↦ refl ])

moved : (p : Way → Bool) (c : Way) (xs : List Way)
    → dirty_count (shifted p c xs) + one (leaving p c xs) ≤ dirty_count xs + 1
moved p c xs = let e = dirty_count-shifted p c xs in let le = one-le c in omega arith

stays : (p : Way → Bool) (c : Way) (xs : List Way)
    → dirty_count (shifted p c xs) + 0 ≤ dirty_count xs + 1
stays p c xs = let m = moved p c xs in omega arith

on-hit : (fifo k : Bool) (p : Way → Bool) (c : Way) (xs : List Way)
    → dirty_count (cond fifo (cond k (changed p dirtied xs) xs) (shifted p c xs)) + 0
    ≤ dirty_count xs + 1
on-hit true true p c xs = let le = dirty_count-changed p xs in omega arith
on-hit true false p c xs = omega arith
on-hit false k p c xs = stays p c xs

module _ (xs : List Way) where
  abbrev IsCharged : List Way → Option ℕ → Type 0
  IsCharged ys o = dirty_count ys + cond (is_some o) 1 0 ≤ dirty_count xs + 1

  -- equal rows and equal blocks are paid alike
  pub charged-by : (ys zs : List Way) (o u : Option ℕ) → ys ≡ zs → o ≡ u → IsCharged zs u
      → IsCharged ys o
  charged-by ys zs o u e f h = subst (λ l. IsCharged l o) (sym e)
      (subst (λ v. IsCharged zs v) (sym f) h)

  pushed : (p : Way → Bool) (c : Way) → IsCharged (shifted p c xs) (dirty_block (leaving p c xs))
  pushed p c = let m = moved p c xs in let e = pushes (leaving p c xs) in omega arith

  on-miss : (fifo wb a w : Bool) (block_addr : ℕ) (t : Bool) → (not w || a) ≡ t
      → IsCharged (next_row wb a block_addr w xs None fifo) (pushed_out wb a block_addr w xs None)
  on-miss fifo wb a w block_addr true e =
      charged-by _ (shifted (holds_block block_addr) (valid_way block_addr (wb && w)) xs) _
      (dirty_block (leaving (holds_block block_addr) (valid_way block_addr (wb && w)) xs))
      (next-miss fifo wb a w block_addr xs
      ∙ cond-true (not w || a) _ _ e) (out-miss wb a w block_addr xs e)
      (pushed (holds_block block_addr) (valid_way block_addr (wb && w)))
  on-miss fifo wb a w block_addr false e =
      charged-by _ xs _ None (next-miss fifo wb a w block_addr xs
      ∙ cond-false (not w || a) _ _ e) (out-none wb a w block_addr xs e) (omega arith)

  -- an access to a row leaves dirty, and pushes out, at most one block more than was dirty
  pub charged-row : (fifo wb a w : Bool) (block_addr : ℕ) (seen : Option Way)
      → IsCharged (next_row wb a block_addr w xs seen fifo) (pushed_out wb a block_addr w xs seen)
  charged-row fifo wb a w block_addr None = on-miss fifo wb a w block_addr (not w || a) refl
  charged-row fifo wb a w block_addr (Some v) =
      charged-by _ (cond fifo (cond (wb && w) (changed (holds_block block_addr) dirtied xs) xs)
      (shifted (holds_block block_addr) (valid_way block_addr (wb && (w || v.dirty))) xs)) _ None
      (next-hit fifo wb a w block_addr xs v) (out-hit wb a w block_addr xs v)
      (on-hit fifo (wb && w) (holds_block block_addr) (valid_way block_addr (wb && (w || v.dirty)))
      xs)

-- so it is for all ways, where it is so for the part of them that was replaced
pub charged-mid : (a k n : ℕ) (xs ys : List Way)
    → dirty_count ys + n ≤ dirty_count (take k (drop a xs)) + 1
    → dirty_count (put_mid a k xs ys) + n ≤ dirty_count xs + 1
charged-mid a k n xs ys h =
    let e1 = dirty_count-append (take a xs) (ys ++ drop k (drop a xs)) in
    let e2 = dirty_count-append ys (drop k (drop a xs)) in
    let e3 : dirty_count (take a xs) + dirty_count (drop a xs) ≡ dirty_count xs =
    sym (dirty_count-append (take a xs) (drop a xs)) ∙ ap dirty_count (take-append-drop a xs) in
    let e4 : dirty_count (take k (drop a xs)) + dirty_count (drop k (drop a xs))
    ≡ dirty_count (drop a xs) = sym
    (dirty_count-append (take k (drop a xs)) (drop k (drop a xs)))
    ∙ ap dirty_count (take-append-drop k (drop a xs)) in
    omega arith

-- the list of the dirty ways is as long as their number
pub dirty_count-filter : (xs : List Way)
    → length (map block_addr_of (filter is_dirty_way xs)) ≡ dirty_count xs
dirty_count-filter [] = refl
dirty_count-filter (x ∷ xs) = (elim (is_dirty_way x) as (λ t.
    length (map block_addr_of (cond t (x ∷ filter is_dirty_way xs) (filter is_dirty_way xs)))
    ≡ cond t 1 0 + dirty_count xs) [
      | true ↦ let e = dirty_count-filter xs in omega arith
      | false ↦ let e = dirty_count-filter xs in omega arith
    ])

-- empty ways are not dirty
pub dirty_count-replicate : (n : ℕ) → dirty_count (replicate n empty_way) ≡ 0
dirty_count-replicate zero = refl
dirty_count-replicate (suc n) = let e = dirty_count-replicate n in omega arith

-- no more ways are dirty than there are
pub dirty_count-le : (xs : List Way) → dirty_count xs ≤ length xs
dirty_count-le [] = omega arith
dirty_count-le (x ∷ xs) = let one = one-le x in let rest = dirty_count-le xs in omega arith
