-- How a row of slots changes where the position of the block is known.
use Rattle.std.proofs.Common.{◌≡◌, ◌⊎◌, ℕ, zero, suc, ◌+◌, ◌-◌, ◌*◌, ◌^◌}
use Rattle.std.proofs.Common.{◌<◌, ◌≤◌, Bool, true, false, cond, eqb, ltb}
use Rattle.std.proofs.Common.{List, [], ◌∷◌, ◌++◌, length, get_or, set}
use Rattle.std.proofs.Common.{take, drop, refl, sym, ap, subst, ◌∙◌}
use Rattle.std.proofs.Common.{inl, inr, Some, arith}
use Rattle.std.specs.List.{find, copy_within}
use Rattle.std.specs.Option.{option_map_or}
use Rattle.std.proofs.lemmas.Bool.{eqb-true, ltb-true, ltb-false, and_parts}
use Rattle.std.proofs.Math.Nat.{mul_comm, le-mul_of_pos_right}
use Rattle.cache_core.specs.declared.geometry.Geometry.{Geometry}
use Rattle.cache_core.specs.Geometry.{bsize_of, assoc_of}
use Rattle.cache_core.proofs.Lawful.{sane_of}
use Rattle.cache_core.specs.Row.{shifted}
use Rattle.marked_list.specs.Recency.{index_of}
use Rattle.grid_core.specs.Slot.{Slot, used_slot}
use Rattle.grid_core.specs.Slots.{holds, slot_level, level_after, next_slots}

-- no index is above the length
pub index-le : {X : Type 0} (p : X → Bool) (xs : List X) → index_of p xs ≤ length xs
index-le p [] = omega arith
index-le p (x ∷ xs) = (elim (p x) as (λ t. cond t 0 (suc (index_of p xs)) ≤ suc (length xs)) [
  | true ↦ omega arith
  | false ↦ let le = index-le p xs in omega arith
])

shifted-none : {X : Type 0} (p : X → Bool) (ys : List X) (y : X) → length ys ≡ 0
    → shifted p y ys ≡ ys
shifted-none p [] y e = refl
shifted-none p (z ∷ ys) y e = absurd (omega arith)

-- each slot moves back by one, up to the first that passes, or else the last
pub shifted-last : {X : Type 0} (p : X → Bool) (c : X) (xs : List X) (last : ℕ) → last < length xs
    → last ≤ index_of p xs → (last ≡ index_of p xs) ⊎ (suc last ≡ length xs)
    → shifted p c xs ≡ c ∷ (take last xs ++ drop (suc last) xs)
shifted-last p c [] last lt le at = absurd (omega arith)
shifted-last p c (x ∷ xs) zero lt le at = (elim (p x) as (λ t.
    (0 ≡ cond t 0 (suc (index_of p xs))) ⊎ (1 ≡ suc (length xs))
    → c ∷ cond t xs (shifted p x xs) ≡ c ∷ xs) [
      | true ↦ λ at. refl
      | false ↦ λ at. elim at [
        | inl e ↦ absurd (omega arith)
        | inr e ↦ ap (λ l. c ∷ l) (shifted-none p xs x (omega arith))
      ]
    ]) at
shifted-last p c (x ∷ xs) (suc last) lt le at = (elim (p x) as (λ t.
    suc last ≤ cond t 0 (suc (index_of p xs))
    → (suc last ≡ cond t 0 (suc (index_of p xs))) ⊎ (suc (suc last) ≡ suc (length xs))
    → c ∷ cond t xs (shifted p x xs) ≡ c ∷ (x ∷ (take last xs ++ drop (suc last) xs))) [
      | true ↦ λ le at. absurd (omega arith)
      | false ↦ λ le at. ap (λ l. c ∷ l) (shifted-last p x xs last (omega arith) (omega arith)
          (elim at [ inl e ↦ inl (omega arith) | inr e ↦ inr (omega arith) ]))
    ]) le at

-- a slot that holds a block is the used slot of its level
slot-is : (b : ℕ) (s : Slot) → holds b s ≡ true → used_slot b s.level ≡ s
slot-is b s e =
    let parts = and_parts s.valid (eqb s.block b) e in
    ap (λ z. record { block = z; valid = true; level = s.level }) (sym (eqb-true s.block b parts.1))
    ∙ ap (λ v. record { block = s.block; valid = v; level = s.level }) (sym parts.0)

pub low-level : (l : ℕ) → level_after false l 0 ≡ l
low-level l = (elim (ltb l 0) as (λ t. ltb l 0 ≡ t → cond t 0 l ≡ l) [
  | true ↦ λ e. let lt = ltb-true l 0 e in absurd (omega arith)
  | false ↦ λ e. refl
]) refl

-- a read of the block that is first changes nothing
pub read-first : (b : ℕ) (xs : List Slot) → 0 ≡ index_of (holds b) xs → next_slots b false xs ≡ xs
read-first b [] e = refl
read-first b (s ∷ xs) e = (elim (holds b s) as (λ t. holds b s ≡ t
    → 0 ≡ cond t 0 (suc (index_of (holds b) xs))
    → used_slot b (level_after false (option_map_or slot_level (cond t (Some s) (find (holds b) xs))
    (suc (length xs))) (cond t 0 (suc (index_of (holds b) xs))))
    ∷ cond t xs (shifted (holds b) s xs) ≡ s ∷ xs) [
      | true ↦ λ h e. ap (λ v. v ∷ xs) (ap (used_slot b) (low-level s.level) ∙ slot-is b s h)
      | false ↦ λ h e. absurd (omega arith)
    ]) refl e

-- a write to the block that is first makes it dirty
pub write-first : (b : ℕ) (xs : List Slot) → 0 ≡ index_of (holds b) xs → 0 < length xs
    → next_slots b true xs ≡ used_slot b 0 ∷ drop 1 xs
write-first b [] e some = absurd (omega arith)
write-first b (s ∷ xs) e some = (elim (holds b s) as (λ t.
    0 ≡ cond t 0 (suc (index_of (holds b) xs))
    → used_slot b 0 ∷ cond t xs (shifted (holds b) s xs) ≡ used_slot b 0 ∷ xs) [
      | true ↦ λ e. refl
      | false ↦ λ e. absurd (omega arith)
    ]) e

-- in an empty row there is nothing to change
pub write-empty : (b : ℕ) (write : Bool) (xs : List Slot) → length xs ≤ 0
    → next_slots b write xs ≡ xs
write-empty b write [] e = refl
write-empty b write (s ∷ xs) e = absurd (omega arith)

-- the slot that leaves a row
pub last-is : {X : Type 0} (p : X → Bool) (xs : List X) (position : ℕ) → position ≡ index_of p xs
    → (last : ℕ) → 0 < length xs
    → last ≡ cond (ltb position (length xs)) position (length xs - 1)
    → (last < length xs) × (last ≤ index_of p xs)
    × ((last ≡ index_of p xs) ⊎ (suc last ≡ length xs))
last-is p xs position is last some e = (elim (ltb position (length xs)) as (λ t.
    ltb position (length xs) ≡ t → last ≡ cond t position (length xs - 1)
    → (last < length xs) × (last ≤ index_of p xs)
    × ((last ≡ index_of p xs) ⊎ (suc last ≡ length xs))) [
      | true ↦ λ t e. let lt = ltb-true position (length xs) t in
          (omega arith, omega arith, inl (e ∙ is))
      | false ↦ λ t e. let ge = ltb-false position (length xs) t in
          (omega arith, omega arith, inr (omega arith))
    ]) refl e

-- the slots up to a place are copied behind the first, which is then replaced
pub copied-first : {X : Type 0} (xs ys : List X) (last : ℕ) (c : X) → last < length xs
    → ys ≡ copy_within xs 0 last 1 → set ys 0 c ≡ c ∷ (take last xs ++ drop (suc last) xs)
copied-first [] ys last c lt e = absurd (omega arith)
copied-first (x ∷ xs) ys last c lt e = ap (λ l. set l 0 c) (e ∙ paste-one)
  where
    paste-one : copy_within (x ∷ xs) 0 last 1 ≡ x ∷ (take last (x ∷ xs) ++ drop last xs)
    paste-one =
        let n : last - 0 ≡ last = omega arith in
        let k : 1 + last ≡ suc last = omega arith in
        ap (λ n. x ∷ (take n (x ∷ xs) ++ drop (1 + n) (x ∷ xs))) n
        ∙ ap (λ k. x ∷ (take last (x ∷ xs) ++ drop k (x ∷ xs))) k

-- each slot before the first that passes moves back by one
pub moved-back : {X : Type 0} (p : X → Bool) (c : X) (xs : List X) (n : ℕ) (d : X) → n < length xs
    → n ≤ index_of p xs → get_or (shifted p c xs) n d ≡ get_or (c ∷ xs) n d
moved-back p c [] n d lt le = absurd (omega arith)
moved-back p c (x ∷ xs) zero d lt le = refl
moved-back p c (x ∷ xs) (suc n) d lt le = (elim (p x) as (λ t. suc n
    ≤ cond t 0 (suc (index_of p xs)) → get_or (cond t xs (shifted p x xs)) n d
    ≡ get_or (x ∷ xs) n d) [
      | true ↦ λ le. absurd (omega arith)
      | false ↦ λ le. moved-back p x xs n d (omega arith) (omega arith)
    ]) le

-- a set has few ways
pub few-ways : (g : Geometry) → assoc_of g < 2 ^ 32
few-ways g =
    let sane = sane_of g in
    let low = sane.block_low in
    let wide : assoc_of g ≤ bsize_of g * assoc_of g = subst (λ n. assoc_of g ≤ n)
    (mul_comm (assoc_of g) (bsize_of g)) (le-mul_of_pos_right (assoc_of g) (omega arith)) in
    let high = sane.set_high in
    omega arith
