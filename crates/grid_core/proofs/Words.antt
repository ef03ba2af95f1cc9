-- The words that keep slots.
use Rattle.std.proofs.Common.{◌≡◌, ◌≢◌, ℕ, ◌+◌, ◌-◌, ◌*◌, ◌/◌, ◌%◌, ◌<◌, ◌≤◌, Bool, true}
use Rattle.std.proofs.Common.{false, cond, ◌&&◌, eqb, ltb}
use Rattle.std.proofs.Common.{refl, sym, ap, subst, ◌∙◌, inl, inr, arith}
use Rattle.std.proofs.Common.{Some, None}
use Rattle.std.specs.Prelude.{◌^◌}
use Rattle.std.specs.Option.{option_map}
use Rattle.std.proofs.lemmas.Bool.{cases_lt, eq-eqb, eqb-true, eqb-false, le-ltb, lt-ltb, ne_eqb}
use Rattle.std.proofs.lemmas.Bool.{and_parts, false≢true, ltb-true}
use Rattle.std.proofs.lemmas.Nat.{div-mul-add, mod-mul-add}
use Rattle.std.proofs.Math.Nat.{div-add-mod, mod-eq_of_lt, mod-lt, mul-mod_left}
use Rattle.std.proofs.Math.Nat.{add-mul, mul_assoc, mul_comm, mul-le-mul_right}
use Rattle.cache_core.proofs.Cases.{by_cases}
use Rattle.grid_core.specs.Slot.{Slot, among_all, kept_in_set, no_slot}
use Rattle.grid_core.specs.Slot.{used_slot}
use Rattle.grid_core.specs.Slots.{holds, slot_level}
use Rattle.grid_core.specs.Pushed.{dirty_in, is_dirty_slot}

-- the first byte of a block, by its number among those of its set
pub first-of : (bsize stride sets set q : ℕ) → stride ≡ sets * bsize
    → (q * sets + set) * bsize ≡ q * stride + set * bsize
first-of bsize stride sets set q apart =
    add-mul (q * sets) set bsize
    ∙ ap (λ k. k + set * bsize) (mul_assoc q sets bsize ∙ ap (λ n. q * n) (sym apart))

-- the word 0 keeps an empty slot
pub slot-zero : (n : ℕ) → kept_in_set n 0 ≡ no_slot
unfolding kept_in_set
slot-zero n =
    let none : 0 * n ≡ 0 = omega arith in
    ap (λ t. cond (eqb t 0) no_slot (used_slot (0 / n) (t - 1)))
    (sym (ap (λ k. k % n) none) ∙ mul-mod_left 0 n)

-- the word that is made for a block keeps it, with its level
pub slot-made : (n b l w : ℕ) → l + 1 < n → w ≡ b * n + (l + 1) → kept_in_set n w ≡ used_slot b l
unfolding kept_in_set
slot-made n b l w low is =
    let rest : w % n ≡ l + 1 = ap (λ k. k % n) is ∙ mod-mul-add b n (l + 1) low in
    let whole : w / n ≡ b = ap (λ k. k / n) is ∙ div-mul-add b n (l + 1) low in
    ap (λ t. cond (eqb t 0) no_slot (used_slot (w / n) (t - 1))) rest
    ∙ ap (λ t. cond t no_slot (used_slot (w / n) (l + 1 - 1)))
    (ne_eqb (l + 1) 0 (λ e. omega (arith, e)))
    ∙ ap (λ k. used_slot k (l + 1 - 1)) whole
    ∙ ap (used_slot b) (omega arith)

module _ (n w : ℕ) (some : 0 < n) where
  abbrev q : ℕ
  q = w / n

  abbrev r : ℕ
  r = w % n

  pub parts-of : w ≡ q * n + r
  parts-of = let turned = mul_comm q n in let all = div-add-mod w n in omega arith

  -- whether the word is the address of a byte of block b that is not its first
  abbrev inside : ℕ → Bool
  inside b = ltb (b * n) w && ltb (w - b * n) n

  none-behind : (t : Bool) → (t && false) ≡ false
  none-behind true = refl
  none-behind false = refl

  -- an address at or behind the end of the block
  inside-behind : (b : ℕ) → b * n + n ≤ w → inside b ≡ false
  inside-behind b le = ap (λ t. ltb (b * n) w && t) (le-ltb (w - b * n) n (omega arith))
      ∙ none-behind (ltb (b * n) w)

  inside-before : (b : ℕ) → w ≤ b * n → inside b ≡ false
  inside-before b le = ap (λ t. t && ltb (w - b * n) n) (le-ltb (b * n) w le)

  inside-other : (b : ℕ) → q ≢ b → inside b ≡ false
  inside-other b apart = elim (cases_lt b q) [
    | inl lt ↦
        let up : (b + 1) * n ≤ q * n = mul-le-mul_right n (omega arith) in
        let all = parts-of in
        inside-behind b (omega arith)
    | inr le ↦
        let up : (q + 1) * n ≤ b * n = mul-le-mul_right n (omega (arith, apart)) in
        let all = parts-of in
        let low : r < n = mod-lt w some in
        inside-before b (omega arith)
  ]

  inside-none : r ≡ 0 → (b : ℕ) → inside b ≡ false
  inside-none e b = by_cases (eqb q b)
      (λ same. let is = eqb-true q b same in let all = parts-of in
      let at : q * n ≡ b * n = ap (λ k. k * n) is in inside-before b (omega arith))
      (λ apart. inside-other b (eqb-false q b apart))

  inside-same : 0 < r → (b : ℕ) → q ≡ b → inside b ≡ true
  inside-same pos b is =
      let all = parts-of in
      let at : q * n ≡ b * n = ap (λ k. k * n) is in
      let low : r < n = mod-lt w some in
      let left : w - b * n < n = omega arith in
      ap (λ t. t && ltb (w - b * n) n) (lt-ltb (b * n) w (omega arith))
      ∙ lt-ltb (w - b * n) n left

  -- so it is told whether its slot holds block b
  pub word-holds : (b : ℕ) → (ltb (b * n) w && ltb (w - b * n) n) ≡ holds b (kept_in_set n w)
  unfolding kept_in_set
  word-holds b = by_cases (eqb r 0)
      (λ e. inside-none (eqb-true r 0 e) b
      ∙ sym (ap (λ t. holds b (cond t no_slot (used_slot q (r - 1)))) e))
      (λ e. let ne = eqb-false r 0 e in
      sym (ap (λ t. holds b (cond t no_slot (used_slot q (r - 1)))) e
      ∙ by_cases (eqb q b)
      (λ same. same ∙ sym (inside-same (omega (arith, ne)) b (eqb-true q b same)))
      (λ apart. apart ∙ sym (inside-other b (eqb-false q b apart)))))

  -- one comparison tells it: of the distance from the second byte of the block, modulo 2 ^ 64
  pub word-near : (b : ℕ) → 1 < n → b * n + n ≤ 2 ^ 64 → w < 2 ^ 64
      → ltb ((w + (2 ^ 64 - (b * n + 1))) % 2 ^ 64) (n - 1) ≡ holds b (kept_in_set n w)
  word-near b two last fits = (elim (cases_lt (b * n) w) [
    | inl lt ↦
        let sum : w + (2 ^ 64 - (b * n + 1)) ≡ 1 * 2 ^ 64 + (w - b * n - 1) = omega arith in
        let low : w - b * n - 1 < 2 ^ 64 = omega arith in
        ap (λ k. ltb (k % 2 ^ 64) (n - 1)) sum
        ∙ ap (λ k. ltb k (n - 1)) (mod-mul-add 1 (2 ^ 64) (w - b * n - 1) low)
        ∙ one-less lt
        ∙ sym (ap (λ t. t && ltb (w - b * n) n) (lt-ltb (b * n) w lt))
    | inr le ↦
        let low : w + (2 ^ 64 - (b * n + 1)) < 2 ^ 64 = omega arith in
        ap (λ k. ltb k (n - 1)) (mod-eq_of_lt low)
        ∙ le-ltb (w + (2 ^ 64 - (b * n + 1))) (n - 1) (omega arith)
        ∙ sym (inside-before b le)
  ]) ∙ word-holds b
    where
      one-less : b * n < w → ltb (w - b * n - 1) (n - 1) ≡ ltb (w - b * n) n
      one-less above = elim (cases_lt (w - b * n) n) [
        | inl lt ↦ lt-ltb (w - b * n - 1) (n - 1) (omega arith) ∙ sym (lt-ltb (w - b * n) n lt)
        | inr le ↦ le-ltb (w - b * n - 1) (n - 1) (omega arith) ∙ sym (le-ltb (w - b * n) n le)
      ]

  -- a word that is the address of a first byte keeps an empty slot, and any other one a block
  pub word-none : w % n ≡ 0 → kept_in_set n w ≡ no_slot
  unfolding kept_in_set
  word-none e = ap (λ t. cond (eqb t 0) no_slot (used_slot q (t - 1))) e

  pub word-used : w % n ≢ 0 → kept_in_set n w ≡ used_slot (w / n) (w % n - 1)
  unfolding kept_in_set
  word-used ne = ap (λ t. cond t no_slot (used_slot q (r - 1))) (ne_eqb r 0 ne)

  -- where a block is held, the word is the address of a byte of it that is not the first
  pub word-inside : (b : ℕ) → holds b (kept_in_set n w) ≡ true → (b * n < w) × (w - b * n < n)
  word-inside b h =
      let both = and_parts (ltb (b * n) w) (ltb (w - b * n) n) (word-holds b ∙ h) in
      (ltb-true (b * n) w both.0, ltb-true (w - b * n) n both.1)

  -- and its level is told by how far it is in the block
  pub word-level : (b : ℕ) → holds b (kept_in_set n w) ≡ true
      → slot_level (kept_in_set n w) ≡ w - b * n - 1
  word-level b h = by_cases (eqb r 0)
      (λ e. absurd (false≢true (sym (ap (holds b) (word-none (eqb-true r 0 e))) ∙ h)))
      (λ e.
      let used = word-used (eqb-false r 0 e) in
      let same : q ≡ b = eqb-true q b (sym (ap (holds b) used) ∙ h) in
      let at : q * n ≡ b * n = ap (λ k. k * n) same in
      let all = parts-of in
      let left : r - 1 ≡ w - b * n - 1 = omega arith in
      ap slot_level used ∙ left)

  -- the first byte of a dirty block, in a set of so many
  pub word-dirty : (bsize sets set : ℕ) → n ≡ sets * bsize → (wback : Bool) (ways : ℕ)
      → option_map (λ b. b * bsize) (dirty_in wback ways (among_all sets set (kept_in_set n w)))
      ≡ cond (is_dirty_slot wback ways (kept_in_set n w)) (Some (w / n * n + set * bsize)) None
  word-dirty bsize sets set apart wback ways = by_cases (eqb r 0)
      (λ e. let is = word-none (eqb-true r 0 e) in
      ap (λ s. option_map (λ b. b * bsize) (dirty_in wback ways (among_all sets set s))) is
      ∙ sym (ap (λ s. cond (is_dirty_slot wback ways s) (Some (w / n * n + set * bsize)) None) is))
      (λ e. let is = word-used (eqb-false r 0 e) in
      ap (λ s. option_map (λ b. b * bsize) (dirty_in wback ways (among_all sets set s))) is
      ∙ mapped (wback && ltb (r - 1) ways)
      ∙ sym (ap (λ s. cond (is_dirty_slot wback ways s) (Some (w / n * n + set * bsize)) None) is))
    where
      mapped : (t : Bool) → option_map (λ b. b * bsize) (cond t (Some (q * sets + set)) None)
          ≡ cond t (Some (q * n + set * bsize)) None
      mapped true = ap Some (first-of bsize n sets set q apart)
      mapped false = refl

-- a block of the set is held just if it is, by its number among those of the set
pub holds-all : (sets set b : ℕ) → 0 < sets → set ≡ b % sets → (s : Slot)
    → holds b (among_all sets set s) ≡ holds (b / sets) s
holds-all sets set b many home s = (elim s.valid as (λ t.
    (t && eqb (cond t (s.block * sets + set) s.block) b) ≡ (t && eqb s.block (b / sets))) [
      | true ↦ same-tag
      | false ↦ refl
    ])
  where
    parts : b ≡ b / sets * sets + set
    parts = let turned = mul_comm (b / sets) sets in let all = div-add-mod b sets in omega arith

    same-tag : eqb (s.block * sets + set) b ≡ eqb s.block (b / sets)
    same-tag = by_cases (eqb s.block (b / sets))
        (λ e. let is = eqb-true s.block (b / sets) e in
        let at : s.block * sets + set ≡ b = ap (λ k. k * sets + set) is ∙ sym parts in
        eq-eqb (s.block * sets + set) b at ∙ sym e)
        (λ e. let ne = eqb-false s.block (b / sets) e in
        ne_eqb (s.block * sets + set) b (λ at. ne (mul-cancel at)) ∙ sym e)
      where
        mul-cancel : s.block * sets + set ≡ b → s.block ≡ b / sets
        mul-cancel at =
            let low : set < sets = subst (λ n. n < sets) (sym home) (mod-lt b many) in
            sym (div-mul-add s.block sets set low) ∙ ap (λ k. k / sets) at
