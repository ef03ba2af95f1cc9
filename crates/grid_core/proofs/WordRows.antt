-- The rows of words that keep the slots of rows.
use Rattle.std.proofs.Common.{◌≡◌, ℕ, zero, suc, ◌+◌, ◌-◌, ◌*◌, ◌/◌, ◌%◌, ◌<◌, ◌≤◌, Bool, true}
use Rattle.std.proofs.Common.{false, cond, ◌&&◌, eqb, ltb, List, [], ◌∷◌, take, drop, get_or}
use Rattle.std.proofs.Common.{replicate, refl, sym, ap, ◌∙◌, arith}
use Rattle.std.proofs.Common.{length, set as list_set}
use Rattle.std.proofs.lemmas.Bool.{eqb-true, eqb-false}
use Rattle.std.proofs.lemmas.List.{drop-replicate, length-map, take-map, take-replicate, take-take}
use Rattle.std.proofs.Math.Nat.{mul-le-mul_right}
use Rattle.cache_core.specs.Row.{row, shifted}
use Rattle.cache_core.proofs.Cases.{by_cases}
use Rattle.marked_list.specs.Recency.{index_of}
use Rattle.grid_core.specs.Slot.{Slot, among_all, kept_in_set, no_slot, slot_of, slots_in}
use Rattle.grid_core.specs.Slots.{dirty_bytes, lost_in}
use Rattle.grid_core.specs.Pushed.{is_dirty_slot}
use Rattle.grid_core.proofs.Words.{first-of, slot-zero, word-none, word-used}

module _ (stride sets set : ℕ) where
  abbrev f : ℕ → Slot
  f = slot_of stride sets set

  -- the word 0 keeps an empty slot
  pub slot-none : slot_of stride sets set 0 ≡ no_slot
  slot-none = ap (among_all sets set) (slot-zero stride)

  -- words of 0 keep empty slots
  pub slots-empty : (k : ℕ) → slots_in stride sets set (replicate k 0) ≡ replicate k no_slot
  slots-empty zero = refl
  slots-empty (suc k) = ap (λ s. s ∷ slots_in stride sets set (replicate k 0)) slot-none
      ∙ ap (λ l. no_slot ∷ l) (slots-empty k)

  -- the slot at a place is kept by the word there
  pub get-slots : (k : ℕ) (ws : List ℕ)
      → get_or (slots_in stride sets set ws) k no_slot ≡ slot_of stride sets set (get_or ws k 0)
  get-slots k [] = sym slot-none
  get-slots zero (w ∷ ws) = refl
  get-slots (suc k) (w ∷ ws) = get-slots k ws

  module _ (p : Slot → Bool) where
    -- a word is found where its slot is found
    pub index-words : (ws : List ℕ) → index_of p (slots_in stride sets set ws)
        ≡ index_of (λ w. p (slot_of stride sets set w)) ws
    index-words [] = refl
    index-words (w ∷ ws) = ap (λ k. cond (p (f w)) 0 (suc k)) (index-words ws)

    -- words that move keep slots that move so
    pub shifted-words : (w : ℕ) (ws : List ℕ)
        → slots_in stride sets set (shifted (λ v. p (slot_of stride sets set v)) w ws)
        ≡ shifted p (slot_of stride sets set w) (slots_in stride sets set ws)
    shifted-words w [] = refl
    shifted-words w (v ∷ ws) = (elim (p (f v)) as (λ t.
        f w ∷ slots_in stride sets set (cond t ws (shifted (λ u. p (f u)) v ws))
        ≡ f w ∷ cond t (slots_in stride sets set ws)
        (shifted p (f v) (slots_in stride sets set ws))) [
          | true ↦ refl
          | false ↦ ap (λ l. f w ∷ l) (shifted-words v ws)
        ])

  -- the words whose first is replaced keep slots whose first is replaced
  pub first-word : (w : ℕ) (ws : List ℕ) → 0 < length ws
      → slots_in stride sets set (list_set ws 0 w)
      ≡ slot_of stride sets set w ∷ drop 1 (slots_in stride sets set ws)
  first-word w [] some = absurd (omega arith)
  first-word w (v ∷ ws) some = refl

  -- the slot that leaves a row is kept by the word that leaves it
  pub lost-word : (position : ℕ) (ws : List ℕ) → lost_in position (slots_in stride sets set ws)
      ≡ slot_of stride sets set (cond (ltb position (length ws)) 0 (get_or ws (length ws - 1) 0))
  lost-word position ws =
      let long = length-map ws f in
      ap (λ k. cond (ltb position k) no_slot (get_or (slots_in stride sets set ws) (k - 1) no_slot))
      long
      ∙ ap (cond (ltb position (length ws)) no_slot) (get-slots (length ws - 1) ws)
      ∙ each (ltb position (length ws))
    where
      each : (t : Bool) → cond t no_slot (f (get_or ws (length ws - 1) 0))
          ≡ f (cond t 0 (get_or ws (length ws - 1) 0))
      each true = sym slot-none
      each false = refl

-- the dirty blocks from a place on are that of the word there, if it is dirty, and those behind it
pub bytes_at : (bsize stride sets set : ℕ) → stride ≡ sets * bsize → 0 < stride → (wback : Bool)
    → (ways i : ℕ) → (ws : List ℕ) → i < length ws
    → dirty_bytes bsize wback ways (slots_in stride sets set (drop i ws))
    ≡ cond (is_dirty_slot wback ways (kept_in_set stride (get_or ws i 0)))
    ((get_or ws i 0 / stride * stride + set * bsize)
    ∷ dirty_bytes bsize wback ways (slots_in stride sets set (drop (suc i) ws)))
    (dirty_bytes bsize wback ways (slots_in stride sets set (drop (suc i) ws)))
bytes_at bsize stride sets set apart some wback ways i [] lt = absurd (omega arith)
bytes_at bsize stride sets set apart some wback ways zero (w ∷ ws) lt =
    let rest = dirty_bytes bsize wback ways (slots_in stride sets set ws) in
    by_cases (eqb (w % stride) 0)
    (λ e. let is = word-none stride w some (eqb-true (w % stride) 0 e) in
    ap (λ s. cond (is_dirty_slot wback ways s)
    ((among_all sets set s).block * bsize ∷ rest) rest) is
    ∙ sym (ap (λ s. cond (is_dirty_slot wback ways s)
    ((w / stride * stride + set * bsize) ∷ rest) rest) is))
    (λ e. let is = word-used stride w some (eqb-false (w % stride) 0 e) in
    ap (λ s. cond (is_dirty_slot wback ways s)
    ((among_all sets set s).block * bsize ∷ rest) rest) is
    ∙ ap (λ b. cond (wback && ltb (w % stride - 1) ways) (b ∷ rest) rest)
    (first-of bsize stride sets set (w / stride) apart)
    ∙ sym (ap (λ s. cond (is_dirty_slot wback ways s)
    ((w / stride * stride + set * bsize) ∷ rest) rest) is))
bytes_at bsize stride sets set apart some wback ways (suc i) (w ∷ ws) lt =
    bytes_at bsize stride sets set apart some wback ways i ws (omega arith)

-- the first ways of a row, and the slots that their words keep
row-part : (stride sets set ways most start : ℕ) (ws : List ℕ) → ways ≤ most
    → take ways (slots_in stride sets set (take most (drop start ws)))
    ≡ slots_in stride sets set (take ways (drop start ws))
row-part stride sets set ways most start ws le =
    take-map (slot_of stride sets set) ways (take most (drop start ws))
    ∙ ap (slots_in stride sets set) (take-take ways most (drop start ws) le)

-- the first slots of a row, whose words are cut out of all
pub row-cut : (stride sets set ways most start : ℕ) (ws cut : List ℕ) → ways ≤ most → cut ≡ ws
    → slots_in stride sets set (take (start + ways - start) (drop start cut))
    ≡ take ways (slots_in stride sets set (take most (drop start ws)))
row-cut stride sets set ways most start ws cut le same =
    let size : start + ways - start ≡ ways = omega arith in
    ap (λ k. slots_in stride sets set (take k (drop start cut))) size
    ∙ ap (λ l. slots_in stride sets set (take ways (drop start l))) same
    ∙ sym (row-part stride sets set ways most start ws le)

-- a row of words of 0 keeps empty slots
pub row-empty : (stride sets set ways : ℕ) → set < sets
    → slots_in stride sets set (row ways set (replicate (sets * ways) 0)) ≡ replicate ways no_slot
row-empty stride sets set ways below =
    let fits : (set + 1) * ways ≤ sets * ways = mul-le-mul_right ways (omega arith) in
    ap (slots_in stride sets set)
    (ap (take ways) (drop-replicate (set * ways) (sets * ways) 0)
    ∙ take-replicate ways (sets * ways - set * ways) 0 (omega arith))
    ∙ slots-empty stride sets set ways
