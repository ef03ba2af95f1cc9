-- The first slots of each row are the ways of the narrower cache, so their dirty blocks are its
-- own.
use Rattle.std.proofs.Common.{◌≡◌, ℕ, zero, suc, ◌+◌, ◌*◌, ◌<◌, ◌≤◌, Bool, true, false, cond, ◌&&◌}
use Rattle.std.proofs.Common.{eqb, ltb, List, [], ◌∷◌, ◌++◌, length, take, drop, map, filter}
use Rattle.std.proofs.Common.{replicate, refl, sym, ap, subst, ◌∙◌, inl, inr, arith}
use Rattle.std.specs.List.{dedup}
use Rattle.std.specs.List.Sorted.{IsPermutation, IsSorted}
use Rattle.std.specs.Ordering.{nat_cmp}
use Rattle.std.proofs.Math.Nat.{mul-le-mul_right}
use Rattle.std.proofs.lemmas.Bool.{cases_lt}
use Rattle.std.proofs.Math.Seq.{drop-append_seam, take-length}
use Rattle.std.proofs.lemmas.List.{length-take-le, length-drop, length-append}
use Rattle.std.proofs.lemmas.List.{length-map}
use Rattle.std.proofs.lemmas.List.{take-take, take-append-le, drop-append-le, map-append}
use Rattle.std.proofs.lemmas.List.Elements.{filter-append}
use Rattle.cache_core.specs.declared.ways.Way.{Way}
use Rattle.cache_core.specs.History.{Rules, History}
use Rattle.cache_core.specs.Residents.{renewals}
use Rattle.cache_core.specs.Dirty.{dirty_blocks}
use Rattle.cache_core.specs.Order.{ranked}
use Rattle.cache_core.specs.Row.{empty_way, row, is_dirty_way, block_addr_of, way_at, row_of}
use Rattle.cache_core.proofs.Flushed.{flushed-is}
use Rattle.grid_core.specs.Slot.{Slot, no_slot}
use Rattle.grid_core.specs.Ways.{with_ways, IsStacked}
use Rattle.grid_core.specs.Slots.{dirty_bytes, dirty_in_rows}
use Rattle.grid_core.specs.Standing.{slot_at, slots_of}
use Rattle.grid_core.proofs.Distances.{renewals-same}
use Rattle.grid_core.proofs.Levels.{written-level}

module _ (bsize : ℕ) (wback : Bool) (n : ℕ) where
  -- a slot as a way of the cache of n ways
  abbrev pub way_in : Slot → Way
  way_in s = record {
    block_addr = s.block * bsize;
    valid = s.valid;
    dirty = s.valid && (wback && ltb s.level n);
  }

  one-more : (a t : Bool) (w : Way) (ws : List Way) (bs : List ℕ) → bs ≡ map block_addr_of ws
      → cond (a && t) (w.block_addr ∷ bs) bs ≡ map block_addr_of (cond (a && (a && t)) (w ∷ ws) ws)
  one-more true true w ws bs same = ap (λ l. w.block_addr ∷ l) same
  one-more true false w ws bs same = same
  one-more false t w ws bs same = same

  bytes-row : (xs : List Slot)
      → dirty_bytes bsize wback n xs ≡ map block_addr_of (filter is_dirty_way (map way_in xs))
  bytes-row [] = refl
  bytes-row (s ∷ xs) = one-more s.valid (wback && ltb s.level n) (way_in s)
      (filter is_dirty_way (map way_in xs)) (dirty_bytes bsize wback n xs) (bytes-row xs)

  module _ (xs : ℕ → List Slot) where
    abbrev part : ℕ → List Slot
    part k = take n (xs k)

    -- the ways of the first k rows
    abbrev pub narrowed : ℕ → List Way
    narrowed zero = []
    narrowed (suc k) = narrowed k ++ map way_in (part k)

    pub bytes-rows : (k : ℕ) → dirty_in_rows bsize wback n xs k
        ≡ map block_addr_of (filter is_dirty_way (narrowed k))
    bytes-rows zero = refl
    bytes-rows (suc k) = ap (λ l. l ++ dirty_bytes bsize wback n (part k)) (bytes-rows k)
        ∙ ap (λ l. map block_addr_of (filter is_dirty_way (narrowed k)) ++ l) (bytes-row (part k))
        ∙ sym (ap (map block_addr_of)
        (filter-append is_dirty_way (narrowed k) (map way_in (part k)))
        ∙ map-append block_addr_of (filter is_dirty_way (narrowed k))
        (filter is_dirty_way (map way_in (part k))))

    module _ (sets : ℕ) (long : (k : ℕ) → k < sets → n ≤ length (xs k)) where
      length-part : (k : ℕ) → k < sets → length (map way_in (part k)) ≡ n
      length-part k below = length-map (part k) way_in ∙ length-take-le n (xs k) (long k below)

      pub length-narrowed : (k : ℕ) → k ≤ sets → length (narrowed k) ≡ k * n
      length-narrowed zero below = omega arith
      length-narrowed (suc k) below =
          let before = length-narrowed k (omega arith) in
          let more = length-part k (omega arith) in
          let all = length-append (narrowed k) (map way_in (part k)) in
          omega arith

      pub row-narrowed : (k : ℕ) → k ≤ sets → (t : ℕ) → t < k
          → row n t (narrowed k) ≡ map way_in (part t)
      row-narrowed zero below t lt = absurd (omega arith)
      row-narrowed (suc k) below t lt =
          let before = length-narrowed k (omega arith) in
          elim (cases_lt t k) [
            | inl less ↦
                let up : (t + 1) * n ≤ k * n = mul-le-mul_right n (omega arith) in
                let near : t * n ≤ length (narrowed k) = omega arith in
                let rest = length-drop (t * n) (narrowed k) in
                let room : n ≤ length (drop (t * n) (narrowed k)) = omega arith in
                ap (take n) (drop-append-le (t * n) (narrowed k) (map way_in (part k)) near)
                ∙ take-append-le n (drop (t * n) (narrowed k)) (map way_in (part k)) room
                ∙ row-narrowed k (omega arith) t less
            | inr far ↦
                let same : k ≡ t = omega arith in
                let size = length-part k (omega arith) in
                subst (λ j. row n j (narrowed k ++ map way_in (part k)) ≡ map way_in (part j)) same
                (ap (λ j. take n (drop j (narrowed k ++ map way_in (part k)))) (sym before)
                ∙ ap (take n) (drop-append_seam (narrowed k) (map way_in (part k)))
                ∙ ap (λ j. take j (map way_in (part k))) (sym size)
                ∙ take-length (map way_in (part k)))
          ]

-- a row of slots that shows some blocks, and then empty slots, as ways
module _ (bsize : ℕ) (wback : Bool) (n : ℕ) (f : ℕ → Slot) (g : ℕ → Way)
    (shows : (b : ℕ) → way_in bsize wback n (f b) ≡ g b) where
  empty-way : way_in bsize wback n no_slot ≡ empty_way
  empty-way = let none : 0 * bsize ≡ 0 = omega arith in
      ap (λ k. record { block_addr = k; valid = false; dirty = false }) none

  ways-empty : (m j k : ℕ) → m ≤ j → m ≤ k
      → map (way_in bsize wback n) (take m (replicate j no_slot)) ≡ take m (replicate k empty_way)
  ways-empty zero j k lj lk = refl
  ways-empty (suc m) zero k lj lk = absurd (omega arith)
  ways-empty (suc m) (suc j) zero lj lk = absurd (omega arith)
  ways-empty (suc m) (suc j) (suc k) lj lk =
      ap (λ w. w ∷ map (way_in bsize wback n) (take m (replicate j no_slot))) empty-way
      ∙ ap (λ l. empty_way ∷ l) (ways-empty m j k (omega arith) (omega arith))

  pub ways-shown : (m j k : ℕ) (ms : List ℕ) → m ≤ j → m ≤ k
      → map (way_in bsize wback n) (take m (map f ms ++ replicate j no_slot))
      ≡ take m (map g ms ++ replicate k empty_way)
  ways-shown zero j k ms lj lk = refl
  ways-shown (suc m) j k [] lj lk = ways-empty (suc m) j k lj lk
  ways-shown (suc m) j k (b ∷ ms) lj lk =
      ap (λ w. w ∷ map (way_in bsize wback n) (take m (map f ms ++ replicate j no_slot))) (shows b)
      ∙ ap (λ l. g b ∷ l) (ways-shown m j k ms (omega arith) (omega arith))

module _ (r : Rules) (st : IsStacked r) (n : ℕ) (pos : 0 < n) (le : n ≤ r.assoc) (h : History) where
  abbrev q : Rules
  q = with_ways n r

  way-shown : (b : ℕ) → way_in r.bsize r.wback n (slot_at r h b) ≡ way_at q h b
  way-shown b = ap (λ t. record { block_addr = b * r.bsize; valid = true; dirty = r.wback && t })
      (sym (written-level r st n pos le h b))

  -- the first n slots of a row are the row of the cache of n ways
  pub part-row : (t : ℕ) → map (way_in r.bsize r.wback n) (take n (slots_of r h t)) ≡ row_of q h t
  unfolding slots_of row_of
  part-row t =
      let ranks = ranked r t (renewals r h) in
      ap (map (way_in r.bsize r.wback n))
      (take-take n r.assoc (map (slot_at r h) ranks ++ replicate r.assoc no_slot) le)
      ∙ ways-shown r.bsize r.wback n (slot_at r h) (way_at q h) way-shown n r.assoc n ranks le
      (omega arith)
      ∙ ap (λ ms. take n (map (way_at q h) (ranked r t ms) ++ replicate n empty_way))
      (sym (renewals-same r st n h))

  module _ (bytes : 0 < r.bsize) (setful : 0 < r.sets) (xs : ℕ → List Slot)
      (long : (t : ℕ) → t < r.sets → n ≤ length (xs t))
      (rows : (t : ℕ) → t < r.sets → xs t ≡ slots_of r h t) where
    rows-narrowed : (t : ℕ) → t < r.sets
        → row n t (narrowed r.bsize r.wback n xs r.sets) ≡ row_of q h t
    rows-narrowed t below =
        row-narrowed r.bsize r.wback n xs r.sets long r.sets (omega arith) t below
        ∙ ap (λ l. map (way_in r.bsize r.wback n) (take n l)) (rows t below)
        ∙ part-row t

    -- sorted and without repetitions, the first bytes of the dirty slots are those of the dirty
    -- blocks of the cache of n ways
    pub dirty-is : (ys : List ℕ)
        → IsPermutation (dirty_in_rows r.bsize r.wback n xs r.sets) ys → IsSorted nat_cmp ys
        → dedup eqb ys ≡ map (λ b. b * r.bsize) (dirty_blocks q h)
    dirty-is ys p s = flushed-is q bytes setful h (narrowed r.bsize r.wback n xs r.sets)
        (length-narrowed r.bsize r.wback n xs r.sets long r.sets (omega arith))
        rows-narrowed ys
        (subst (λ (l : List ℕ). IsPermutation l ys) (bytes-rows r.bsize r.wback n xs r.sets)
        p)
        s
