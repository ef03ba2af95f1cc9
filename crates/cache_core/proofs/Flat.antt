-- Sets that are kept as maps, seen as rows one after another.
use Rattle.std.proofs.Common.{eqb, ◌≡◌, ◌≢◌, ℕ, zero, suc, ◌+◌, ◌*◌, ◌<◌, ◌≤◌, Bool, cond, List, []}
use Rattle.std.proofs.Common.{◌∷◌, ◌++◌, length, take, drop, map, replicate, filter, true, false}
use Rattle.std.proofs.Common.{get_or, slice_set, refl, sym, ap, ◌∙◌, arith}
use Rattle.std.proofs.lemmas.List.{length-replicate, length-append, length-take-le}
use Rattle.std.proofs.lemmas.List.{replicate-append-replicate}
use Rattle.std.proofs.lemmas.List.{map-append}
use Rattle.std.proofs.lemmas.List.Elements.{filter-append}
use Rattle.std.proofs.Math.Seq.{drop-append-add, take-append_seam}
use Rattle.lru.specs.LruCache.{lru_cache}
use Rattle.std.proofs.lemmas.Bool.{eqb-true, and_parts}
use Rattle.cache_core.specs.declared.sets.Sets.{Sets}
use Rattle.cache_core.specs.declared.sets.Sets.TheVariants.{Rows, Maps}
use Rattle.cache_core.specs.Sets.{ways_in, has_shape}
use Rattle.cache_core.specs.Row.{row, dirty_count, empty_way, is_dirty_way, block_addr_of}
use Rattle.cache_core.specs.Mapped.{way_of, shown, Entered, cap_of, emptied, flat, dirty_keys_of}
use Rattle.cache_core.proofs.Charged.{dirty_count-append}

module _ (n : ℕ) where
  shown-long : (es : List (ℕ × Bool)) → length (shown n es) ≡ n
  shown-long es = length-take-le n (map way_of es ++ replicate n empty_way) (let a =
      length-append (map way_of es) (replicate n empty_way) in
      let b : length (replicate n empty_way) ≡ n = length-replicate n empty_way in omega arith)

  row-first : (m : Entered) (ms : List Entered) → row n 0 (flat n (m ∷ ms)) ≡ shown n m.entries
  row-first m ms = ap (λ k. take n (drop k (flat n (m ∷ ms)))) zero-is
      ∙ ap (λ k. take k (shown n m.entries ++ flat n ms)) (sym (shown-long m.entries))
      ∙ take-append_seam (shown n m.entries) (flat n ms) where
        zero-is : 0 * n ≡ 0
        zero-is = omega arith

  row-next : (s : ℕ) (m : Entered) (ms : List Entered)
      → row n (suc s) (flat n (m ∷ ms)) ≡ row n s (flat n ms)
  row-next s m ms = ap (λ k. take n (drop k (shown n m.entries ++ flat n ms))) more
      ∙ ap (take n) (drop-append-add (shown n m.entries) (flat n ms) (s * n)) where
        more : suc s * n ≡ length (shown n m.entries) + s * n
        more = let e = shown-long m.entries in omega arith

  -- a row of all sets is what its map shows
  pub row-here : (ms : List Entered) (i : ℕ) (d : Entered) → i < length ms
      → row n i (flat n ms) ≡ shown n (get_or ms i d).entries
  row-here [] i d l = absurd (omega arith)
  row-here (m ∷ ms) zero d l = row-first m ms
  row-here (m ∷ ms) (suc i) d l = row-next i m ms ∙ row-here ms i d (omega arith)

  -- so it is where that map was replaced
  pub row-set : (ms : List Entered) (i : ℕ) (x : Entered) → i < length ms
      → row n i (flat n (slice_set ms i x)) ≡ shown n x.entries
  row-set [] i x l = absurd (omega arith)
  row-set (m ∷ ms) zero x l = row-first x ms
  row-set (m ∷ ms) (suc i) x l = row-next i m (slice_set ms i x) ∙ row-set ms i x (omega arith)

  -- and the other rows are as before
  pub row-set_other : (ms : List Entered) (i s : ℕ) (x : Entered) → s ≢ i
      → row n s (flat n (slice_set ms i x)) ≡ row n s (flat n ms)
  row-set_other [] i s x l = refl
  row-set_other (m ∷ ms) zero zero x l = absurd (l refl)
  row-set_other (m ∷ ms) zero (suc s) x l = row-next s x ms ∙ sym (row-next s m ms)
  row-set_other (m ∷ ms) (suc i) zero x l = row-first m (slice_set ms i x) ∙ sym (row-first m ms)
  row-set_other (m ∷ ms) (suc i) (suc s) x l = row-next s m (slice_set ms i x)
      ∙ row-set_other ms i s x (λ e. l (ap suc e)) ∙ sym (row-next s m ms)

  -- a map that is replaced changes the number of dirty ways by its own alone
  pub count-set : (ms : List Entered) (i : ℕ) (x d : Entered) → i < length ms
      → dirty_count (flat n (slice_set ms i x)) + dirty_count (shown n (get_or ms i d).entries)
      ≡ dirty_count (flat n ms) + dirty_count (shown n x.entries)
  count-set [] i x d l = absurd (omega arith)
  count-set (m ∷ ms) zero x d l = let a = dirty_count-append (shown n x.entries) (flat n ms) in
      let b = dirty_count-append (shown n m.entries) (flat n ms) in omega arith
  count-set (m ∷ ms) (suc i) x d l = let a =
      dirty_count-append (shown n m.entries) (flat n (slice_set ms i x)) in let b =
      dirty_count-append (shown n m.entries) (flat n ms) in let c =
      count-set ms i x d (omega arith) in omega arith

  -- each map may hold as many blocks as a set has ways
  pub cap-at : (ms : List Entered) (i k : ℕ) (d : Entered) → map cap_of ms ≡ replicate k n
      → i < length ms → (get_or ms i d).cap ≡ n
  cap-at [] i k d h l = absurd (omega arith)
  cap-at (m ∷ ms) i zero d h l = cc
  cap-at (m ∷ ms) zero (suc k) d h l = cc
  cap-at (m ∷ ms) (suc i) (suc k) d h l = let rest : map cap_of ms ≡ replicate k n = cc in
      cap-at ms i k d rest (omega arith)

none-dirty : (n k : ℕ) → filter is_dirty_way (take n (replicate k empty_way)) ≡ []
none-dirty zero k = refl
none-dirty (suc n) zero = refl
none-dirty (suc n) (suc k) = none-dirty n k

pub dirty-shown : (n k : ℕ) (es : List (ℕ × Bool)) → length es ≤ n
    → map block_addr_of (filter is_dirty_way (take n (map way_of es ++ replicate k empty_way)))
    ≡ map (λ e. e.0) (filter (λ e. e.1) es)
dirty-shown n k [] l = ap (map block_addr_of) (none-dirty n k)
dirty-shown zero k (e ∷ es) l = absurd (omega arith)
dirty-shown (suc n) k (e ∷ es) l =
    (elim e.1 as (λ t. map block_addr_of
    (cond t (way_of e ∷ filter is_dirty_way (take n (map way_of es ++ replicate k empty_way)))
    (filter is_dirty_way (take n (map way_of es ++ replicate k empty_way))))
    ≡ map (λ e. e.0) (cond t (e ∷ filter (λ e. e.1) es) (filter (λ e. e.1) es))) [
      | true ↦ ap (λ l. e.0 ∷ l) (dirty-shown n k es (omega arith))
      | false ↦ dirty-shown n k es (omega arith)
    ])

take-empty : (n k : ℕ) → n ≤ k → take n (replicate k empty_way) ≡ replicate n empty_way
take-empty zero k l = refl
take-empty (suc n) zero l = absurd (omega arith)
take-empty (suc n) (suc k) l = ap (λ l. empty_way ∷ l) (take-empty n k (omega arith))

-- emptied maps show empty ways
pub flat-emptied : (n : ℕ) (ms : List Entered)
    → flat n (map emptied ms) ≡ replicate (length ms * n) empty_way
flat-emptied n [] = ap (λ k. replicate k empty_way) (zero-is n) where
  zero-is : (n : ℕ) → 0 ≡ 0 * n
  zero-is n = omega arith
flat-emptied n (m ∷ ms) = ap (λ l. l ++ flat n (map emptied ms)) (take-empty n n (omega arith))
    ∙ ap (λ l. replicate n empty_way ++ l) (flat-emptied n ms)
    ∙ replicate-append-replicate n (length ms * n) empty_way
    ∙ ap (λ k. replicate k empty_way) (more (length ms)) where
      more : (k : ℕ) → n + k * n ≡ suc k * n
      more k = omega arith

-- the dirty blocks of a set and of the sets after it, if the set has no more blocks than ways
pub dirty-flat_cons : (n : ℕ) (m : Entered) (ms : List Entered) → length m.entries ≤ n
    → map block_addr_of (filter is_dirty_way (flat n (m ∷ ms)))
    ≡ dirty_keys_of m ++ map block_addr_of (filter is_dirty_way (flat n ms))
dirty-flat_cons n m ms fits =
    ap (map block_addr_of) (filter-append is_dirty_way (shown n m.entries) (flat n ms))
    ∙ map-append block_addr_of (filter is_dirty_way (shown n m.entries))
    (filter is_dirty_way (flat n ms))
    ∙ ap (λ l. l ++ map block_addr_of (filter is_dirty_way (flat n ms)))
    (dirty-shown n n m.entries fits)

-- and may hold as many blocks as before
pub caps-emptied : (ms : List Entered) → map cap_of (map emptied ms) ≡ map cap_of ms
caps-emptied [] = refl
caps-emptied (m ∷ ms) = ap (λ l. m.cap ∷ l) (caps-emptied ms)

-- a map with no block, which may hold n
abbrev pub empty_map : ℕ → Entered
empty_map n = lru_cache [] n

-- new maps may hold n blocks each
pub caps-none : (n k : ℕ) → map cap_of (replicate k (empty_map n)) ≡ replicate k n
caps-none n zero = refl
caps-none n (suc k) = ap (λ l. n ∷ l) (caps-none n k)

emptied-none : (n k : ℕ) → map emptied (replicate k (empty_map n)) ≡ replicate k (empty_map n)
emptied-none n zero = refl
emptied-none n (suc k) = ap (λ l. empty_map n ∷ l) (emptied-none n k)

-- and show empty ways
pub flat-none : (n k : ℕ) → flat n (replicate k (empty_map n)) ≡ replicate (k * n) empty_way
flat-none n k = ap (flat n) (sym (emptied-none n k)) ∙ flat-emptied n (replicate k (empty_map n))
    ∙ ap (λ j. replicate (j * n) empty_way) (length-replicate k (empty_map n))

pub length-flat : (n : ℕ) (ms : List Entered) → length (flat n ms) ≡ length ms * n
length-flat n [] = omega arith
length-flat n (m ∷ ms) = let here = shown-long n m.entries in let all =
    length-append (shown n m.entries) (flat n ms) in let rest = length-flat n ms in omega arith

-- the number of ways in all sets, in either form
pub length-ways_in : (count assoc : ℕ) (sets : Sets) → has_shape count assoc sets ≡ true
    → length (ways_in sets) ≡ count * assoc
length-ways_in count assoc (Rows v) h = sym v.ok.0 ∙ eqb-true v.len (count * assoc) h
length-ways_in count assoc (Maps m) h =
    let parts = and_parts (eqb m.assoc assoc) (eqb m.sets.len count) h in
    let ways : m.assoc ≡ assoc = eqb-true m.assoc assoc parts.0 in
    let long : length m.sets.items ≡ count = sym m.sets.ok.0 ∙ eqb-true m.sets.len count parts.1 in
    length-flat m.assoc m.sets.items ∙ ap (λ k. k * m.assoc) long ∙ ap (λ k. count * k) ways
