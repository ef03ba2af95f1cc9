-- A set that is kept as an ordered map, shown as a row of ways.
use Rattle.std.specs.Prelude.{ℕ, Bool, true, ◌&&◌, ◌||◌, nat_eq, if◌then◌else◌, List, [], ◌∷◌, ◌++◌}
use Rattle.std.specs.Prelude.{take, map, filter, replicate, Option, Some, None}
use Rattle.std.specs.Map.{lookup_entry, remove_entry, set_value}
use Rattle.std.specs.Option.{option_map_or}
use Rattle.std.specs.List.{flat_map}
use Rattle.lru.specs.LruCache.{LruCache, lru_cache}
use Rattle.cache_core.specs.declared.ways.Way.{Way}
use Rattle.cache_core.specs.Row.{empty_way}

-- the way for an entry: the first byte of its block, and its dirty bit
abbrev pub way_of : ℕ × Bool → Way
way_of e = record { block_addr = e.0; valid = true; dirty = e.1 }

-- a row of n ways: the entries in order, and then empty ways
abbrev pub shown : ℕ → List (ℕ × Bool) → List Way
shown n es = take n (map way_of es ++ replicate n empty_way)

-- the entries after a use of block b, which moves to the front if it is there (LRU)
abbrev pub used_entries : ℕ → Bool → Bool → List (ℕ × Bool) → List (ℕ × Bool)
used_entries b wback write es =
    option_map_or (λ e. (e.0, wback && (write || e.1)) ∷ remove_entry (nat_eq b) es)
    (lookup_entry (nat_eq b) es) es

-- the entries after an access to block b; under FIFO the block does not move
abbrev pub touched_entries : ℕ → Bool → Bool → Bool → List (ℕ × Bool) → List (ℕ × Bool)
touched_entries b wback write fifo es =
    if fifo then (if wback && write then set_value (nat_eq b) es
    true else es) else used_entries b wback write es

-- the first byte of an entry's block, if it is dirty
abbrev pub dirty_entry : ℕ × Bool → Option ℕ
dirty_entry e = if e.1 then Some e.0 else None

-- a set as a map: its blocks in order, each with its dirty bit
abbrev pub Entered : Type 0
Entered = LruCache ℕ Bool

-- how many blocks it may hold
abbrev pub cap_of : Entered → ℕ
cap_of m = m.cap

-- an empty map of the same capacity
abbrev pub emptied : Entered → Entered
emptied m = lru_cache [] m.cap

-- the ways of the sets, one set after another
abbrev pub flat : ℕ → List Entered → List Way
flat n ms = flat_map (λ m. shown n m.entries) ms

-- the first bytes of a set's dirty blocks
abbrev pub dirty_keys_of : Entered → List ℕ
dirty_keys_of m = map (λ e. e.0) (filter (λ e. e.1) m.entries)
