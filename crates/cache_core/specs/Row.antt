-- A set as a row of ways, and what one pass over it does.
use Rattle.std.specs.Prelude.{ℕ, ◌+◌, ◌*◌, take, drop, map, replicate, Bool, true, false, ◌&&◌}
use Rattle.std.specs.Prelude.{◌||◌, not, ◌==◌, cond, if◌then◌else◌, List, [], ◌∷◌, ◌++◌, Option}
use Rattle.std.specs.Prelude.{Some, None, is_some}
use Rattle.std.specs.Option.{option_map_or}
use Rattle.cache_core.specs.declared.access.Outcome.{Outcome}
use Rattle.cache_core.specs.declared.ways.Way.{Way}
use Rattle.cache_core.specs.History.{Rules, History}
use Rattle.cache_core.specs.Kinds.{kind_by}
use Rattle.cache_core.specs.Residents.{renewals}
use Rattle.cache_core.specs.Dirty.{is_written}
use Rattle.cache_core.specs.Parts.{one_if}
use Rattle.cache_core.specs.Order.{ranked}

-- the way holds the block with this first byte
abbrev pub holds_block : ℕ → Way → Bool
holds_block b w = w.valid && w.block_addr == b

-- row number s of a list that has rows of length n, one after another
abbrev pub row : {X : Type 0} → ℕ → ℕ → List X → List X
row n s xs = take n (drop (s * n) xs)

-- an empty way
abbrev pub empty_way : Way
empty_way = record { block_addr = 0; valid = false; dirty = false }

-- the way, marked dirty
abbrev pub dirtied : Way → Way
dirtied w = record w { dirty = true }

-- the way holds a block
abbrev pub is_valid : Way → Bool
is_valid w = w.valid

-- the way holds a dirty block
abbrev pub is_dirty_way : Way → Bool
is_dirty_way w = w.valid && w.dirty

-- the first byte of the block of a way
abbrev pub block_addr_of : Way → ℕ
block_addr_of w = w.block_addr

-- the first byte of the block of a dirty way
abbrev pub dirty_block : Way → Option ℕ
dirty_block w = if w.valid && w.dirty then Some w.block_addr else None

-- how many ways are dirty
abbrev pub dirty_count : List Way → ℕ
dirty_count [] = 0
dirty_count (w ∷ ws) = one_if (is_dirty_way w) + dirty_count ws

module _ (r : Rules) where
  -- the way that holds block b after a history
  abbrev pub way_at : History → ℕ → Way
  way_at h b = record {
    block_addr = b * r.bsize;
    valid = true;
    dirty =
        r.wback && is_written r h b;
  }

  -- the ways of set s after a history: its residents in order, each with its dirty bit, and then
  -- empty ways
  unfoldable pub row_of : History → ℕ → List Way
  row_of h s = take r.assoc (map (way_at h) (ranked r s (renewals r h))
      ++ replicate r.assoc empty_way)

module _ {X : Type 0} (p : X → Bool) where
  -- c is put first, and each way moves back by one, up to the first that passes, or else the last
  abbrev pub shifted : X → List X → List X
  shifted c [] = []
  shifted c (w ∷ ws) = c ∷ cond (p w) ws (shifted w ws)

  -- the way that is removed: the first that passes, or else the last
  abbrev pub leaving : X → List X → X
  leaving c [] = c
  leaving c (w ∷ ws) = cond (p w) w (leaving w ws)

  -- the row with its first way that passes changed
  abbrev pub changed : (X → X) → List X → List X
  changed g [] = []
  changed g (w ∷ ws) = cond (p w) (g w ∷ ws) (w ∷ changed g ws)

-- one access to the row of its set; `b` is the first byte of its block, and `seen` the way that
-- held it, if there was one
module _ (wback walloc : Bool) (b : ℕ) (write : Bool) (row : List Way) (seen : Option Way)
  where
    -- whether the access uses its block
    abbrev is_used : Bool
    is_used = not write || walloc || is_some seen

    -- the way of the block after an LRU access or a load
    abbrev front : Way
    front = record {
      block_addr = b;
      valid = true;
      dirty =
          wback && (write || option_map_or (λ w. w.dirty) seen false);
    }

    -- the row after the access, under FIFO if true
    abbrev pub next_row : Bool → List Way
    next_row fifo =
        if is_used
        then (if fifo && is_some seen
        then (if wback && write then changed (holds_block b) dirtied row else row)
        else shifted (holds_block b) front row)
        else row

    -- the first byte of the dirty block that the access evicts, if it does
    abbrev pub pushed_out : Option ℕ
    pushed_out = if is_used && not (is_some seen) then dirty_block
        (leaving (holds_block b) front row) else None

-- the outcome of an access, by the two policies of writes, whether it writes and hits, the dirty
-- block that it evicts, and whether its block was accessed before and is in the shadow
abbrev pub outcome_made : Bool → Bool → Bool → Bool → Option ℕ → Bool → Bool → Outcome
outcome_made wback walloc write hit back referenced in_shadow = record {
  hit = hit;
  kind = (if hit then None else Some (kind_by referenced in_shadow));
  back = back;
  fetch = (not write || walloc || hit) && not hit;
  through = write && (not wback || not (not write || walloc || hit));
}
