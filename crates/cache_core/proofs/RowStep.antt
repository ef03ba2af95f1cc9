-- The row of the set of an access after that access is the one that the code computes.
use Rattle.std.proofs.Math.Bool.{or-false}
use Rattle.std.proofs.Common.{◌≡◌, ℕ, ◌*◌, ◌<◌, Bool, true, false, cond, not, ◌&&◌, ◌||◌, List}
use Rattle.std.proofs.Common.{[], ◌∷◌, Some, None, refl, sym, ap, ◌∙◌}
use Rattle.std.specs.List.{find}
use Rattle.std.proofs.lemmas.Bool.{cond-true, cond-false, and_parts, and_from, or_left, or_right}
use Rattle.cache_core.specs.declared.access.Access.{Access}
use Rattle.cache_core.specs.declared.ways.Way.{Way}
use Rattle.cache_core.specs.History.{Rules, History, block_of}
use Rattle.cache_core.specs.Residents.{hits, uses}
use Rattle.cache_core.specs.Dirty.{is_written}
use Rattle.cache_core.specs.Row.{holds_block, shifted, changed, dirtied, next_row, way_at, row_of}
use Rattle.cache_core.proofs.AtAccess.{at_access}
use Rattle.cache_core.proofs.RowTurns.{find-row_of, is_written-used, row_of-unused, row_of-lru}
use Rattle.cache_core.proofs.RowTurns.{row_of-load, row_of-fifo_hit}
use Rattle.cache_core.proofs.Cases.{by_cases}

changed-same : {X : Type 0} (p : X → Bool) (xs : List X) → changed p (λ w. w) xs ≡ xs
changed-same p [] = refl
changed-same p (x ∷ xs) = (elim (p x) as (λ t. cond t (x ∷ xs) (x ∷ changed p (λ w. w) xs) ≡ x ∷ xs)
    [ true ↦ refl | false ↦ ap (λ l. x ∷ l) (changed-same p xs) ])

-- a way that holds the block with this first byte, dirty or not
abbrev pub valid_way : ℕ → Bool → Way
valid_way b d = record { block_addr = b; valid = true; dirty = d }

-- the row after an access that hits
pub next-hit : (fifo wb a w : Bool) (b : ℕ) (row : List Way) (v : Way)
    → next_row wb a b w row (Some v) fifo
    ≡ cond fifo (cond (wb && w) (changed (holds_block b) dirtied row) row)
    (shifted (holds_block b) (valid_way b (wb && (w || v.dirty))) row)
next-hit true wb true true b row v = refl
next-hit true wb true false b row v = refl
next-hit true wb false true b row v = refl
next-hit true wb false false b row v = refl
next-hit false wb true true b row v = refl
next-hit false wb true false b row v = refl
next-hit false wb false true b row v = refl
next-hit false wb false false b row v = refl

-- the row after an access that misses
pub next-miss : (fifo wb a w : Bool) (b : ℕ) (row : List Way)
    → next_row wb a b w row None fifo
    ≡ cond (not w || a) (shifted (holds_block b) (valid_way b (wb && w)) row) row
next-miss true wb true true b row = refl
next-miss true wb true false b row = refl
next-miss true wb false true b row = refl
next-miss true wb false false b row = refl
next-miss false wb true true b row = refl
next-miss false wb true false b row = refl
next-miss false wb false true b row = refl
next-miss false wb false false b row = refl

dirty-hit : (wb w d : Bool) → (wb && (w || (true && d))) ≡ (wb && (w || (wb && d)))
dirty-hit true w d = refl
dirty-hit false w d = refl

dirty-kept : (wb w d : Bool) → (wb && w) ≡ false → (wb && (w || d)) ≡ (wb && d)
dirty-kept false w d e = refl
dirty-kept true true d e = cc
dirty-kept true false d e = refl

module _ (r : Rules) (pos : 0 < r.bsize) (h : History) (x : Access) where
  abbrev block_addr : ℕ
  block_addr = block_of r x * r.bsize

  open at_access r h x use {b, s, ms, h', w}

  abbrev row : List Way
  row = row_of r h s

  -- an access that hits uses its block
  pub uses-hit : hits r ms x ≡ true → uses r ms x ≡ true
  uses-hit e = or_right (not w || r.walloc) (hits r ms x) e

  -- one that misses uses it unless it is a write without allocation
  pub uses-miss : hits r ms x ≡ false → uses r ms x ≡ (not w || r.walloc)
  uses-miss e = ap (λ t. not w || r.walloc || t) e ∙ or-false (not w || r.walloc)

  -- the dirty bit of the block after a use
  way-used : uses r ms x ≡ true → way_at r h' b
      ≡ valid_way block_addr (r.wback && (w || (hits r ms x && is_written r h b)))
  way-used u = ap (λ t. valid_way block_addr (r.wback && t)) (is_written-used r pos h x u)

  way-hit : hits r ms x ≡ true → way_at r h' b
      ≡ valid_way block_addr (r.wback && (w || (true && is_written r h b)))
  way-hit e = way-used (uses-hit e)
      ∙ ap (λ t. valid_way block_addr (r.wback && (w || (t && is_written r h b)))) e

  way-miss : hits r ms x ≡ false → uses r ms x ≡ true
      → way_at r h' b ≡ valid_way block_addr (r.wback && w)
  way-miss e u = way-used u ∙ ap (λ t.
      valid_way block_addr (r.wback && (w || (t && is_written r h b)))) e
      ∙ ap (λ t. valid_way block_addr (r.wback && t)) (or-false w)

  abbrev next : List Way
  next = next_row r.wback r.walloc block_addr w row (find (holds_block block_addr) row) r.fifo

  fifo-hit : r.fifo ≡ true → hits r ms x ≡ true
      → row_of r h' s ≡ cond (r.wback && w) (changed (holds_block block_addr) dirtied row) row
  fifo-hit f e = (elim (r.wback && w) as (λ t. (r.wback && w) ≡ t
      → row_of r h' s ≡ cond t (changed (holds_block block_addr) dirtied row) row) [
        | true ↦ λ k. row_of-fifo_hit r pos h x f e dirtied (way-hit e
            ∙ ap (valid_way block_addr) (and_from r.wback (w || (true && is_written r h b))
            (and_parts r.wback w k).0
            (or_left w (true && is_written r h b) (and_parts r.wback w k).1)))
        | false ↦ λ k. row_of-fifo_hit r pos h x f e (λ v. v) (way-hit e
            ∙ ap (valid_way block_addr) (dirty-kept r.wback w (is_written r h b) k))
            ∙ changed-same (holds_block block_addr) row
      ]) refl

  on-hit : hits r ms x ≡ true → row_of r h' s ≡ next
  on-hit e = (elim r.fifo as (λ t. r.fifo ≡ t
      → row_of r h' s ≡ cond t (cond (r.wback && w) (changed (holds_block block_addr) dirtied row)
      row) (shifted (holds_block block_addr)
      (valid_way block_addr (r.wback && (w || (way_at r h b).dirty))) row)) [
        | true ↦ λ f. fifo-hit f e
        | false ↦ λ f. row_of-lru r pos h x f (uses-hit e)
            ∙ ap (λ v. shifted (holds_block block_addr) v row) (way-hit e
            ∙ ap (valid_way block_addr) (dirty-hit r.wback w (is_written r h b)))
      ]) refl ∙ sym (ap (λ o. next_row r.wback r.walloc block_addr w row o r.fifo)
      (find-row_of r pos h b ∙ cond-true (hits r ms x) (Some (way_at r h b)) None e)
      ∙ next-hit r.fifo r.wback r.walloc w block_addr row (way_at r h b))

  loaded : hits r ms x ≡ false → uses r ms x ≡ true
      → row_of r h' s ≡ shifted (holds_block block_addr) (way_at r h' b) row
  loaded e u = by_cases r.fifo
      (λ f. row_of-load r pos h x f
      (and_from (uses r ms x) (not (hits r ms x)) u (ap not e)))
      (λ f. row_of-lru r pos h x f u)

  on-miss : hits r ms x ≡ false → row_of r h' s ≡ next
  on-miss e = (elim (not w || r.walloc) as (λ t. (not w || r.walloc) ≡ t
      → row_of r h' s
      ≡ cond t (shifted (holds_block block_addr) (valid_way block_addr (r.wback && w))
      row) row) [
        | true ↦ λ u. let used = uses-miss e ∙ u in loaded e used
            ∙ ap (λ v. shifted (holds_block block_addr) v row) (way-miss e used)
        | false ↦ λ u. row_of-unused r pos h x (uses-miss e ∙ u)
      ]) refl ∙ sym (ap (λ o. next_row r.wback r.walloc block_addr w row o r.fifo)
      (find-row_of r pos h b ∙ cond-false (hits r ms x) (Some (way_at r h b)) None e)
      ∙ next-miss r.fifo r.wback r.walloc w block_addr row)

  -- the row after the access is the row before it, changed by `next_row`
  pub row_of-next : row_of r h' s ≡ next
  row_of-next = by_cases (hits r ms x) (on-hit) (on-miss)
