-- One access to a cache that stands for a history.
use Rattle.std.proofs.Common.{◌≡◌, ◌≢◌, ℕ, suc, ◌+◌, ◌*◌, ◌<◌, Bool, true, false, cond, not}
use Rattle.std.proofs.Common.{◌&&◌, ◌||◌, eqb, nat_eq, List, ◌∷◌, length, Option, Some, None}
use Rattle.std.proofs.Common.{is_some, refl, sym, ap, subst, ◌∙◌, add_assoc, arith}
use Rattle.std.specs.List.{find, list_any}
use Rattle.std.proofs.lemmas.Bool.{eqb-true, eqb-false, cond-true, cond-false, and_from}
use Rattle.cache_core.specs.declared.access.Access.{Access}
use Rattle.cache_core.specs.declared.ways.Way.{Way}
use Rattle.cache_core.specs.History.{Rules, History, access, flush, block_of, is_write}
use Rattle.cache_core.specs.Residents.{hits, uses, renews, renewals, victim}
use Rattle.cache_core.specs.Dirty.{dirty_blocks}
use Rattle.cache_core.specs.Kinds.{referenced_blocks, shadow_of, kind_of_miss}
use Rattle.cache_core.specs.Parts.{dirty_victim, outcome_of, one_if}
use Rattle.cache_core.specs.Counts.{tally, counts_of, flushes_in, flushed_back}
use Rattle.cache_core.specs.Row.{holds_block, leaving, dirty_block, next_row, pushed_out, row}
use Rattle.cache_core.specs.Row.{outcome_made, way_at, row_of}
use Rattle.cache_core.specs.Counting.{with_access, with_flush}
use Rattle.cache_core.proofs.AtAccess.{at_access}
use Rattle.cache_core.proofs.Turns.{block-fifo, block-lru, block-hit, block-unused}
use Rattle.cache_core.proofs.RowTurns.{find-row_of, row_of-other}
use Rattle.cache_core.proofs.RowStep.{valid_way, row_of-next, uses-hit, uses-miss}
use Rattle.cache_core.proofs.PushedOut.{out-is}
use Rattle.cache_core.proofs.Victim.{renews-none, lru-hit}
use Rattle.cache_core.proofs.Cases.{by_cases}

-- a hit pushes nothing out
pub out-hit : (wb a w : Bool) (block_addr : ℕ) (row : List Way) (v : Way)
    → pushed_out wb a block_addr w row (Some v) ≡ None
out-hit wb true true block_addr row v = refl
out-hit wb true false block_addr row v = refl
out-hit wb false true block_addr row v = refl
out-hit wb false false block_addr row v = refl

-- a load pushes out the block that leaves, if it is dirty
pub out-miss : (wb a w : Bool) (block_addr : ℕ) (row : List Way) → (not w || a) ≡ true
    → pushed_out wb a block_addr w row None
    ≡ dirty_block (leaving (holds_block block_addr) (valid_way block_addr (wb && w)) row)
out-miss wb true true block_addr row h = refl
out-miss wb true false block_addr row h = refl
out-miss wb false true block_addr row h = cc
out-miss wb false false block_addr row h = refl

-- a write that passes by pushes nothing out
pub out-none : (wb a w : Bool) (block_addr : ℕ) (row : List Way) → (not w || a) ≡ false
    → pushed_out wb a block_addr w row None ≡ None
out-none wb true true block_addr row h = cc
out-none wb true false block_addr row h = cc
out-none wb false true block_addr row h = refl
out-none wb false false block_addr row h = cc

module _ (r : Rules) (h : History) (x : Access) where
  -- an outcome hits where the definitions say that the access hits
  pub outcome_of-hit : (outcome_of r h x).hit ≡ hits r (renewals r h) x
  unfolding outcome_of
  outcome_of-hit = refl

  -- what it writes back is the victim, if that is dirty
  pub outcome_of-back : (outcome_of r h x).back ≡ dirty_victim r h (victim r h x)
  unfolding outcome_of
  outcome_of-back = refl

  -- it is made of whether the access hits, what it writes back, and what was known of its block
  pub outcome-is : outcome_made r.wback r.walloc (is_write x) (outcome_of r h x).hit
      (outcome_of r h x).back (list_any (λ t. nat_eq t (block_of r x)) (referenced_blocks r h))
      (hits (shadow_of r) (renewals (shadow_of r) h) x) ≡ outcome_of r h x
  unfolding outcome_of kind_of_miss
  outcome-is = refl

  -- the counts with one outcome more are those after the access
  pub counts-step : with_access x (outcome_of r h x) (counts_of r h) ≡ counts_of r (access x ∷ h)
  unfolding counts_of tally flushes_in flushed_back
  counts-step = ap (λ n. record (counts_of r (access x ∷ h)) { written_back = n })
      (sym (add_assoc (one_if (is_some (outcome_of r h x).back))
      (tally (λ g y. is_some (outcome_of r g y).back) h) (flushed_back r h)))

-- with one flush more, those after the flush
pub flush-counts : (r : Rules) (h : History) (n : ℕ) → n ≡ length (dirty_blocks r h)
    → with_flush n (counts_of r h) ≡ counts_of r (flush ∷ h)
unfolding counts_of tally flushes_in flushed_back
flush-counts r h n e =
    let wb : ((counts_of r h).written_back + n) ≡ (counts_of r (flush ∷ h)).written_back =
    omega arith in
    let fl : (flushes_in h + 1) ≡ (1 + flushes_in h) = omega arith in
    ap (λ k. record (counts_of r h) { written_back = k; flushes = flushes_in h + 1 }) wb
    ∙ ap (λ k. record (counts_of r h) {
      written_back =
          (counts_of r (flush ∷ h)).written_back;
      flushes = k;
    }) fl

module _ (r : Rules) (pos : 0 < r.bsize) (m : ℕ) (size : r.assoc ≡ suc m) (h : History)
    (x : Access) where
  open at_access r h x use {b, s, ms, h', w}

  abbrev block_addr : ℕ
  block_addr = b * r.bsize

  abbrev here : List Way
  here = row_of r h s

  abbrev seen : Option Way
  seen = find (holds_block block_addr) here

  seen-is : seen ≡ cond (hits r ms x) (Some (way_at r h b)) None
  seen-is = find-row_of r pos h b

  -- the set's row has the block just where the access hits
  pub hit-is : is_some seen ≡ hits r ms x
  hit-is = ap is_some seen-is ∙ (elim (hits r ms x) as (λ t.
      is_some (cond t (Some (way_at r h b)) None) ≡ t) [ true ↦ refl | false ↦ refl ])

  victim-hit : hits r ms x ≡ true → victim r h x ≡ None
  victim-hit e = by_cases r.fifo
      (λ f. renews-none r h x (block-hit r ms x f e))
      (λ f. lru-hit r h x m size f e (uses-hit r pos h x e))

  load-block : hits r ms x ≡ false → uses r ms x ≡ true → renews r ms x ≡ true
  load-block e u = by_cases r.fifo
      (λ f. block-fifo r ms x true f (and_from (uses r ms x) (not (hits r ms x)) u (ap not e)))
      (λ f. block-lru r ms x true f u)

  back-miss : hits r ms x ≡ false
      → pushed_out r.wback r.walloc block_addr w here None ≡ dirty_victim r h (victim r h x)
  back-miss e = (elim (not w || r.walloc) as (λ t. (not w || r.walloc) ≡ t
      → pushed_out r.wback r.walloc block_addr w here None ≡ dirty_victim r h (victim r h x)) [
        | true ↦ λ u. out-miss r.wback r.walloc w block_addr here u
            ∙ out-is r h x m size e (load-block e (uses-miss r pos h x e ∙ u)) pos
            (valid_way block_addr (r.wback && w))
        | false ↦ λ u. out-none r.wback r.walloc w block_addr here u
            ∙ sym (ap (dirty_victim r h) (renews-none r h x
            (block-unused r ms x (uses-miss r pos h x e ∙ u))))
      ]) refl

  pub back-is : pushed_out r.wback r.walloc block_addr w here seen
      ≡ dirty_victim r h (victim r h x)
  back-is = by_cases (hits r ms x)
      (λ e. ap (pushed_out r.wback r.walloc block_addr w here) (seen-is
      ∙ cond-true (hits r ms x) (Some (way_at r h b)) None e)
      ∙ out-hit r.wback r.walloc w block_addr here (way_at r h b)
      ∙ sym (ap (dirty_victim r h) (victim-hit e)))
      (λ e. ap (pushed_out r.wback r.walloc block_addr w here) (seen-is
      ∙ cond-false (hits r ms x) (Some (way_at r h b)) None e) ∙ back-miss e)

  -- where the row of its set took the step and the others stayed, the rows are those after the
  -- access
  pub rows-step : (xs ys : List Way) → ((t : ℕ) → t < r.sets → row r.assoc t xs ≡ row_of r h t)
      → row r.assoc s ys ≡ next_row r.wback r.walloc block_addr w (row r.assoc s xs)
      (find (holds_block block_addr) (row r.assoc s xs)) r.fifo
      → ((t : ℕ) → t ≢ s → row r.assoc t ys ≡ row r.assoc t xs) → s < r.sets → (t : ℕ) → t < r.sets
      → row r.assoc t ys ≡ row_of r h' t
  rows-step xs ys were now others inside t below =
      by_cases (eqb s t)
      (λ e. subst (λ z. row r.assoc z ys ≡ row_of r h' z) (eqb-true s t e) (now
      ∙ ap (λ l. next_row r.wback r.walloc block_addr w l (find (holds_block block_addr) l)
      r.fifo)
      (were s inside) ∙ sym (row_of-next r pos h x)))
      (λ e. others t (λ same. eqb-false s t e (sym same)) ∙ were t below
      ∙ sym (row_of-other r pos h x t e))
