-- How one access moves the rows of all sets.
use Rattle.std.proofs.Common.{◌≡◌, ℕ, ◌*◌, ◌/◌, ◌%◌, ◌<◌, ◌≤◌, true, false, cond, not, ◌&&◌, ◌||◌}
use Rattle.std.proofs.Common.{eqb, List, [], ◌∷◌, ◌++◌, length, take, map, replicate, Some, None}
use Rattle.std.proofs.Common.{refl, sym, ap, ◌∙◌, arith}
use Rattle.std.specs.List.{find}
use Rattle.std.proofs.Math.Nat.{mul-div_cancel}
use Rattle.std.proofs.lemmas.List.{length-append, length-replicate}
use Rattle.std.proofs.lemmas.Bool.{eqb-true, eq-eqb, eqb-false, ne_eqb, and_right}
use Rattle.std.proofs.lemmas.Bool.{not-true, and_parts}
use Rattle.cache_core.specs.declared.access.Access.{Access}
use Rattle.cache_core.specs.declared.ways.Way.{Way}
use Rattle.cache_core.specs.History.{Rules, History, access, block_of, is_write}
use Rattle.cache_core.specs.Residents.{hits, uses, loads, renews, renewals, is_resident}
use Rattle.cache_core.specs.Dirty.{is_written}
use Rattle.cache_core.specs.Order.{ranked}
use Rattle.cache_core.specs.Row.{holds_block, empty_way, shifted, changed, way_at, row_of}
use Rattle.cache_core.proofs.AtAccess.{at_access}
use Rattle.cache_core.proofs.Reuse.{has, has-ways_of}
use Rattle.cache_core.proofs.Shadow.{eqb-comm}
use Rattle.cache_core.proofs.Shift.{has-take_absent, padded, find-padded, any-padded, shifted-none}
use Rattle.cache_core.proofs.Shift.{shifted-padded, map-without, padded-agree, changed-padded}
use Rattle.cache_core.proofs.Shift.{without, take-cons_take}
use Rattle.cache_core.proofs.Turns.{ranked-other, ranked-fifo, ranked-lru, IsOnce-ranked, absent}
use Rattle.cache_core.proofs.Turns.{block-fifo, block-lru, block-hit, block-unused, renewals-yes}
use Rattle.cache_core.proofs.Turns.{renewals-no, fresh, IsOnce-ways_of}
use Rattle.cache_core.proofs.Cases.{by_cases}

-- blocks are told apart by their first bytes
eqb-times : (n y b : ℕ) → 0 < n → eqb (y * n) (b * n) ≡ eqb y b
eqb-times n y b pos = (elim (eqb y b) as (λ t. eqb y b ≡ t → eqb (y * n) (b * n) ≡ t) [
  | true ↦ λ e. eq-eqb (y * n) (b * n) (ap (λ z. z * n) (eqb-true y b e))
  | false ↦ λ e. ne_eqb (y * n) (b * n) (λ same.
      eqb-false y b e (sym (mul-div_cancel y pos) ∙ ap (λ z. z / n) same ∙ mul-div_cancel b pos))
]) refl

-- the way of y holds b's block just where y is b
pub at_block : (r : Rules) → 0 < r.bsize → (h : History) (b y : ℕ)
    → holds_block (b * r.bsize) (way_at r h y) ≡ eqb y b
at_block r pos h b y = eqb-times r.bsize y b pos

map-same : {X : Type 0} (f g : ℕ → X) → ((y : ℕ) → f y ≡ g y) → (ys : List ℕ) → map f ys ≡ map g ys
map-same f g e [] = refl
map-same f g e (y ∷ ys) = rw (e y, map-same f g e ys)

module _ (r : Rules) (pos : 0 < r.bsize) (h : History) where
  -- the row holds b just where b is resident
  pub find-row_of : (b : ℕ) → find (holds_block (b * r.bsize)) (row_of r h (b % r.sets))
      ≡ cond (is_resident r (renewals r h) b) (Some (way_at r h b)) None
  unfolding row_of
  find-row_of b = find-padded (way_at r h) empty_way r.assoc (holds_block (b * r.bsize)) b
      (at_block r pos h b) refl r.assoc (ranked r (b % r.sets) (renewals r h))
      ∙ ap (λ t. cond t (Some (way_at r h b)) None) (has-ways_of r (renewals r h) b)

  module _ (x : Access) where
    -- other blocks keep their renewals
    is_written-other : (y : ℕ) → eqb y (block_of r x) ≡ false
        → is_written r (access x ∷ h) y ≡ is_written r h y
    unfolding is_written
    is_written-other y e = rw (eqb-comm (block_of r x) y, e) refl

    way_at-other : (y : ℕ) → eqb y (block_of r x) ≡ false → way_at r (access x ∷ h) y ≡ way_at r h y
    way_at-other y e = ap (λ t. record {
      block_addr = y * r.bsize;
      valid = true;
      dirty =
          r.wback && t;
    }) (is_written-other y e)

    -- after a use the block is written if the access writes, or if it hits what was written
    pub is_written-used : uses r (renewals r h) x ≡ true
        → is_written r (access x ∷ h) (block_of r x)
        ≡ (is_write x || (hits r (renewals r h) x && is_written r h (block_of r x)))
    unfolding is_written
    is_written-used u = rw (u, eq-eqb (block_of r x) (block_of r x) refl) refl

    is_written-unused : uses r (renewals r h) x ≡ false → (y : ℕ)
        → is_written r (access x ∷ h) y ≡ is_written r h y
    unfolding is_written
    is_written-unused u y = rw (u, and_right (eqb (block_of r x) y) false refl) refl

    open at_access r h x use {b, s, ms, h'}

    row_is : (g : History) (s : ℕ)
        → row_of r g s ≡ take r.assoc (padded (way_at r g) empty_way r.assoc
        (ranked r s (renewals r g)))
    unfolding row_of
    row_is g s = refl

    ranked-elsewhere : (s : ℕ) → eqb (b % r.sets) s ≡ false
        → ranked r s (renewals r h') ≡ ranked r s ms
    ranked-elsewhere s e = by_cases (renews r ms x)
        (λ g. rw (renewals-yes r h x g) (ranked-other r s b ms e))
        (λ g. rw (renewals-no r h x g) refl)

    -- the rows of the other sets stay
    pub row_of-other : (s : ℕ) → eqb (b % r.sets) s ≡ false → row_of r h' s ≡ row_of r h s
    row_of-other s e = rw (row_is h' s, row_is h s, ranked-elsewhere s e)
        (padded-agree (way_at r h) empty_way r.assoc (holds_block (b * r.bsize)) b
        (at_block r pos h b) refl (way_at r h') way_at-other r.assoc (ranked r s ms)
        (has-take_absent r.assoc b (ranked r s ms) (absent r s b ms e)))

    not-marked : renews r ms x ≡ false → ((y : ℕ) → is_written r h' y ≡ is_written r h y)
        → row_of r h' s ≡ row_of r h s
    not-marked none same = rw (row_is h' s, row_is h s, renewals-no r h x none)
        (ap (λ l. take r.assoc (l ++ replicate r.assoc empty_way))
        (map-same (way_at r h') (way_at r h) (λ y.
        ap (λ t. record { block_addr = y * r.bsize; valid = true; dirty = r.wback && t })
        (same y)) (ranked r s ms)))

    -- nothing is used: the row stays
    pub row_of-unused : uses r ms x ≡ false → row_of r h' s ≡ row_of r h s
    row_of-unused u = not-marked (block-unused r ms x u) (is_written-unused u)

    -- where the block is renewed, its way comes first, and then the others in their order
    renewed : (others : List ℕ) → renews r ms x ≡ true → ranked r s (b ∷ ms) ≡ b ∷ others
        → row_of r h' s
        ≡ take r.assoc (way_at r h' b ∷ padded (way_at r h') empty_way r.assoc others)
    renewed others here is = rw (row_is h' s, renewals-yes r h x here, is) refl

    -- a use under LRU
    pub row_of-lru : r.fifo ≡ false → uses r ms x ≡ true
        → row_of r h' s ≡ shifted (holds_block (b * r.bsize)) (way_at r h' b) (row_of r h s)
    row_of-lru f u = rw (row_is h s)
        (renewed (without b (ranked r s ms)) (block-lru r ms x true f u) (ranked-lru r b ms f)
        ∙ ap (λ l. take r.assoc (way_at r h' b ∷ (l ++ replicate r.assoc empty_way)))
        (map-without (way_at r h) empty_way r.assoc (holds_block (b * r.bsize)) b
        (at_block r pos h b) refl (way_at r h') way_at-other (ranked r s ms))
        ∙ sym (shifted-padded (way_at r h) empty_way r.assoc (holds_block (b * r.bsize)) b
        (at_block r pos h b) refl r.assoc (ranked r s ms) (way_at r h' b) (omega arith)
        (IsOnce-ranked r f s ms)))

    pub missed : loads r ms x ≡ true → hits r ms x ≡ false
    missed l = not-true (hits r ms x) (and_parts (uses r ms x) (not (hits r ms x)) l).1

    new_here : loads r ms x ≡ true → has (take r.assoc (ranked r s ms)) b ≡ false
    new_here l = fresh r h b (missed l)

    -- the row, with its empty ways, is at least as long as the set has ways
    pub room : r.assoc ≤ length (padded (way_at r h) empty_way r.assoc (ranked r s ms))
    room = omega (
      arith,
      length-append (map (way_at r h) (ranked r s ms))
          (replicate r.assoc empty_way),
      length-replicate r.assoc empty_way,
    )

    -- a load
    pub row_of-load : r.fifo ≡ true → loads r ms x ≡ true
        → row_of r h' s ≡ shifted (holds_block (b * r.bsize)) (way_at r h' b) (row_of r h s)
    row_of-load f l = rw (row_is h s)
        (renewed (ranked r s ms) (block-fifo r ms x true f l) (ranked-fifo r b ms f)
        ∙ sym (take-cons_take r.assoc (way_at r h' b)
        (map (way_at r h') (ranked r s ms) ++ replicate r.assoc empty_way))
        ∙ ap (λ row. take r.assoc (way_at r h' b ∷ row))
        (padded-agree (way_at r h) empty_way r.assoc (holds_block (b * r.bsize)) b
        (at_block r pos h b) refl (way_at r h') way_at-other r.assoc (ranked r s ms)
        (new_here l))
        ∙ take-cons_take r.assoc (way_at r h' b)
        (padded (way_at r h) empty_way r.assoc (ranked r s ms))
        ∙ sym (shifted-none (holds_block (b * r.bsize)) r.assoc
        (padded (way_at r h) empty_way r.assoc (ranked r s ms)) (way_at r h' b)
        (any-padded (way_at r h) empty_way r.assoc (holds_block (b * r.bsize)) b
        (at_block r pos h b) refl r.assoc (ranked r s ms) ∙ new_here l) room))

    -- a hit under FIFO changes the block's way in its place
    pub row_of-fifo_hit : r.fifo ≡ true → hits r ms x ≡ true → (g : Way → Way)
        → way_at r h' b ≡ g (way_at r h b)
        → row_of r h' s ≡ changed (holds_block (b * r.bsize)) g (row_of r h s)
    row_of-fifo_hit f hit g same =
        rw (row_is h' s, row_is h s, renewals-no r h x (block-hit r ms x f hit))
        (sym (changed-padded (way_at r h) empty_way r.assoc (holds_block (b * r.bsize)) b
        (at_block r pos h b) refl (way_at r h') way_at-other g same r.assoc (ranked r s ms)
        (IsOnce-ways_of r h s)))
