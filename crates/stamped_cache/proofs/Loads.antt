-- What a cache holds after an access that loads its block.
use Rattle.std.proofs.Common.{◌≡◌, ◌≢◌, ℕ, ◌*◌, ◌%◌, ◌<◌, Bool, true, false, cond, not, ◌&&◌}
use Rattle.std.proofs.Common.{◌||◌, eqb, List, [], ◌∷◌, ◌++◌, length, get_or, map, set, Some, None}
use Rattle.std.proofs.Common.{is_some}
use Rattle.std.proofs.Common.{unwrap_or, inl, inr, refl, sym, ap, subst, ◌∙◌, arith}
use Rattle.std.proofs.lemmas.Bool.{eqb-true, eq-eqb, false≢true, false_from_ne_true}
use Rattle.std.proofs.lemmas.Bool.{cases_eq, or_cases, and_parts}
use Rattle.cache_core.specs.declared.access.Access.{Access}
use Rattle.cache_core.specs.History.{History, Rules, access, block_of, is_write}
use Rattle.cache_core.specs.Dirty.{is_dirty, is_written}
use Rattle.cache_core.specs.Order.{residents_of}
use Rattle.cache_core.specs.Parts.{outcome_of}
use Rattle.cache_core.specs.Residents.{is_resident, renewals}
use Rattle.cache_core.proofs.Cases.{by_cases}
use Rattle.cache_core.proofs.Members.{mid-true}
use Rattle.cache_core.proofs.Reuse.{has}
use Rattle.cache_core.proofs.Shift.{without}
use Rattle.marked_list.proofs.Living.{distinct-once}
use Rattle.grid_core.specs.Numbers.{number_at}
use Rattle.grid_core.specs.Shadows.{number_by}
use Rattle.grid_core.specs.Ways.{IsStacked}
use Rattle.grid_core.proofs.Numbers.{number-low}
use Rattle.stamped_cache.specs.declared.state.State.{State}
use Rattle.stamped_cache.specs.declared.state.State.TheVariants.{Absent}
use Rattle.stamped_cache.specs.Holding.{HoldBy, IsStateOf, RowHoldsResidents}
use Rattle.stamped_cache.specs.States.{is_held, was_written}
use Rattle.stamped_cache.proofs.Holds.{resident-apart, resident-number, row-length, row-once}
use Rattle.stamped_cache.proofs.Holds.{same-block, same-number}
use Rattle.stamped_cache.proofs.Named.{all, has-without, none, number-found, number-gone}
use Rattle.stamped_cache.proofs.Named.{same-numbers}
use Rattle.stamped_cache.proofs.Residents.{full-back, full-has, full-last, full-resident}
use Rattle.stamped_cache.proofs.Residents.{has-resident, last, load-elsewhere, room-back, room-has}
use Rattle.stamped_cache.proofs.Residents.{room-resident, written-after}
use Rattle.stamped_cache.proofs.RowLists.{IsOnce-added, IsOnce-set, has-added, has-set}

module _ (blocks : List ℕ) (r : Rules) (st : IsStacked r) (some : 0 < r.assoc)
    (deep : 0 < r.sets) (h : History)
    (x : Access) (states : ℕ → State) (rows : ℕ → List ℕ) (held : HoldBy blocks r h states rows)
    (n : ℕ) (is : number_at blocks (block_of r x) ≡ Some n)
    (absent : is_held (states n) ≡ false) where
  abbrev b : ℕ
  b = block_of r x

  abbrev s : ℕ
  s = b % r.sets

  abbrev after : History
  after = access x ∷ h

  abbrev num : ℕ → ℕ
  num = number_by blocks

  inside : s < r.sets
  inside = omega arith

  pub miss : is_resident r (renewals r h) b ≡ false
  miss = sym (held.each b n is).held ∙ absent

  written-b : is_written r after b ≡ is_write x
  written-b = written-after r st h x b
      ∙ ap (λ u. cond u (is_write x || (is_resident r (renewals r h) b && is_written r h b))
      (is_written r h b)) (eq-eqb b b refl)
      ∙ ap (λ u. is_write x || (u && is_written r h b)) miss ∙ or-none (is_write x)
    where
      or-none : (w : Bool) → (w || false) ≡ w
      or-none true = refl
      or-none false = refl

  written-other : (y : ℕ) → eqb b y ≡ false → is_written r after y ≡ is_written r h y
  written-other y e = written-after r st h x y
      ∙ ap (λ u. cond u (is_write x || (is_resident r (renewals r h) b && is_written r h b))
      (is_written r h y)) e

  -- the number of the block is not in its row
  not-there : has (rows s) n ≡ false
  not-there = (held.sets s inside).same n
      ∙ false_from_ne_true (has (map num (residents_of r h s)) n) (λ there.
      let z = number-found num (residents_of r h s) n there in
      let res = has-resident r h s z.0 z.1 in
      let same : eqb b z.0 ≡ true =
      sym (same-block blocks r st some h x states rows held n is z.0 n
      (resident-number blocks r h states rows held z.0 res ∙ ap Some z.2))
      ∙ eq-eqb n n refl in
      false≢true (sym miss ∙ subst (λ y. is_resident r (renewals r h) y ≡ true)
      (sym (eqb-true b z.0 same)) res))

  num-b : num b ≡ n
  num-b = ap (λ o. unwrap_or o 0) is

  elsewhere : (next : ℕ → List ℕ) → ((t : ℕ) → t ≢ s → next t ≡ rows t) → (t : ℕ)
      → t < r.sets → t ≢ s → RowHoldsResidents blocks r after t (next t)
  elsewhere next others t lt apart = subst (RowHoldsResidents blocks r after t)
      (sym (others t apart))
      (record {
        once = (held.sets t lt).once;
        same = λ q. (held.sets t lt).same q
            ∙ ap (λ (l : List ℕ). has (map num l) q) (sym (load-elsewhere r st h x t apart));
      })

  -- from a set with room nothing is written back
  pub room-gone : length (rows s) < r.assoc → is_some (outcome_of r h x).back ≡ false
  room-gone room = let same = row-length blocks r h states rows held s inside in
      ap is_some (room-back r st h x some miss (omega arith))

  -- what leaves a full set
  module _ (full : length (rows s) ≡ r.assoc) where
    pub filled : length (residents_of r h s) ≡ r.assoc
    filled = sym (row-length blocks r h states rows held s inside) ∙ full

    abbrev pub gone : ℕ
    gone = last r st h x some miss filled

    gone-number : number_at blocks gone ≡ Some (num gone)
    gone-number = resident-number blocks r h states rows held gone
        (full-last r st h x some miss filled)

    gone-resident : is_resident r (renewals r h) gone ≡ true
    gone-resident = full-last r st h x some miss filled

    -- it is written back if it was written
    pub back-is : is_some (outcome_of r h x).back ≡ (was_written (states (num gone)) && r.wback)
    unfolding is_dirty
    back-is =
        let resident = gone-resident in
        let was = held.each gone (num gone) gone-number in
        ap is_some (full-back r st h x some miss filled)
        ∙ some-by (is_dirty r h gone)
        ∙ mid-true r.wback (is_resident r (renewals r h) gone) (is_written r h gone) resident
        ∙ ap (λ t. r.wback && t) (sym (was.written (was.held ∙ resident)))
        ∙ and-comm r.wback (was_written (states (num gone)))
      where
        some-by : (t : Bool) → is_some (cond t (Some (gone * r.bsize)) None) ≡ t
        some-by true = refl
        some-by false = refl

        and-comm : (p q : Bool) → (p && q) ≡ (q && p)
        and-comm true true = refl
        and-comm true false = refl
        and-comm false true = refl
        and-comm false false = refl

  -- the state of the block of the access
  module _ (new : State) (is-held : is_held new ≡ true) (was-written : was_written new ≡ is_write x)
    where
      new-state : (y k : ℕ) → number_at blocks y ≡ Some k → eqb b y ≡ true
          → is_resident r (renewals r after) y ≡ true → IsStateOf r after y new
      new-state y k e t res = record {
        held = is-held ∙ sym res;
        written = λ _. was-written ∙ sym (subst (λ z. is_written r after z ≡ is_write x)
            (eqb-true b y t) written-b);
      }

      -- into a set with room
      module _ (room : length (rows s) < r.assoc) (next : ℕ → State)
          (now : (k : ℕ) → next k ≡ cond (eqb n k) new (states k)) (turned : ℕ → List ℕ)
          (added : turned s ≡ rows s ++ n ∷ []) (others : (t : ℕ) → t ≢ s → turned t ≡ rows t)
        where
          short : length (residents_of r h s) < r.assoc
          short = let same = row-length blocks r h states rows held s inside in omega arith

          room-row : RowHoldsResidents blocks r after s (turned s)
          room-row = subst (RowHoldsResidents blocks r after s) (sym added) (record {
            once = distinct-once (rows s ++ n ∷ []) (IsOnce-added (rows s) n
                (row-once blocks r h states rows held s inside) not-there);
            same = λ q. has-added (rows s) n q
                ∙ ap (λ t. eqb n q || t) ((held.sets s inside).same q)
                ∙ ap (λ m. eqb m q || has (map num (residents_of r h s)) q) (sym num-b)
                ∙ sym (same-numbers num (residents_of r after s) (b ∷ residents_of r h s)
                (room-has r st h x some miss short) q);
          })

          room-state : (y k : ℕ) → number_at blocks y ≡ Some k → IsStateOf r after y (next k)
          room-state y k e = by_cases (eqb b y)
              (λ t. subst (IsStateOf r after y)
              (sym (now k ∙ ap (λ u. cond u new (states k))
              (same-block blocks r st some h x states rows held n is y k e ∙ t)))
              (new-state y k e t (room-resident r st h x some miss short y
              ∙ ap (λ u. u || is_resident r (renewals r h) y) t)))
              (λ t. subst (IsStateOf r after y)
              (sym (now k ∙ ap (λ u. cond u new (states k))
              (same-block blocks r st some h x states rows held n is y k e ∙ t)))
              (record {
                held = (held.each y k e).held ∙ sym (room-resident r st h x some miss short y
                    ∙ ap (λ u. u || is_resident r (renewals r h) y) t);
                written = λ g. (held.each y k e).written g ∙ sym (written-other y t);
              }))

          pub holds-room : HoldBy blocks r after next turned
          holds-room = record {
            named = λ y res. elim (or_cases (eqb b y) (is_resident r (renewals r h) y)
                (sym (room-resident r st h x some miss short y) ∙ res)) [
                  | inl t ↦ subst (λ z. is_some (number_at blocks z) ≡ true) (eqb-true b y t)
                      (ap is_some is)
                  | inr t ↦ held.named y t
                ];
            each = room-state;
            low = λ k there. by_cases (eqb n k)
                (λ t. subst (λ j. j < length blocks) (eqb-true n k t) (number-low blocks b n is))
                (λ t. held.low k (sym (ap is_held (now k ∙ ap (λ u. cond u new (states k)) t))
                ∙ there));
            sets = λ t lt. elim (cases_eq t s) [
              | inl e ↦ subst (λ i. RowHoldsResidents blocks r after i (turned i)) (sym e) room-row
              | inr apart ↦ elsewhere turned others t lt apart
            ];
          }

      -- into a full set, in the place of the last of its residents
      module _ (full : length (rows s) ≡ r.assoc) (i : ℕ) (low : i < length (rows s))
          (there : get_or (rows s) i 0 ≡ num (gone full))
          (next : ℕ → State) (now : (k : ℕ) → next k
          ≡ cond (eqb n k) new (cond (eqb (num (gone full)) k) Absent (states k)))
          (turned : ℕ → List ℕ) (replaced : turned s ≡ set (rows s) i n)
          (others : (t : ℕ) → t ≢ s → turned t ≡ rows t) where
        apart : (z : ℕ) → has (residents_of r h s) z ≡ true → num (gone full) ≡ num z
            → (gone full) ≡ z
        apart z g = resident-apart blocks r h states rows held (gone full) z (gone-resident full)
            (has-resident r h s z g)

        over-row : RowHoldsResidents blocks r after s (turned s)
        over-row =
            let once = row-once blocks r h states rows held s inside in
            let res = residents_of r h s in
            subst (RowHoldsResidents blocks r after s) (sym replaced) (record {
              once = distinct-once (set (rows s) i n) (IsOnce-set (rows s) i n once low not-there);
              same = λ q. has-set (rows s) i n q once low
                  ∙ ap (λ v. eqb n q || (has (rows s) q && not (eqb v q))) there
                  ∙ ap (λ t. eqb n q || (t && not (eqb (num (gone full)) q)))
                  ((held.sets s inside).same q)
                  ∙ ap (λ t. eqb n q || t) (sym (number-gone num res (gone full) apart q))
                  ∙ ap (λ m. eqb m q || has (map num (without (gone full) res)) q) (sym num-b)
                  ∙ sym (same-numbers num (residents_of r after s) (b ∷ without (gone full) res)
                  (λ y. full-has r st h x some miss (filled full) y
                  ∙ ap (λ t. eqb b y || t) (sym (has-without (gone full) y res))) q);
            })

        next-is : (y k : ℕ) → number_at blocks y ≡ Some k
            → next k ≡ cond (eqb b y) new (cond (eqb (gone full) y) Absent (states k))
        next-is y k e = now k
            ∙ ap (λ t. cond t new (cond (eqb (num (gone full)) k) Absent (states k)))
            (same-number blocks b n is y k e)
            ∙ ap (λ t. cond (eqb b y) new (cond t Absent (states k)))
            (same-number blocks (gone full) (num (gone full)) (gone-number full) y k e)

        resident-is : (y : ℕ) (t u : Bool) → eqb b y ≡ t → eqb (gone full) y ≡ u
            → is_resident r (renewals r after) y
            ≡ (t || (is_resident r (renewals r h) y && not u))
        resident-is y t u e f = full-resident r st h x some miss (filled full) y
            ∙ ap (λ p. p || (is_resident r (renewals r h) y && not (eqb (gone full) y))) e
            ∙ ap (λ p. t || (is_resident r (renewals r h) y && not p)) f

        over-state : (y k : ℕ) → number_at blocks y ≡ Some k → IsStateOf r after y (next k)
        over-state y k e = subst (IsStateOf r after y) (sym (next-is y k e)) (by_cases (eqb b y)
            (λ t. subst (IsStateOf r after y)
            (sym (ap (λ p. cond p new (cond (eqb (gone full) y) Absent (states k))) t))
            (new-state y k e t (resident-is y true (eqb (gone full) y) t refl)))
            (λ t. subst (IsStateOf r after y)
            (sym (ap (λ p. cond p new (cond (eqb (gone full) y) Absent (states k))) t))
            (by_cases (eqb (gone full) y)
            (λ u. subst (IsStateOf r after y) (sym (ap (λ p. cond p Absent (states k)) u))
            (record {
              held = sym (resident-is y false true t u ∙ none (is_resident r (renewals r h) y));
              written = λ g. absurd (false≢true g);
            }))
            (λ u. subst (IsStateOf r after y) (sym (ap (λ p. cond p Absent (states k)) u))
            (record {
              held = (held.each y k e).held
                  ∙ sym (resident-is y false false t u ∙ all (is_resident r (renewals r h) y));
              written = λ g. (held.each y k e).written g ∙ sym (written-other y t);
            })))))

        pub holds-over : HoldBy blocks r after next turned
        holds-over = record {
          named = λ y res. elim (or_cases (eqb b y) (is_resident r (renewals r h) y
              && not (eqb (gone full) y))
              (sym (full-resident r st h x some miss (filled full) y) ∙ res)) [
                | inl t ↦ subst (λ z. is_some (number_at blocks z) ≡ true) (eqb-true b y t)
                    (ap is_some is)
                | inr t ↦ held.named y
                    (and_parts (is_resident r (renewals r h) y) (not (eqb (gone full) y)) t).0
              ];
          each = over-state;
          low = λ k g. by_cases (eqb n k)
              (λ t. subst (λ j. j < length blocks) (eqb-true n k t) (number-low blocks b n is))
              (λ t. by_cases (eqb (num (gone full)) k)
              (λ u. absurd (false≢true (sym (ap is_held (now k
              ∙ ap (λ p. cond p new (cond (eqb (num (gone full)) k) Absent (states k))) t
              ∙ ap (λ p. cond p Absent (states k)) u)) ∙ g)))
              (λ u. held.low k (sym (ap is_held (now k
              ∙ ap (λ p. cond p new (cond (eqb (num (gone full)) k) Absent (states k))) t
              ∙ ap (λ p. cond p Absent (states k)) u)) ∙ g)));
          sets = λ t lt. elim (cases_eq t s) [
            | inl e ↦ subst (λ i. RowHoldsResidents blocks r after i (turned i)) (sym e) over-row
            | inr other ↦ elsewhere turned others t lt other
          ];
        }
