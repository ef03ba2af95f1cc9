-- What a cache holds, event by event.
use Rattle.std.proofs.Common.{◌≡◌, ℕ, ◌<◌, Bool, true, false, cond, ◌&&◌, ◌||◌}
use Rattle.std.proofs.Common.{eqb, List, [], ◌∷◌, length, map, Some, take, unwrap_or}
use Rattle.std.proofs.Common.{refl, sym, ap, subst, ◌∙◌}
use Rattle.std.proofs.lemmas.Bool.{eqb-true, eqb-false, eq-eqb, ne_eqb, false≢true}
use Rattle.std.proofs.lemmas.Bool.{false_from_ne_true}
use Rattle.std.proofs.Math.Seq.{take-nil}
use Rattle.std.proofs.lemmas.List.{length-map}
use Rattle.cache_core.specs.declared.access.Access.{Access}
use Rattle.cache_core.specs.History.{History, Rules, access, block_of, is_write}
use Rattle.cache_core.specs.Dirty.{is_written}
use Rattle.cache_core.specs.Order.{residents_of, ways_of}
use Rattle.cache_core.specs.Residents.{distinct, in_set, is_resident, renewals}
use Rattle.cache_core.proofs.Cases.{by_cases}
use Rattle.cache_core.proofs.Reuse.{has}
use Rattle.cache_core.proofs.Shift.{IsOnce, IsOnce-distinct}
use Rattle.cache_core.proofs.Victim.{resident-renewed}
use Rattle.grid_core.specs.Numbers.{number_at}
use Rattle.grid_core.specs.Shadows.{number_by}
use Rattle.grid_core.specs.Ways.{IsStacked}
use Rattle.grid_core.proofs.Numbering.{some-is}
use Rattle.grid_core.proofs.Numbers.{number-apart}
use Rattle.grid_core.proofs.Onces.{once-length}
use Rattle.stamped_cache.specs.declared.state.State.{State}
use Rattle.stamped_cache.specs.declared.state.State.TheVariants.{Absent, Written}
use Rattle.stamped_cache.specs.Holding.{HoldBy, IsStateOf, RowHoldsResidents}
use Rattle.stamped_cache.specs.States.{is_held, was_written}
use Rattle.stamped_cache.proofs.Named.{number-found, same-numbers}
use Rattle.stamped_cache.proofs.Residents.{has-resident}
use Rattle.stamped_cache.proofs.Residents.{hit-has, hit-resident}
use Rattle.stamped_cache.proofs.Residents.{residents-once, written-after}

-- a number is that of block a just if it is that of a block that is a
pub same-number : (blocks : List ℕ) (a n : ℕ) → number_at blocks a ≡ Some n → (y k : ℕ)
    → number_at blocks y ≡ Some k → eqb n k ≡ eqb a y
same-number blocks a n is y k e = by_cases (eqb n k)
    (λ t. t ∙ sym (eq-eqb a y (number-apart blocks a y n is
    (e ∙ ap Some (sym (eqb-true n k t))))))
    (λ t. t ∙ sym (ne_eqb a y (λ same. eqb-false n k t
    (ap (λ o. unwrap_or o 0) (sym is ∙ ap (number_at blocks) same ∙ e)))))

-- by the state of what a cache held before an access
module _ (blocks : List ℕ) (r : Rules) (h : History) (states : ℕ → State) (rows : ℕ → List ℕ)
    (held : HoldBy blocks r h states rows) where
  abbrev num : ℕ → ℕ
  num = number_by blocks

  -- a resident has a number
  pub resident-number : (y : ℕ) → is_resident r (renewals r h) y ≡ true
      → number_at blocks y ≡ Some (num y)
  resident-number y res = some-is (number_at blocks y) (held.named y res)

  -- no other resident has it
  pub resident-apart : (y z : ℕ) → is_resident r (renewals r h) y ≡ true
      → is_resident r (renewals r h) z ≡ true → num y ≡ num z → y ≡ z
  resident-apart y z a b same = number-apart blocks y z (num z)
      (resident-number y a ∙ ap Some same) (resident-number z b)

  once-numbers : (zs : List ℕ) → IsOnce zs
      → ((z : ℕ) → has zs z ≡ true → is_resident r (renewals r h) z ≡ true)
      → IsOnce (map num zs)
  once-numbers [] once all = tt
  once-numbers (z ∷ zs) once all = (
    false_from_ne_true (has (map num zs) (num z)) (λ there.
        let y = number-found num zs (num z) there in
        let in_rest = λ (v : ℕ) (g : has zs v ≡ true). all v (behind v g) in
        false≢true (sym once.0 ∙ subst (λ v. has zs v ≡ true) (resident-apart y.0 z
        (in_rest y.0 y.1) (all z front) y.2) y.1)),
    once-numbers zs once.1 (λ v g. all v (behind v g)),
  )
    where
      front : has (z ∷ zs) z ≡ true
      front = ap (λ t. t || has zs z) (eq-eqb z z refl)

      behind : (v : ℕ) → has zs v ≡ true → has (z ∷ zs) v ≡ true
      behind v g = elim (eqb z v) as (λ t. (t || has zs v) ≡ true) [ true ↦ refl | false ↦ g ]

  module _ (t : ℕ) (lt : t < r.sets) where
    abbrev row : List ℕ
    row = rows t

    abbrev residents : List ℕ
    residents = residents_of r h t

    pub row-once : IsOnce row
    row-once = subst IsOnce (held.sets t lt).once (IsOnce-distinct row)

    pub numbers-once : IsOnce (map num residents)
    numbers-once = once-numbers residents (residents-once r h t) (has-resident r h t)

    -- a row is as long as its set has residents
    pub row-length : length row ≡ length residents
    row-length = once-length row (map num residents) row-once numbers-once
        (λ z g. sym ((held.sets t lt).same z) ∙ g) (λ z g. (held.sets t lt).same z ∙ g)
        ∙ length-map residents num

-- one access
module _ (blocks : List ℕ) (r : Rules) (st : IsStacked r) (some : 0 < r.assoc) (h : History)
    (x : Access) (states : ℕ → State) (rows : ℕ → List ℕ) (held : HoldBy blocks r h states rows)
    (n : ℕ) (is : number_at blocks (block_of r x) ≡ Some n) where
  abbrev b : ℕ
  b = block_of r x

  abbrev after : History
  after = access x ∷ h

  -- the number of a block is n just if it is the block of the access
  pub same-block : (y k : ℕ) → number_at blocks y ≡ Some k → eqb n k ≡ eqb b y
  same-block y k e = same-number blocks b n is y k e

  -- a hit, whose block is written if it writes
  module _ (here : is_held (states n) ≡ true) (next : ℕ → State)
      (now : (k : ℕ) → next k ≡ cond (eqb n k && is_write x) Written (states k)) where
    hit : is_resident r (renewals r h) b ≡ true
    hit = sym (held.each b n is).held ∙ here

    still-held : (k : ℕ) → is_held (next k) ≡ is_held (states k)
    still-held k = ap is_held (now k)
        ∙ by_cases (eqb n k)
        (λ e. ap (λ t. is_held (cond (t && is_write x) Written (states k))) e
        ∙ written-held (is_write x) (states k)
        (subst (λ j. is_held (states j) ≡ true) (eqb-true n k e) here))
        (λ e. ap (λ t. is_held (cond (t && is_write x) Written (states k))) e)
      where
        written-held : (w : Bool) (q : State) → is_held q ≡ true
            → is_held (cond w Written q) ≡ is_held q
        written-held true q g = sym g
        written-held false q g = refl

    written-next : (y k : ℕ) → number_at blocks y ≡ Some k → is_held (next k) ≡ true
        → was_written (next k) ≡ is_written r after y
    written-next y k e there =
        let was : is_held (states k) ≡ true = sym (still-held k) ∙ there in
        let before = (held.each y k e).written was in
        let resident = sym (held.each y k e).held ∙ was in
        ap was_written (now k) ∙ by_cases (eqb b y)
        (λ t. ap (λ u. was_written (cond (u && is_write x) Written (states k)))
        (same-block y k e ∙ t)
        ∙ written-by (is_write x) (states k)
        ∙ ap (λ u. is_write x || u) (before ∙ sym (ap (λ u. u && is_written r h y) resident))
        ∙ sym (subst (λ z. is_written r after y
        ≡ (is_write x || (is_resident r (renewals r h) z && is_written r h z)))
        (eqb-true b y t) (written-after r st h x y
        ∙ ap (λ u. cond u (is_write x || (is_resident r (renewals r h) b && is_written r h b))
        (is_written r h y)) t)))
        (λ t. ap (λ u. was_written (cond (u && is_write x) Written (states k)))
        (same-block y k e ∙ t) ∙ before
        ∙ sym (written-after r st h x y
        ∙ ap (λ u. cond u (is_write x || (is_resident r (renewals r h) b && is_written r h b))
        (is_written r h y)) t))
      where
        written-by : (w : Bool) (q : State) → was_written (cond w Written q) ≡ (w || was_written q)
        written-by true q = refl
        written-by false q = refl

    pub holds-hit : HoldBy blocks r after next rows
    holds-hit = record {
      named = λ y res. held.named y (sym (hit-resident r st h x some hit y) ∙ res);
      each = λ y k e. record {
        held = still-held k ∙ (held.each y k e).held ∙ sym (hit-resident r st h x some hit y);
        written = written-next y k e;
      };
      low = λ k there. held.low k (sym (still-held k) ∙ there);
      sets = λ t lt. record {
        once = (held.sets t lt).once;
        same = λ q. (held.sets t lt).same q
            ∙ sym (same-numbers (number_by blocks) (residents_of r after t) (residents_of r h t)
            (hit-has r st h x some hit t) q);
      };
    }

-- a set has no residents where nothing was renewed
residents-none : (r : Rules) (h : History) (s : ℕ) → renewals r h ≡ [] → residents_of r h s ≡ []
residents-none r h s none = ap (ways_of r s) none ∙ by_cases r.fifo
    (λ e. ap (λ t. take r.assoc (cond t (in_set r s []) (distinct (in_set r s [])))) e
    ∙ take-nil r.assoc)
    (λ e. ap (λ t. take r.assoc (cond t (in_set r s []) (distinct (in_set r s [])))) e
    ∙ take-nil r.assoc)

-- what is held is told by other states and rows that are the same
pub holds-same : (blocks : List ℕ) (r : Rules) (h : History) (old new : ℕ → State)
    (rows turned : ℕ → List ℕ) → ((n : ℕ) → new n ≡ old n) → ((s : ℕ) → turned s ≡ rows s)
    → HoldBy blocks r h old rows → HoldBy blocks r h new turned
holds-same blocks r h old new rows turned same alike held = record {
  named = held.named;
  each = λ y n e. subst (IsStateOf r h y) (sym (same n)) (held.each y n e);
  low = λ n there. held.low n (ap is_held (sym (same n)) ∙ there);
  sets = λ s lt. subst (RowHoldsResidents blocks r h s) (sym (alike s)) (held.sets s lt);
}

-- an empty cache holds nothing
pub holds-nothing : (blocks : List ℕ) (r : Rules) (h : History) (states : ℕ → State)
    (rows : ℕ → List ℕ) → renewals r h ≡ [] → ((n : ℕ) → states n ≡ Absent)
    → ((s : ℕ) → rows s ≡ []) → HoldBy blocks r h states rows
holds-nothing blocks r h states rows none absent empty =
    let gone : (y : ℕ) → is_resident r (renewals r h) y ≡ false =
    λ y. false_from_ne_true (is_resident r (renewals r h) y) (λ res.
    false≢true (ap (λ l. has l y) (sym none) ∙ resident-renewed r (renewals r h) y res)) in
    record {
      named = λ y res. absurd (false≢true (sym (gone y) ∙ res));
      each = λ y n e. record {
        held = ap is_held (absent n) ∙ sym (gone y);
        written = λ there. absurd (false≢true (ap is_held (sym (absent n)) ∙ there));
      };
      low = λ n there. absurd (false≢true (ap is_held (sym (absent n)) ∙ there));
      sets = λ s lt. record {
        once = ap distinct (empty s) ∙ sym (empty s);
        same = λ q. ap (λ l. has l q) (empty s)
            ∙ ap (λ (l : List ℕ). has (map (number_by blocks) l) q) (sym (no-residents s));
      };
    }
  where
    no-residents : (s : ℕ) → residents_of r h s ≡ []
    no-residents s = residents-none r h s none
