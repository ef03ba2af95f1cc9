-- The misses of each kind by what tells them: whether the block is known, and whether the shadow
-- misses too.
use Rattle.std.proofs.Common.{◌≡◌, ℕ, ◌+◌, ◌/◌, Bool, true, false, not, ◌&&◌, ◌==◌, [], ◌∷◌}
use Rattle.std.proofs.Common.{refl, sym, ap, ◌∙◌, arith}
use Rattle.std.specs.List.{list_any}
use Rattle.std.proofs.lemmas.Bool.{false≢true}
use Rattle.cache_core.specs.declared.access.Access.{Access}
use Rattle.cache_core.specs.declared.access.Class.{Class}
use Rattle.cache_core.specs.declared.access.Class.TheVariants.{Instr, Read, Write, Misc}
use Rattle.cache_core.specs.declared.access.MissKind.TheVariants.{Compulsory, Capacity, Conflict}
use Rattle.cache_core.specs.declared.counts.PerClass.{PerClass}
use Rattle.cache_core.specs.History.{History, Rules, access, block_of, flush, is_instr, is_read}
use Rattle.cache_core.specs.History.{is_misc, is_write}
use Rattle.cache_core.specs.Residents.{hits, renewals}
use Rattle.cache_core.specs.Kinds.{is_kind, kind_of_miss, referenced_blocks, shadow_of}
use Rattle.cache_core.specs.Parts.{one_if, outcome_of}
use Rattle.cache_core.specs.Counts.{by_class, tally, total_of}
use Rattle.cache_core.proofs.Referenced.{renewals-referenced}
use Rattle.cache_core.proofs.Victim.{resident-renewed}
use Rattle.grid_core.specs.Totals.{added, lessened}
use Rattle.grid_core.specs.Ways.{IsStacked}
use Rattle.grid_core.proofs.After.{referenced-size}
use Rattle.grid_core.proofs.Distances.{uses-all}
use Rattle.grid_core.proofs.Outcomes.{kind_made}
use Rattle.grid_core.proofs.Totals.{same-classes}

-- a test of an access after a history
abbrev pub Test : Type 0
Test = History → Access → Bool

-- tests that say the same count the same
pub tally-same : (a b : Test) → ((g : History) (x : Access) → a g x ≡ b g x) → (h : History)
    → tally a h ≡ tally b h
unfolding tally
tally-same a b same [] = refl
tally-same a b same (flush ∷ h) = tally-same a b same h
tally-same a b same (access x ∷ h) = ap (λ t. one_if t + tally a h) (same h x)
    ∙ ap (λ n. one_if (b h x) + n) (tally-same a b same h)

-- a test that is one of two others, and never both, counts as both together
tally-added : (t a b : Test) → ((g : History) (x : Access) → one_if (t g x)
    ≡ one_if (a g x) + one_if (b g x)) → (h : History) → tally t h ≡ tally a h + tally b h
unfolding tally
tally-added t a b parts [] = refl
tally-added t a b parts (flush ∷ h) = tally-added t a b parts h
tally-added t a b parts (access x ∷ h) =
    let one = parts h x in
    let rest = tally-added t a b parts h in
    omega arith

module _ (a b : Test) (same : (g : History) (x : Access) → a g x ≡ b g x) (h : History) where
  in-class : (k : Access → Bool) → tally (λ g x. k x && a g x) h ≡ tally (λ g x. k x && b g x) h
  in-class k = tally-same (λ g x. k x && a g x) (λ g x. k x && b g x)
      (λ g x. ap (λ t. k x && t) (same g x)) h

  -- by class too
  pub by-class-same : by_class a h ≡ by_class b h
  by-class-same = same-classes (by_class a h) (by_class b h) (in-class is_instr) (in-class is_read)
      (in-class is_write) (in-class is_misc)

module _ (t a b : Test) (parts : (k : Bool) (g : History) (x : Access)
    → one_if (k && t g x) ≡ one_if (k && a g x) + one_if (k && b g x)) (h : History) where
  added-in : (k : Access → Bool) → tally (λ g x. k x && t g x) h
      ≡ tally (λ g x. k x && a g x) h + tally (λ g x. k x && b g x) h
  added-in k = tally-added (λ g x. k x && t g x) (λ g x. k x && a g x) (λ g x. k x && b g x)
      (λ g x. parts (k x) g x) h

  pub by-class-added : by_class t h ≡ added (by_class a h) (by_class b h)
  by-class-added = same-classes (by_class t h) (added (by_class a h) (by_class b h))
      (added-in is_instr) (added-in is_read) (added-in is_write) (added-in is_misc)

-- a sum without its first part is the second
pub less-first : (p q : PerClass) → lessened (added p q) p ≡ q
less-first p q = same-classes (lessened (added p q) p) q (omega arith) (omega arith) (omega arith)
    (omega arith)

-- an access has one class
one-class : (c : Class) (a : ℕ) (m : Bool) → let x : Access = record { class = c; addr = a } in
    one_if (is_instr x && m) + one_if (is_read x && m) + one_if (is_write x && m)
    + one_if (is_misc x && m) ≡ one_if m
one-class Instr a true = refl
one-class Instr a false = refl
one-class Read a true = refl
one-class Read a false = refl
one-class Write a true = refl
one-class Write a false = refl
one-class Misc a true = refl
one-class Misc a false = refl

-- the kind of a miss, by whether it hits, the block is known, and the shadow hits
first-kind : (i n s : Bool) → (i ≡ true → n ≡ true)
    → not n ≡ is_kind Compulsory (kind_made i n s)
first-kind true true s in-hit = refl
first-kind true false s in-hit = absurd (false≢true (in-hit refl))
first-kind false true true in-hit = refl
first-kind false true false in-hit = refl
first-kind false false s in-hit = refl

far-kind : (k i n s : Bool) → (i ≡ true → n ≡ true) → (s ≡ true → n ≡ true)
    → one_if (k && (not i && not s)) ≡ one_if (k && not n)
    + one_if (k && is_kind Capacity (kind_made i n s))
far-kind false i n s in-hit in-shadow = refl
far-kind true true true s in-hit in-shadow = refl
far-kind true true false s in-hit in-shadow = absurd (false≢true (in-hit refl))
far-kind true false true true in-hit in-shadow = refl
far-kind true false true false in-hit in-shadow = refl
far-kind true false false true in-hit in-shadow = absurd (false≢true (in-shadow refl))
far-kind true false false false in-hit in-shadow = refl

near-kind : (k i n s : Bool) → (s ≡ true → n ≡ true)
    → one_if (k && not i) ≡ one_if (k && (not i && not s))
    + one_if (k && is_kind Conflict (kind_made i n s))
near-kind false i n s in-shadow = refl
near-kind true true n s in-shadow = refl
near-kind true false true true in-shadow = refl
near-kind true false true false in-shadow = refl
near-kind true false false true in-shadow = absurd (false≢true (in-shadow refl))
near-kind true false false false in-shadow = refl

module _ (r : Rules) where
  abbrev pub known : Test
  known h x = list_any (λ b. b == block_of r x) (referenced_blocks r h)

  abbrev pub near : Test
  near h x = hits (shadow_of r) (renewals (shadow_of r) h) x

  abbrev pub hit : Test
  hit h x = hits r (renewals r h) x

  -- what a cache of the block size holds was accessed
  resident-known : (q : Rules) → q.bsize ≡ r.bsize → (h : History) (x : Access)
      → hits q (renewals q h) x ≡ true → known h x ≡ true
  resident-known q same h x e =
      ap (λ n. list_any (λ b. b == x.addr / n) (referenced_blocks r h)) (sym same)
      ∙ ap (λ l. list_any (λ b. b == block_of q x) l) (sym (referenced-size q r same h))
      ∙ renewals-referenced q h (block_of q x)
      (resident-renewed q (renewals q h) (block_of q x) e)

  near-known : (h : History) (x : Access) → near h x ≡ true → known h x ≡ true
  near-known = resident-known (shadow_of r) refl

  hit-known : (h : History) (x : Access) → hit h x ≡ true → known h x ≡ true
  hit-known = resident-known r refl

  kind-is : (h : History) (x : Access)
      → (outcome_of r h x).kind ≡ kind_made (hit h x) (known h x) (near h x)
  unfolding outcome_of kind_of_miss
  kind-is h x = refl

  -- a first access misses, and is compulsory
  pub firsts-are : (h : History) → by_class (λ g x. not (known g x)) h
      ≡ by_class (λ g x. is_kind Compulsory (outcome_of r g x).kind) h
  firsts-are h = by-class-same (λ g x. not (known g x))
      (λ g x. is_kind Compulsory (outcome_of r g x).kind)
      (λ g x. first-kind (hit g x) (known g x) (near g x) (hit-known g x)
      ∙ ap (is_kind Compulsory) (sym (kind-is g x))) h

  -- misses of the cache and of its shadow are compulsory ones and capacity misses
  pub far-are : (h : History) → by_class (λ g x. not (hit g x) && not (near g x)) h
      ≡ added (by_class (λ g x. not (known g x)) h)
      (by_class (λ g x. is_kind Capacity (outcome_of r g x).kind) h)
  far-are h = by-class-added (λ g x. not (hit g x) && not (near g x)) (λ g x. not (known g x))
      (λ g x. is_kind Capacity (outcome_of r g x).kind)
      (λ k g x. far-kind k (hit g x) (known g x) (near g x) (hit-known g x) (near-known g x)
      ∙ ap (λ w. one_if (k && not (known g x)) + one_if (k && is_kind Capacity w))
      (sym (kind-is g x))) h

  -- the other misses are conflicts
  pub misses-are : (h : History) → by_class (λ g x. not (hit g x)) h
      ≡ added (by_class (λ g x. not (hit g x) && not (near g x)) h)
      (by_class (λ g x. is_kind Conflict (outcome_of r g x).kind) h)
  misses-are h = by-class-added (λ g x. not (hit g x)) (λ g x. not (hit g x) && not (near g x))
      (λ g x. is_kind Conflict (outcome_of r g x).kind)
      (λ k g x. near-kind k (hit g x) (known g x) (near g x) (near-known g x)
      ∙ ap (λ w. one_if (k && (not (hit g x) && not (near g x))) + one_if (k && is_kind Conflict w))
      (sym (kind-is g x))) h

  hit-is : (h : History) (x : Access) → not (hit h x) ≡ not (outcome_of r h x).hit
  unfolding outcome_of
  hit-is h x = refl

  pub missed-are : (h : History) → by_class (λ g x. not (hit g x)) h
      ≡ by_class (λ g x. not (outcome_of r g x).hit) h
  missed-are h = by-class-same (λ g x. not (hit g x)) (λ g x. not (outcome_of r g x).hit) hit-is h

module _ (r : Rules) (st : IsStacked r) where
  fetch-is : (h : History) (x : Access) → not (outcome_of r h x).hit ≡ (outcome_of r h x).fetch
  unfolding outcome_of
  fetch-is h x = sym (ap (λ t. t && not (hits r (renewals r h) x))
      (uses-all r st (renewals r h) x))

  -- each miss loads its block
  pub loads-are : (h : History) → total_of (by_class (λ g x. not (outcome_of r g x).hit) h)
      ≡ tally (λ g x. (outcome_of r g x).fetch) h
  unfolding tally
  loads-are [] = refl
  loads-are (flush ∷ h) = loads-are h
  loads-are (access x ∷ h) =
      let one = one-class x.class x.addr (not (outcome_of r h x).hit)
      ∙ ap one_if (fetch-is h x) in
      let rest = loads-are h in
      omega arith
