-- The machines that can step.
use Rattle.std.proofs.Common.{◌≡◌, ℕ, zero, suc, ◌+◌, ◌<◌, Bool, true, false, cond, List, [], ◌∷◌}
use Rattle.std.proofs.Common.{length, filter, refl, sym, ap, ◌∙◌, arith, Option, Some, None}
use Rattle.std.proofs.Common.{is_some, IsSome, slice_get}
use Rattle.std.specs.Option.{option_map}
use Rattle.stage_core.specs.SecondLevel.{Parts}
use Rattle.stage_core.specs.Streams.{reply}
use Rattle.stage_core.specs.Network.{Network, Machine, Splitter, Stage, Merging, next, can, enabled}
use Rattle.stage_core.specs.Network.{IsFinished, Consistent, stage, lane, split, merge, with_lane}
use Rattle.stage_core.specs.Network.Rings.{pop, Ring}
use Rattle.din_trace.specs.declared.record.DinRecord.{DinRecord}
use Rattle.stage_core.specs.declared.message.ToStage.{ToStage}
use Rattle.stage_core.specs.declared.message.Side.{Side}
use Rattle.stage_core.specs.declared.message.Side.TheVariants as side
use Rattle.stage_core.proofs.Sides.{each_side}
use Rattle.stage_core.proofs.network.NeverStuck.{never_stuck}

abbrev number : Bool → ℕ
number true = 1
number false = 0

cond-length : {A : Type 0} (b : Bool) (x : A) (ys : List A)
    → length (cond b (x ∷ ys) ys) ≡ number b + length ys
cond-length true x ys = omega arith
cond-length false x ys = omega arith

-- each machine that can step is one that is enabled
enabled-count : (parts : Parts) (capacity : ℕ) (n : Network)
    → length (enabled parts capacity n)
    ≡ number (can parts capacity n Splitter) + number (can parts capacity n (Stage side.I))
    + number (can parts capacity n (Stage side.D)) + number (can parts capacity n Merging)
enabled-count parts capacity n =
    let p : Machine → Bool = can parts capacity n in
    omega (
      arith,
      cond-length (p Splitter) Splitter
          (filter p (Stage side.I ∷ Stage side.D ∷ Merging ∷ [])),
      cond-length (p (Stage side.I)) (Stage side.I) (filter p (Stage side.D ∷ Merging ∷ [])),
      cond-length (p (Stage side.D)) (Stage side.D) (filter p (Merging ∷ [])),
      cond-length (p Merging) Merging [],
    )

none-some : {A : Type 0} (o : Option A) → number (is_some o) ≡ 0 → o ≡ None
none-some None h = refl
none-some (Some x) h = absurd (omega arith)

-- if no machine is enabled, none can step
pub none_enabled : (parts : Parts) (capacity : ℕ) (n : Network)
    → length (enabled parts capacity n) ≡ 0 → (m : Machine) → next parts capacity m n ≡ None
none_enabled parts capacity n h =
    let all = enabled-count parts capacity n in
    λ m. elim m as (λ m. next parts capacity m n ≡ None) [
      | Splitter ↦ none-some (next parts capacity Splitter n) (omega (arith, all, h))
      | Stage s ↦ each_side (λ s. next parts capacity (Stage s) n ≡ None)
          (none-some (next parts capacity (Stage side.I) n) (omega (arith, all, h)))
          (none-some (next parts capacity (Stage side.D) n) (omega (arith, all, h))) s
      | Merging ↦ none-some (next parts capacity Merging n) (omega (arith, all, h))
    ]

-- a consistent state in which no machine is enabled is finished
pub none_finished : (parts : Parts) (es : List DinRecord) (capacity : ℕ) → 0 < capacity
    → (n : Network) → Consistent parts es n → length (enabled parts capacity n) ≡ 0 → IsFinished n
none_finished parts es capacity pos n k h =
    never_stuck parts es capacity pos n k (none_enabled parts capacity n h)

-- an enabled machine can step
one_more : {A : Type 0} (p : A → Bool) (b : Bool) (y : A) (ys : List A) (k : ℕ) (x : A) → p y ≡ b
    → slice_get (cond b (y ∷ ys) ys) k ≡ Some x → ((k : ℕ) → slice_get ys k ≡ Some x → p x ≡ true)
    → p x ≡ true
one_more p false y ys k x e h rest = rest k h
one_more p true y ys zero x e h rest = let same : y ≡ x = cc in ap p (sym same) ∙ e
one_more p true y ys (suc k) x e h rest = rest k h

filtered : {A : Type 0} (p : A → Bool) (xs : List A) (k : ℕ) (x : A)
    → slice_get (filter p xs) k ≡ Some x → p x ≡ true
filtered p [] zero x h = absurd (cc)
filtered p [] (suc k) x h = absurd (cc)
filtered p (y ∷ ys) k x h = one_more p (p y) y (filter p ys) k x refl h (λ k h. filtered p ys k x h)

-- an enabled machine has a next step
pub enabled-some : (parts : Parts) (capacity : ℕ) (n : Network) (k : ℕ) (m : Machine)
    → slice_get (enabled parts capacity n) k ≡ Some m → IsSome (next parts capacity m n)
enabled-some parts capacity n k m h = filtered (can parts capacity n)
    (Splitter ∷ Stage side.I ∷ Stage side.D ∷ Merging ∷ []) k m h

-- if all have finished, none is enabled
module _ (parts : Parts) (capacity : ℕ) (n : Network) (f : IsFinished n) where
  stage-ended : (s : Side) → next parts capacity (Stage s) n ≡ None
  stage-ended s =
      let ob = ap (λ x. stage parts capacity s x (lane s n)) (f.sent s) in
      let took = ap (λ b. option_map (λ (x : ToStage × Ring ToStage). record {
        to = x.1;
        outbox = reply parts s (lane s n).to.popped x.0;
        from = (lane s n).from;
      })
      (cond b None (pop (lane s n).to))) (f.took s) in
      ap (option_map (λ l. with_lane s l n)) (ob ∙ took)

  -- where all have finished, no machine is enabled
  pub finished-none : length (enabled parts capacity n) ≡ 0
  finished-none =
      let p : Machine → Bool = can parts capacity n in
      let none : (m : Machine) → next parts capacity m n ≡ None → number (p m) ≡ 0 =
      λ m e. ap (λ o. number (is_some o)) e in
      omega (
        arith,
        enabled-count parts capacity n,
        none Splitter (ap (λ x. split capacity x n) f.splitter),
        none (Stage side.I) (stage-ended side.I),
        none (Stage side.D) (stage-ended side.D),
        none Merging (ap (λ w. merge w n) f.merge),
      )
