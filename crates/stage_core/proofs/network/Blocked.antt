-- What it means that a machine cannot step.
use Rattle.std.proofs.Common.{◌≡◌, ℕ, ◌≤◌, ◌⊎◌, inl, inr, Bool, true, false, cond, List, [], ◌∷◌}
use Rattle.std.proofs.Common.{length, refl, arith, Option, Some, None, nat_lt}
use Rattle.std.specs.Option.{option_map}
use Rattle.std.proofs.lemmas.Bool.{ltb-false}
use Rattle.stage_core.specs.SecondLevel.{Parts}
use Rattle.stage_core.specs.Network.Pushes.{Push, Order, To}
use Rattle.stage_core.specs.Merging.{wanted}
use Rattle.stage_core.specs.Network.Rings.{Ring, push, pop, pop_from}
use Rattle.stage_core.specs.Network.{Lane, Network, lane, finish_taken, next, Machine, Splitter}
use Rattle.stage_core.specs.Network.{Stage, Merging, split, stage, merge}
use Rattle.stage_core.specs.declared.message.Side.{Side}
use Rattle.stage_core.specs.declared.message.Side.TheVariants as side
use Rattle.stage_core.specs.declared.message.Want.{Want}
use Rattle.stage_core.specs.declared.message.Want.TheVariants as want
use Rattle.stage_core.specs.declared.message.FromStage.{FromStage}
use Rattle.stage_core.proofs.network.Positions.{pending}

option_map-none : {A B : Type 0} (f : A → B) (o : Option A) → option_map f o ≡ None → o ≡ None
option_map-none f None h = refl
option_map-none f (Some x) h = absurd (cc)

cond-none : {A : Type 0} (b : Bool) (x : A) → cond b (Some x) None ≡ None → b ≡ false
cond-none true x h = absurd (cc)
cond-none false x h = refl

pub push-none : {A : Type 0} (capacity : ℕ) (x : A) (r : Ring A) → push capacity x r ≡ None
    → capacity ≤ length r.waiting
push-none capacity x r h = ltb-false (length r.waiting) capacity
    (cond-none (nat_lt (length r.waiting) capacity) _ h)

pop_from-none : {A : Type 0} (popped waiting : List A) → pop_from popped waiting ≡ None
    → waiting ≡ []
pop_from-none popped [] h = refl
pop_from-none popped (x ∷ xs) h = absurd (cc)

pub pop-none : {A : Type 0} (r : Ring A) → pop r ≡ None → r.waiting ≡ []
pop-none r h = pop_from-none r.popped r.waiting h

-- the splitter cannot step: the ring of its next push is full, or it has pushed everything
pub record SplitterBlocked (capacity : ℕ) (n : Network) (ps : List Push) : Type 0 where
  pub i : pending side.I ps ≡ 1 → capacity ≤ length n.i.to.waiting
  pub d : pending side.I ps ≡ 0 → pending side.D ps ≡ 1 → capacity ≤ length n.d.to.waiting
  pub order : pending side.I ps ≡ 0 → pending side.D ps ≡ 0
      → (ps ≡ []) ⊎ (capacity ≤ length n.order.waiting)

pub split-none : (capacity : ℕ) (n : Network) (ps : List Push) → split capacity ps n ≡ None
    → SplitterBlocked capacity n ps
split-none capacity n [] h = record {
  i = λ e. absurd (omega arith);
  d = λ e e'. absurd (omega arith);
  order = λ e e'. inl refl;
}
split-none capacity n (Order t ∷ ps) h =
    let full = push-none capacity t n.order (option_map-none _ _ h) in
    record {
      i = λ e. absurd (omega arith);
      d = λ e e'. absurd (omega arith);
      order = λ e e'. inr full;
    }
split-none capacity n (To side.I m ∷ ps) h =
    let full = push-none capacity m n.i.to (option_map-none _ _ h) in
    record { i = λ e. full; d = λ e e'. absurd (omega arith); order = λ e e'. absurd (omega arith) }
split-none capacity n (To side.D m ∷ ps) h =
    let full = push-none capacity m n.d.to (option_map-none _ _ h) in
    record { i = λ e. absurd (omega arith); d = λ e e'. full; order = λ e e'. absurd (omega arith) }

-- a stage cannot step: its ring to the merge is full, or its outbox is empty and it has received
-- Finish or has nothing to receive
abbrev pub StageBlocked : ℕ → Lane → List FromStage → Type 0
StageBlocked capacity l outbox = (capacity ≤ length l.from.waiting)
    ⊎ ((outbox ≡ []) × ((finish_taken l ≡ true) ⊎ (l.to.waiting ≡ [])))

take_in-none : (b : Bool) (l : Lane) → finish_taken l ≡ b → cond b None (pop l.to) ≡ None
    → (finish_taken l ≡ true) ⊎ (l.to.waiting ≡ [])
take_in-none true l e h = inl e
take_in-none false l e h = inr (pop-none l.to h)

pub stage-none : (parts : Parts) (capacity : ℕ) (s : Side) (outbox : List FromStage) (l : Lane)
    → stage parts capacity s outbox l ≡ None → StageBlocked capacity l outbox
stage-none parts capacity s [] l h = inr (
  refl,
  take_in-none (finish_taken l) l refl
      (option_map-none _ _ h),
)
stage-none parts capacity s (m ∷ ms) l h = inl (push-none capacity m l.from (option_map-none _ _ h))

-- the merge cannot step: the ring that it wants is empty
pub record MergeBlocked (n : Network) (w : Want) : Type 0 where
  pub order : w ≡ want.Order → n.order.waiting ≡ []
  pub i : w ≡ want.I → n.i.from.waiting ≡ []
  pub d : w ≡ want.D → n.d.from.waiting ≡ []

pub merge-none : (n : Network) (w : Want) → merge w n ≡ None → MergeBlocked n w
merge-none n want.Order h = let e = pop-none n.order (option_map-none _ _ h) in
    record { order = λ x. e; i = λ x. absurd (cc); d = λ x. absurd (cc) }
merge-none n want.I h = let e = pop-none n.i.from (option_map-none _ _ h) in
    record { order = λ x. absurd (cc); i = λ x. e; d = λ x. absurd (cc) }
merge-none n want.D h = let e = pop-none n.d.from (option_map-none _ _ h) in
    record { order = λ x. absurd (cc); i = λ x. absurd (cc); d = λ x. e }
merge-none n want.Nothing h = record {
  order = λ x. absurd (cc);
  i = λ x. absurd (cc);
  d = λ x. absurd (cc);
}

-- neither the splitter, nor a stage, nor the merge has a next step
pub record AllBlocked (capacity : ℕ) (n : Network) : Type 0 where
  pub splitter : SplitterBlocked capacity n n.still
  pub stages : (s : Side) → StageBlocked capacity (lane s n) (lane s n).outbox
  pub merge : MergeBlocked n (wanted n.at)

-- that is so where no machine has a next step
pub all_blocked : (parts : Parts) (capacity : ℕ) (n : Network)
    → ((m : Machine) → next parts capacity m n ≡ None) → AllBlocked capacity n
all_blocked parts capacity n h =
    record {
      splitter = split-none capacity n n.still (h Splitter);
      stages = λ s. stage-none parts capacity s (lane s n).outbox (lane s n)
          (option_map-none _ _ (h (Stage s)));
      merge = merge-none n (wanted n.at) (h Merging);
    }
