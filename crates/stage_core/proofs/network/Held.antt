-- No ring holds more messages than its capacity.
use Rattle.std.proofs.Common.{◌≡◌, ℕ, ◌≤◌, Bool, true, false, cond, List, [], ◌∷◌, ◌++◌}
use Rattle.std.proofs.Common.{length, refl, ap, subst, arith, Some, None, nat_lt}
use Rattle.std.proofs.Common.{length-append}
use Rattle.std.proofs.lemmas.Bool.{ltb-true}
use Rattle.stage_core.specs.SecondLevel.{Parts}
use Rattle.stage_core.specs.Network.Pushes.{Push, Order, To}
use Rattle.stage_core.specs.Merging.{MergeState, wanted}
use Rattle.stage_core.specs.Network.Rings.{with_message, Ring, push, pop, pop_from}
use Rattle.stage_core.specs.Network.{Lane, Network, lane, finish_taken, next, Machine, Splitter}
use Rattle.stage_core.specs.Network.{Stage, Merging, split, stage, merge, take_from, with_lane}
use Rattle.stage_core.specs.Network.{start, run, empty_lane}
use Rattle.stage_core.specs.Network.Laws.{IsWithin}
use Rattle.din_trace.specs.declared.record.DinRecord.{DinRecord}
use Rattle.stage_core.specs.declared.message.Side.{Side}
use Rattle.stage_core.specs.declared.message.Side.TheVariants as side
use Rattle.stage_core.specs.declared.message.What.{What}
use Rattle.stage_core.specs.declared.message.Want.{Want}
use Rattle.stage_core.specs.declared.message.Want.TheVariants as want
use Rattle.stage_core.specs.declared.message.FromStage.{FromStage}
use Rattle.stage_core.proofs.network.Kept.{option_map-some, cond-none-some}
use Rattle.stage_core.proofs.network.Schedules.{and_then-some}

-- how many messages wait
abbrev waits : {A : Type 0} → Ring A → ℕ
waits r = length r.waiting

cond-within : {A : Type 0} (capacity : ℕ) (x : A) (r r' : Ring A) (b : Bool)
    → nat_lt (length r.waiting) capacity ≡ b
    → cond b (Some (with_message x r)) None ≡ Some r' → waits r' ≤ capacity
cond-within capacity x r r' true e h =
    let same : with_message x r ≡ r' = cc in
    let l = ltb-true (length r.waiting) capacity e in
    omega (arith, l, ap waits same, length-append r.waiting (x ∷ []))
cond-within capacity x r r' false e h = absurd (cc)

push-within : {A : Type 0} (capacity : ℕ) (x : A) (r r' : Ring A) → push capacity x r ≡ Some r'
    → waits r' ≤ capacity
push-within capacity x r r' h =
    cond-within capacity x r r' (nat_lt (length r.waiting) capacity) refl h

pop_from-fewer : {A : Type 0} (popped waiting : List A) (p : A × Ring A)
    → pop_from popped waiting ≡ Some p → waits p.1 ≤ length waiting
pop_from-fewer popped [] p h = absurd (cc)
pop_from-fewer popped (x ∷ xs) p h =
    let e : (x, record { popped = popped ++ x ∷ []; waiting = xs }) ≡ p = cc in
    omega (arith, ap (λ q. waits q.1) e)

pop-fewer : {A : Type 0} (r : Ring A) (p : A × Ring A) → pop r ≡ Some p → waits p.1 ≤ waits r
pop-fewer r p h = pop_from-fewer r.popped r.waiting p h

-- neither ring of a lane holds more than the capacity
record LaneWithin (capacity : ℕ) (l : Lane) : Type 0 where
  to : waits l.to ≤ capacity
  from : waits l.from ≤ capacity

-- nor does any ring of the network
record AllWithin (capacity : ℕ) (n : Network) : Type 0 where
  order : waits n.order ≤ capacity
  i : LaneWithin capacity n.i
  d : LaneWithin capacity n.d

lane-within : (s : Side) {capacity : ℕ} {n : Network} → AllWithin capacity n
    → LaneWithin capacity (lane s n)
lane-within side.I k = k.i
lane-within side.D k = k.d

-- that is kept if it holds of the lane that changes
with_lane-within : (s : Side) {capacity : ℕ} {n : Network} {l : Lane} (still : List Push)
    (at : MergeState) (given : List What) → AllWithin capacity n → LaneWithin capacity l
    → AllWithin capacity (with_lane s l (record n { still = still; at = at; given = given }))
with_lane-within side.I still at given k l = record { order = k.order; i = l; d = k.d }
with_lane-within side.D still at given k l = record { order = k.order; i = k.i; d = l }

split-within : (capacity : ℕ) (n : Network) (ps : List Push) (n' : Network) → AllWithin capacity n
    → split capacity ps n ≡ Some n' → AllWithin capacity n'
split-within capacity n [] n' k h = absurd (cc)
split-within capacity n (Order t ∷ rest) n' k h =
    let x = option_map-some _ (push capacity t n.order) n' h in
    subst (AllWithin capacity) x.2
    (record { order = push-within capacity t n.order x.0 x.1; i = k.i; d = k.d })
split-within capacity n (To s m ∷ rest) n' k h =
    let x = option_map-some _ (push capacity m (lane s n).to) n' h in
    subst (AllWithin capacity) x.2 (with_lane-within s rest n.at n.given k (record {
      to = push-within capacity m (lane s n).to x.0 x.1;
      from = (lane-within s k).from;
    }))

-- after a step of a stage, its two rings are within the capacity
stage-within : (parts : Parts) (capacity : ℕ) (s : Side) (outbox : List FromStage) (l l' : Lane)
    → LaneWithin capacity l → stage parts capacity s outbox l ≡ Some l' → LaneWithin capacity l'
stage-within parts capacity s (m ∷ rest) l l' k h =
    let x = option_map-some _ (push capacity m l.from) l' h in
    subst (LaneWithin capacity) x.2
    (record { to = k.to; from = push-within capacity m l.from x.0 x.1 })
stage-within parts capacity s [] l l' k h =
    let x = option_map-some _ (cond (finish_taken l) None (pop l.to)) l' h in
    let p = pop-fewer l.to x.0 (cond-none-some (finish_taken l) (pop l.to) x.0 x.1) in
    subst (LaneWithin capacity) x.2 (record { to = omega (arith, p, k.to); from = k.from })

take-within : (capacity : ℕ) (n : Network) (s : Side) (n' : Network) → AllWithin capacity n
    → take_from s n ≡ Some n' → AllWithin capacity n'
take-within capacity n s n' k h =
    let x = option_map-some _ (pop (lane s n).from) n' h in
    let p = pop-fewer (lane s n).from x.0 x.1 in
    let was = lane-within s k in
    subst (AllWithin capacity) x.2 (with_lane-within s n.still _ _ k
    (record { to = was.to; from = omega (arith, p, was.from) }))

merge-within : (capacity : ℕ) (n : Network) (w : Want) (n' : Network) → AllWithin capacity n
    → merge w n ≡ Some n' → AllWithin capacity n'
merge-within capacity n want.Order n' k h =
    let x = option_map-some _ (pop n.order) n' h in
    let p = pop-fewer n.order x.0 x.1 in
    subst (AllWithin capacity) x.2
    (record { order = omega (arith, p, k.order); i = k.i; d = k.d })
merge-within capacity n want.I n' k h = take-within capacity n side.I n' k h
merge-within capacity n want.D n' k h = take-within capacity n side.D n' k h
merge-within capacity n want.Nothing n' k h = absurd (cc)

next-within : (parts : Parts) (capacity : ℕ) (m : Machine) (n n' : Network) → AllWithin capacity n
    → next parts capacity m n ≡ Some n' → AllWithin capacity n'
next-within parts capacity Splitter n n' k h = split-within capacity n n.still n' k h
next-within parts capacity (Stage s) n n' k h =
    let x = option_map-some _ (stage parts capacity s (lane s n).outbox (lane s n)) n' h in
    subst (AllWithin capacity) x.2 (with_lane-within s n.still n.at n.given k
    (stage-within parts capacity s (lane s n).outbox (lane s n) x.0 (lane-within s k) x.1))
next-within parts capacity Merging n n' k h = merge-within capacity n (wanted n.at) n' k h

run-within : (parts : Parts) (capacity : ℕ) (ms : List Machine) (n n' : Network)
    → AllWithin capacity n → run parts capacity ms n ≡ Some n' → AllWithin capacity n'
run-within parts capacity [] n n' k h = let e : n ≡ n' = cc in subst (AllWithin capacity) e k
run-within parts capacity (m ∷ ms) n n' k h =
    let x = and_then-some (run parts capacity ms) (next parts capacity m n) n' h in
    run-within parts capacity ms x.0 n' (next-within parts capacity m n x.0 k x.1) x.2

-- no schedule makes a ring hold more messages than its capacity
pub rings-within : (parts : Parts) (es : List DinRecord) (capacity : ℕ) (ms : List Machine)
    (n : Network) → run parts capacity ms (start es) ≡ Some n → IsWithin capacity n
rings-within parts es capacity ms n h =
    let none : LaneWithin capacity empty_lane = record { to = omega arith; from = omega arith } in
    let k = run-within parts capacity ms (start es) n
    (record { order = omega arith; i = none; d = none }) h in
    record {
      order = k.order;
      to = λ s. (lane-within s k).to;
      from = λ s. (lane-within s k).from;
    }
