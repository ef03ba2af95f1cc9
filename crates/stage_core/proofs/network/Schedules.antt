-- Whole schedules: how many steps they have, and the state after them.
use Rattle.std.proofs.Common.{◌≡◌, ℕ, suc, ◌+◌, ◌*◌, ◌≤◌, cond, List, [], ◌∷◌, ◌++◌, length, refl}
use Rattle.std.proofs.Common.{sym, ap, ◌∙◌, append_assoc, append-nil, subst, arith, Option, Some}
use Rattle.std.proofs.Common.{None, length-append, option_and_then}
use Rattle.stage_core.specs.Places.{flat_map_after}
use Rattle.stage_core.specs.SecondLevel.{Parts, second_level_requests}
use Rattle.stage_core.specs.Network.Pushes.{Push, Order, To, turns_in, sent_to}
use Rattle.stage_core.specs.Streams.{order, to_side, from_side, reply, replies}
use Rattle.stage_core.specs.Merging.{MergeState, Merged, wanted, merged}
use Rattle.stage_core.specs.Network.Rings.{with_message, Ring, carried, push, pop, ring_steps}
use Rattle.stage_core.specs.Network.{Lane, Network, lane, finish_taken, next, Machine, Splitter}
use Rattle.stage_core.specs.Network.{Stage, Merging, split, stage, merge, take_from, with_lane}
use Rattle.stage_core.specs.Network.{Consistent, start, run, lane_steps, steps_made, messages}
use Rattle.stage_core.specs.Network.{IsFinished}
use Rattle.din_trace.specs.declared.record.DinRecord.{DinRecord}
use Rattle.stage_core.specs.declared.message.Side.{Side}
use Rattle.stage_core.specs.declared.message.Side.TheVariants as side
use Rattle.stage_core.specs.declared.message.What.{What}
use Rattle.stage_core.specs.declared.message.Want.{Want}
use Rattle.stage_core.specs.declared.message.Want.TheVariants as want
use Rattle.stage_core.specs.declared.message.FromStage.{FromStage}
use Rattle.stage_core.proofs.Place.{flat_map_after-append}
use Rattle.stage_core.proofs.Merged.{merged-streams}
use Rattle.stage_core.proofs.network.Positions.{pending}
use Rattle.stage_core.proofs.Messages.{replies-to_side}
use Rattle.stage_core.proofs.network.NeverStuck.{all-popped}
use Rattle.stage_core.proofs.network.StateCounts.{whole-order, whole-to}
use Rattle.stage_core.proofs.network.Kept.{option_map-some, push-some, Popped, pop-some}
use Rattle.stage_core.proofs.network.Kept.{keeps-start, keeps-next, cond-none-some}

-- a push and a pop are one step each
push-made : {A : Type 0} (x : A) (r : Ring A)
    → ring_steps (with_message x r) ≡ suc (ring_steps r)
push-made x r = omega (
  arith,
  length-append r.popped (r.waiting ++ x ∷ []),
  length-append r.waiting (x ∷ []),
  length-append r.popped r.waiting,
)

pop-made : {A : Type 0} (r : Ring A) (x : A) (r' : Ring A) → Popped r x r'
    → ring_steps r' ≡ suc (ring_steps r)
pop-made r x r' p = omega (
  arith,
  ap length p.carried_same,
  ap length p.popped,
  length-append r.popped (x ∷ []),
)

-- the network has made one step more if one of its lanes has
lane-made : (s : Side) (n : Network) (l : Lane) (still : List Push) (at : MergeState)
    (given : List What) → lane_steps l ≡ suc (lane_steps (lane s n))
    → steps_made (with_lane s l (record n { still = still; at = at; given = given }))
    ≡ suc (steps_made n)
lane-made side.I n l still at given one = omega (arith, one)
lane-made side.D n l still at given one = omega (arith, one)

split-made : (capacity : ℕ) (n : Network) (ps : List Push) (n' : Network)
    → split capacity ps n ≡ Some n' → steps_made n' ≡ suc (steps_made n)
split-made capacity n [] n' h = absurd (cc)
split-made capacity n (Order t ∷ rest) n' h =
    let x = option_map-some _ (push capacity t n.order) n' h in
    let e = ap ring_steps (push-some capacity t n.order x.0 x.1) in
    omega (arith, ap steps_made x.2, e, push-made t n.order)
split-made capacity n (To s m ∷ rest) n' h =
    let x = option_map-some _ (push capacity m (lane s n).to) n' h in
    let e = ap ring_steps (push-some capacity m (lane s n).to x.0 x.1) in
    ap steps_made (sym x.2) ∙ lane-made s n _ rest n.at n.given
    (omega (arith, e, push-made m (lane s n).to))

stage-made : (parts : Parts) (capacity : ℕ) (s : Side) (outbox : List FromStage) (l l' : Lane)
    → stage parts capacity s outbox l ≡ Some l' → lane_steps l' ≡ suc (lane_steps l)
stage-made parts capacity s (m ∷ rest) l l' h =
    let x = option_map-some _ (push capacity m l.from) l' h in
    let e = ap ring_steps (push-some capacity m l.from x.0 x.1) in
    omega (arith, ap lane_steps x.2, e, push-made m l.from)
stage-made parts capacity s [] l l' h =
    let x = option_map-some _ (cond (finish_taken l) None (pop l.to)) l' h in
    let p = pop-some l.to x.0 (cond-none-some (finish_taken l) (pop l.to) x.0 x.1) in
    omega (arith, ap lane_steps x.2, pop-made l.to (x.0).0 (x.0).1 p)

take-made : (n : Network) (s : Side) (n' : Network) → take_from s n ≡ Some n'
    → steps_made n' ≡ suc (steps_made n)
take-made n s n' h =
    let x = option_map-some _ (pop (lane s n).from) n' h in
    let p = pop-some (lane s n).from x.0 x.1 in
    ap steps_made (sym x.2) ∙ lane-made s n _ n.still _ _
    (omega (arith, pop-made (lane s n).from (x.0).0 (x.0).1 p))

merge-made : (n : Network) (w : Want) (n' : Network) → merge w n ≡ Some n'
    → steps_made n' ≡ suc (steps_made n)
merge-made n want.Order n' h =
    let x = option_map-some _ (pop n.order) n' h in
    omega (arith, ap steps_made x.2, pop-made n.order (x.0).0 (x.0).1 (pop-some n.order x.0 x.1))
merge-made n want.I n' h = take-made n side.I n' h
merge-made n want.D n' h = take-made n side.D n' h
merge-made n want.Nothing n' h = absurd (cc)

-- each step counts as one
pub next-made : (parts : Parts) (capacity : ℕ) (m : Machine) (n n' : Network)
    → next parts capacity m n ≡ Some n' → steps_made n' ≡ suc (steps_made n)
next-made parts capacity Splitter n n' h = split-made capacity n n.still n' h
next-made parts capacity (Stage s) n n' h =
    let x = option_map-some _ (stage parts capacity s (lane s n).outbox (lane s n)) n' h in
    ap steps_made (sym x.2) ∙ lane-made s n x.0 n.still n.at n.given
    (stage-made parts capacity s (lane s n).outbox (lane s n) x.0 x.1)
next-made parts capacity Merging n n' h = merge-made n (wanted n.at) n' h

-- what two steps give is what the second gives for what the first gave
pub and_then-some : {A B : Type 0} (f : A → Option B) (o : Option A) (y : B)
    → option_and_then f o ≡ Some y → (x : A) × (o ≡ Some x) × (f x ≡ Some y)
and_then-some f None y h = absurd (cc)
and_then-some f (Some x) y h = (x, refl, h)

-- a schedule keeps the invariant, and its length is the number of steps that were made
pub run-keeps : (parts : Parts) (es : List DinRecord) (capacity : ℕ) (ms : List Machine)
    (n n' : Network) → Consistent parts es n → run parts capacity ms n ≡ Some n'
    → Consistent parts es n' × (steps_made n' ≡ length ms + steps_made n)
run-keeps parts es capacity [] n n' k h =
    let e : n ≡ n' = cc in
    (subst (Consistent parts es) e k, omega (arith, ap steps_made e))
run-keeps parts es capacity (m ∷ ms) n n' k h =
    let x = and_then-some (run parts capacity ms) (next parts capacity m n) n' h in
    let r = run-keeps parts es capacity ms x.0 n'
    (keeps-next parts es n k capacity m x.0 x.1) x.2 in
    (r.0, omega (arith, r.1, next-made parts capacity m n x.0 x.1))

module _ (parts : Parts) (es : List DinRecord) (n : Network) (k : Consistent parts es n) where
  -- what each ring has carried is a beginning of its stream
  pub order-prefix : carried n.order ++ turns_in n.still ≡ order es
  order-prefix = append_assoc n.order.popped n.order.waiting (turns_in n.still)
      ∙ whole-order parts es n k

  -- of the ring to a side
  pub to-prefix : (s : Side) → carried (lane s n).to ++ sent_to s n.still ≡ to_side s es
  to-prefix s = append_assoc (lane s n).to.popped (lane s n).to.waiting (sent_to s n.still)
      ∙ whole-to parts es n k s

  -- of the ring from a side
  pub from-prefix : (s : Side) → (rest : List FromStage)
      × (carried (lane s n).from ++ rest ≡ from_side parts s es)
  from-prefix s =
      let later = flat_map_after (reply parts s) (lane s n).to.popped
      ((lane s n).to.waiting ++ sent_to s n.still) in (
        (lane s n).outbox ++ later,
        sym (append_assoc (carried (lane s n).from) (lane s n).outbox later)
            ∙ ap (λ x. x ++ later) (k.from_side s)
            ∙ sym (flat_map_after-append (reply parts s) [] (lane s n).to.popped
            ((lane s n).to.waiting ++ sent_to s n.still))
            ∙ ap (replies parts s) (whole-to parts es n k s)
            ∙ replies-to_side parts s es,
      )

  ring-bound : {A : Type 0} (r : Ring A) (rest all : List A) → carried r ++ rest ≡ all
      → ring_steps r ≤ 2 * length all
  ring-bound r rest all e = omega (
    arith,
    ap length e,
    length-append (carried r) rest,
    length-append r.popped r.waiting,
  )

  -- at most two steps were made for each message
  pub steps-bound : steps_made n ≤ 2 * messages parts es
  steps-bound =
      let o = ring-bound n.order _ _ order-prefix in
      let ti = ring-bound n.i.to _ _ (to-prefix side.I) in
      let td = ring-bound n.d.to _ _ (to-prefix side.D) in
      let fi = ring-bound n.i.from _ _ (from-prefix side.I).1 in
      let fd = ring-bound n.d.from _ _ (from-prefix side.D).1 in
      omega (arith, o, ti, td, fi, fd)

  module _ (f : IsFinished n) where
    abbrev popped-all : (n.order.waiting ++ turns_in n.still ≡ [])
        × ((s : Side) → ((lane s n).to.waiting ≡ []) × ((lane s n).from.waiting ≡ [])
        × ((lane s n).outbox ≡ []) × (pending s n.still ≡ 0))
    popped-all = all-popped parts es n k f.merge

    pub order-done : n.order.popped ≡ order es
    order-done = sym (append-nil _) ∙ ap (λ x. n.order.popped ++ x) (sym (popped-all.0))
        ∙ whole-order parts es n k

    -- where all have finished, each ring has carried its whole stream, and all was popped: to a
    -- side
    pub to-done : (s : Side) → (lane s n).to.popped ≡ to_side s es
    to-done s =
        sym (append-nil _)
        ∙ ap (λ x. (lane s n).to.popped ++ x)
        (sym (ap (λ x. x ++ sent_to s n.still) ((popped-all.1 s).0)
        ∙ ap (sent_to s) f.splitter))
        ∙ whole-to parts es n k s

    pub from-done : (s : Side) → (lane s n).from.popped ≡ from_side parts s es
    from-done s =
        sym (append-nil _) ∙ ap (λ x. (lane s n).from.popped ++ x) (sym ((popped-all.1 s).1))
        ∙ sym (append-nil _) ∙ ap (λ x. carried (lane s n).from ++ x) (sym ((popped-all.1 s).2))
        ∙ k.from_side s ∙ ap (replies parts s) (to-done s) ∙ replies-to_side parts s es

    -- the second level was given exactly its requests
    pub given-done : n.given ≡ second_level_requests parts es
    given-done =
        ap (λ (m : Merged). m.taken)
        (sym k.merge
        ∙ ap (λ x. merged x n.i.from.popped n.d.from.popped) order-done
        ∙ ap (λ x. merged (order es) x n.d.from.popped) (from-done side.I)
        ∙ ap (λ x. merged (order es) (from_side parts side.I es) x) (from-done side.D)
        ∙ merged-streams parts es)

    ring-done : {A : Type 0} (r : Ring A) (rest all : List A) → carried r ++ rest ≡ all
        → r.popped ≡ all → ring_steps r ≡ 2 * length all
    ring-done r rest all e p = omega (
      arith,
      ap length e,
      ap length p,
      length-append (carried r) rest,
      length-append r.popped r.waiting,
    )

    -- when all have finished, exactly two steps were made for each message
    pub steps-done : steps_made n ≡ 2 * messages parts es
    steps-done =
        let o = ring-done n.order _ _ order-prefix order-done in
        let ti = ring-done n.i.to _ _ (to-prefix side.I) (to-done side.I) in
        let td = ring-done n.d.to _ _ (to-prefix side.D) (to-done side.D) in
        let fi = ring-done n.i.from _ _ (from-prefix side.I).1 (from-done side.I) in
        let fd = ring-done n.d.from _ _ (from-prefix side.D).1 (from-done side.D) in
        omega (arith, o, ti, td, fi, fd)

-- every complete schedule has exactly two steps for each message
pub schedule-length : (parts : Parts) (es : List DinRecord) (capacity : ℕ) (ms : List Machine)
    (n : Network) → run parts capacity ms (start es) ≡ Some n → IsFinished n
    → length ms ≡ 2 * messages parts es
schedule-length parts es capacity ms n h f =
    let r = run-keeps parts es capacity ms (start es) n (keeps-start parts es) h in
    omega (arith, r.1, steps-done parts es n r.0 f)
