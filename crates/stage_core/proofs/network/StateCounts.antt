-- What every consistent state has, in numbers.
use Rattle.std.proofs.Common.{◌≡◌, ◌+◌, ◌<◌, ◌≤◌, true, List, [], ◌∷◌, ◌++◌, length, refl, sym, ap}
use Rattle.std.proofs.Common.{◌∙◌, append_assoc, arith, length-append}
use Rattle.std.specs.List.{list_any}
use Rattle.stage_core.specs.SecondLevel.{Parts}
use Rattle.stage_core.specs.Network.Pushes.{Push, Order, To, turns_in, sent_to}
use Rattle.stage_core.specs.Streams.{order, to_side, is_finish}
use Rattle.stage_core.specs.Network.Rings.{carried}
use Rattle.stage_core.specs.Network.{Network, lane, finish_taken, Consistent}
use Rattle.din_trace.specs.declared.record.DinRecord.{DinRecord}
use Rattle.stage_core.specs.declared.message.Side.{Side}
use Rattle.stage_core.specs.declared.message.Side.TheVariants as side
use Rattle.stage_core.specs.declared.message.ToStage.{ToStage}
use Rattle.stage_core.specs.declared.message.ToStage.TheVariants as to_stage
use Rattle.stage_core.proofs.network.Sums.{total, total-append, nothing_after}
use Rattle.stage_core.proofs.network.Ends.{visit, visits, end, ends, finish, finishes, owed, last}
use Rattle.stage_core.proofs.network.Ends.{merged-ends, merged-last}
use Rattle.stage_core.proofs.network.Positions.{pending, Position, position}
use Rattle.stage_core.proofs.network.StreamCounts.{turns_in-append, sent_to-append, turns_in-pushes}
use Rattle.stage_core.proofs.network.StreamCounts.{sent_to-pushes, finishes-order, last-order}
use Rattle.stage_core.proofs.network.StreamCounts.{finish_in, finish_in-to_side, last-to_side}
use Rattle.stage_core.proofs.network.StreamCounts.{ends-replies}

-- Finish came, as a number and as a test
pub took-total : (ms : List ToStage) → list_any is_finish ms ≡ true → 0 < total finish_in ms
took-total [] h = absurd (cc)
took-total (to_stage.Ref p c a ∷ ms) h = omega (arith, took-total ms h)
took-total (to_stage.Flush p ∷ ms) h = omega (arith, took-total ms h)
took-total (to_stage.Finish ∷ ms) h = omega arith

-- and the other way round
pub total-took : (ms : List ToStage) → 0 < total finish_in ms → list_any is_finish ms ≡ true
total-took [] h = absurd (omega arith)
total-took (to_stage.Ref p c a ∷ ms) h = total-took ms (omega arith)
total-took (to_stage.Flush p ∷ ms) h = total-took ms (omega arith)
total-took (to_stage.Finish ∷ ms) h = refl

-- at most one message of the current place is still to be pushed to a side
pub pending-small : (s : Side) (ps : List Push) → pending s ps ≤ 1
pending-small s [] = omega arith
pending-small s (Order t ∷ ps) = omega arith
pending-small side.I (To side.I m ∷ ps) = omega arith
pending-small side.I (To side.D m ∷ ps) = omega arith
pending-small side.D (To side.D m ∷ ps) = omega arith
pending-small side.D (To side.I m ∷ []) = omega arith
pending-small side.D (To side.I m ∷ Order t ∷ ps) = omega arith
pending-small side.D (To side.I m ∷ To side.I m' ∷ ps) = omega arith
pending-small side.D (To side.I m ∷ To side.D m' ∷ ps) = omega arith

module _ (parts : Parts) (es : List DinRecord) (n : Network) (k : Consistent parts es n) where
  -- the merge has popped as many ends from a side as its turns have visits there, but for one that
  -- it is owed
  pub merge-count : (s : Side) → ends (lane s n).from.popped + owed s n.at ≡ visits s n.order.popped
  merge-count side.I = merged-ends side.I n.order.popped _ _ n.given n.at k.merge
  merge-count side.D = merged-ends side.D n.order.popped _ _ n.given n.at k.merge

  -- the merge is in its last turn where it has popped Finish from the order ring
  pub merge-last : last n.at ≡ finishes n.order.popped
  merge-last = merged-last n.order.popped n.i.from.popped n.d.from.popped n.given n.at k.merge

  -- each message that a stage took in has one end, popped by the merge, in the ring or in the
  -- outbox
  pub stage-count : (s : Side)
      → ends (lane s n).from.popped + ends (lane s n).from.waiting + ends (lane s n).outbox
      ≡ length (lane s n).to.popped
  stage-count s =
      omega (
        arith,
        total-append end (carried (lane s n).from) (lane s n).outbox,
        total-append end (lane s n).from.popped (lane s n).from.waiting,
        ap ends (k.from_side s),
        ends-replies parts s (lane s n).to.popped,
      )

  -- where the splitter is in its list
  pub where_it_is : Position k.pushed n.still
  where_it_is = position es k.pushed n.still k.front

  -- each visit of a turn that was pushed has a message, popped by the stage, in the ring, or next
  -- to be pushed
  pub split-count : (s : Side)
      → length (lane s n).to.popped + length (lane s n).to.waiting + pending s n.still
      ≡ visits s n.order.popped + visits s n.order.waiting
  split-count s =
      omega (
        arith,
        length-append (lane s n).to.popped (lane s n).to.waiting,
        ap length (k.to_side s),
        where_it_is.count s,
        total-append (visit s) n.order.popped n.order.waiting,
        ap (visits s) k.turns,
      )

  -- what was popped, what waits and what is still to be pushed is the whole stream: of the order
  -- ring
  pub whole-order : n.order.popped ++ (n.order.waiting ++ turns_in n.still) ≡ order es
  whole-order =
      sym (append_assoc n.order.popped n.order.waiting (turns_in n.still))
      ∙ ap (λ x. x ++ turns_in n.still) k.turns
      ∙ sym (turns_in-append k.pushed n.still)
      ∙ ap turns_in k.front
      ∙ turns_in-pushes es

  -- of the ring to a side
  pub whole-to : (s : Side) → (lane s n).to.popped ++ ((lane s n).to.waiting ++ sent_to s n.still)
      ≡ to_side s es
  whole-to s =
      sym (append_assoc (lane s n).to.popped (lane s n).to.waiting (sent_to s n.still))
      ∙ ap (λ x. x ++ sent_to s n.still) (k.to_side s)
      ∙ sym (sent_to-append s k.pushed n.still)
      ∙ ap (sent_to s) k.front
      ∙ sent_to-pushes s es

  -- a stage that took Finish in has taken in all that there is
  pub took-all : (s : Side) → finish_taken (lane s n) ≡ true
      → (lane s n).to.waiting ++ sent_to s n.still ≡ []
  took-all s h =
      let count = finish_in-to_side s es in
      nothing_after finish_in 0 (lane s n).to.popped _ (to_side s es) (whole-to s)
      (omega (arith, last-to_side s es))
      (omega (
        arith,
        took-total (lane s n).to.popped h,
        total-append finish_in (lane s n).to.popped ((lane s n).to.waiting ++ sent_to s n.still),
        ap (total finish_in) (whole-to s),
      ))

  -- a merge in its last turn has popped all of the order ring
  pub last-all : last n.at ≡ 1 → n.order.waiting ++ turns_in n.still ≡ []
  last-all h =
      nothing_after finish 0 n.order.popped _ (order es) whole-order (omega (arith, last-order es))
      (omega (
        arith,
        merge-last,
        finishes-order es,
        total-append finish n.order.popped (n.order.waiting ++ turns_in n.still),
        ap finishes whole-order,
      ))
