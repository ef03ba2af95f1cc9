-- No consistent state is stuck.
use Rattle.std.proofs.Common.{◌≡◌, ℕ, zero, suc, ◌+◌, ◌<◌, ◌≤◌, ◌⊎◌, inl, inr, true, List, [], ◌++◌}
use Rattle.std.proofs.Common.{length, refl, sym, ap, ◌∙◌, append-nil, arith, length-append, None}
use Rattle.std.proofs.lemmas.List.{nil_from_length}
use Rattle.stage_core.specs.SecondLevel.{Parts}
use Rattle.stage_core.specs.Network.Pushes.{turns_in, sent_to}
use Rattle.stage_core.specs.Streams.{replies}
use Rattle.stage_core.specs.Merging.{wanted, want_of}
use Rattle.stage_core.specs.Network.Rings.{carried}
use Rattle.stage_core.specs.Network.{Network, lane, finish_taken, Consistent, IsFinished, next}
use Rattle.stage_core.specs.Network.{Machine}
use Rattle.din_trace.specs.declared.record.DinRecord.{DinRecord}
use Rattle.stage_core.specs.declared.message.Side.{Side}
use Rattle.stage_core.specs.declared.message.Side.TheVariants as side
use Rattle.stage_core.specs.declared.message.Want.{Want}
use Rattle.stage_core.specs.declared.message.Want.TheVariants as want
use Rattle.stage_core.proofs.network.Sums.{total, total-append, nothing_after}
use Rattle.stage_core.proofs.network.Ends.{visit, visits, end, ends, finish, finishes, owed, known}
use Rattle.stage_core.proofs.network.Ends.{owed-wanted}
use Rattle.stage_core.proofs.network.Blocked.{StageBlocked, SplitterBlocked, AllBlocked}
use Rattle.stage_core.proofs.network.Blocked.{all_blocked}
use Rattle.stage_core.proofs.network.Positions.{pending}
use Rattle.stage_core.proofs.network.StreamCounts.{visits-order, finishes-order, finish_in}
use Rattle.stage_core.proofs.network.StreamCounts.{finish_in-to_side, last-replies}
use Rattle.stage_core.proofs.network.StateCounts.{total-took, pending-small, merge-count}
use Rattle.stage_core.proofs.network.StateCounts.{merge-last, stage-count, split-count, whole-order}
use Rattle.stage_core.proofs.network.StateCounts.{whole-to, took-all, last-all, where_it_is}

module _ (parts : Parts) (es : List DinRecord) (n : Network) (k : Consistent parts es n) where
  -- a stage whose ring is wanted and empty, and which can't go on, has its message still to come
  -- from the splitter
  pub awaits : (capacity : ℕ) → 0 < capacity → (s : Side) → wanted n.at ≡ want_of s
      → (lane s n).from.waiting ≡ [] → StageBlocked capacity (lane s n) (lane s n).outbox
      → ((lane s n).to.waiting ≡ []) × (pending s n.still ≡ 1) × (visits s n.order.waiting ≡ 0)
  awaits capacity pos s w e (inl full) = absurd (omega (arith, ap length e))
  awaits capacity pos s w e (inr (o, inl took)) =
      let all = took-all parts es n k s took in
      absurd (omega (
        arith,
        merge-count parts es n k s,
        stage-count parts es n k s,
        owed-wanted s n.at w,
        ap ends e,
        ap ends o,
        ap length (whole-to parts es n k s),
        length-append (lane s n).to.popped ((lane s n).to.waiting ++ sent_to s n.still),
        ap length all,
        visits-order s es,
        ap (visits s) (whole-order parts es n k),
        total-append (visit s) n.order.popped (n.order.waiting ++ turns_in n.still),
      ))
  awaits capacity pos s w e (inr (o, inr none)) =
      let a = merge-count parts es n k s in
      let b = stage-count parts es n k s in
      let c = split-count parts es n k s in
      let one = owed-wanted s n.at w in
      let small = pending-small s n.still in
      let ee = ap ends e in
      let eo = ap ends o in
      let en = ap length none in (
        none,
        omega (arith, a, b, c, one, small, ee, eo, en),
        omega (arith, a, b, c, one, small, ee, eo, en),
      )

  -- the merge does not wait for the order ring
  pub not-order : (capacity : ℕ) → 0 < capacity → SplitterBlocked capacity n n.still
      → wanted n.at ≡ want.Order → n.order.waiting ≡ [] → ⊥
  not-order capacity pos blocked w e =
      let o = known n.at want.Order w in
      let ai = merge-count parts es n k side.I in
      let bi = stage-count parts es n k side.I in
      let ci = split-count parts es n k side.I in
      let ad = merge-count parts es n k side.D in
      let bd = stage-count parts es n k side.D in
      let cd = split-count parts es n k side.D in
      let ei = ap (visits side.I) e in
      let ed = ap (visits side.D) e in
      let zi : pending side.I n.still ≡ 0 = omega (arith, o, ai, bi, ci, ei) in
      let zd : pending side.D n.still ≡ 0 = omega (arith, o, ad, bd, cd, ed) in
      elim (blocked.order zi zd) [
        | inl none ↦ omega (
          arith,
          o,
          merge-last parts es n k,
          finishes-order es,
          ap finishes (whole-order parts es n k),
          total-append finish n.order.popped (n.order.waiting ++ turns_in n.still),
          total-append finish n.order.waiting (turns_in n.still),
          ap finishes e,
          ap (λ x. finishes (turns_in x)) none,
        )
        | inr full ↦ omega (arith, ap length e)
      ]

  -- the merge does not wait for I's ring
  not-i : (capacity : ℕ) → 0 < capacity → SplitterBlocked capacity n n.still
      → StageBlocked capacity n.i n.i.outbox → wanted n.at ≡ want.I → n.i.from.waiting ≡ [] → ⊥
  not-i capacity pos blocked stage w e =
      let a = awaits capacity pos side.I w e stage in
      omega (arith, ap length a.0, blocked.i a.1)

  zero_or_one : (p : ℕ) → p ≤ 1 → (p ≡ 0) ⊎ (p ≡ 1)
  zero_or_one zero h = inl refl
  zero_or_one (suc p) h = inr (omega arith)

  -- if the merge waits for D's message of an event, the splitter has already pushed I's message of
  -- that event
  past-i : wanted n.at ≡ want.D → pending side.D n.still ≡ 1 → visits side.D n.order.waiting ≡ 0
      → pending side.I n.still ≡ 1 → ⊥
  past-i w d v i =
      let none : n.order.waiting ≡ [] =
      nothing_after (visit side.D) 0 n.order.popped n.order.waiting (turns_in k.pushed) k.turns
      (omega (arith, (where_it_is parts es n k).both, d, i)) v in
      omega (
        arith,
        known n.at want.D w,
        merge-count parts es n k side.I,
        stage-count parts es n k side.I,
        split-count parts es n k side.I,
        ap (visits side.I) none,
      )

  -- the merge does not wait for D's ring
  not-d : (capacity : ℕ) → 0 < capacity → SplitterBlocked capacity n n.still
      → StageBlocked capacity n.d n.d.outbox → wanted n.at ≡ want.D → n.d.from.waiting ≡ [] → ⊥
  not-d capacity pos blocked stage w e =
      let a = awaits capacity pos side.D w e stage in
      elim (zero_or_one (pending side.I n.still) (pending-small side.I n.still)) [
        | inl zi ↦ omega (arith, ap length a.0, blocked.d zi a.1)
        | inr one ↦ past-i w a.1 a.2 one
      ]

  -- if the merge wants no message, all messages were popped
  pub all-popped : wanted n.at ≡ want.Nothing →
      (n.order.waiting ++ turns_in n.still ≡ [])
      × ((s : Side) → ((lane s n).to.waiting ≡ []) × ((lane s n).from.waiting ≡ [])
      × ((lane s n).outbox ≡ []) × (pending s n.still ≡ 0))
  all-popped w =
      let o = known n.at want.Nothing w in
      let all : n.order.waiting ++ turns_in n.still ≡ [] = last-all parts es n k o.2 in
      let owed-none : (s : Side) → owed s n.at ≡ 0 =
      λ s. elim s as (λ x. owed x n.at ≡ 0) [ side.I ↦ o.0 | side.D ↦ o.1 ] in
      let count : (s : Side)
      → (length (lane s n).to.waiting + pending s n.still + ends (lane s n).from.waiting
      + ends (lane s n).outbox) ≡ 0 =
      λ s. omega (
        arith,
        owed-none s,
        merge-count parts es n k s,
        stage-count parts es n k s,
        split-count parts es n k s,
        ap (visits s) all,
        total-append (visit s) n.order.waiting (turns_in n.still),
      ) in
      let outbox : (s : Side) → (lane s n).outbox ≡ [] =
      λ s. nothing_after end 1 (carried (lane s n).from) (lane s n).outbox _ (k.from_side s)
      (omega (arith, last-replies parts s (lane s n).to.popped)) (omega (arith, count s)) in
      let whole : (s : Side) → (lane s n).from.popped ++ (lane s n).from.waiting
      ≡ replies parts s (lane s n).to.popped =
      λ s. sym (append-nil _) ∙ ap (λ x. carried (lane s n).from ++ x) (sym (outbox s))
      ∙ k.from_side s in
      let waiting : (s : Side) → (lane s n).from.waiting ≡ [] =
      λ s. nothing_after end 1 (lane s n).from.popped (lane s n).from.waiting _ (whole s)
      (omega (arith, last-replies parts s (lane s n).to.popped)) (omega (arith, count s)) in (
        all,
        λ s. (
          nil_from_length (lane s n).to.waiting (omega (arith, count s)),
          waiting s,
          outbox s,
          omega (arith, count s),
        ),
      )

  -- if the merge wants no message and the splitter cannot step, all machines have finished
  pub ended : (capacity : ℕ) → 0 < capacity → SplitterBlocked capacity n n.still
      → wanted n.at ≡ want.Nothing → IsFinished n
  ended capacity pos blocked w =
      let all = all-popped w in
      let still : n.still ≡ [] =
      elim (blocked.order ((all.1 side.I).3) ((all.1 side.D).3)) [
        | inl none ↦ none
        | inr full ↦ absurd (omega (
          arith,
          ap length all.0,
          length-append n.order.waiting (turns_in n.still),
        ))
      ] in
      let took : (s : Side) → finish_taken (lane s n) ≡ true =
      λ s. total-took (lane s n).to.popped
      (omega (
        arith,
        finish_in-to_side s es,
        ap (total finish_in) (whole-to parts es n k s),
        total-append finish_in (lane s n).to.popped ((lane s n).to.waiting ++ sent_to s n.still),
        total-append finish_in (lane s n).to.waiting (sent_to s n.still),
        ap (total finish_in) ((all.1 s).0),
        ap (λ x. total finish_in (sent_to s x)) still,
      )) in
      record { splitter = still; sent = λ s. (all.1 s).2; took = took; merge = w }

  -- no state is stuck, whatever ring the merge wants
  never_stuck_at : (capacity : ℕ) → 0 < capacity → AllBlocked capacity n → (w : Want)
      → wanted n.at ≡ w → IsFinished n
  never_stuck_at capacity pos blocked want.Order w =
      absurd (not-order capacity pos blocked.splitter w (blocked.merge.order w))
  never_stuck_at capacity pos blocked want.I w =
      absurd (not-i capacity pos blocked.splitter (blocked.stages side.I) w (blocked.merge.i w))
  never_stuck_at capacity pos blocked want.D w =
      absurd (not-d capacity pos blocked.splitter (blocked.stages side.D) w (blocked.merge.d w))
  never_stuck_at capacity pos blocked want.Nothing w = ended capacity pos blocked.splitter w

-- if no machine can step in a state with the invariant, all have finished
pub never_stuck : (parts : Parts) (es : List DinRecord) (capacity : ℕ) → 0 < capacity
    → (n : Network) → Consistent parts es n → ((m : Machine) → next parts capacity m n ≡ None)
    → IsFinished n
never_stuck parts es capacity pos n k h =
    never_stuck_at parts es n k capacity pos (all_blocked parts capacity n h) (wanted n.at) refl
