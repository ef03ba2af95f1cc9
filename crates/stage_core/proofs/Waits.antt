-- Threads that wait are never stuck.
use Rattle.std.proofs.Common.{◌≡◌, ℕ, ◌<◌, ◌⊎◌, inl, inr, Bool, true, false, List, [], ◌∷◌, ◌++◌}
use Rattle.std.proofs.Common.{length, refl, sym, ap, ◌∙◌, arith, length-append}
use Rattle.std.proofs.lemmas.List.{nil_from_length}
use Rattle.din_trace.specs.declared.record.DinRecord.{DinRecord}
use Rattle.stage_core.specs.SecondLevel.{Parts}
use Rattle.stage_core.specs.Network.Pushes.{turns_in}
use Rattle.stage_core.specs.Merging.{wanted, want_of}
use Rattle.stage_core.specs.Network.{Lane, lane, finish_taken, Consistent, IsFinished}
use Rattle.stage_core.specs.Waiting.{Sender, HasPosted, HasAnswered, HasMerged, HasPublished}
use Rattle.stage_core.specs.Waiting.{splitter_holds, Threads, RingsCarry, NoRoom, NothingFor}
use Rattle.stage_core.specs.Waiting.{SplitterWaits, StageWaits, MergeWaits, SplitterEnded}
use Rattle.stage_core.specs.Waiting.{StageEnded, MergeEnded, NoneGoesOn, AllEnded}
use Rattle.stage_core.specs.Laws.{WaitingThreadsHaveEnded, EndedThreadsGaveAll}
use Rattle.stage_core.specs.declared.message.Side.{Side}
use Rattle.stage_core.specs.declared.message.Side.TheVariants as side
use Rattle.stage_core.specs.declared.message.Want.{Want}
use Rattle.stage_core.specs.declared.message.Want.TheVariants as want
use Rattle.stage_core.specs.declared.message.Turn.{Turn}
use Rattle.stage_core.specs.declared.message.Turn.TheVariants as turn
use Rattle.stage_core.proofs.network.Ends.{visits, known}
use Rattle.stage_core.proofs.network.Positions.{pending}
use Rattle.stage_core.proofs.network.Blocked.{SplitterBlocked}
use Rattle.stage_core.proofs.network.StateCounts.{merge-count, stage-count, split-count}
use Rattle.stage_core.proofs.network.NeverStuck.{awaits, not-order, all-popped, ended}
use Rattle.stage_core.proofs.network.Schedules.{given-done}
use Rattle.stage_core.proofs.Threads.{left, network, lane-of, AreRight, consistent}

splitter-right : (capacity : ℕ) (n : Threads)
    → SplitterWaits capacity n ⊎ SplitterEnded n.splitter → HasPosted n.splitter
splitter-right capacity n (inl x) = x.may.posted
splitter-right capacity n (inr x) = x.posted

stage-right : (parts : Parts) (capacity : ℕ) (s : Side) (n : Threads)
    → StageWaits parts capacity s n ⊎ StageEnded parts s (n.stage s)
    → HasAnswered parts s (n.stage s)
stage-right parts capacity s n (inl (inl x)) = x.0.answered
stage-right parts capacity s n (inl (inr x)) = x.0.answered
stage-right parts capacity s n (inr x) = x.answered

merge-right : (n : Threads) → MergeWaits n ⊎ MergeEnded n.merge → HasMerged n.merge
merge-right n (inl x) = x.0
merge-right n (inr x) = x.0

-- between two events nothing is pending
pending-left : (s : Side) (b : Bool) → pending s (left b) ≡ 0
pending-left side.I true = refl
pending-left side.I false = refl
pending-left side.D true = refl
pending-left side.D false = refl

nil-append : {A : Type 0} {xs ys : List A} → xs ≡ [] → ys ≡ [] → xs ++ ys ≡ []
nil-append {xs = xs} {ys = ys} ex ey =
    nil_from_length (xs ++ ys) (omega (arith, length-append xs ys, ap length ex, ap length ey))

-- if a sender cannot publish into an empty ring, it holds no message
holds-nothing : {A : Type 0} (capacity : ℕ) → 0 < capacity → (s : Sender A) (w : List A)
    → NoRoom capacity s w → w ≡ [] → s.held ≡ []
holds-nothing capacity pos s w (inl none) e = none
holds-nothing capacity pos s w (inr full) e = absurd (omega (arith, ap length e))

closed-then : (b : Bool) (ts : List Turn) → ts ++ turns_in (left b) ≡ [] → b ≡ true
closed-then true ts e = refl
closed-then false ts e =
    absurd (omega (arith, ap length e, length-append ts (turn.Finish ∷ [])))

module _ (parts : Parts) (capacity : ℕ) (pos : 0 < capacity) (n : Threads)
    (h : RingsCarry n) (g : NoneGoesOn parts capacity n) where
  right : AreRight parts n
  right = record {
    posted = splitter-right capacity n g.splitter;
    answered = λ s. stage-right parts capacity s n (g.stage s);
    merged = merge-right n g.merge;
  }

  k : Consistent parts n.splitter.events (network n)
  k = consistent parts n h right

  held-order : n.order ≡ [] → n.splitter.order.held ≡ []
  held-order e = elim g.splitter [
    | inl w ↦ holds-nothing capacity pos n.splitter.order n.order w.order e
    | inr x ↦ nil_from_length n.splitter.order.held (omega (arith, x.published))
  ]

  none-held : splitter_holds n.splitter ≡ 0 → (s : Side) → (n.splitter.to s).held ≡ []
  none-held x side.I = nil_from_length (n.splitter.to side.I).held (omega (arith, x))
  none-held x side.D = nil_from_length (n.splitter.to side.D).held (omega (arith, x))

  held-to : (s : Side) → n.to s ≡ [] → (n.splitter.to s).held ≡ []
  held-to s e = elim g.splitter [
    | inl w ↦ holds-nothing capacity pos (n.splitter.to s) (n.to s) (w.to s) e
    | inr x ↦ none-held x.published s
  ]

  -- if a stage has published all its answers, only the ring has messages on their way
  from-nothing : (s : Side) → (finished : Bool) → HasPublished finished parts s (n.stage s)
      → n.from s ≡ []
      → ((lane s (network n)).from.waiting ≡ []) × ((lane s (network n)).outbox ≡ [])
  from-nothing s finished p e = (
    ap (λ (l : Lane). l.from.waiting) (lane-of n s) ∙ nil-append e p.published,
    ap (λ (l : Lane). l.outbox) (lane-of n s) ∙ p.posted,
  )

  -- the merge does not wait for the ring of a side
  not-side : (s : Side) → wanted n.merge.at ≡ want_of s → n.from s ≡ [] → ⊥
  not-side s w e =
      let none = pending-left s n.splitter.closed in
      elim (g.stage s) [
        | inl (inl (may, room)) ↦
            let held = holds-nothing capacity pos (n.stage s).from (n.from s) room e in
            omega (arith, may.holds, ap length held)
        | inl (inr (may, empty)) ↦
            let f = from-nothing s false may e in
            let t : (lane s (network n)).to.waiting ≡ [] =
            ap (λ (l : Lane). l.to.waiting) (lane-of n s) ∙ nil-append empty (held-to s empty) in
            let a = awaits parts n.splitter.events (network n) k capacity pos s w f.0
            (inr (f.1, inr t)) in
            omega (arith, a.1, none)
        | inr x ↦
            let f = from-nothing s true x e in
            let t : finish_taken (lane s (network n)) ≡ true =
            ap finish_taken (lane-of n s) ∙ x.finish in
            let a = awaits parts n.splitter.events (network n) k capacity pos s w f.0
            (inr (f.1, inl t)) in
            omega (arith, a.1, none)
      ]

  -- a splitter that has posted the end has nothing left to push
  all-pushed : n.splitter.closed ≡ true → SplitterBlocked capacity (network n) (network n).still
  all-pushed c = record {
    i = λ e. absurd (omega (arith, e, pending-left side.I n.splitter.closed));
    d = λ z e. absurd (omega (arith, e, pending-left side.D n.splitter.closed));
    order = λ y z. inl (ap left c);
  }

  -- the merge does not wait for the order ring
  not-turns : wanted n.merge.at ≡ want.Order → n.order ≡ [] → ⊥
  not-turns w e =
      let es : List DinRecord = n.splitter.events in
      let o : (network n).order.waiting ≡ [] = nil-append e (held-order e) in
      elim g.splitter [
        | inl x ↦
            let closing = known n.merge.at want.Order w in
            omega (
              arith,
              x.may.holds,
              closing,
              ap length (held-order e),
              merge-count parts es (network n) k side.I,
              stage-count parts es (network n) k side.I,
              split-count parts es (network n) k side.I,
              merge-count parts es (network n) k side.D,
              stage-count parts es (network n) k side.D,
              split-count parts es (network n) k side.D,
              ap (visits side.I) o,
              ap (visits side.D) o,
              length-append (n.to side.I) (n.splitter.to side.I).held,
              length-append (n.to side.D) (n.splitter.to side.D).held,
            )
        | inr x ↦
            not-order parts es (network n) k capacity pos (all-pushed x.closed) w o
      ]

  -- if the merge wants no message, all have ended
  all-ended : wanted n.merge.at ≡ want.Nothing → AllEnded parts n
  all-ended w =
      let es : List DinRecord = n.splitter.events in
      let all = all-popped parts es (network n) k w in
      let c : n.splitter.closed ≡ true =
      closed-then n.splitter.closed (network n).order.waiting all.0 in
      let f : IsFinished (network n) =
      ended parts es (network n) k capacity pos (all-pushed c) w in
      record {
        splitter = record {
          posted = right.posted;
          closed = c;
          published = omega (
            arith,
            ap length all.0,
            length-append (network n).order.waiting (turns_in (network n).still),
            length-append n.order n.splitter.order.held,
            ap length (all.1 side.I).0,
            length-append (n.to side.I) (n.splitter.to side.I).held,
            ap length (all.1 side.D).0,
            length-append (n.to side.D) (n.splitter.to side.D).held,
          );
        };
        stage = λ s. record {
          answered = right.answered s;
          posted = sym (ap (λ (l : Lane). l.outbox) (lane-of n s)) ∙ (all.1 s).2;
          published = nil_from_length (n.stage s).from.held (omega (
            arith,
            ap length (sym (ap (λ (l : Lane). l.from.waiting) (lane-of n s)) ∙ (all.1 s).1),
            length-append (n.from s) (n.stage s).from.held,
          ));
          finish = sym (ap finish_taken (lane-of n s)) ∙ f.took s;
        };
        merge = (right.merged, w);
      }

  by_want : (w : Want) → wanted n.merge.at ≡ w → NothingFor w n → ⊥
  by_want want.Order e x = not-turns e x
  by_want want.I e x = not-side side.I e x
  by_want want.D e x = not-side side.D e x
  by_want want.Nothing e x = x

  none_goes_on : AllEnded parts n
  none_goes_on = elim g.merge [
    | inl x ↦ absurd (by_want (wanted n.merge.at) refl x.1)
    | inr x ↦ all-ended x.1
  ]

-- threads of which each waits in vain or has ended have all ended
pub waiting_ended : WaitingThreadsHaveEnded
waiting_ended parts capacity n pos h g = none_goes_on parts capacity pos n h g

-- where all have ended, the second level was given just what it is to see
pub ended_given : EndedThreadsGaveAll
ended_given parts n h e =
    let k = consistent parts n h record {
      posted = e.splitter.posted;
      answered = λ s. (e.stage s).answered;
      merged = e.merge.0;
    } in
    given-done parts n.splitter.events (network n) k record {
      splitter = ap left e.splitter.closed;
      sent = λ s.
          ap (λ (l : Lane). l.outbox) (lane-of n s) ∙ (e.stage s).posted;
      took = λ s. ap finish_taken (lane-of n s) ∙ (e.stage s).finish;
      merge = e.merge.1;
    }
