use Rattle.std.proofs.Common.{◌≡◌, ◌+◌, ◌<◌, ℕ, List, [], ◌∷◌, ◌++◌, Option, Ok, refl, ap, ◌∙◌}
use Rattle.std.proofs.Common.{subst, arith, inl, inr, vec_len, sym}
use Rattle.din_trace.specs.declared.record.DinRecord.{DinRecord}
use Rattle.din_trace.specs.Text.{Remaining}
use Rattle.din_trace.specs.Remaining.{Script, Fate, Open, Follows, first_answer, after_first}
use Rattle.din_trace.specs.Source as words
use Rattle.din_trace.specs.Source.{HasLeft, IsSettled, Takes, reader_of, room_of}
use Rattle.din_trace.proofs.Calls.{Calls, calls, no_calls}
use Rattle.din_trace.proofs.Scripts.{closes-settled, rest-record, rest-some, rest-end, rest-fault}
use Rattle.din_trace.proofs.source.Source.rest.Goals as goal
use Rattle.din_trace.proofs.source.Source.rest.Goals.{After-next}
use Rattle.din_trace.proofs.source.Source.rest.Given.{Over}

-- the calls so far, and then this one, are calls too
composed : (g : Over) (c : After-next g)
    → Calls g.R.ByteReader.remaining g.R.ByteReader.failures c.args.self.now c.next.new.self
    c.records.invariant.given c.next.ensures.reads.0 c.records.invariant.fate c.next.ensures.reads.1
composed g c =
    let now = c.records.invariant in
    let next = c.next.ensures.reads in
    calls g.R.ByteReader.remaining g.R.ByteReader.failures c.args.self.now c.records.self
    c.next.new.self now.given next.0 now.fate next.1 now.went next.2 c.next.ensures.settled

-- what was left before the calls: the records so far, and then what was left before the last call
behind : (g : Over) (c : After-next g) (first last : Script) (before : Remaining)
    → Follows (composed g c).fate (composed g c).given first last
    → HasLeft c.args.self.now first before
    → (more : Remaining)
    × (before ≡ record { records = c.records.records.items ++ more.records; fault = more.fault })
    × (c.next.result ≡ first_answer more)
    × HasLeft c.next.new.self last (after_first more)
behind g c first last before is left =
    let mid = (composed g c).between first last is in
    let more = c.records.invariant.left first mid.0 before mid.1 left in
    let after = c.next.ensures.reads.3 mid.0 last more.0 mid.2 more.2 in
    (more.0, more.1, after.0, after.1)

-- where the last call ends the calls, what its answer shows is so of them all
ends : (g : Over) (c : After-next g) (Told : Script → Remaining → Type 0)
    → ((last : Script) (before more : Remaining)
    → before ≡ record { records = c.records.records.items ++ more.records; fault = more.fault }
    → c.next.result ≡ first_answer more
    → HasLeft c.next.new.self last (after_first more) → Told last before)
    → (given : List ℕ) × (fate : Fate)
    × Takes g.R.ByteReader.remaining g.R.ByteReader.failures c.args.self.now c.next.new.self given
    fate
    × ((first last : Script) (before : Remaining)
    → Follows fate given first last → HasLeft c.args.self.now first before → Told last before)
ends g c Told tell =
    let all = composed g c in (
      all.given,
      all.fate,
      all.went,
      λ first last before is left.
          let more = behind g c first last before is left in
          tell last before more.0 more.1 more.2 more.3,
    )

-- where the last call gave no fault, the reader has not failed
not-failed : (g : Over) (c : After-next g) (found : Option DinRecord)
    → c.next.result ≡ Ok found
    → g.R.ByteReader.failures (reader_of c.next.new.self)
    ≡ g.R.ByteReader.failures (reader_of c.records.self)
not-failed g c found is =
    elim c.next.ensures.failed [
      | inl same ↦ same
      | inr failed ↦ let e = sym is ∙ failed in absurd cc
    ]

-- a source that was settled is still the same
still : (g : Over) (c : After-next g) → IsSettled c.args.self.now
    → c.next.new.self ≡ c.args.self.now
still g c is =
    let same = c.records.invariant.settled is in
    c.next.ensures.settled (rw same is) ∙ same

pub records-init : goal.records-init
records-init g c = record {
  at_most = omega (arith, c.new-records.ensures);
  limit_same = refl;
  no_failure = refl;
  settled = λ _. refl;
  given = [];
  fate = Open;
  went = no_calls g.R.ByteReader.remaining g.R.ByteReader.failures c.args.self.now;
  left = λ first last before is left. (
    before,
    rw c.new-records.ensures.items refl,
    subst
        (λ script. HasLeft c.args.self.now script before) is left,
  );
}

pub records-preserved : goal.records-preserved
records-preserved g c =
    let c₁ = (goal.at.records-preserved g c).After-next in
    let all = composed g c₁ in
    let now = c.records.invariant in
    record {
      at_most =
          let fall : room_of c.next.new.self < room_of c.records.self =
          (rw c.in-Some.is at c.in-Ok.ensures.records) refl in
          let longer : vec_len c.push.new.self ≡ vec_len c.records.records + 1 =
          rw c.if-is_err.ensures.negation at c.push.ensures.len in
          omega arith;
      limit_same = c.next.ensures.limit ∙ now.limit_same;
      no_failure = not-failed g c₁ c.in-Ok.found c.in-Ok.is ∙ now.no_failure;
      settled = still g c₁;
      given = all.given;
      fate = all.fate;
      went = all.went;
      left = λ first last before is left.
          let more = behind g c₁ first last before is left in
          let pushed : c.push.new.self.items ≡ c.records.records.items ++ c.in-Some.next ∷ [] =
          rw c.if-is_err.ensures.negation at c.push.ensures.items in (
            after_first more.0,
            rw pushed
                (rest-record c.records.records.items before more.0 c.next.result more.1 more.2
                c.in-Some.next (c.in-Ok.is ∙ ap (λ (found : Option DinRecord). Ok found)
                c.in-Some.is)),
            more.3,
          );
    }

pub returns-then-is_err-clause-reads : goal.returns-then-is_err-clause-reads
unfolding words.reader_of words.taken_by words.HasLeft words.Settles
returns-then-is_err-clause-reads g c =
    let c₁ = (goal.at.returns-then-is_err-clause-reads g c).After-next in
    let all = composed g c₁ in (
      all.given,
      all.fate,
      record {
        reader = all.went.reader;
        settles =
            closes-settled all.fate c.exhaust.new.self.state c.exhaust.ensures.closed;
        taken =
            c.exhaust.ensures.taken ∙ all.went.taken;
      },
      λ before later l is left.
          let more = behind g c₁ before later l is left in (
            (λ h. absurd (h refl)),
            c.exhaust.ensures.left later,
            λ _. inr (rest-some c.records.records.items l more.0 c.next.result more.1 more.2
                c.in-Some.next (c.in-Ok.is ∙ ap (λ (found : Option DinRecord). Ok found)
                c.in-Some.is)),
          ),
    )

pub returns-in-None-clause-reads : goal.returns-in-None-clause-reads
returns-in-None-clause-reads g c =
    ends g (goal.at.returns-in-None-clause-reads g c).After-next _
    (λ last before more was answer after.
    let end = rest-end c.records.records.items before more c.next.result was answer
    (c.in-Ok.is ∙ ap (λ (found : Option DinRecord). Ok found) c.in-None.is) in
    (end.0, end.1, subst (HasLeft c.next.new.self last) end.2 after))

pub returns-in-Err-clause-reads : goal.returns-in-Err-clause-reads
returns-in-Err-clause-reads g c =
    ends g (goal.at.returns-in-Err-clause-reads g c).After-next _
    (λ last before more was answer after.
    let end = rest-fault c.records.records.items before more c.next.result was answer c.in-Err.fault
    c.in-Err.is in
    (λ _. end.0, subst (HasLeft c.next.new.self last) end.1 after, λ _. inl end.0))
