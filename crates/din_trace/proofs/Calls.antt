-- Calls of a source, one after another.
use Rattle.std.proofs.Common.{◌≡◌, ℕ, List, Option, Result, refl, subst}
use Rattle.din_trace.specs.declared.record.DinRecord.{DinRecord}
use Rattle.din_trace.specs.declared.fault.TraceFault.{TraceFault}
use Rattle.din_trace.specs.declared.source.Source.{Source}
use Rattle.din_trace.specs.Text.{Remaining}
use Rattle.din_trace.specs.Remaining.{Script, Fate, Open, Follows, first_answer, after_first}
use Rattle.din_trace.specs.Source.{reader_of, taken_by, HasLeft, IsSettled, Settles, Takes}
use Rattle.din_trace.proofs.Scripts.{Composed, compose}
use Rattle.std.proofs.Common.{[], arith}
use Rattle.std.proofs.KnownBytes.{Consumes-nil}

-- calls from a to b and then from b to c
pub record Calls {R : Type 0} (remaining : R → Option (List ℕ)) (failures : R
    → ℕ) (a c : Source R) (g₁ g₂ : List ℕ) (f₁ f₂ : Fate) : Type 0 where
  pub given : List ℕ
  pub fate : Fate
  pub went : Takes remaining failures a c given fate
  pub between : (first last : Script) → Follows fate given first last
      → (mid : Script) × Follows f₁ g₁ first mid × Follows f₂ g₂ mid last

module _ {R : Type 0} (remaining : R → Option (List ℕ)) (failures : R
    → ℕ) (a b c : Source R) (g₁ g₂ : List ℕ) (f₁ f₂ : Fate) where
  pub calls : Takes remaining failures a b g₁ f₁ → Takes remaining failures b c g₂ f₂
      → (IsSettled b → c ≡ b) → Calls remaining failures a c g₁ g₂ f₁ f₂
  unfolding reader_of taken_by IsSettled Settles
  calls w₁ w₂ settled =
      let all : Composed f₁ f₂ g₁ g₂ (remaining a.reader) (remaining c.reader) (failures a.reader)
      (failures c.reader) c.backlog.state (taken_by a) (taken_by c) =
      compose g₁ g₂ (remaining a.reader) (remaining b.reader) (remaining c.reader)
      (failures a.reader) (failures b.reader)
      (failures c.reader) b.backlog.state c.backlog.state
      (taken_by a) (taken_by b)
      (taken_by c) w₁.taken w₂.taken f₁ f₂ w₁.reader w₂.reader w₁.settles w₂.settles
      (λ is. record {
        bytes = rw (settled is) refl;
        failures = rw (settled is) refl;
        state =
            rw (settled is) refl;
        size = rw (settled is) refl;
      }) in
      record {
        given = all.given;
        fate = all.fate;
        went =
            record { reader = all.is; settles = all.closes; taken = all.size };
        between =
            all.between;
      }

module _ {R : Type 0} (remaining : R → Option (List ℕ)) (failures : R → ℕ) where
  -- calls that did not ask the reader
  pub asks_nothing : (a b : Source R) → reader_of b ≡ reader_of a → taken_by b ≡ taken_by a
      → Takes remaining failures a b [] Open
  unfolding Settles
  asks_nothing a b same taken =
      record {
        reader = rw same (Consumes-nil (remaining (reader_of a)), refl);
        settles = tt;
        taken = omega (arith, taken);
      }

  -- no call yet
  pub no_calls : (a : Source R) → Takes remaining failures a a [] Open
  no_calls a = asks_nothing a a refl refl

  -- the clause `reads` of `next`
  abbrev pub Answers : Source R → Source R → Result (Option DinRecord) TraceFault → Type 0
  Answers old new answer = (given : List ℕ) × (fate : Fate)
      × Takes remaining failures old new given fate
      × ((before later : Script) (l : Remaining) → Follows fate given before later
      → HasLeft old before l → (answer ≡ first_answer l) × HasLeft new later (after_first l))

  -- an answer of `at_hand` is an answer of `next`
  pub answers-at_hand : (a b : Source R) (answer : Result (Option DinRecord) TraceFault)
      → Takes remaining failures a b [] Open
      → ((script : Script) (l : Remaining) → HasLeft a script l
      → (answer ≡ first_answer l) × HasLeft b script (after_first l)) → Answers a b answer
  answers-at_hand a b answer went left = (
    [],
    Open,
    went,
    λ before later l is has. left later l (subst (λ script. HasLeft a script l) is has),
  )

  -- if `at_hand` gave none, the answer of a `next` after it is an answer of `next` from the start
  pub answers-asked : (a b c : Source R) (answer : Result (Option DinRecord) TraceFault)
      → Takes remaining failures a b [] Open
      → ((script : Script) (l : Remaining) → HasLeft a script l → HasLeft b script l)
      → Answers b c answer → (IsSettled b → c ≡ b) → Answers a c answer
  answers-asked a b c answer went left next settled =
      let all = calls remaining failures a b c [] next.0 Open next.1 went next.2 settled in (
        all.given,
        all.fate,
        all.went,
        λ before later l is has.
            let mid = all.between before later is in
            next.3 mid.0 later l mid.2
            (left mid.0 l (subst (λ script. HasLeft a script l) mid.1 has)),
      )
