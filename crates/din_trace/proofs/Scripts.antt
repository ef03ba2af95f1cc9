-- What a reader gave in two calls.
use Rattle.std.proofs.Common.{◌≡◌, ◌≢◌, ℕ, ◌+◌, Bool, true, false, List, [], ◌∷◌, ◌++◌}
use Rattle.std.proofs.Common.{length, drop}
use Rattle.std.proofs.Common.{Option, Some, None, Result, Ok, Err, refl, sym, ap, ◌∙◌, subst}
use Rattle.std.proofs.Common.{append_assoc, length-append, arith}
use Rattle.std.specs.Io.KnownBytes.{Consumes, Keeps}
use Rattle.std.proofs.KnownBytes.{Consumes-trans}
use Rattle.std.proofs.lemmas.List.{append-nil}
use Rattle.din_trace.specs.Device.{once_more}
use Rattle.din_trace.specs.Text.{Remaining}
use Rattle.din_trace.specs.Remaining.{Script, Fate, Open, Ended, Failed, Follows, FateIs}
use Rattle.din_trace.specs.Remaining.{first_answer, after_first, records_answer}
use Rattle.din_trace.specs.State.{is_reading, Closes}
use Rattle.din_trace.specs.declared.record.DinRecord.{DinRecord}
use Rattle.din_trace.specs.declared.fault.TraceFault.{TraceFault}
use Rattle.din_trace.specs.declared.backlog.State.{State}
use Rattle.din_trace.specs.declared.backlog.Backlog.{Backlog}
use Rattle.din_trace.specs.Backlog.{HasLeft}

-- a reader that keeps its bytes gives none
pub keeps-consumes : (mid new : Option (List ℕ)) → Keeps mid new → Consumes mid new []
keeps-consumes None new k = tt
keeps-consumes (Some some) None k = absurd k
keeps-consumes (Some some) (Some rest) k = sym k

-- one more failure changes the count
pub once_more-differs : (count : ℕ) → once_more count ≡ count → ⊥
once_more-differs count same = omega arith

module _ (b : Backlog) (fails : Bool) (l : Remaining) where
  pub left-regrouped : (xs ys zs : List ℕ)
      → HasLeft b (record { given = (xs ++ ys) ++ zs; fails = fails }) l
      → HasLeft b (record { given = xs ++ (ys ++ zs); fails = fails }) l
  left-regrouped xs ys zs h =
      subst (λ bytes. HasLeft b (record { given = bytes; fails = fails }) l)
      (append_assoc xs ys zs) h

  pub left-closed : (xs : List ℕ) (before : Script) → before ≡ record { given = xs; fails = fails }
      → HasLeft b before l → HasLeft b (record { given = xs ++ []; fails = fails }) l
  left-closed xs before is h =
      let closed : HasLeft b (record { given = xs; fails = fails }) l =
      subst (λ script. HasLeft b script l) is h in
      subst (λ bytes. HasLeft b (record { given = bytes; fails = fails }) l)
      (sym (append-nil xs)) closed

-- a script under which the reader gives these bytes, and goes on by the last script
script_before : Fate → List ℕ → Script → Script
script_before Open given last = record { given = given ++ last.given; fails = last.fails }
script_before Ended given last = record { given = given; fails = false }
script_before Failed given last = record { given = given; fails = true }

script_before-follows : (fate : Fate) (given : List ℕ) (last : Script)
    → Follows fate given (script_before fate given last) last
unfolding script_before
script_before-follows Open given last = refl
script_before-follows Ended given last = refl
script_before-follows Failed given last = refl

-- two calls of a reader, one after the other, act as one
pub record Composed (f₁ f₂ : Fate) (g₁ g₂ : List ℕ) (old new : Option (List ℕ)) (before after : ℕ)
    (state : State) (size₀ size₂ : ℕ) : Type 0 where
  pub given : List ℕ
  pub fate : Fate
  pub is : FateIs fate old given new before after
  pub closes : Closes fate state
  pub size : size₂ ≡ size₀ + length given
  pub between : (first last : Script) → Follows fate given first last
      → (mid : Script) × Follows f₁ g₁ first mid × Follows f₂ g₂ mid last

-- nothing changed
pub record IsSame (mid new : Option (List ℕ)) (during after : ℕ) (s₁ s₂ : State)
    (size₁ size₂ : ℕ) : Type 0 where
  pub bytes : new ≡ mid
  pub failures : after ≡ during
  pub state : s₂ ≡ s₁
  pub size : size₂ ≡ size₁

module _ (g₁ g₂ : List ℕ) (old mid new : Option (List ℕ)) (before during after : ℕ) (s₁ s₂ : State)
    (size₀ size₁ size₂ : ℕ)
    (first_size : size₁ ≡ size₀ + length g₁) (next_size : size₂ ≡ size₁ + length g₂) where
  sizes : size₂ ≡ size₀ + length (g₁ ++ g₂)
  sizes = simp length-append (omega arith)

  compose-open : (f₂ : Fate) → Consumes old mid g₁ → during ≡ before
      → FateIs f₂ mid g₂ new during after → Closes f₂ s₂
      → Composed Open f₂ g₁ g₂ old new before after s₂ size₀ size₂
  compose-open Open consumed same is closes = record {
    given = g₁ ++ g₂;
    fate = Open;
    is = (Consumes-trans old mid new g₁ g₂ consumed is.0, is.1 ∙ same);
    closes = tt;
    size = sizes;
    between = λ first last e. (
      record { given = g₂ ++ last.given; fails = last.fails },
      e ∙ ap (λ (bytes : List ℕ). record { given = bytes; fails = last.fails })
          (append_assoc g₁ g₂ last.given),
      refl,
    );
  }
  compose-open Ended consumed same is closes = record {
    given = g₁ ++ g₂;
    fate = Ended;
    is = (Consumes-trans old mid new g₁ g₂ consumed is.0, is.1, is.2 ∙ same);
    closes = closes;
    size = sizes;
    between = λ first last e. (record { given = g₂; fails = false }, e, refl);
  }
  compose-open Failed consumed same is closes = record {
    given = g₁ ++ g₂;
    fate = Failed;
    is = (Consumes-trans old mid new g₁ g₂ consumed is.0, is.1 ∙ ap once_more same);
    closes = closes;
    size = sizes;
    between = λ first last e. (record { given = g₂; fails = true }, e, refl);
  }

  -- the reader had ended or failed, so that the second call asked nothing
  compose-closed : (f₁ f₂ : Fate) → FateIs f₁ old g₁ mid before during → Closes f₁ s₁
      → IsSame mid new during after s₁ s₂ size₁ size₂
      → ((first mid last : Script) → Follows f₁ g₁ first last → Follows f₁ g₁ first mid)
      → Composed f₁ f₂ g₁ g₂ old new before after s₂ size₀ size₂
  compose-closed f₁ f₂ is closes same ends = record {
    given = g₁;
    fate = f₁;
    is = rw (same.bytes, same.failures) is;
    closes = rw same.state closes;
    size = same.size ∙ first_size;
    between = λ first last e.
        let mid = script_before f₂ g₂ last in
        (mid, ends first mid last e, script_before-follows f₂ g₂ last);
  }

  pub compose : (f₁ f₂ : Fate) → FateIs f₁ old g₁ mid before during
      → FateIs f₂ mid g₂ new during after → Closes f₁ s₁ → Closes f₂ s₂
      → (is_reading s₁ ≡ false → IsSame mid new during after s₁ s₂ size₁ size₂)
      → Composed f₁ f₂ g₁ g₂ old new before after s₂ size₀ size₂
  compose Open f₂ is₁ is₂ closes₁ closes₂ settled = compose-open f₂ is₁.0 is₁.1 is₂ closes₂
  compose Ended f₂ is₁ is₂ closes₁ closes₂ settled =
      compose-closed Ended f₂ is₁ closes₁ (settled closes₁) (λ first mid last e. e)
  compose Failed f₂ is₁ is₂ closes₁ closes₂ settled =
      compose-closed Failed f₂ is₁ closes₁ (settled closes₁) (λ first mid last e. e)

records-first : (rs : List DinRecord) (fault : Option TraceFault) (r : DinRecord)
    → Ok (Some r) ≡ records_answer rs fault → rs ≡ r ∷ drop 1 rs
records-first [] None r e = absurd cc
records-first [] (Some f) r e = absurd cc
records-first (q ∷ rs) fault r e = let same : q ≡ r = cc in rw same refl

records-end : (rs : List DinRecord) (fault : Option TraceFault) → Ok None ≡ records_answer rs fault
    → (rs ≡ []) × (fault ≡ None)
records-end [] None e = (refl, refl)
records-end [] (Some f) e = absurd cc
records-end (q ∷ rs) fault e = absurd cc

records-fault : (rs : List DinRecord) (fault : Option TraceFault) (f : TraceFault)
    → Err f ≡ records_answer rs fault → (rs ≡ []) × (fault ≡ Some f)
records-fault [] None f e = absurd cc
records-fault [] (Some g) f e = (refl, cc)
records-fault (q ∷ rs) fault f e = absurd cc

-- if the next answer is a record, what is left begins with it
pub first_record : (l : Remaining) (r : DinRecord) → Ok (Some r) ≡ first_answer l
    → l.records ≡ r ∷ drop 1 l.records
first_record l r = records-first l.records l.fault r

pub first_end : (l : Remaining) → Ok None ≡ first_answer l → (l.records ≡ []) × (l.fault ≡ None)
first_end l = records-end l.records l.fault

pub first_fault-is : (l : Remaining) (f : TraceFault) → Err f ≡ first_answer l
    → (l.records ≡ []) × (l.fault ≡ Some f)
first_fault-is l f = records-fault l.records l.fault f

behind-not_nil : (items rs : List DinRecord) (r : DinRecord) → items ++ r ∷ rs ≢ []
behind-not_nil [] rs r e = absurd cc
behind-not_nil (q ∷ items) rs r e = absurd cc

-- what is left is these records, and then what is left after them
module _ (items : List DinRecord) (before more : Remaining)
    (result : Result (Option DinRecord) TraceFault)
    (is : before ≡ record { records = items ++ more.records; fault = more.fault }) (answer : result
    ≡ first_answer more) where
  pub rest-record : (r : DinRecord) → result ≡ Ok (Some r)
      → before ≡ record { records = (items ++ r ∷ []) ++ drop 1 more.records; fault = more.fault }
  rest-record r was =
      let first : more.records ≡ r ∷ drop 1 more.records = first_record more r (sym was ∙ answer) in
      is ∙ ap (λ (rs : List DinRecord). record { records = rs; fault = more.fault })
      (ap (λ rs. items ++ rs) first ∙ sym (append_assoc items (r ∷ []) (drop 1 more.records)))

  pub rest-some : (r : DinRecord) → result ≡ Ok (Some r) → before.records ≢ []
  rest-some r was none =
      let first : more.records ≡ r ∷ drop 1 more.records = first_record more r (sym was ∙ answer) in
      behind-not_nil items (drop 1 more.records) r
      (ap (λ rs. items ++ rs) (sym first) ∙ sym (ap (λ (l : Remaining). l.records) is) ∙ none)

  pub rest-end : result ≡ Ok None
      → (items ≡ before.records) × (before.fault ≡ None)
      × (after_first more ≡ record { records = []; fault = None })
  rest-end was =
      let none = first_end more (sym was ∙ answer) in (
        sym (append-nil items) ∙ ap (λ rs. items ++ rs) (sym none.0)
            ∙ sym (ap (λ (l : Remaining). l.records) is),
        ap (λ (l : Remaining). l.fault) is ∙ none.1,
        rw (none.0, none.1) refl,
      )

  pub rest-fault : (f : TraceFault) → result ≡ Err f
      → (before.fault ≡ Some f) × (after_first more ≡ record { records = []; fault = Some f })
  rest-fault f was =
      let none = first_fault-is more f (sym was ∙ answer) in
      (ap (λ (l : Remaining). l.fault) is ∙ none.1, rw (none.0, none.1) refl)

-- a script that a reader followed, if its bytes are known and it did not fail
pub known-script : (fate : Fate) (all : List ℕ) (new : Option (List ℕ)) (given : List ℕ)
    (before after : ℕ)
    → FateIs fate (Some all) given new before after → after ≡ before
    → (later : Script) × Follows fate given (record { given = all; fails = false }) later
known-script Open all None given before after is same = absurd is.0
known-script Open all (Some rest) given before after is same = (
  record {
    given = rest;
    fails =
        false;
  },
  ap (λ (bytes : List ℕ). record { given = bytes; fails = false }) is.0,
)
known-script Ended all None given before after is same = absurd is.0
known-script Ended all (Some rest) given before after is same = (
  record {
    given = [];
    fails =
        false;
  },
  ap (λ (bytes : List ℕ). record { given = bytes; fails = false })
      (rw (is.1, append-nil given) at is.0),
)
known-script Failed all new given before after is same =
    absurd (once_more-differs before (sym is.1 ∙ same))

pub closes-settled : (fate : Fate) (state : State) → is_reading state ≡ false → Closes fate state
closes-settled Open state h = tt
closes-settled Ended state h = h
closes-settled Failed state h = h
