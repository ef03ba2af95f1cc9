-- What holds of an answer whose error is exchanged for another.
use Rattle.std.proofs.Common.{◌≡◌, Result, Ok, Err, sym, subst}
use Rattle.std.specs.Result.{IfOk, OnErr, result_or}
use Rattle.std.proofs.lemmas.Result.{IfOk-at_ok}

-- what holds anyhow holds after a refusal
pub err-anyhow : {T E : Type 0} (r : Result T E) {X : Type 0} → X → OnErr r X
err-anyhow (Ok x) h = tt
err-anyhow (Err e) h = h

module _ {T E D : Type 0} (d : D) where
  by-ok : (r : Result T E) (P Q : T → Type 0) → ((x : T) → P x → Q x) → IfOk r P
      → IfOk (result_or r (Err d)) Q
  by-ok (Ok x) P Q f h = f x h
  by-ok (Err e) P Q f h = tt

  -- what follows from the value of an answer follows from that with another error
  pub ok-or : {s : Result T D} (r : Result T E) {P : T → Type 0} (Q : T → Type 0)
      → s ≡ result_or r (Err d) → IfOk r P → ((x : T) → P x → Q x) → IfOk s Q
  ok-or r {P} Q is h f = subst (λ t. IfOk t Q) (sym is) (by-ok r P Q f h)

  -- and what holds of the value holds of it there
  pub at-or : {s : Result T D} {x : T} (r : Result T E) (P : T → Type 0) → s ≡ result_or r (Err d)
      → s ≡ Ok x → IfOk r P → P x
  at-or r P is was h = IfOk-at_ok P was (ok-or r {P = P} P is h (λ _ p. p))
