-- A schedule with one more step.
use Rattle.std.proofs.Common.{◌≡◌, ℕ, ◌+◌, List, [], ◌∷◌, ◌++◌, length, sym, ap, ◌∙◌, arith}
use Rattle.std.proofs.Common.{Some, option_and_then}
use Rattle.stage_core.specs.SecondLevel.{Parts}
use Rattle.stage_core.specs.Network.{Network, Machine, next, enabled, run}
use Rattle.stage_core.specs.Network.Choices.{named, IsNamedFrom}
use Rattle.stage_core.proofs.network.Schedules.{and_then-some}

module _ (parts : Parts) (capacity : ℕ) where
  -- a schedule with one step more leads where that step leads
  pub run-more : (ms : List Machine) (m : Machine) (n last more : Network)
      → run parts capacity ms n ≡ Some last → next parts capacity m last ≡ Some more
      → run parts capacity (ms ++ m ∷ []) n ≡ Some more
  run-more [] m n last more h e =
      let same : n ≡ last = cc in
      ap (option_and_then (run parts capacity []))
      (ap (next parts capacity m) same ∙ e)
  run-more (x ∷ ms) m n last more h e =
      let s = and_then-some (run parts capacity ms) (next parts capacity x n) last h in
      ap (option_and_then (run parts capacity (ms ++ m ∷ []))) s.1
      ∙ run-more ms m s.0 last more s.2 e

  -- it is named by the choices if that step is
  pub named-more : (choices : List ℕ) (k j : ℕ) (ms : List Machine) (m : Machine)
      (n last : Network) → IsNamedFrom parts capacity choices k ms n
      → run parts capacity ms n ≡ Some last → j ≡ k + length ms
      → named choices j (enabled parts capacity last) ≡ Some m
      → IsNamedFrom parts capacity choices k (ms ++ m ∷ []) n
  named-more choices k j [] m n last i h e c =
      let same : last ≡ n = cc in
      let here : j ≡ k = omega (arith, e) in (
        ap (λ i. named choices i (enabled parts capacity n)) (sym here)
            ∙ ap (λ v. named choices j (enabled parts capacity v)) (sym same) ∙ c,
        λ after s. tt,
      )
  named-more choices k j (x ∷ ms) m n last i h e c = (
    i.0,
    λ after s. named-more choices (k + 1) j ms m after last (i.1 after s)
        (sym (ap (option_and_then (run parts capacity ms)) s) ∙ h) (omega (arith, e)) c,
  )
