-- Loops that make an element for each of a list.
use Rattle.std.proofs.Common.{◌≡◌, ℕ, ◌+◌, ◌<◌, [], ◌∷◌, ◌++◌, List, length, get_or, map, take}
use Rattle.std.proofs.Common.{ap, sym, ◌∙◌}
use Rattle.std.specs.List.{All}
use Rattle.std.proofs.lemmas.List.{map-append, map_more}
use Rattle.grid_run.proofs.Growing.{all-push}

-- an element was made for each of the first k plans: it does what the plan asks, and P holds of it
pub record AreMade {A X V : Type 0} (task : X → V) (asked : A → V) (P : X → Type 0)
    (plans : List A) (k : ℕ) (made : List X) : Type 0 where
  pub tasks : map task made ≡ map asked (take k plans)
  pub fresh : All P made

-- one element more was made
pub made_more : {A X V : Type 0} {task : X → V} {asked : A → V} {P : X → Type 0} {plans : List A}
    {k : ℕ} {old new : List X} {plan : A} (x : X) → AreMade task asked P plans k old
    → new ≡ old ++ x ∷ [] → k < length plans → plan ≡ get_or plans k plan → task x ≡ asked plan
    → P x → AreMade task asked P plans (k + 1) new
made_more {task = task} {asked = asked} {P = P} {plans = plans} {k = k} {old = old} {new = new}
    {plan = plan} x was is lt at same one =
    record {
      tasks = ap (map task) is ∙ map-append task old (x ∷ [])
          ∙ ap (λ l. l ++ task x ∷ []) was.tasks
          ∙ ap (λ v. map asked (take k plans) ++ v ∷ []) (same ∙ ap asked at)
          ∙ sym (map_more asked plans k plan lt);
      fresh = all-push P old new x is was.fresh one;
    }
