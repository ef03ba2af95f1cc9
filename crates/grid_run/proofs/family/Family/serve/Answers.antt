use Rattle.std.proofs.Common.{◌≡◌, ◌∷◌, ℕ, List, ap, sym, subst, ◌∙◌}
use Rattle.std.proofs.lemmas.Result.{on_ok_weaker}
use Rattle.cache_core.specs.declared.access.Access.{Access}
use Rattle.cache_core.specs.History.{Event, History}
use Rattle.grid_run.specs.Families.{FamilyStandsBy}
use Rattle.grid_run.specs.Numbering.{event_at}
use Rattle.grid_run.specs.declared.family.Family.{Family}
use Rattle.grid_run.proofs.family.Family.serve.Goals as goal

-- caches that have served an event have served it by its other name
named : (blocks : List ℕ) (l : Family) (h : History) (e e' : Event) → e' ≡ e
    → FamilyStandsBy blocks l (e ∷ h) → FamilyStandsBy blocks l (e' ∷ h)
named blocks l h e e' is st = subst (λ (x : Event). FamilyStandsBy blocks l (x ∷ h)) (sym is) st

pub returns-clause-stands : goal.returns-clause-stands
returns-clause-stands c =
    let w = c.args.asked in
    let read = c.class.ensures ∙ ap (λ o. event_at o w.addr) c.in-Some.is in
    let x : Access = record { class = c.in-Some.class; addr = w.addr } in
    on_ok_weaker c.access.result (λ stands blocks h is st.
    named blocks _ h _ _ read (stands blocks h (is.number x read) st)) c.access.ensures.stands
