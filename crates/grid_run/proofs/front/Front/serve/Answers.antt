use Rattle.std.proofs.Common.{◌∷◌, sym, subst}
use Rattle.std.proofs.lemmas.Result.{on_ok_weaker}
use Rattle.grid_core.specs.Numbered.{blocks_in}
use Rattle.grid_run.specs.Fronts.{FrontAt}
use Rattle.grid_run.specs.Sending.{event_of}
use Rattle.grid_run.specs.declared.requests.Request.{Request}
use Rattle.grid_run.proofs.front.Front.serve.Goals as goal

pub returns-in-Access-clause-stands : goal.returns-in-Access-clause-stands
returns-in-Access-clause-stands c =
    let new = c.serve_access.new.self in
    let blocks = blocks_in c.serve_access.new.numbers in
    on_ok_weaker c.serve_access.result (λ stands h at.
    subst (λ (q : Request). FrontAt blocks (event_of q ∷ h) new) (sym c.in-Access.is)
    (stands h at)) c.serve_access.ensures.stands
