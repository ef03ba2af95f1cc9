use Rattle.std.proofs.Common.{subst}
use Rattle.std.proofs.lemmas.Result.{on_ok_weaker}
use Rattle.std.specs.List.{All}
use Rattle.grid_run.specs.Numbering.{IsNumbered}
use Rattle.grid_run.specs.SecondCaches.{second_bsize}
use Rattle.grid_run.specs.Sending.{SecondServed}
use Rattle.grid_run.specs.declared.second_caches.SecondCaches.{SecondCaches}
use Rattle.grid_run.proofs.second_caches.SecondCaches.serve_each.Goals as goal

pub returns-in-Twins-clause-served : goal.returns-in-Twins-clause-served
returns-in-Twins-clause-served c =
    let is = c.in-Twins.is in
    on_ok_weaker c.serve_twins.result (λ served blocks ws all st.
    served blocks ws
    (subst (λ (u : SecondCaches). All (IsNumbered blocks (second_bsize u)) c.args.requests.now)
    is all)
    (subst (SecondServed blocks ws) is st)) c.serve_twins.ensures.served

pub returns-in-Family-clause-served : goal.returns-in-Family-clause-served
returns-in-Family-clause-served c =
    let is = c.in-Family.is in
    on_ok_weaker c.serve_together.result (λ served blocks ws all st.
    served blocks ws
    (subst (λ (u : SecondCaches). All (IsNumbered blocks (second_bsize u)) c.args.requests.now)
    is all)
    (subst (SecondServed blocks ws) is st)) c.serve_together.ensures.served
