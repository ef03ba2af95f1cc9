use Rattle.std.proofs.Common.{◌≡◌, ◌∷◌, length, sym, subst, arith}
use Rattle.grid_run.specs.Fronts.{FrontAt, HasSent}
use Rattle.grid_run.specs.Sending.{event_of}
use Rattle.grid_run.specs.declared.requests.Request.{Request}
use Rattle.grid_run.proofs.Growing.{only-changed}
use Rattle.grid_run.proofs.fronts.serve_again.Goals as goal

pub returns-clause-stands : goal.returns-clause-stands
returns-clause-stands c = λ e blocks h all.
    let items = c.args.fronts.now.items in
    let new = c.again.new.self in
    let one : length items ≡ 1 =
    omega (arith, c.len.ensures, c.if-len-ne1.false, c.args.fronts.now.ok.0) in
    let old = subst (FrontAt blocks h) (sym c.index_mut.ensures.value)
    (all 0 _ (omega (arith, one))) in
    only-changed (FrontAt blocks (event_of c.args.request ∷ h)) items new one
    (subst (λ (q : Request). FrontAt blocks (event_of q ∷ h) new) (sym c.in-Access.is)
    (c.again.ensures.stands e blocks h old))

pub returns-clause-sent : goal.returns-clause-sent
returns-clause-sent c = λ e blocks h all.
    let items = c.args.fronts.now.items in
    let new = c.again.new.self in
    let one : length items ≡ 1 =
    omega (arith, c.len.ensures, c.if-len-ne1.false, c.args.fronts.now.ok.0) in
    let old = subst (FrontAt blocks h) (sym c.index_mut.ensures.value)
    (all 0 _ (omega (arith, one))) in
    only-changed (HasSent h c.args.request) items new one
    (subst (λ (q : Request). HasSent h q new) (sym c.in-Access.is)
    (c.again.ensures.last e blocks h old))
