use Rattle.std.proofs.Common.{◌≡◌, ◌<◌, ◌∷◌, [], List, length, subst, sym, ◌∙◌}
use Rattle.cache_core.specs.History.{History, Rules}
use Rattle.grid_core.specs.Written.{rules_at_index}
use Rattle.stage_core.specs.Events.{asked, history}
use Rattle.stage_core.specs.SecondLevel.{parts_of, sent_up}
use Rattle.stage_core.specs.declared.message.Side.TheVariants as side
use Rattle.grid_run.specs.Fronts.{FrontAt, front_rules}
use Rattle.grid_run.specs.Sending.{event_of}
use Rattle.grid_run.specs.declared.requests.Request.{Request}
use Rattle.grid_run.specs.declared.requests.Request.TheVariants as request
use Rattle.grid_run.proofs.Events.{few-served, history-one, sent-one}
use Rattle.grid_run.proofs.Fetching.{asks-no-data}
use Rattle.grid_run.proofs.Sent.{sent-by-silent}
use Rattle.grid_run.proofs.fetches.fetch_once.Goals as goal

-- the access is all that the record asks of the instruction caches
asks-it : (c : goal.After-again)
    → event_of (request.Access c.in-Some-Access.fetch) ∷ [] ≡ asked side.I c.args.next
asks-it c = subst (λ (q : Request). event_of q ∷ [] ≡ asked side.I c.args.next)
    c.in-Some-Access.field-0-is c.in-Some-Access.ensures

pub again-requires : goal.again-requires
again-requires c =
    let room = c.requires.room in
    record { room = (room.0, history side.I room.1, room.2, few-served side.I room.1 room.3) }

pub returns-clause-stands : goal.returns-clause-stands
returns-clause-stands c = λ yes blocks es at.
    subst (λ (h : History). FrontAt blocks h c.again.new.self)
    (history-one side.I es c.args.next (request.Access c.in-Some-Access.fetch) (asks-it c))
    (c.again.ensures.stands yes blocks (history side.I es) at)

pub returns-clause-silent : goal.returns-clause-silent
returns-clause-silent c =
    let e = c.args.next in
    let fetch = request.Access c.in-Some-Access.fetch in
    λ yes blocks es at cell.
    subst (λ (rs : List Rules). cell < length rs
    → sent_up (parts_of (rules_at_index rs cell)) side.I es e ≡ [])
    c.again.ensures.rules
    (λ inside.
    sym (sent-one side.I es e (rules_at_index (front_rules c.again.new.self) cell) fetch
    (asks-it c))
    ∙ sent-by-silent c.again.new.self (history side.I es) cell side.I fetch inside
    (c.again.ensures.silent yes)
    (c.again.ensures.last yes blocks (history side.I es) at))

pub returns-clause-no_data : goal.returns-clause-no_data
returns-clause-no_data c = λ yes.
    asks-no-data c.args.next.label c.args.next.addr c.in-Some-Access.fetch (asks-it c)
