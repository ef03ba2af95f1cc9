use Rattle.std.proofs.Common.{ap, ◌∙◌}
use Rattle.cache_core.specs.Row.{outcome_made}
use Rattle.cache_core.specs.Standing.{rules_from, rules_held}
use Rattle.cache_core.specs.History.{is_write}
use Rattle.cache_core.specs.Parts.{outcome_of}
use Rattle.cache_core.proofs.Steps.{outcome-is}
use Rattle.cache_core.proofs.contents.Contents.outcome.Goals as goal

pub returns-clause-is : goal.returns-clause-is
unfolding rules_held
returns-clause-is c = λ h served known.
    let old = c.args.self.now in
    let p = old.policy in
    let r = rules_from old.geometry p in
    let x = c.args.access in
    let o = outcome_of r h x in
    let answer = c.args.served in
    let prior = c.args.prior in
    c.outcome_from.ensures
    ∙ ap (λ w. outcome_made p.wback p.walloc w answer.hit answer.back prior.referenced
    prior.in_shadow) c.writes.ensures
    ∙ ap (λ t. outcome_made p.wback p.walloc (is_write x) t answer.back prior.referenced
    prior.in_shadow) served.hit
    ∙ ap (λ t. outcome_made p.wback p.walloc (is_write x) o.hit t prior.referenced
    prior.in_shadow) served.back
    ∙ ap (λ t. outcome_made p.wback p.walloc (is_write x) o.hit o.back t prior.in_shadow)
    known.referenced
    ∙ ap (outcome_made p.wback p.walloc (is_write x) o.hit o.back _) known.in_shadow
    ∙ outcome-is r h x
