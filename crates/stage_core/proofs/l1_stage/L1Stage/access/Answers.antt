use Rattle.std.proofs.Common.{◌≡◌, ℕ, ◌*◌, ◌/◌, sym, ap, ◌∙◌}
use Rattle.cache_core.specs.declared.access.Access.{Access}
use Rattle.cache_core.specs.declared.access.Outcome.{Outcome}
use Rattle.cache_core.specs.History.{Rules, History, access, block_of}
use Rattle.cache_core.specs.Parts.{outcome_of}
use Rattle.cache_core.specs.Geometry.{bsize_of}
use Rattle.cache_core.specs.Standing.{rules_of}
use Rattle.stage_core.specs.SecondLevel.{access_parts, parts_of}
use Rattle.stage_core.specs.Streams.{answer}
use Rattle.stage_core.specs.Standing.{cache_of, side_of, outbox_of}
use Rattle.stage_core.specs.declared.message.Side.{Side}
use Rattle.stage_core.proofs.l1_stage.L1Stage.access.Goals as goal

by_outcome : (r : Rules) (s : Side) (h : History) (x : Access) (place first : ℕ) (o : Outcome)
    → first ≡ block_of r x * r.bsize → o ≡ outcome_of r h x
    → answer place (access_parts s first x o) ≡ answer place (parts_of r s h (access x))
unfolding parts_of
by_outcome r s h x place first o e f = ap (λ a. answer place (access_parts s a x o)) e
    ∙ ap (λ p. answer place (access_parts s (block_of r x * r.bsize) x p)) f

pub returns-clause-sent : goal.returns-clause-sent
unfolding outbox_of cache_of side_of
returns-clause-sent c = λ h st.
    let old = c.args.self.now in
    c.put_access.ensures ∙ by_outcome (rules_of old.cache)
    old.side h c.args.access c.args.place c.first_byte-first.result c.in_ok-outcome.outcome
    (c.first_byte-first.ensures ∙ ap (λ n. n * bsize_of old.geometry) c.block.ensures
    ∙ ap (λ n. c.args.access.addr / n * n) (sym old.shape))
    (c.in_ok-outcome.ensures.outcome h st)
