use Rattle.std.proofs.Common.{◌∷◌, ap, ◌∙◌}
use Rattle.cache_core.specs.History.{flush}
use Rattle.cache_core.specs.Row.{row, dirty_count}
use Rattle.cache_core.specs.Standing.{rules_from, rules_held, ways_held}
use Rattle.cache_core.proofs.Charged.{dirty_count-replicate}
use Rattle.cache_core.proofs.Nothing.{rows-none, renewals-flush}
use Rattle.cache_core.proofs.contents.Contents.clear.Goals as goal

pub invariant_of-self : goal.invariant_of-self
invariant_of-self c =
    record { room = c.clear_sets.ensures.shape _ _ c.args.self.now.room }

pub returns-clause-holds : goal.returns-clause-holds
unfolding rules_held ways_held
returns-clause-holds c = λ h.
    let old = c.args.self.now in
    let r = rules_from old.geometry old.policy in
    record {
      rows = λ t below. ap (row r.assoc t) (c.clear_sets.ensures.empty r.sets r.assoc old.room)
          ∙ rows-none r (flush ∷ h) (renewals-flush r h) t below;
    }

pub returns-clause-clean : goal.returns-clause-clean
unfolding ways_held
returns-clause-clean c = ap dirty_count (c.clear_sets.ensures.empty _ _ c.args.self.now.room)
    ∙ dirty_count-replicate _
