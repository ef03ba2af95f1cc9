use Rattle.std.proofs.Common.{◌≡◌, ◌*◌, ◌<◌, true, [], replicate, sym, ap, subst, ◌∙◌, arith}
use Rattle.cache_core.specs.Geometry.{assoc_of, sets_of}
use Rattle.cache_core.specs.Row.{row, dirty_count, empty_way}
use Rattle.cache_core.specs.Sets.{ways_in, has_shape}
use Rattle.cache_core.specs.Standing.{rules_from, rules_held, ways_held}
use Rattle.cache_core.proofs.Charged.{dirty_count-replicate}
use Rattle.cache_core.proofs.Lawful.{sane_of}
use Rattle.cache_core.proofs.Nothing.{rows-none, renewals-start}
use Rattle.cache_core.proofs.Refusals.{at-or}
use Rattle.cache_core.proofs.contents.Contents.new.Goals as goal
use Rattle.cache_core.proofs.contents.Contents.new.Goals.{In_ok-sets}

pub empty_sets-requires-clause-ways : goal.empty_sets-requires-clause-ways
empty_sets-requires-clause-ways c =
    subst (λ n. 0 < n) (sym c.assoc-assoc.ensures) (sane_of c.args.geometry).assoc_pos

pub empty_sets-requires-clause-fits : goal.empty_sets-requires-clause-fits
empty_sets-requires-clause-fits c =
    let fits = (sane_of c.args.geometry).ways_fit in
    rw (c.sets-count.ensures, c.assoc-assoc.ensures) (omega arith)

pub invariant_of-result : goal.invariant_of-result
invariant_of-result c =
    let is : has_shape c.sets-count.result c.assoc-assoc.result c.in_ok-sets.sets ≡ true =
    at-or _ c.empty_sets.result _ c.or.ensures c.in_ok-sets.was c.empty_sets.ensures.shape in
    record { room = rw (c.sets-count.ensures, c.assoc-assoc.ensures) at is }

-- the ways are empty
empty : (c : In_ok-sets) → ways_in c.in_ok-sets.sets
    ≡ replicate (sets_of c.args.geometry * assoc_of c.args.geometry) empty_way
empty c =
    let is : ways_in c.in_ok-sets.sets
    ≡ replicate (c.sets-count.result * c.assoc-assoc.result) empty_way =
    at-or _ c.empty_sets.result _ c.or.ensures c.in_ok-sets.was c.empty_sets.ensures.empty in
    rw (c.sets-count.ensures, c.assoc-assoc.ensures) at is

pub returns-clause-holds : goal.returns-clause-holds
unfolding rules_held ways_held
returns-clause-holds c =
    let r = rules_from c.args.geometry c.args.policy in
    let c₁ = (goal.at.returns-clause-holds c).In_ok-sets in
    record {
      rows = λ t below. ap (row (assoc_of c.args.geometry) t) (empty c₁)
          ∙ rows-none r [] (renewals-start r) t below;
    }

pub returns-clause-clean : goal.returns-clause-clean
unfolding ways_held
returns-clause-clean c =
    ap dirty_count (empty (goal.at.returns-clause-clean c).In_ok-sets) ∙ dirty_count-replicate _
