use Rattle.std.proofs.Common.{◌≤◌, ◌^◌, arith}
use Rattle.cache_core.specs.declared.contents.Contents.{Contents}
use Rattle.cache_core.specs.Row.{dirty_count}
use Rattle.cache_core.specs.Geometry.{assoc_of, sets_of}
use Rattle.cache_core.specs.Sets.{ways_in}
use Rattle.cache_core.specs.Standing.{rules_held, ways_held}
use Rattle.cache_core.proofs.Lawful.{sane_of}
use Rattle.cache_core.proofs.Charged.{dirty_count-filter, dirty_count-le}
use Rattle.cache_core.proofs.Flat.{length-ways_in}
use Rattle.cache_core.proofs.FlushStep.{flush-list}
use Rattle.cache_core.proofs.Refusals.{ok-or}
use Rattle.cache_core.proofs.contents.Contents.dirty.Goals as goal

pub returns-clause-list : goal.returns-clause-list
unfolding rules_held ways_held
returns-clause-list c =
    let self = c.args.self.now in
    ok-or _ c.dirty_block_addrs.result _ c.or.ensures c.dirty_block_addrs.ensures.block_addrs
    (λ list made h st. flush-list self.geometry self.policy h (ways_in self.sets)
    (length-ways_in (sets_of self.geometry) (assoc_of self.geometry) self.sets self.room) st.rows
    list.items made)

pub returns-clause-at_most : goal.returns-clause-at_most
unfolding ways_held
returns-clause-at_most c =
    let count = dirty_count-filter (ways_in c.args.self.now.sets) in
    ok-or _ c.dirty_block_addrs.result _ c.or.ensures c.dirty_block_addrs.ensures.at_most
    (λ list few. let long = list.ok.0 in omega arith)

-- the ways are few, and so are the dirty ones
few : (self : Contents) → dirty_count (ways_in self.sets) ≤ 2 ^ 24
few self =
    let fit = (sane_of self.geometry).ways_fit in
    let room = length-ways_in (sets_of self.geometry) (assoc_of self.geometry) self.sets self.room
    in
    let le = dirty_count-le (ways_in self.sets) in
    omega arith

pub returns-clause-few : goal.returns-clause-few
unfolding ways_held
returns-clause-few c = few c.args.self.now
