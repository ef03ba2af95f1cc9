use Rattle.std.proofs.Common.{List, ap, sym, subst, ◌∙◌}
use Rattle.cache_core.specs.Counts.{counts_of}
use Rattle.cache_core.specs.History.{Rules}
use Rattle.din_trace.specs.declared.record.DinRecord.{DinRecord}
use Rattle.stage_core.specs.SecondLevel.{Hierarchy, Parts, second_history, totals}
use Rattle.stage_core.specs.Streams.{taken_in}
use Rattle.stage_core.specs.Config.{hierarchy_of}
use Rattle.stage_core.specs.Network.{IsFinished, Network}
use Rattle.stage_core.specs.Network.Cores.{CoreState, Sound, network_of, parts_for}
use Rattle.stage_core.specs.declared.message.Side.TheVariants as side
use Rattle.stage_core.specs.declared.message.What.{What}
use Rattle.stage_core.proofs.Messages.{taken_in-to_side}
use Rattle.stage_core.proofs.network.Schedules.{given-done, to-done}
use Rattle.stage_core.proofs.network.Core.totals.Goals as goal

pub returns : goal.returns
returns c =
    let core = c.self.inside in
    let sound : Sound core =
    c.self.invariant (ap (λ (v : CoreState). v.failed) c.self.view_is ∙ c.requires.works) in
    let finished : IsFinished (network_of core) =
    subst (λ (v : CoreState). IsFinished v.network) (sym c.self.view_is) c.requires.finished in
    let h : Hierarchy = hierarchy_of core.config in
    let es : List DinRecord = core.events.items in
    let parts : Parts = parts_for core.config in
    let n : Network = network_of core in
    let i = c.counts.ensures.counted core.i.to.popped sound.caches.i.stands
    ∙ ap (λ (r : Rules). counts_of r (taken_in core.i.to.popped)) sound.caches.i.same_rules
    ∙ ap (counts_of h.i) (ap taken_in (to-done parts es n sound.consistent finished side.I)
    ∙ taken_in-to_side side.I es) in
    let d = c.counts-2.ensures.counted core.d.to.popped sound.caches.d.stands
    ∙ ap (λ (r : Rules). counts_of r (taken_in core.d.to.popped)) sound.caches.d.same_rules
    ∙ ap (counts_of h.d) (ap taken_in (to-done parts es n sound.consistent finished side.D)
    ∙ taken_in-to_side side.D es) in
    let u = c.counts-3.ensures.counted n.given sound.caches.u
    ∙ ap (λ (r : Rules). counts_of r (second_history n.given)) sound.caches.u_rules
    ∙ ap (λ (ws : List What). counts_of h.u (second_history ws))
    (given-done parts es n sound.consistent finished) in
    let view = ap (λ (v : CoreState). totals (hierarchy_of v.config) v.events) c.self.view_is in
    cc
