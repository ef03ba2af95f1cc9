use Rattle.std.proofs.Common.{ap, ◌∙◌}
use Rattle.cache_core.specs.Counts.{counts_of}
use Rattle.cache_core.specs.Standing.{rules_of}
use Rattle.stage_core.specs.Places.{flat_map_with_past}
use Rattle.stage_core.specs.SecondLevel.{parts_in, second_level_requests}
use Rattle.stage_core.specs.Streams.{messages_to}
use Rattle.stage_core.specs.Standing.{cache_of}
use Rattle.stage_core.specs.Plain.{hierarchy_in}
use Rattle.stage_core.specs.declared.message.Side.TheVariants as side
use Rattle.stage_core.proofs.Messages.{taken_in-messages_to}
use Rattle.stage_core.proofs.plain.Machines.totals.Goals as goal

pub returns : goal.returns
returns c = λ es ran.
    let m = c.args.self.now in
    let i = c.counts.ensures.counted (flat_map_with_past (messages_to side.I) es) ran.i.stands
    ∙ ap (counts_of (rules_of (cache_of m.i))) (taken_in-messages_to side.I es) in
    let d = c.counts-2.ensures.counted (flat_map_with_past (messages_to side.D) es) ran.d.stands
    ∙ ap (counts_of (rules_of (cache_of m.d))) (taken_in-messages_to side.D es) in
    let u = c.counts-3.ensures.counted (second_level_requests (parts_in (hierarchy_in m)) es)
    ran.u in
    cc
