-- Fetches that follow one another.
use Rattle.std.specs.Prelude.{◌≡◌, List, []}
use Rattle.cache_core.specs.History.{Rules}
use Rattle.din_trace.specs.declared.record.DinRecord.{DinRecord}
use Rattle.stage_core.specs.Events.{asked}
use Rattle.stage_core.specs.Places.{flat_map_after}
use Rattle.stage_core.specs.SecondLevel.{parts_of, sent_up}
use Rattle.stage_core.specs.declared.message.Side.TheVariants as side
use Rattle.stage_core.specs.declared.message.What.{What}

-- the event asks nothing of the data caches
abbrev pub AsksNoData : DinRecord → Type 0
AsksNoData e = asked side.D e ≡ []

-- what an instruction cache sends for the events `more`, which come after the events es
abbrev pub fetched : Rules → List DinRecord → List DinRecord → List What
fetched r es more = flat_map_after (sent_up (parts_of r) side.I) es more
