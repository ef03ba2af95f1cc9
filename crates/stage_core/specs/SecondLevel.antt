-- What the first level sends to the second level, and the counts of all three caches.
use Rattle.std.specs.Prelude.{ℕ, ◌*◌, List, [], ◌∷◌, ◌++◌, map, option_to_list}
use Rattle.std.specs.List.{flat_map}
use Rattle.din_trace.specs.declared.record.DinRecord.{DinRecord}
use Rattle.cache_core.specs.declared.access.Access.{Access}
use Rattle.cache_core.specs.declared.access.Class.{Class}
use Rattle.cache_core.specs.declared.access.Class.TheVariants as class
use Rattle.cache_core.specs.declared.access.Outcome.{Outcome}
use Rattle.cache_core.specs.History.{Rules, History, Event, access, flush, block_of}
use Rattle.cache_core.specs.Dirty.{dirty_blocks}
use Rattle.cache_core.specs.Parts.{outcome_of}
use Rattle.cache_core.specs.Counts.{counts_of}
use Rattle.stage_core.specs.Places.{flat_map_with_past, list_if}
use Rattle.stage_core.specs.Events.{access_of, asked, newest_first, history}
use Rattle.stage_core.specs.declared.message.Side.{Side}
use Rattle.stage_core.specs.declared.message.Side.TheVariants as side
use Rattle.stage_core.specs.declared.message.What.{What}
use Rattle.stage_core.specs.declared.message.What.TheVariants as what
use Rattle.stage_core.specs.declared.totals.Totals.{Totals}

-- the write-back of the block that begins at this byte
abbrev pub back : ℕ → What
back a = what.Back a

-- the class of a fetch at the second level: an instruction fetch from I, a read from D
abbrev pub fetch_class : Side → Class
fetch_class side.I = class.Instr
fetch_class side.D = class.Read

-- the parts of an access with this outcome, whose block begins at the byte `first`: the write-back
-- of a dirty victim, the fetch of the block, and the write sent on, each if it occurs
abbrev pub access_parts : Side → ℕ → Access → Outcome → List What
access_parts s first x o =
    map back (option_to_list o.back)
    ++ list_if o.fetch (what.Fetch (fetch_class s) first)
    ++ list_if o.through (what.Through x.addr)

-- a flush event flushes the second level once, after D's write-backs
abbrev pub flush_all : Side → List What
flush_all side.I = []
flush_all side.D = what.FlushAll ∷ []

-- the parts of a request to a side's cache after a history; a flush writes the dirty blocks back in
-- rising order
unfoldable pub parts_of : Rules → Side → History → Event → List What
parts_of r s h (access x) = access_parts s (block_of r x * r.bsize) x (outcome_of r h x)
parts_of r s h flush = map back (map (λ b. b * r.bsize) (dirty_blocks r h)) ++ flush_all s

-- the shapes and policies of the three caches
pub record Hierarchy : Type 0 where
  pub i : Rules
  pub d : Rules
  pub u : Rules

-- the rules of a side's cache
abbrev pub rules_at : Hierarchy → Side → Rules
rules_at c side.I = c.i
rules_at c side.D = c.d

-- what a first level sends for a request to a side's cache, after a history
abbrev pub Parts : Type 0
Parts = Side → History → Event → List What

-- what the first level of this hierarchy sends
abbrev pub parts_in : Hierarchy → Parts
parts_in c s h e = parts_of (rules_at c s) s h e

-- what a side sends to the second level for the event e, which comes after the events `before`
abbrev pub sent_up : Parts → Side → List DinRecord → DinRecord → List What
sent_up parts side before e = flat_map (parts side (history side before)) (asked side e)

-- all requests to the second level, in the order of the events; for each event I's, then D's
abbrev pub second_level_requests : Parts → List DinRecord → List What
second_level_requests parts events =
    flat_map_with_past (λ before e. sent_up parts side.I before e ++ sent_up parts side.D before e)
    events

-- the access or the flush that a request is at the second level
abbrev pub read_as : What → Event
read_as (what.Back a) = access_of class.Write a
read_as (what.Fetch c a) = access_of c a
read_as (what.Through a) = access_of class.Write a
read_as what.FlushAll = flush

-- the history of the second level's cache after these requests
abbrev pub second_history : List What → History
second_history ws = newest_first (map read_as ws)

-- the counts of the three caches over a whole event list
abbrev pub totals : Hierarchy → List DinRecord → Totals
totals c events = record {
  i = counts_of c.i (history side.I events);
  d = counts_of c.d (history side.D events);
  u = counts_of c.u (second_history (second_level_requests (parts_in c) events));
}
