-- The event list that a selection makes of a trace, and the requests of an event to each side.
use Rattle.std.specs.Prelude.{◌≡◌, ◌≤◌, ◌^◌, Some, None, option_to_list, ℕ, ◌+◌, ◌-◌, ◌%◌, Bool}
use Rattle.std.specs.Prelude.{true, false, not, ◌==◌, ◌&&◌, ◌||◌, nat_lt, nat_le, List, [], ◌∷◌}
use Rattle.std.specs.Prelude.{◌++◌, count_by, reverse, if◌then◌else◌}
use Rattle.std.specs.List.{flat_map}
use Rattle.din_trace.specs.declared.record.DinRecord.{DinRecord}
use Rattle.din_trace.specs.declared.record.Label.{Label}
use Rattle.din_trace.specs.declared.record.Label.TheVariants as label
use Rattle.cache_core.specs.declared.access.Class.{Class}
use Rattle.cache_core.specs.declared.access.Class.TheVariants as class
use Rattle.cache_core.specs.History.{Event, access, flush, History}
use Rattle.stage_core.specs.Places.{flat_map_with_past, list_if}
use Rattle.stage_core.specs.declared.message.Side.{Side}
use Rattle.stage_core.specs.declared.message.Side.TheVariants as side
use Rattle.stage_core.specs.declared.selection.Selection.{Selection}
use Rattle.stage_core.specs.declared.selection.Picked.{Picked}

-- the numbers of a selection are at most 2 ^ 40
pub record IsBounded (s : Selection) : Type 0 where
  pub skip : s.skip ≤ 2 ^ 40
  pub max : s.max ≤ 2 ^ 40
  pub every : s.every ≤ 2 ^ 40

-- the selection leaves nothing out, and puts nothing in
pub record TakesAll (s : Selection) : Type 0 where
  pub skip : s.skip ≡ 0
  pub max : s.max ≡ 0
  pub every : s.every ≡ 0

-- is it the label of a flush record?
abbrev pub is_flush_label : Label → Bool
is_flush_label label.Read = false
is_flush_label label.Write = false
is_flush_label label.Instr = false
is_flush_label label.Misc = false
is_flush_label label.Flush = true

-- a reference is a record that is not a flush
abbrev pub is_reference : DinRecord → Bool
is_reference x = not (is_flush_label x.label)

-- is reference number r (from 1, flushes not counted) selected? If max is 0, there is no bound.
abbrev pub is_selected_reference : Selection → ℕ → Bool
is_selected_reference s r = nat_lt s.skip r && (s.max == 0 || nat_le r (s.skip + s.max))

-- is a flush record selected that comes after r references?
abbrev pub is_selected_flush : Selection → ℕ → Bool
is_selected_flush s r = nat_le s.skip r && (s.max == 0 || nat_lt r (s.skip + s.max))

-- is the record x selected, if r references come up to and including x?
abbrev pub is_selected : Selection → ℕ → DinRecord → Bool
is_selected s r x = if is_reference x then is_selected_reference s r else is_selected_flush s r

-- is a flush inserted after the selected record x? One comes after each selected reference whose
-- number, counted from the first selected one, is a multiple of `every`; none if `every` is 0.
abbrev pub flush_follows : Selection → ℕ → DinRecord → Bool
flush_follows s r x = is_reference x && (nat_lt 0 s.every && ((r - s.skip) % s.every == 0))

-- the flush that a selection inserts
abbrev pub inserted_flush : DinRecord
inserted_flush = record { label = label.Flush; addr = 0 }

-- what the selection makes of the record x, if r references come up to and including x
abbrev pub picked : Selection → ℕ → DinRecord → Picked
picked s r x = record {
  event = if is_selected s r x then Some x else None;
  flush = is_selected s r x && flush_follows s r x;
}

-- the events of one record: the record if it is selected, and then the inserted flush, if any
abbrev pub picked_events : Picked → List DinRecord
picked_events p = option_to_list p.event ++ list_if p.flush inserted_flush

-- the events of the record x, which comes after the records `before`
abbrev pub events_at : Selection → List DinRecord → DinRecord → List DinRecord
events_at s before x = picked_events (picked s (count_by is_reference (before ++ x ∷ [])) x)

-- the event list of a trace; the place of an event is its number in this list, counted from 1
abbrev pub events : Selection → List DinRecord → List DinRecord
events s records = flat_map_with_past (events_at s) records

-- an access of this class to this address
abbrev pub access_of : Class → ℕ → Event
access_of c a = access record { class = c; addr = a }

-- the requests of an event with this label and address to the cache of a side: one access, one
-- flush, or nothing if the event does not concern that side
abbrev pub asked_by : Side → Label → ℕ → List Event
asked_by side.I label.Instr a = access_of class.Instr a ∷ []
asked_by side.I label.Flush a = flush ∷ []
asked_by side.I label.Read a = []
asked_by side.I label.Write a = []
asked_by side.I label.Misc a = []
asked_by side.D label.Read a = access_of class.Read a ∷ []
asked_by side.D label.Write a = access_of class.Write a ∷ []
asked_by side.D label.Misc a = access_of class.Misc a ∷ []
asked_by side.D label.Flush a = flush ∷ []
asked_by side.D label.Instr a = []

-- the requests of an event to the cache of a side
abbrev pub asked : Side → DinRecord → List Event
asked side e = asked_by side e.label e.addr

-- a history has the newest request first, and a trace the oldest: this turns the order around
abbrev pub newest_first : List Event → History
newest_first xs = reverse xs

-- the history of a side's cache for an event list
abbrev pub history : Side → List DinRecord → History
history side events = newest_first (flat_map (asked side) events)
