-- Examples of the definitions: the streams and counts of small traces, worked out by hand.
use Rattle.std.specs.Prelude.{◌≡◌, ℕ, ◌*◌, true, false, List, [], ◌∷◌}
use Rattle.cache_core.specs.declared.access.Class.TheVariants as class
use Rattle.cache_core.specs.History.{Rules, flush}
use Rattle.din_trace.specs.declared.record.DinRecord.{DinRecord}
use Rattle.din_trace.specs.declared.record.Label.{Label}
use Rattle.din_trace.specs.declared.record.Label.TheVariants as label
use Rattle.stage_core.specs.Events.{access_of, events}
use Rattle.stage_core.specs.SecondLevel.{Hierarchy, parts_in, second_level_requests}
use Rattle.stage_core.specs.SecondLevel.{second_history, totals}
use Rattle.stage_core.specs.Streams.{order, to_side, from_side}
use Rattle.stage_core.specs.Network.{messages}
use Rattle.stage_core.specs.declared.message.Side.TheVariants as side
use Rattle.stage_core.specs.declared.message.What.TheVariants as what
use Rattle.stage_core.specs.declared.message.Turn.TheVariants as turn
use Rattle.stage_core.specs.declared.message.ToStage.TheVariants as to_stage
use Rattle.stage_core.specs.declared.message.FromStage.TheVariants as from_stage

-- an LRU cache with write back and write allocation
abbrev lru : ℕ → ℕ → ℕ → Rules
lru bsize sets assoc = record {
  bsize = bsize;
  sets = sets;
  assoc = assoc;
  blocks = sets * assoc;
  fifo = false;
  wback = true;
  walloc = true;
}

-- size, block size and ways: I 16/4/1, D 16/4/2 and U 32/8/2
abbrev small : Hierarchy
small = record { i = lru 4 4 1; d = lru 4 2 2; u = lru 8 2 2 }

-- a record with this label and address
abbrev at_label : Label → ℕ → DinRecord
at_label l a = record { label = l; addr = a }

-- a write, and two reads, the second of which evicts the written block
abbrev victim_trace : List DinRecord
victim_trace = at_label label.Write 0 ∷ at_label label.Read 8 ∷ at_label label.Read 16 ∷ []

-- two writes and a flush
abbrev flush_trace : List DinRecord
flush_trace = at_label label.Write 8 ∷ at_label label.Write 0 ∷ at_label label.Flush 0 ∷ []

-- the same caches, but for a data cache that writes through
abbrev through : Hierarchy
through = record { i = lru 4 4 1; d = record (lru 4 2 2) { wback = false }; u = lru 8 2 2 }

-- two writes to one block
abbrev through_trace : List DinRecord
through_trace = at_label label.Write 2 ∷ at_label label.Write 2 ∷ []

-- a fetch
abbrev fetch_trace : List DinRecord
fetch_trace = at_label label.Instr 6 ∷ []

-- three fetches, and a flush before, behind and between any two of them
abbrev part_trace : List DinRecord
part_trace = at_label label.Flush 0 ∷ at_label label.Instr 0 ∷ at_label label.Flush 1
    ∷ at_label label.Instr 4 ∷ at_label label.Flush 2 ∷ at_label label.Instr 8
    ∷ at_label label.Flush 3 ∷ []

-- the streams and counts of these traces, worked out by hand
pub record WorkedExamples : Type 0 where
  pub order_victim : order victim_trace ≡ turn.D ∷ turn.D ∷ turn.D ∷ turn.Finish ∷ []
  pub to_d_victim : to_side side.D victim_trace
      ≡ to_stage.Ref 1 class.Write 0
      ∷ to_stage.Ref 2 class.Read 8
      ∷ to_stage.Ref 3 class.Read 16
      ∷ to_stage.Finish ∷ []
  pub from_d_victim : from_side (parts_in small) side.D victim_trace
      ≡ from_stage.Part 1 1 (what.Fetch class.Read 0) ∷ from_stage.Done 1 1
      ∷ from_stage.Part 2 1 (what.Fetch class.Read 8) ∷ from_stage.Done 2 1
      ∷ from_stage.Part 3 1 (what.Back 0) ∷ from_stage.Part 3 2 (what.Fetch class.Read 16)
      ∷ from_stage.Done 3 2
      ∷ from_stage.Finish ∷ []
  -- the history of the second level, the newest request first
  pub second_victim : second_history (second_level_requests (parts_in small) victim_trace)
      ≡ access_of class.Read 16 ∷ access_of class.Write 0 ∷ access_of class.Read 8
      ∷ access_of class.Read 0 ∷ []
  pub misses_victim : (totals small victim_trace).u.misses
      ≡ record { instr = 0; read = 3; write = 0; misc = 0 }
  -- the number of messages in all five streams
  pub messages_victim : messages (parts_in small) victim_trace ≡ 18
  pub order_flush : order flush_trace ≡ turn.D ∷ turn.D ∷ turn.Both ∷ turn.Finish ∷ []
  pub to_i_flush : to_side side.I flush_trace ≡ to_stage.Flush 3 ∷ to_stage.Finish ∷ []
  pub from_i_flush : from_side (parts_in small) side.I flush_trace ≡ from_stage.Done 3 0
      ∷ from_stage.Finish ∷ []
  pub from_d_flush : from_side (parts_in small) side.D flush_trace
      ≡ from_stage.Part 1 1 (what.Fetch class.Read 8) ∷ from_stage.Done 1 1
      ∷ from_stage.Part 2 1 (what.Fetch class.Read 0) ∷ from_stage.Done 2 1
      ∷ from_stage.Part 3 1 (what.Back 0) ∷ from_stage.Part 3 2 (what.Back 8)
      ∷ from_stage.Part 3 3 what.FlushAll ∷ from_stage.Done 3 3
      ∷ from_stage.Finish ∷ []
  pub second_flush : second_history (second_level_requests (parts_in small) flush_trace)
      ≡ flush
      ∷ access_of class.Write 8
      ∷ access_of class.Write 0
      ∷ access_of class.Read 0
      ∷ access_of class.Read 8 ∷ []
  pub messages_flush : messages (parts_in small) flush_trace ≡ 21
  pub backs_flush : (totals small flush_trace).u.written_back ≡ 2
  -- the second write finds its block, and is sent on alone
  pub from_d_through : from_side (parts_in through) side.D through_trace
      ≡ from_stage.Part 1 1 (what.Fetch class.Read 0) ∷ from_stage.Part 1 2 (what.Through 2)
      ∷ from_stage.Done 1 2
      ∷ from_stage.Part 2 1 (what.Through 2) ∷ from_stage.Done 2 1
      ∷ from_stage.Finish ∷ []
  -- a fetch of the program is one at the second level, too
  pub from_i_fetch : from_side (parts_in small) side.I fetch_trace
      ≡ from_stage.Part 1 1 (what.Fetch class.Instr 4) ∷ from_stage.Done 1 1
      ∷ from_stage.Finish ∷ []
  pub second_fetch : second_history (second_level_requests (parts_in small) fetch_trace)
      ≡ access_of class.Instr 4 ∷ []
  -- for an empty trace, each ring carries only `Finish`
  pub messages_none : messages (parts_in small) [] ≡ 5
  -- a flush is inserted after every second reference
  pub put_in : events record { skip = 0; max = 0; every = 2 } victim_trace
      ≡ at_label label.Write 0 ∷ at_label label.Read 8 ∷ at_label label.Flush 0
      ∷ at_label label.Read 16 ∷ []
  -- of a part of one reference behind the first, the flush before it is kept, and the one behind it
  -- is left out
  pub one_behind_one : events record { skip = 1; max = 1; every = 0 } part_trace
      ≡ at_label label.Flush 1 ∷ at_label label.Instr 4 ∷ []
  -- without a bound, all that comes behind is kept
  pub all_behind_two : events record { skip = 2; max = 0; every = 0 } part_trace
      ≡ at_label label.Flush 2 ∷ at_label label.Instr 8 ∷ at_label label.Flush 3 ∷ []
