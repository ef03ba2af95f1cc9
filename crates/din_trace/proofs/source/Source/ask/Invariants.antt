use Rattle.std.proofs.Common.{◌-◌, ◌≡◌, ◌+◌, ◌++◌, ◌≤◌, List, ℕ, length}
use Rattle.std.specs.Io.KnownBytes.{Consumes}
use Rattle.din_trace.specs.declared.backlog.State.TheVariants as states
use Rattle.din_trace.specs.Text.{Remaining}
use Rattle.din_trace.specs.Remaining.{Script}
use Rattle.din_trace.specs.Backlog.{HasLeft, taken, room}
use Rattle.din_trace.proofs.source.Source.ask.Given as goal

abbrev pub invariant-asks : goal.invariant-asks
invariant-asks g l = record {
  asks : (l.self.backlog.state ≡ states.Reading) × (l.self.backlog.at ≡ l.self.backlog.filled);
  room_less : room l.self.backlog ≤ room l.initial.self.backlog;
  limit_same : l.self.backlog.limit ≡ l.initial.self.backlog.limit;
  failures_same : g.R.ByteReader.failures l.self.reader
      ≡ g.R.ByteReader.failures l.initial.self.reader;
  given : List ℕ;
  consumed : Consumes (g.R.ByteReader.remaining l.initial.self.reader)
      (g.R.ByteReader.remaining l.self.reader) given;
  count : taken l.self.backlog ≡ taken l.initial.self.backlog + length given;
  left_same : (script : Script) (left : Remaining)
      → HasLeft l.initial.self.backlog
      (record { given = given ++ script.given; fails = script.fails }) left
      → HasLeft l.self.backlog script left;
}

abbrev pub decreases-asks : goal.decreases-asks
decreases-asks g l = l.initial.self.backlog.limit + 1 - taken l.self.backlog
