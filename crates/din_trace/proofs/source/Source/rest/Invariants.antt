use Rattle.std.proofs.Common.{◌≡◌, ◌++◌, ◌+◌, ◌≤◌, List, ℕ, vec_len}
use Rattle.din_trace.specs.Text.{Remaining}
use Rattle.din_trace.specs.Remaining.{Script, Fate, Follows}
use Rattle.din_trace.specs.Source.{HasLeft, IsSettled, reader_of, room_of, limit_of, Takes}
use Rattle.din_trace.proofs.source.Source.rest.Given as goal

abbrev pub invariant-records : goal.invariant-records
invariant-records g l = record {
  at_most : vec_len l.records + room_of l.self ≤ room_of l.initial.self;
  limit_same : limit_of l.self ≡ limit_of l.initial.self;
  no_failure : g.R.ByteReader.failures (reader_of l.self)
      ≡ g.R.ByteReader.failures (reader_of l.initial.self);
  settled : IsSettled l.initial.self → l.self ≡ l.initial.self;
  given : List ℕ;
  fate : Fate;
  went : Takes g.R.ByteReader.remaining g.R.ByteReader.failures l.initial.self l.self given fate;
  left : (first last : Script) (before : Remaining) → Follows fate given first last
      → HasLeft l.initial.self first before
      → (more : Remaining)
      × (before ≡ record { records = l.records.items ++ more.records; fault = more.fault })
      × HasLeft l.self last more;
}

abbrev pub decreases-records : goal.decreases-records
decreases-records g l = room_of l.self
