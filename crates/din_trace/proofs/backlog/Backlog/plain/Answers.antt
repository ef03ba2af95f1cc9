use Rattle.std.proofs.Common.{◌≡◌, ◌+◌, ◌-◌, refl, arith, take, drop}
use Rattle.std.proofs.lemmas.List.{drop-take, drop-drop}
use Rattle.din_trace.specs.Standing as words
use Rattle.din_trace.specs.Backlog.{held}
use Rattle.din_trace.proofs.Backlogs.{reading-left, left-reading}
use Rattle.din_trace.proofs.Passed.{after-plain}
use Rattle.din_trace.proofs.backlog.Backlog.plain.Goals as goal

pub returns-else-count-self-clause-answer : goal.returns-else-count-self-clause-answer
unfolding words.StandsFor words.HasNoFault words.bytes_of words.line_of words.begun_of
returns-else-count-self-clause-answer c script l left =
    let b = c.args.self.now in
    let count = c.in-Some.count in
    let bytes = b.buffer.bytes in
    let size : b.filled - b.at ≡ count + (b.filled - (b.at + count)) =
    omega (arith, c.in-Some.ensures.count.1) in
    let moved : drop count (held b) ≡ take (b.filled - (b.at + count)) (drop (b.at + count) bytes) =
    rw (
      size,
      drop-take count (b.filled - (b.at + count))
          (drop b.at bytes),
      drop-drop count b.at bytes,
    ) refl in
    let after =
    after-plain b.lines c.pass.new.self
    (held b) c.in-Some.record count b.limit script l c.in-Some.ensures.line
    (record {
      empty = c.is_empty.ensures c.if-not-is_empty.false;
      line = c.pass.ensures.line;
      bytes = c.pass.ensures.bytes;
      so_far = c.pass.ensures.so_far;
      fault = c.pass.ensures.fault;
    }) (omega (arith, c.if-count-self.false))
    (reading-left b.state c.requires.reading b.lines (held b) b.limit script l left) in (
      after.0,
      left-reading b.state c.requires.reading c.pass.new.self _ b.limit script _
          (rw moved at after.1),
    )
