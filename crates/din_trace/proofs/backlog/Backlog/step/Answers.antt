use Rattle.std.proofs.Common.{◌+◌, ◌-◌, refl, sym, arith, take, drop, get_or}
use Rattle.din_trace.specs.Text.{Remaining}
use Rattle.din_trace.specs.Remaining.{Script}
use Rattle.din_trace.specs.Standing as words
use Rattle.din_trace.specs.Backlog.{HasLeft, held}
use Rattle.din_trace.proofs.Backlogs.{AfterByte, after-byte, after-past, held-first}
use Rattle.din_trace.proofs.Backlogs.{none_from_sound, reading-left, left-reading}
use Rattle.din_trace.proofs.backlog.Backlog.step.Goals as goal
use Rattle.din_trace.proofs.backlog.Backlog.step.Goals.{After-byte}

-- what is left after the byte
after : (c : After-byte) (script : Script) (l : Remaining) → HasLeft c.args.self.now script l
    → AfterByte c.byte.new.self
    (take (c.args.self.now.filled - (c.args.self.now.at + 1))
    (drop
    (c.args.self.now.at + 1) c.args.self.now.buffer.bytes)) c.args.self.now.limit script l
    c.byte.result
unfolding words.StandsFor words.HasNoFault words.bytes_of words.line_of words.begun_of
after c script l left =
    let b = c.args.self.now in
    let first = held-first b.buffer.bytes b.at b.filled c.requires.some (omega arith) in
    let unfaulted = none_from_sound b.state b.lines.fault c.requires.reading b.sound in
    after-byte b.lines c.byte.new.self
    (take (b.filled - (b.at + 1)) (drop (b.at + 1) b.buffer.bytes))
    b.limit c.byte.result (omega arith) (c.byte.ensures.counted unfaulted)
    (get_or b.buffer.bytes b.at 0) c.byte.ensures.inside c.byte.ensures.ends script l
    (rw first at (reading-left b.state c.requires.reading b.lines (held b) b.limit script l left))

pub returns-then-bytes-self-clause-answer : goal.returns-then-bytes-self-clause-answer
unfolding words.StandsFor words.HasNoFault words.bytes_of words.line_of words.begun_of
returns-then-bytes-self-clause-answer c script l left =
    let b = c.args.self.now in
    let first = held-first b.buffer.bytes b.at b.filled c.requires.some (omega arith) in
    let is = after-past b.lines (get_or b.buffer.bytes b.at 0)
    (take (b.filled - (b.at + 1)) (drop (b.at + 1) b.buffer.bytes)) b.limit script l
    (omega arith)
    (rw first at
    (reading-left b.state c.requires.reading b.lines (held b) b.limit script l left)) in
    rw is (refl, refl)

pub returns-in-None-clause-goes_on : goal.returns-in-None-clause-goes_on
unfolding words.StandsFor words.HasNoFault words.bytes_of words.line_of words.begun_of
returns-in-None-clause-goes_on c script l left =
    let b = c.args.self.now in
    left-reading b.state c.requires.reading c.byte.new.self _ b.limit script l
    (rw (c.in-Ok.is, c.in-None.is) at
    (after (goal.at.returns-in-None-clause-goes_on c).After-byte script l left))

pub returns-in-Some-clause-answer : goal.returns-in-Some-clause-answer
unfolding words.StandsFor words.HasNoFault words.bytes_of words.line_of words.begun_of
returns-in-Some-clause-answer c script l left =
    let b = c.args.self.now in
    let next =
    rw (c.in-Ok.is, c.in-Some.is) at
    (after (goal.at.returns-in-Some-clause-answer c).After-byte script l left) in
    (sym next.0, left-reading b.state c.requires.reading c.byte.new.self _ b.limit script _ next.1)

pub returns-in-Err-clause-answer : goal.returns-in-Err-clause-answer
unfolding words.StandsFor words.HasNoFault words.bytes_of words.line_of words.begun_of
returns-in-Err-clause-answer c script l left =
    let is = rw c.in-Err.is at
    (after (goal.at.returns-in-Err-clause-answer c).After-byte script l left) in
    rw is (refl, refl)
