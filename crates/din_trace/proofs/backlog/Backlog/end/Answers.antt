use Rattle.std.proofs.Common.{◌≡◌, Option, Result, refl, arith, false, []}
use Rattle.std.specs.Result.{result_err}
use Rattle.din_trace.specs.declared.record.DinRecord.{DinRecord}
use Rattle.din_trace.specs.declared.fault.TraceFault.{TraceFault}
use Rattle.din_trace.specs.declared.backlog.Backlog.{Backlog}
use Rattle.din_trace.specs.Text.{Remaining}
use Rattle.din_trace.specs.Remaining.{Script, first_answer, after_first}
use Rattle.din_trace.specs.State.{is_reading, fault_met}
use Rattle.din_trace.specs.Standing as words
use Rattle.din_trace.specs.Backlog.{EndsWith, HasLeft, held, taken, room}
use Rattle.din_trace.proofs.Backlogs.{AfterEnd, after-end, held-none, reading-left}
use Rattle.din_trace.proofs.backlog.Backlog.end.Goals as goal
use Rattle.din_trace.proofs.backlog.Backlog.end.Goals.{After-end}

-- what is left after the end
after : (c : After-end) (l : Remaining)
    → HasLeft c.args.self.now (record { given = []; fails = false }) l → AfterEnd l c.end.result
unfolding words.StandsFor words.HasNoFault words.bytes_of words.line_of words.begun_of
after c l left =
    let b = c.args.self.now in
    after-end b.lines b.limit l c.end.result (λ text s e. (c.end.ensures.empty text s e).0)
    (λ text s n. (c.end.ensures.ends text s n).0)
    (rw (held-none b.buffer.bytes b.at b.filled c.requires.empty) at
    (reading-left b.state c.requires.reading b.lines (held b) b.limit
    (record { given = []; fails = false }) l left))

-- so where the source is closed, this is its answer
ends : (c : After-end) (answer : Result (Option DinRecord) TraceFault) (new : Backlog)
    → taken new ≡ taken c.args.self.now → new.limit ≡ c.args.self.now.limit → room new ≡ 0
    → is_reading new.state ≡ false → fault_met new.state ≡ result_err answer
    → ((l : Remaining) → AfterEnd l c.end.result
    → (answer ≡ first_answer l) × ((script : Script) → HasLeft new script (after_first l)))
    → EndsWith false answer c.args.self.now new
ends c answer new taken_same limit_same no_room closed met told = record {
  first = λ l left. told l (after c l left);
  taken_same = taken_same;
  limit_same = limit_same;
  no_room = no_room;
  closed = closed;
  told = met;
}

pub returns-in-Ok-clause-ends : goal.returns-in-Ok-clause-ends
unfolding words.bytes_of
returns-in-Ok-clause-ends c =
    ends (goal.at.returns-in-Ok-clause-ends c).After-end _ _ (omega arith) refl refl refl refl
    (λ l told. let next = rw c.in-Ok.is at told in (next.0, λ _. next.1))

pub returns-in-Err-clause-ends : goal.returns-in-Err-clause-ends
unfolding words.bytes_of
returns-in-Err-clause-ends c =
    ends (goal.at.returns-in-Err-clause-ends c).After-end _ _ (omega arith) refl refl refl refl
    (λ l told. let next = rw c.in-Err.is at told in (next.0, λ _. next.1))
