use Rattle.std.proofs.Common.{◌≡◌, ◌++◌, [], List, Bool, Ok, Err, rules, ap, sym, subst, arith}
use Rattle.std.proofs.Common.{refl, length-append}
use Rattle.std.specs.List.{All}
use Rattle.din_trace.specs.declared.record.DinRecord.{DinRecord}
use Rattle.grid_run.specs.Rows.{ServedAll}
use Rattle.grid_run.specs.Workers.{WorkerHasServed}
use Rattle.grid_run.proofs.Readings.{read-nothing, when-ok}
use Rattle.grid_run.proofs.run.serve_trace.Goals as goal

pub returns-in_err-more-clause-reads : goal.returns-in_err-more-clause-reads
returns-in_err-more-clause-reads g c =
    let stopped = c.in_err-more.ensures.read.failed c.args.source.now []
    (read-nothing g.R.ByteReader.remaining g.R.ByteReader.failures c.args.source.now)
    c.in_err-more.field-0.0 refl in
    let answered : c.from_residual.result ≡ Err c.in_err-more.field-0.0 = search rules in (
      stopped.given,
      stopped.fate,
      stopped.went,
      λ first last l is left. subst (ServedAll l c.args.crew.now.workers.items)
          (sym answered) (stopped.may first last l is left),
    )

pub batches-init : goal.batches-init
batches-init g c =
    let read = c.in_ok-more.ensures.read in
    let none = read-nothing g.R.ByteReader.remaining g.R.ByteReader.failures c.args.source.now in
    record {
      past = [];
      taken = c.requires.fresh;
      more = λ e. read.more c.args.source.now [] none (ap (λ (b : Bool). Ok b) e);
      ended = λ e. read.ended c.args.source.now [] none (ap (λ (b : Bool). Ok b) e);
      room = omega (arith, read.room c.in_ok-more.more refl, read.bounded c.in_ok-more.more refl);
      tasks = refl;
    }

pub returns-in_err-more-2-clause-reads : goal.returns-in_err-more-2-clause-reads
returns-in_err-more-2-clause-reads g c =
    let now = c.batches.invariant in
    let stopped = c.in_err-more-2.ensures.read.failed c.args.source.now
    (now.past ++ c.batches.batch.items) (now.more c.batches-test.true)
    c.in_err-more-2.field-0.0 refl in
    let answered : c.from_residual-in_err-more-2.result ≡ Err c.in_err-more-2.field-0.0 =
    search rules in (
      stopped.given,
      stopped.fate,
      stopped.went,
      λ first last l is left. subst (ServedAll l c.take_and_read.new.crew.workers.items)
          (sym answered) (stopped.may first last l is left),
    )

pub returns-then-is_err-clause-reads : goal.returns-then-is_err-clause-reads
returns-then-is_err-clause-reads g c =
    let ended = c.batches.invariant.ended c.batches-test.false in
    (ended.given, ended.fate, ended.went, λ first last l is left. tt)

pub settle-requires-clause-room : goal.settle-requires-clause-room
settle-requires-clause-room g c κs within =
    let now = c.batches.invariant in (
      now.past ++ c.batches.batch.items,
      when-ok c.take.result c.if-is_err.ensures.negation c.take.ensures.taken now.past now.taken,
      omega (arith, now.room, length-append now.past c.batches.batch.items),
    )

pub returns-then-is_err-2-clause-reads : goal.returns-then-is_err-2-clause-reads
returns-then-is_err-2-clause-reads g c =
    let ended = c.batches.invariant.ended c.batches-test.false in
    (ended.given, ended.fate, ended.went, λ first last l is left. tt)

pub returns-clause-reads : goal.returns-clause-reads
returns-clause-reads g c =
    let now = c.batches.invariant in
    let ended = now.ended c.batches-test.false in
    let taken = when-ok c.take.result c.if-is_err.ensures.negation c.take.ensures.taken now.past
    now.taken in
    let took = when-ok c.settle.result c.if-is_err-2.ensures.negation c.settle.ensures.settled
    (now.past ++ c.batches.batch.items) taken in (
      ended.given,
      ended.fate,
      ended.went,
      λ first last l is left.
          let all = ended.all first last l is left in (
            all.0,
            subst (λ (rs : List DinRecord). All (WorkerHasServed rs)
                c.settle.new.self.workers.items)
                (sym all.1) took,
          ),
    )
