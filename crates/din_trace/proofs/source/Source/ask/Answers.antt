use Rattle.std.proofs.Common.{◌≡◌, ℕ, true, false, List, [], ◌++◌, length-append, ap, ◌∙◌, arith}
use Rattle.std.proofs.Common.{subst}
use Rattle.std.specs.Io.KnownBytes.{Consumes}
use Rattle.std.proofs.KnownBytes.{Consumes-trans}
use Rattle.din_trace.specs.Device.{once_more}
use Rattle.std.proofs.lemmas.List.{nil_from_length, append-nil}
use Rattle.din_trace.specs.Remaining.{Open, Ended, Failed}
use Rattle.din_trace.specs.Source as words
use Rattle.din_trace.proofs.Scripts.{keeps-consumes, left-regrouped, left-closed}
use Rattle.din_trace.proofs.source.Source.ask.Goals as goal
use Rattle.din_trace.proofs.source.Source.ask.Goals.{After-refill}
use Rattle.din_trace.proofs.source.Source.ask.Given.{Over}

-- the reader gave the bytes so far, and then those of this call
all_given : (g : Over) (c : After-refill g) (more : List ℕ)
    → Consumes (g.R.ByteReader.remaining c.asks.self.reader)
    (g.R.ByteReader.remaining c.refill.new.reader) more
    → Consumes (g.R.ByteReader.remaining c.args.self.now.reader)
    (g.R.ByteReader.remaining c.refill.new.reader) (c.asks.invariant.given ++ more)
all_given g c more =
    Consumes-trans (g.R.ByteReader.remaining c.args.self.now.reader)
    (g.R.ByteReader.remaining c.asks.self.reader)
    (g.R.ByteReader.remaining c.refill.new.reader) c.asks.invariant.given more
    c.asks.invariant.consumed

-- the bytes so far, if this call gave none
no_more : (g : Over) (c : After-refill g)
    → Consumes (g.R.ByteReader.remaining c.asks.self.reader)
    (g.R.ByteReader.remaining c.refill.new.reader) []
    → Consumes (g.R.ByteReader.remaining c.args.self.now.reader)
    (g.R.ByteReader.remaining c.refill.new.reader) c.asks.invariant.given
no_more g c none = rw append-nil at (all_given g c [] none)

pub asks-preserved : goal.asks-preserved
unfolding words.reader_of words.limit_of words.taken_by words.room_of words.HasLeft words.MustAsk words.Settles
asks-preserved g c =
    let now = c.asks.invariant in
    let more = c.in-Ok.ensures.given in
    record {
      asks = c.in_default.ensures.asks;
      room_less = omega (arith, c.at_hand.ensures.no_more, c.refill.ensures.room, now.room_less);
      limit_same = omega (arith, c.at_hand.ensures.limit, c.refill.ensures.limit, now.limit_same);
      failures_same = ap g.R.ByteReader.failures c.at_hand.ensures.reader ∙ c.in-Ok.ensures.ok
          ∙ now.failures_same;
      given = now.given ++ more.0;
      consumed = rw c.at_hand.ensures.reader
          (all_given g (goal.at.asks-preserved g c).After-refill more.0 more.2);
      count = simp length-append
          (omega (arith, c.at_hand.ensures.taken, c.in-Ok.ensures.taken, more.1, now.count));
      left_same =
          λ script left h. c.in_default.ensures.reads.1 script left (more.3 script left
          (now.left_same (record { given = more.0 ++ script.given; fails = script.fails }) left
          (left-regrouped c.args.self.now.backlog script.fails left now.given more.0 script.given
          h)));
    }

pub returns-in-Some-clause-reads : goal.returns-in-Some-clause-reads
unfolding words.reader_of words.limit_of words.taken_by words.room_of words.HasLeft words.MustAsk words.Settles
returns-in-Some-clause-reads g c =
    let now = c.asks.invariant in
    let more = c.in-Ok.ensures.given in (
      now.given ++ more.0,
      Open,
      record {
        reader = (
          rw c.at_hand.ensures.reader
              (all_given g (goal.at.returns-in-Some-clause-reads g c).After-refill more.0 more.2),
          ap g.R.ByteReader.failures c.at_hand.ensures.reader ∙ c.in-Ok.ensures.ok
              ∙ now.failures_same,
        );
        settles = tt;
        taken = simp length-append
            (omega (arith, c.at_hand.ensures.taken, c.in-Ok.ensures.taken, more.1, now.count));
      },
      λ before later l is left. c.in-Some.ensures.reads.1 later l (more.3 later l
          (now.left_same (record { given = more.0 ++ later.given; fails = later.fails }) l
          (left-regrouped c.args.self.now.backlog later.fails l now.given more.0 later.given
          (subst (λ script. words.HasLeft c.args.self.now script l) is left)))),
    )

pub returns-in-Err-clause-reads : goal.returns-in-Err-clause-reads
unfolding words.reader_of words.limit_of words.taken_by words.room_of words.HasLeft words.MustAsk words.Settles
returns-in-Err-clause-reads g c =
    let now = c.asks.invariant in (
      now.given,
      Failed,
      record {
        reader = (
          no_more g (goal.at.returns-in-Err-clause-reads g c).After-refill
              (keeps-consumes (g.R.ByteReader.remaining c.asks.self.reader)
              (g.R.ByteReader.remaining c.refill.new.reader) c.in-Err.ensures.err.1),
          c.in-Err.ensures.err.0 ∙ ap once_more now.failures_same,
        );
        settles = c.fail.ensures.ends.closed;
        taken = omega (arith, c.in-Err.ensures.taken_none, now.count);
      },
      λ before later l is left.
          let then =
          c.fail.ensures.ends.first l
          (c.in-Err.ensures.same (record { given = []; fails = true }) l
          (now.left_same (record { given = []; fails = true }) l
          (left-closed c.args.self.now.backlog true l now.given before is left))) in
          (then.0, then.1 later),
    )

pub returns-then-count-eq0-clause-reads : goal.returns-then-count-eq0-clause-reads
unfolding words.reader_of words.limit_of words.taken_by words.room_of words.HasLeft words.MustAsk words.Settles
returns-then-count-eq0-clause-reads g c =
    let now = c.asks.invariant in
    let more = c.in-Ok.ensures.given in
    let none : more.0 ≡ [] = nil_from_length more.0 (more.1 ∙ c.if-count-eq0.true) in (
      now.given,
      Ended,
      record {
        reader = (
          no_more g (goal.at.returns-then-count-eq0-clause-reads g c).After-refill
              (rw none at more.2),
          c.in-Ok.ensures.end c.if-count-eq0.true,
          c.in-Ok.ensures.ok ∙ now.failures_same,
        );
        settles = c.end.ensures.ends.closed;
        taken = omega (arith, c.in-Ok.ensures.taken, now.count);
      },
      λ before later l is left.
          let held = now.left_same (record { given = []; fails = false }) l
          (left-closed c.args.self.now.backlog false l now.given before is left) in
          let then =
          c.end.ensures.ends.first l
          (more.3 (record { given = []; fails = false }) l (rw none held)) in
          (then.0, then.1 later),
    )
