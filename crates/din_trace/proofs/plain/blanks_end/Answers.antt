use Rattle.std.proofs.Common.{◌≡◌, true, sym, ◌∙◌}
use Rattle.din_trace.specs.Line.{is_blank}
use Rattle.din_trace.proofs.Plains.{runs_to-more}
use Rattle.din_trace.proofs.plain.blanks_end.Goals as goal

pub blanks-preserved : goal.blanks-preserved
blanks-preserved c = runs_to-more (λ byte. is_blank byte ≡ true) c.args.bytes.now c.args.start
    c.blanks.at c.blanks.invariant c.blanks-test.true
    (sym c.is_blank.ensures ∙ c.if-is_blank.true)
