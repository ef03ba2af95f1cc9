use Rattle.std.proofs.Common.{◌≡◌, false}
use Rattle.std.specs.Prelude.{◌==◌}
use Rattle.std.proofs.lemmas.Bool.{ne_eqb}
use Rattle.din_trace.proofs.Plains.{runs_to-more}
use Rattle.din_trace.proofs.plain.first_lf.Goals as goal

pub bytes-preserved : goal.bytes-preserved
bytes-preserved c = runs_to-more (λ byte. (byte == 10) ≡ false) c.args.bytes.now c.args.start
    c.bytes.at c.bytes.invariant c.bytes-test.true (ne_eqb _ 10 c.if-bytes-at-eq10.false)
