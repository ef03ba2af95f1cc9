use Rattle.std.proofs.Common.{◌≡◌, ◌∙◌, ◌/◌, decimal, append_assoc}
use Rattle.din_trace.proofs.WritesLemmas.{writes_then, writes_as}
use Rattle.grid_run.proofs.numbers.put_millionths.Goals as goal

pub returns : goal.returns
returns g c =
    let whole : c.as_bytes.result.now ≡ decimal (c.args.rate / 1000000) =
    c.as_bytes.ensures.value ∙ c.format.ensures.text in
    writes_as _ _ _ (simp (append_assoc, whole))
    (writes_then _ _ _ c.in_ok-put.ensures
    (writes_then _ _ _ c.in_ok-put-2.ensures c.put_six_digits.ensures))
