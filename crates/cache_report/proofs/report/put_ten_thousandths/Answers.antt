use Rattle.std.proofs.Common.{◌≡◌, ◌∙◌, ◌/◌, decimal}
use Rattle.din_trace.proofs.WritesLemmas.{writes_then, writes_as}
use Rattle.cache_report.proofs.RateLemmas.{rate_column}
use Rattle.cache_report.proofs.report.put_ten_thousandths.Goals as goal

pub returns : goal.returns
returns g c =
    let whole : c.as_bytes-whole.result.now ≡ decimal (c.args.rate / 10000) =
    c.as_bytes-whole.ensures.value ∙ c.format.ensures.text in
    writes_as _ _ _ (rw (c.saturating_sub.ensures, whole) (rate_column c.args.rate))
    (writes_then _ _ _ c.in_ok-put_spaces.ensures
    (writes_then _ _ _ c.in_ok-put.ensures
    (writes_then _ _ _ c.in_ok-put-2.ensures c.put_four_digits.ensures)))
