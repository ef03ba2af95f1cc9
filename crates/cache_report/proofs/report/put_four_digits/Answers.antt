use Rattle.std.proofs.Common.{◌≡◌, ◌∙◌, ℕ, ◌-◌, ◌≤◌, length, take, replicate, decimal, arith}
use Rattle.std.proofs.lemmas.List.{take-replicate}
use Rattle.din_trace.proofs.WritesLemmas.{writes_then, writes_as}
use Rattle.cache_report.proofs.report.put_four_digits.Goals as goal

-- the first k of four zeros
zeros : (k : ℕ) → k ≤ 4 → take {A = ℕ} k (replicate 4 48) ≡ replicate k 48
zeros k h = take-replicate k 4 48 h

pub returns : goal.returns
returns g c =
    let text : c.as_bytes-text.result.now ≡ decimal c.args.number =
    c.as_bytes-text.ensures.value ∙ c.format.ensures.text in
    let filling = zeros (4 - length (decimal c.args.number)) (omega arith) in
    writes_as _ _ _ (rw (c.saturating_sub.ensures, text, filling))
    (writes_then _ _ _ c.in_ok-put.ensures c.put-2.ensures)
