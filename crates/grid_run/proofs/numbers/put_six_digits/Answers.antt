use Rattle.std.proofs.Common.{◌≡◌, ◌∙◌, ℕ, ◌-◌, ◌≤◌, [], ◌∷◌, length, take, replicate, decimal}
use Rattle.std.proofs.Common.{arith, append_assoc, sym}
use Rattle.std.proofs.lemmas.List.{take-replicate}
use Rattle.din_trace.proofs.WritesLemmas.{writes_then, writes_as}
use Rattle.grid_run.proofs.numbers.put_six_digits.Goals as goal

-- the first k of six zeros
zeros : (k : ℕ) → k ≤ 6 → take {A = ℕ} k (replicate 6 48) ≡ replicate k 48
zeros k h = take-replicate k 6 48 h

pub returns : goal.returns
returns g c =
    let text : c.as_bytes-text.result.now ≡ decimal c.args.number =
    c.as_bytes-text.ensures.value ∙ c.format.ensures.text in
    let filling = zeros (6 - length (decimal c.args.number)) (omega arith) in
    writes_as _ _ _ (rw (c.saturating_sub.ensures, text, filling)
    (sym (append_assoc (replicate (6 - length (decimal c.args.number)) 48)
    (decimal c.args.number) (9 ∷ []))))
    (writes_then _ _ _ c.in_ok-put.ensures c.put_word.ensures)
