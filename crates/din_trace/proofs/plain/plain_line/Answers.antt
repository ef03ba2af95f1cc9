use Rattle.std.proofs.Common.{◌≡◌, ℕ, ◌+◌, ◌-◌, ◌^◌, ◌≤◌, List, ◌∷◌, ◌++◌, drop}
use Rattle.std.proofs.Common.{ap, ◌∙◌, arith, slice_index_or}
use Rattle.std.proofs.lemmas.List.{drop_more}
use Rattle.din_trace.proofs.Plains.{begins_plain}
use Rattle.din_trace.proofs.plain.plain_line.Goals as goal

pub returns-clause-line : goal.returns-clause-line
returns-clause-line c =
    let bytes = c.args.bytes.now in
    let gap = c.in_ok-gap.ensures.blanks in
    let prefix = c.digits_start-start.ensures.prefix in
    let digits = c.address-addr.ensures.digits.0 in
    let comment = c.in_ok-lf.ensures.comment in
    let lf = c.in_ok-lf.lf in
    let label : ℕ = slice_index_or bytes 0 0 in
    let at_lf : drop lf bytes ≡ 10 ∷ drop (lf + 1) bytes =
    drop_more bytes lf 0 c.in_ok-lf.ensures.lf.0
    ∙ ap (λ (byte : ℕ). byte ∷ drop (lf + 1) bytes) c.in_ok-lf.ensures.lf.1 in
    let whole : bytes ≡ label ∷ (gap.run ++ (prefix.0
    ++ (digits.run ++ (comment.0.run ++ 10 ∷ drop (lf + 1) bytes)))) =
    drop_more bytes 0 0 (omega (arith, c.if-bytes.false))
    ∙ ap (λ (text : List ℕ). label ∷ text) (gap.whole
    ∙ ap (λ (text : List ℕ). gap.run ++ text) (prefix.3
    ∙ ap (λ (text : List ℕ). prefix.0 ++ text) (digits.whole
    ∙ ap (λ (text : List ℕ). digits.run ++ text) (comment.0.whole
    ∙ ap (λ (text : List ℕ). comment.0.run ++ text) at_lf)))) in
    let value = c.address-addr.ensures.digits.1 in
    let small : c.address-addr.result.0 ≤ 2 ^ 64 - 1 = omega arith in
    rw (c.in-Some.ensures.1, value)
    (begins_plain bytes label gap.run prefix.0 digits.run comment.0.run (lf + 1)
    c.in-Some.ensures.0 gap.each (omega (arith, gap.counted, c.in_ok-gap.ensures.bounds.0)) prefix.1
    digits.each (omega (arith, digits.counted, c.if-end-start.false))
    (rw value at small) comment.1 comment.0.each whole
    (omega (arith, gap.counted, prefix.2, digits.counted, comment.0.counted)))
