-- How many characters a rate takes.
use Rattle.std.proofs.Common.{◌≡◌, ℕ, ◌+◌, ◌-◌, ◌/◌, ◌%◌, ◌<◌, ◌++◌, ◌∷◌, length, replicate}
use Rattle.std.proofs.Common.{refl, arith, length-append}
use Rattle.std.proofs.Math.ListN.{length-replicate}
use Rattle.std.proofs.lemmas.Fmt.{length-decimal-le}
use Rattle.std.specs.Fmt.{decimal}
use Rattle.cache_report.specs.Report.{four_digits, rate_text, column}

length-four_digits : (n : ℕ) → n < 10000 → length (four_digits n) ≡ 4
length-four_digits n h =
    let short = length-decimal-le 4 n (omega arith) (omega arith) (omega arith) in
    rw (length-append, length-replicate) (omega arith)

-- how far a rate's column is filled depends on the number of digits before its point
pub rate_column : (q : ℕ)
    → replicate (7 - length (decimal (q / 10000))) 32
    ++ (decimal (q / 10000) ++ 46 ∷ four_digits (q % 10000)) ≡ column (rate_text q)
rate_column q =
    let four = length-four_digits (q % 10000) (omega arith) in
    let whole : length (rate_text q) ≡ length (decimal (q / 10000)) + 5 =
    rw length-append (omega (arith, four)) in
    let room : 7 - length (decimal (q / 10000)) ≡ 12 - length (rate_text q) = omega arith in
    rw room refl
