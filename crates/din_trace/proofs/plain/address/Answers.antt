use Rattle.std.proofs.Common.{◌≡◌, ℕ, ◌+◌, ◌^◌, ◌≤◌, true, [], ◌∷◌, ◌++◌, length, refl, arith}
use Rattle.std.proofs.Common.{length-append, slice_index_or}
use Rattle.din_trace.specs.Line.{is_hex}
use Rattle.din_trace.proofs.Plains.{run-more, value-append, few_digits, one_digit_more}
use Rattle.din_trace.proofs.plain.address.Goals as goal

pub digits-init : goal.digits-init
digits-init c = record {
  to = omega arith;
  digits = record { run = []; each = tt; counted = omega arith; whole = refl };
  value = refl;
  small = omega arith;
}

pub overflow_mul-addr : goal.overflow_mul-addr
overflow_mul-addr c = let few : 16 ^ length c.digits.invariant.digits.run ≤ 2 ^ 60 =
    few_digits _ (omega (arith, c.digits.invariant.digits.counted, c.digits-test.true)) in omega
    (arith, few, c.digits.invariant.small)

pub overflow_add-addr : goal.overflow_add-addr
overflow_add-addr c = let few : 16 ^ length c.digits.invariant.digits.run ≤ 2 ^ 60 =
    few_digits _ (omega (arith, c.digits.invariant.digits.counted, c.digits-test.true)) in omega
    (arith, few, c.digits.invariant.small, c.if-next-ge16.false)

pub digits-preserved : goal.digits-preserved
digits-preserved c =
    let now = c.digits.invariant in
    let bytes = c.args.bytes.now in
    let byte : ℕ = slice_index_or bytes c.digits.at 0 in
    let is = c.digit-next.ensures.digit (omega (arith, c.if-next-ge16.false)) in
    let more = run-more (λ byte. is_hex byte ≡ true) bytes c.args.start c.digits.at now.digits
    (omega (arith, c.digits-test.true, c.requires)) is.0 in
    let long : length (now.digits.run ++ byte ∷ []) ≡ length now.digits.run + 1 =
    simp length-append (omega arith) in
    record {
      to = omega (arith, c.digits-test.true);
      digits = more.0;
      value = rw (more.1, value-append now.digits.run byte, is.1, now.value) refl;
      small = rw (more.1, long) (one_digit_more (length now.digits.run) c.digits.addr
          c.digit-next.result now.small (omega (arith, c.if-next-ge16.false)));
    }
