use Rattle.std.proofs.Common.{ℕ, [], ◌∷◌, drop, refl, ap, ◌∙◌, arith}
use Rattle.std.proofs.lemmas.List.{drop_more}
use Rattle.din_trace.proofs.Plains.{space_is_blank}
use Rattle.din_trace.proofs.plain.gap_end.Goals as goal

pub returns-then-bytes-gt32-clause-blanks : goal.returns-then-bytes-gt32-clause-blanks
returns-then-bytes-gt32-clause-blanks c =
    let bytes = c.args.bytes.now in
    record {
      run = 32 ∷ [];
      each = (space_is_blank, tt);
      counted = refl;
      whole = drop_more bytes 1 0 (omega (arith, c.requires))
          ∙ ap (λ (byte : ℕ). byte ∷ drop 2 bytes) c.if-bytes-eq32.true;
    }
