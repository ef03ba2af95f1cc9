use Rattle.std.proofs.Common.{◌≡◌, ℕ, true, List, [], ◌∷◌, refl, sym, ap, ◌∙◌, arith}
use Rattle.std.proofs.Common.{slice_index_or}
use Rattle.std.proofs.lemmas.List.{drop_more}
use Rattle.din_trace.specs.Line.{is_blank}
use Rattle.din_trace.proofs.Plains.{blank_no_lf}
use Rattle.din_trace.proofs.plain.line_end.Goals as goal

pub returns-then-bytes-start-eq10-clause-comment :
    goal.returns-then-bytes-start-eq10-clause-comment
returns-then-bytes-start-eq10-clause-comment c =
    (record { run = []; each = tt; counted = omega arith; whole = refl }, tt)

pub returns-then-is_blank-clause-comment : goal.returns-then-is_blank-clause-comment
returns-then-is_blank-clause-comment c =
    let bytes = c.args.bytes.now in
    let first : ℕ = slice_index_or bytes c.args.start 0 in
    let more = c.in_ok-lf.ensures.before in
    let blank : is_blank first ≡ true = sym c.is_blank.ensures ∙ c.if-is_blank.true in (
      record {
        run = first ∷ more.run;
        each = (blank_no_lf first blank, more.each);
        counted = omega (arith, more.counted);
        whole = drop_more bytes c.args.start 0 c.requires
            ∙ ap (λ (text : List ℕ). first ∷ text) more.whole;
      },
      blank,
    )
