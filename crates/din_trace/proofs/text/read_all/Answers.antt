use Rattle.std.proofs.Common.{◌≡◌, Result, Ok, Err, Some, refl, ap, inl, inr, ◌∙◌, false}
use Rattle.std.specs.Prelude.{MatchResult, IfOk, IfErr}
use Rattle.din_trace.specs.Line.{ADDRESS_MAX}
use Rattle.din_trace.specs.Text.{text_left}
use Rattle.din_trace.specs.Source.{reader_of}
use Rattle.din_trace.proofs.Scripts.{known-script}
use Rattle.din_trace.proofs.Texts.{text_left-records, leaves_text}
use Rattle.din_trace.proofs.text.read_all.Goals as goal

ok_from : {T E : Type 0} (r : Result T E) (P R : T → Type 0) (Q : E → Type 0) → MatchResult r P Q
    → ((x : T) → P x → R x) → IfOk r R
ok_from (Ok x) P R Q h f = f x h
ok_from (Err e) P R Q h f = tt

err_from : {T E : Type 0} (r : Result T E) (P : T → Type 0) (Q R : E → Type 0) → MatchResult r P Q
    → ((e : E) → Q e → R e) → IfErr r R
err_from (Ok x) P Q R h f = tt
err_from (Err e) P Q R h f = f e h

pub returns : goal.returns
unfolding reader_of
returns c =
    let all = c.new-source.result.reader.rest.now in
    let is : all ≡ c.args.text.now = rw c.new-source.ensures.reader refl in
    let reads = c.rest.ensures.reads in
    let later = known-script reads.1 all _ reads.0 0 0 reads.2.reader refl in
    let told =
    reads.3 (record { given = all; fails = false }) later.0
    (text_left ADDRESS_MAX 1 all c.args.limit false) later.1
    (c.new-source.ensures.left (record { given = all; fails = false })) in
    record {
      ok = ok_from c.rest.result _ _ _ told
          (λ found h. rw (← is) (h.1, h.0 ∙ text_left-records ADDRESS_MAX all c.args.limit h.1));
      err = err_from c.rest.result _ _ _ told (λ why h other. rw (← is) (h.0 other));
      memory = err_from c.rest.result _ _ _ told (λ why h same. rw (← is) (
          elim (h.2 same) [
            | inl met ↦ absurd
                ((leaves_text ADDRESS_MAX all c.args.limit).memory false (met ∙ ap Some same))
            | inr some ↦ some
          ]));
    }
