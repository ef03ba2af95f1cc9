use Rattle.std.proofs.Common.{◌≡◌, ℕ, ◌+◌, List, [], ◌∷◌, drop, refl, ◌∙◌, slice_index_or}
use Rattle.std.proofs.Common.{true, sym, ap, arith}
use Rattle.std.specs.Prelude.{◌||◌, ◌==◌}
use Rattle.std.proofs.lemmas.Bool.{ne_eqb}
use Rattle.std.proofs.lemmas.List.{drop_more}
use Rattle.din_trace.proofs.plain.digits_start.Goals as goal
use Rattle.din_trace.proofs.plain.digits_start.Goals.{then-bytes-at-eq120, else-bytes-at-eq120}

pub returns-then-bytes-at-eq88-clause-prefix : goal.returns-then-bytes-at-eq88-clause-prefix
returns-then-bytes-at-eq88-clause-prefix c =
    let bytes = c.args.bytes.now in
    let at = c.args.at in
    let x : ℕ = slice_index_or bytes (at + 1) 0 in
    let is_x : (x == 120 || x == 88) ≡ true = elim c.if-bytes-at-eq120.branch [
      | then-bytes-at-eq120 w ↦ rw w.if-bytes-at-eq120.true refl
      | else-bytes-at-eq120 w ↦ rw (ne_eqb x 120 w.if-bytes-at-eq120.false) (sym w.value-is
          ∙ c.if-bytes-at-eq88.true)
    ] in (
      slice_index_or bytes at 0 ∷ x ∷ [],
      (rw c.if-bytes-at-eq48.true is_x, refl),
      refl,
      drop_more bytes at 0 (omega (arith, c.requires))
          ∙ ap (λ (more : List ℕ). slice_index_or bytes at 0 ∷ more)
          (drop_more bytes (at + 1) 0 (omega (arith, c.requires))
          ∙ ap (λ (k : ℕ). x ∷ drop k bytes) (let two : at + 1 + 1 ≡ at + 2 = omega arith in two)),
    )
