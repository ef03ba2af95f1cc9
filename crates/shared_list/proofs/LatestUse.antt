-- The latest use of a log becomes one of a user.
use Rattle.std.proofs.Common.{◌≡◌, ◌≢◌, ℕ, ◌<◌, List, [], ◌∷◌, ◌++◌, length, reverse, set, Option}
use Rattle.std.proofs.Common.{Some, None, refl, sym, ap, subst, ◌∙◌}
use Rattle.std.proofs.Math.Seq.{set-append_seam}
use Rattle.std.proofs.lemmas.List.{length-set, reverse-reverse, set-append_left}
use Rattle.cache_core.specs.Residents.{distinct}
use Rattle.marked_list.specs.Uses.{dead, last_in, living, used_next, with_dead}
use Rattle.marked_list.proofs.Living.{log-next, once-is}

-- the latest use was dead for the user, and the use before it dies
latest-used : (w : List ℕ) (b : ℕ) (last : Option ℕ)
    → ((p : ℕ) → last ≡ Some p → p < length w)
    → set (with_dead (w ++ dead ∷ []) last) (length w) b ≡ with_dead (w ++ b ∷ []) last
latest-used w b None before = set-append_seam w dead [] b
latest-used w b (Some p) before =
    let lt = before p refl in
    ap (λ l. set l (length w) b) (set-append_left w (dead ∷ []) p dead lt)
    ∙ subst (λ k. set (set w p dead ++ dead ∷ []) k b ≡ set w p dead ++ b ∷ [])
    (length-set w p dead) (set-append_seam (set w p dead) dead [] b)
    ∙ sym (set-append_left w (b ∷ []) p dead lt)

pub latest-next : (ms : List ℕ) (b : ℕ) (last : Option ℕ) → distinct (living ms) ≡ living ms
    → b ≢ dead → last ≡ last_in ms b → ((p : ℕ) → last ≡ Some p → p < length (reverse ms))
    → reverse (set (with_dead (reverse ms ++ dead ∷ []) last) (length (reverse ms)) b)
    ≡ used_next b ms
latest-next ms b last once low at before =
    let w = reverse ms in
    let same : reverse w ≡ ms = reverse-reverse ms in
    ap (λ (l : List ℕ). reverse l) (latest-used w b last before)
    ∙ log-next w b
    (once-is (reverse w) (subst (λ l. distinct (living l) ≡ living l) (sym same) once))
    low last (subst (λ l. last_in l b ≡ last) (sym same) (sym at))
    ∙ ap (used_next b) same
