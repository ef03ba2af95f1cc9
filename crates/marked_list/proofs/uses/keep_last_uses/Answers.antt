use Rattle.std.proofs.Common.{◌≡◌, ◌≢◌, ◌<◌, ◌≤◌, ◌+◌, ◌++◌, ◌∷◌, ℕ, List, [], length, take}
use Rattle.std.proofs.Common.{reverse, get_or, set, arith, sym, ap, ◌∙◌}
use Rattle.std.proofs.Common.{append_assoc}
use Rattle.std.proofs.Common.{get_or-set_other}
use Rattle.std.proofs.lemmas.Bool.{eq-eqb}
use Rattle.std.proofs.lemmas.List.{take-set, take_more_set}
use Rattle.marked_list.specs.Uses.{since, dead, living}
use Rattle.marked_list.proofs.LastUse.{reverse-push}
use Rattle.marked_list.proofs.Living.{differs}
use Rattle.marked_list.proofs.Passing.{pass-dead, pass-last}
use Rattle.marked_list.proofs.uses.keep_last_uses.Goals as goal
use Rattle.marked_list.proofs.uses.keep_last_uses.Goals.{then-number, else-number}

-- one use was passed: it was kept if it is the last of its block
module _ (first log : List ℕ) (kept i : ℕ) (lt : i < length first) (room : kept < length log)
    (same : get_or log i 0 ≡ get_or first i 0)
    (order : living (since i (reverse first)) ++ reverse (take kept log) ≡ living (reverse first))
  where
    abbrev x : ℕ
    x = get_or log i 0

    abbrev d : List ℕ
    d = living (since (i + 1) (reverse first))

    abbrev written : List ℕ
    written = set log kept x

    passed-dead : x ≡ dead → d ++ reverse (take kept written) ≡ living (reverse first)
    passed-dead is = ap (λ (l : List ℕ). d ++ reverse l) (take-set log kept x)
        ∙ ap (λ l. l ++ reverse (take kept log))
        (sym (pass-dead first i lt (eq-eqb (get_or first i 0) dead (sym same ∙ is))))
        ∙ order

    passed-last : x ≢ dead → d ++ reverse (take (kept + 1) written) ≡ living (reverse first)
    passed-last ne = ap (λ (l : List ℕ). d ++ reverse l) (take_more_set log kept x room)
        ∙ ap (λ l. d ++ l) (reverse-push (take kept log) x)
        ∙ ap (λ z. d ++ (z ∷ reverse (take kept log))) same
        ∙ sym (append_assoc d (get_or first i 0 ∷ []) (reverse (take kept log)))
        ∙ ap (λ l. l ++ reverse (take kept log))
        (sym (pass-last first i lt (differs (get_or first i 0) (λ e. ne (same ∙ e)))))
        ∙ order

pub loop-place-preserved : goal.loop-place-preserved
loop-place-preserved c =
    let first = c.args.log.now in
    let log = c.loop-place.log in
    let kept = c.loop-place.kept in
    let i = c.loop-place.place in
    let few : kept ≤ i = c.loop-place.invariant.few in
    let lt : i < length first = omega arith in
    let long : length log ≡ length first = c.loop-place.auto.log in
    let room : kept < length log = omega arith in
    let same = c.loop-place.invariant.left i (omega arith) in
    let order = c.loop-place.invariant.order in
    let x = get_or log i 0 in
    let ahead = living (since (i + 1) (reverse first)) in
    record {
      few = elim c.if-number.branch [
        | then-number w ↦ omega (arith, few, w.kept-is)
        | else-number w ↦ omega (arith, few, w.kept-is)
      ];
      left = λ k le. let ne : k ≢ kept = omega arith in
          get_or-set_other log kept k x 0 ne ∙ c.loop-place.invariant.left k (omega arith);
      order = elim c.if-number.branch [
        | then-number w ↦ ap (λ n. ahead ++ reverse (take n (set log kept x))) w.kept-is
            ∙ passed-last first log kept i lt room same order w.if-number.true
        | else-number w ↦ ap (λ n. ahead ++ reverse (take n (set log kept x))) w.kept-is
            ∙ passed-dead first log kept i lt room same order w.if-number.false
      ];
    }
