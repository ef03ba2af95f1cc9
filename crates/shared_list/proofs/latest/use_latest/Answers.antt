use Rattle.std.proofs.Common.{◌≡◌, ◌<◌, ◌-◌, ◌++◌, ◌∷◌, [], ℕ, List, true, cond, eqb, length, map}
use Rattle.std.proofs.Common.{reverse}
use Rattle.std.proofs.Common.{get_or, set, arith, refl, sym, ap, ◌∙◌}
use Rattle.std.proofs.lemmas.Bool.{eq-eqb}
use Rattle.std.proofs.lemmas.List.{length-reverse, reverse-reverse}
use Rattle.marked_list.specs.Uses.{dead, with_dead}
use Rattle.marked_list.proofs.LastUse.{reverse-cons}
use Rattle.shared_list.specs.Log.{no_use, seen}
use Rattle.shared_list.proofs.LatestUse.{latest-next}
use Rattle.shared_list.proofs.Seen.{length-seen-by, number-at}
use Rattle.shared_list.proofs.latest.use_latest.Goals as goal

pub returns-clause-seen : goal.returns-clause-seen
returns-clause-seen c = λ ms is once low at.
    let log = c.args.log.now.items in
    let buried = c.bury_last.new.log.items in
    let q = c.args.user in
    let b = c.args.number in
    let lq : q < 32 = omega (arith, c.requires.few, c.requires.user) in
    let w = reverse ms in
    let old : map (seen q) log ≡ w ++ dead ∷ [] =
    sym (reverse-reverse (map (seen q) log)) ∙ ap (λ (l : List ℕ). reverse l) is
    ∙ reverse-cons dead ms in
    let place : c.len-latest.result - 1 ≡ length w =
    (let long = ap (λ (l : List ℕ). length l) is in
    omega (
      arith,
      c.len-latest.ensures,
      c.args.log.now.ok.0,
      long,
      length-seen-by q log,
      length-reverse ms,
      c.requires.some,
    )) in
    let self : eqb q q ≡ true = eq-eqb q q refl in
    let first : map (seen q) buried ≡ with_dead (w ++ dead ∷ []) c.args.last =
    c.bury_last.ensures.seen q lq
    ∙ ap (λ t. cond t (with_dead (map (seen q) log) c.args.last) (map (seen q) log)) self
    ∙ ap (λ l. with_dead l c.args.last) old in
    let index : c.len-latest.result - 1 ≡ length log - 1 =
    omega (arith, c.len-latest.ensures, c.args.log.now.ok.0) in
    let block : (get_or buried (c.len-latest.result - 1) (no_use 0)).number ≡ b =
    number-at buried log (c.len-latest.result - 1) c.bury_last.ensures.numbers
    ∙ ap (λ i. (get_or log i (no_use 0)).number) index ∙ c.requires.block in
    ap (λ (l : List ℕ). reverse l) (c.give.ensures.seen q lq
    ∙ ap (λ t. cond t (set (map (seen q) buried) (c.len-latest.result - 1)
    (get_or buried (c.len-latest.result - 1) (no_use 0)).number) (map (seen q) buried)) self
    ∙ ap (λ l. set l (c.len-latest.result - 1) (get_or buried (c.len-latest.result - 1)
    (no_use 0)).number) first
    ∙ ap (λ n. set (with_dead (w ++ dead ∷ []) c.args.last) (c.len-latest.result - 1) n) block
    ∙ ap (λ k. set (with_dead (w ++ dead ∷ []) c.args.last) k b) place)
    ∙ latest-next ms b c.args.last once low at
    (λ p e. let lt = c.requires.before p e in
    omega (arith, lt, place, c.len-latest.ensures, c.args.log.now.ok.0))
