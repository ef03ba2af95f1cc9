use Rattle.std.proofs.Common.{rules, ◌≡◌, ◌<◌, ℕ, List, length, take, reverse, get_or, set}
use Rattle.std.proofs.Common.{cond, arith, sym, ap, subst, ◌∙◌}
use Rattle.std.proofs.lemmas.List.{take_more, take_all}
use Rattle.cache_core.proofs.Reuse.{has}
use Rattle.marked_list.specs.Uses.{forgotten, stamp_at}
use Rattle.marked_list.proofs.LastUse.{reverse-push}
use Rattle.marked_list.proofs.Stamps.{room-logged, unstamped-next}
use Rattle.marked_list.proofs.uses.unstamp.Goals as goal

pub bounds-stamps-number : goal.bounds-stamps-number
bounds-stamps-number c =
    let i = c.loop-number.number-index in
    let lt : i < length c.args.log.now = omega arith in
    omega (arith, room-logged c.args.log.now c.args.stamps.now i c.requires lt)

pub offset_bounds-stamps-number : goal.offset_bounds-stamps-number
offset_bounds-stamps-number c =
    let log = c.args.log.now in
    let i = c.loop-number.number-index in
    let lt : i < length log = omega arith in
    let below : get_or log i 0 < length c.loop-number.stamps =
    omega (arith, room-logged log c.args.stamps.now i c.requires lt) in
    search rules

pub loop-number-preserved : goal.loop-number-preserved
loop-number-preserved c =
    let log = c.args.log.now in
    let i = c.loop-number.number-index in
    let stamps = c.loop-number.stamps in
    let lt : i < length log = omega arith in
    let x = get_or log i 0 in
    let below : x < length stamps =
    omega (arith, room-logged log c.args.stamps.now i c.requires lt) in
    let ms = reverse (take i log) in
    let other = stamp_at c.args.stamps.now in
    subst (λ l. (q : ℕ) → stamp_at (set stamps x forgotten) q ≡ cond (has l q) forgotten (other q))
    (sym (ap (λ (l : List ℕ). reverse l) (take_more log i 0 lt) ∙ reverse-push (take i log) x))
    (unstamped-next ms stamps x other c.loop-number.invariant below)

pub returns : goal.returns
returns c =
    subst (λ l. (q : ℕ) → stamp_at c.loop-number.stamps q
    ≡ cond (has (reverse l) q) forgotten (stamp_at c.args.stamps.now q))
    (take_all c.loop-number.number-index c.args.log.now (omega arith)) c.loop-number.invariant
