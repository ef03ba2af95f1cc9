use Rattle.std.proofs.Common.{rules, ◌≡◌, ◌<◌, ◌∷◌, ℕ, List, length, take, reverse, get_or, set}
use Rattle.std.proofs.Common.{arith, sym, ap, subst, ◌∙◌}
use Rattle.std.specs.Prelude.{unwrap_or}
use Rattle.std.proofs.lemmas.List.{length-reverse, length-take-le, take_more, take_all}
use Rattle.marked_list.specs.Uses.{last_in, stamp_at}
use Rattle.marked_list.proofs.LastUse.{reverse-push}
use Rattle.marked_list.proofs.Stamps.{room-logged, restamped-next}
use Rattle.marked_list.proofs.uses.restamp.Goals as goal

pub bounds-stamps-number : goal.bounds-stamps-number
bounds-stamps-number c =
    let i = c.loop-place.place in
    let lt : i < length c.args.log.now = omega arith in
    omega (arith, room-logged c.args.log.now c.args.stamps.now i c.requires.room lt)

pub offset_bounds-stamps-number : goal.offset_bounds-stamps-number
offset_bounds-stamps-number c =
    let log = c.args.log.now in
    let i = c.loop-place.place in
    let lt : i < length log = omega arith in
    let below : get_or log i 0 < length c.loop-place.stamps =
    omega (arith, room-logged log c.args.stamps.now i c.requires.room lt) in
    search rules

pub loop-place-preserved : goal.loop-place-preserved
loop-place-preserved c =
    let log = c.args.log.now in
    let i = c.loop-place.place in
    let stamps = c.loop-place.stamps in
    let lt : i < length log = omega arith in
    let x = get_or log i 0 in
    let below : x < length stamps =
    omega (arith, room-logged log c.args.stamps.now i c.requires.room lt) in
    let ms = reverse (take i log) in
    let long : length ms ≡ i = length-reverse (take i log) ∙ length-take-le i log (omega arith) in
    let other = stamp_at c.args.stamps.now in
    subst (λ l. (q : ℕ) → stamp_at (set stamps x i) q ≡ unwrap_or (last_in l q) (other q))
    (sym (ap (λ (l : List ℕ). reverse l) (take_more log i 0 lt) ∙ reverse-push (take i log) x))
    (subst (λ n. (q : ℕ) → stamp_at (set stamps x n) q
    ≡ unwrap_or (last_in (x ∷ ms) q) (other q)) long
    (restamped-next ms stamps x other c.loop-place.invariant below))

pub returns : goal.returns
returns c =
    subst (λ l. (q : ℕ) → stamp_at c.loop-place.stamps q
    ≡ unwrap_or (last_in (reverse l) q) (stamp_at c.args.stamps.now q))
    (take_all c.loop-place.place c.args.log.now (omega arith)) c.loop-place.invariant
