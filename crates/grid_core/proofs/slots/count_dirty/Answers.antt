use Rattle.std.proofs.Common.{◌≡◌, suc, ◌+◌, ◌-◌, ◌*◌, List, ℕ, drop, ap}
use Rattle.std.proofs.Common.{◌∙◌, arith}
use Rattle.std.proofs.lemmas.List.{length-take}
use Rattle.cache_core.specs.Row.{row}
use Rattle.grid_core.specs.Slot.{Slot, slots_in}
use Rattle.grid_core.specs.Slots.{dirty_slot_count, dirty_slot_count_in_rows}
use Rattle.grid_core.proofs.WordRows.{row-cut}
use Rattle.grid_core.proofs.slots.count_dirty.Goals as goal

pub loop-set-preserved : goal.loop-set-preserved
loop-set-preserved c =
    let n = c.args.stride in
    let sets = c.args.sets in
    let t = c.args.wback in
    let ways = c.args.ways in
    let most = c.args.most in
    let set = c.loop-set.set in
    let place = set * most in
    let ws = c.args.slots.now.items in
    let rows : ℕ → List Slot = λ k. slots_in n sets k (row most k ws) in
    let here = c.count_in-count.ensures.count sets set
    ∙ ap (dirty_slot_count t ways)
    (row-cut n sets set ways most place ws c.deref.result.now c.requires.fits
    c.deref.ensures.value) in
    let before = c.loop-set.invariant.counted in
    let next : suc set ≡ set + 1 = omega arith in
    let more = ap (dirty_slot_count_in_rows t ways rows) next in
    let before' : c.loop-set.count + c.count_in-count.result
    ≡ dirty_slot_count_in_rows t ways rows (suc set) = omega (arith, here, before) in
    let few = c.loop-set.invariant.few in
    let low = c.count_in-count.ensures.few in
    let short = length-take (place + ways - place) (drop place c.deref.result.now) in
    record {
      counted = before' ∙ more;
      few = omega arith;
    }
