use Rattle.std.proofs.Common.{◌≡◌, suc, ◌+◌, ◌*◌, ◌/◌, ◌<◌, cond, [], ◌∷◌, ◌++◌, drop, get_or}
use Rattle.std.proofs.Common.{sym, ap, subst, ◌∙◌, arith}
use mathlib.Core.List.{append_assoc}
use Rattle.std.proofs.Math.Pow.{pow_pos}
use Rattle.grid_core.specs.Pushed.{is_dirty_slot}
use Rattle.grid_core.specs.Slot.{kept_in_set, slots_in}
use Rattle.grid_core.specs.Slots.{dirty_bytes}
use Rattle.grid_core.proofs.WordRows.{bytes_at}
use Rattle.grid_core.proofs.slots.gather.Goals as goal
use Rattle.grid_core.proofs.slots.gather.Goals.{then-is_dirty+in_ok-push, else-is_dirty}

pub loop-word-preserved : goal.loop-word-preserved
loop-word-preserved c = λ bsize sets set apart start.
    let n = c.args.stride in
    let ws = c.args.row.now in
    let i = c.loop-word.word-index in
    let w = get_or ws i 0 in
    let old = c.loop-word.bytes.items in
    let some : 0 < n = subst (λ m. 0 < m) (sym c.requires.power.1) (pow_pos c.requires.power.0) in
    let rest = dirty_bytes bsize c.args.wback c.args.ways
    (slots_in n sets set (drop (i + 1) ws)) in
    let next : suc i ≡ i + 1 = omega arith in
    let at = bytes_at bsize n sets set apart some c.args.wback c.args.ways i ws
    c.loop-word-test.true
    ∙ ap (λ k. cond (is_dirty_slot c.args.wback c.args.ways (kept_in_set n w))
    ((w / n * n + set * bsize)
    ∷ dirty_bytes bsize c.args.wback c.args.ways (slots_in n sets set (drop k ws)))
    (dirty_bytes bsize c.args.wback c.args.ways (slots_in n sets set (drop k ws)))) next in
    elim c.if-is_dirty.branch [
      | then-is_dirty+in_ok-push v ↦
          let yes = sym c.is_dirty.ensures ∙ v.if-is_dirty.true in
          ap (λ b. b.items ++ rest) v.bytes-is
          ∙ ap (λ l. l ++ rest) v.in_ok-push.ensures.items
          ∙ append_assoc old (v.first_byte_of.result ∷ []) rest
          ∙ ap (λ b. old ++ b ∷ rest)
          (v.first_byte_of.ensures ∙ ap (λ k. w / n * n + k) start)
          ∙ sym (ap (λ l. old ++ l)
          (at ∙ ap (λ t. cond t ((w / n * n + set * bsize) ∷ rest) rest) yes))
          ∙ c.loop-word.invariant bsize sets set apart start
      | else-is_dirty v ↦
          let none = sym c.is_dirty.ensures ∙ v.if-is_dirty.false in
          ap (λ b. b.items ++ rest) v.bytes-is
          ∙ sym (ap (λ l. old ++ l)
          (at ∙ ap (λ t. cond t ((w / n * n + set * bsize) ∷ rest) rest) none))
          ∙ c.loop-word.invariant bsize sets set apart start
    ]
