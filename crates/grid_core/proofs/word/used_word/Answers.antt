use Rattle.std.proofs.Common.{◌≡◌, ◌+◌, ◌*◌, ◌/◌, ap, ◌∙◌, arith}
use Rattle.std.proofs.Math.Nat.{div-add-mod, mul_comm}
use Rattle.grid_core.specs.Slot.{among_all, used_slot}
use Rattle.grid_core.proofs.Words.{slot-made}
use Rattle.grid_core.proofs.word.used_word.Goals as goal

pub returns : goal.returns
returns c =
    let s = c.args.sought in
    let at = s.at in
    let low = c.requires in
    let home = s.home in
    let all = div-add-mod s.block s.sets in
    let turned = mul_comm (s.block / s.sets) s.sets in
    let whole : s.block / s.sets * s.sets + s.set ≡ s.block = omega arith in
    ap (among_all s.sets s.set)
    (slot-made s.stride (s.block / s.sets) c.args.level _ (omega arith) (omega arith))
    ∙ ap (λ b. used_slot b c.args.level) whole
