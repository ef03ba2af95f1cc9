use Rattle.std.proofs.Common.{Some, None, cond, ◌+◌, ◌*◌, ◌/◌, ◌<◌, sym, ap, subst, ◌∙◌}
use Rattle.std.proofs.Math.Pow.{pow_pos}
use Rattle.grid_core.proofs.Words.{word-dirty}
use Rattle.grid_core.proofs.word.dirty_byte.Goals as goal

pub returns-then-is_dirty : goal.returns-then-is_dirty
returns-then-is_dirty c = λ bsize sets set apart start.
    let n = c.args.stride in
    let w = c.args.word in
    let some : 0 < n = subst (λ m. 0 < m) (sym c.requires.power.1) (pow_pos c.requires.power.0) in
    ap Some (c.first_byte_of.ensures ∙ ap (λ k. w / n * n + k) start)
    ∙ sym (ap (λ t. cond t (Some (w / n * n + set * bsize)) None)
    (sym c.is_dirty.ensures ∙ c.if-is_dirty.true))
    ∙ sym (word-dirty n w some bsize sets set apart c.args.wback c.args.ways)

pub returns-else-is_dirty : goal.returns-else-is_dirty
returns-else-is_dirty c = λ bsize sets set apart start.
    let n = c.args.stride in
    let w = c.args.word in
    let some : 0 < n = subst (λ m. 0 < m) (sym c.requires.power.1) (pow_pos c.requires.power.0) in
    sym (ap (λ t. cond t (Some (w / n * n + set * bsize)) None)
    (sym c.is_dirty.ensures ∙ c.if-is_dirty.false))
    ∙ sym (word-dirty n w some bsize sets set apart c.args.wback c.args.ways)
