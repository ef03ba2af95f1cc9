use Rattle.std.proofs.Common.{◌≢◌, ◌-◌, ◌%◌, ◌&&◌, ◌<◌, ltb, sym, ap, subst, ◌∙◌, arith}
use Rattle.std.proofs.Math.Pow.{pow_pos}
use Rattle.grid_core.specs.Pushed.{is_dirty_slot}
use Rattle.grid_core.proofs.Words.{word-none, word-used}
use Rattle.grid_core.proofs.word.is_dirty.Goals as goal

pub returns-then-above-eq0 : goal.returns-then-above-eq0
returns-then-above-eq0 c =
    let n = c.args.stride in
    let some : 0 < n = subst (λ m. 0 < m) (sym c.requires.power.1) (pow_pos c.requires.power.0) in
    sym (ap (is_dirty_slot c.args.wback c.args.ways)
    (word-none n c.args.word some (sym c.above-above.ensures ∙ c.if-above-eq0.true)))

pub returns-then-wback : goal.returns-then-wback
returns-then-wback c =
    let n = c.args.stride in
    let w = c.args.word in
    let ways = c.args.ways in
    let is = c.above-above.ensures in
    let positive = c.if-above-eq0.false in
    let some : 0 < n = subst (λ m. 0 < m) (sym c.requires.power.1) (pow_pos c.requires.power.0) in
    let ne : w % n ≢ 0 = λ e. omega (arith, e, positive) in
    ap (λ k. ltb (k - 1) ways) is
    ∙ sym (ap (λ t. t && ltb (w % n - 1) ways) c.if-wback.true)
    ∙ sym (ap (is_dirty_slot c.args.wback ways) (word-used n w some ne))
