use Rattle.std.proofs.Common.{◌≡◌, IfOk, map, string_bytes, subst}
use Rattle.grid_options.specs.Written.{written}
use Rattle.grid_options.proofs.grid.words_of.Goals as goal

pub returns-then-full : goal.returns-then-full
returns-then-full c = rw c.if-full.true
    (subst (λ s. IfOk c.shown_values.result
    (λ words. map string_bytes words.items ≡ map (written s) c.args.shown.now))
    c.requires c.shown_values.ensures)
