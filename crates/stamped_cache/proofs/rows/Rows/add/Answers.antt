use Rattle.std.proofs.Common.{◌≤◌, ◌+◌, ◌*◌, get_or, set, take}
use Rattle.std.proofs.Common.{◌++◌, ◌∷◌, [], sym, ap, ◌∙◌, arith, get_or-set_other}
use Rattle.std.proofs.lemmas.List.{get_or-set_same, get_or_default, length-set}
use Rattle.std.proofs.lemmas.List.Elements.{All-set}
use Rattle.cache_core.specs.Row.{row}
use Rattle.stamped_cache.specs.Rows.{row_held, rows_in, set_ways}
use Rattle.stamped_cache.proofs.RowLists.{row-add, row-set_other}
use Rattle.stamped_cache.proofs.RowSizes.{has-room, inside-all}
use Rattle.stamped_cache.proofs.rows.Rows.add.Goals as goal

pub invariant_of-self : goal.invariant_of-self
unfolding rows_in set_ways
invariant_of-self c =
    let old = c.args.self.now in
    let s = c.args.row in
    let n = c.index-count.result.now in
    let room = has-room old s n c.requires.inside c.index-count.ensures c.requires.room in
    record {
      wide = length-set old.numbers.items (s * old.ways + n) c.args.number ∙ old.wide
          ∙ ap (λ k. k * old.ways) (sym (length-set old.filled.items s (n + 1)));
      low = All-set (λ k. k ≤ old.ways) old.filled.items s (n + 1) (omega (arith, room)) old.low;
      narrow = old.narrow;
    }

pub returns-clause-added : goal.returns-clause-added
unfolding row_held rows_in set_ways
returns-clause-added c =
    let old = c.args.self.now in
    let s = c.args.row in
    let n = c.index-count.result.now in
    let inside = c.requires.inside in
    let is = c.index-count.ensures ∙ get_or_default old.filled.items s n 0 inside in
    let room = has-room old s n inside c.index-count.ensures c.requires.room in
    ap (λ k. take k (row old.ways s (set old.numbers.items (s * old.ways + n) c.args.number)))
    (get_or-set_same old.filled.items s (n + 1) 0 inside)
    ∙ row-add old.ways s old.numbers.items c.args.number n room (inside-all old s inside)
    ∙ ap (λ k. take k (row old.ways s old.numbers.items) ++ c.args.number ∷ []) is

pub returns-clause-others : goal.returns-clause-others
unfolding row_held rows_in set_ways
returns-clause-others c = λ t apart.
    let old = c.args.self.now in
    let s = c.args.row in
    let n = c.index-count.result.now in
    let room = has-room old s n c.requires.inside c.index-count.ensures c.requires.room in
    ap (λ k. take k (row old.ways t (set old.numbers.items (s * old.ways + n) c.args.number)))
    (get_or-set_other old.filled.items s t (n + 1) 0 apart)
    ∙ ap (take (get_or old.filled.items t 0))
    (row-set_other old.ways s old.numbers.items c.args.number n t room apart)
