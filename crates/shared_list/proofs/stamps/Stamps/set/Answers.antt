use Rattle.std.proofs.Common.{◌+◌, ◌*◌, ◌&&◌, cond, eqb, set, ap, sym, ◌∙◌}
use Rattle.std.proofs.lemmas.List.{length-set}
use Rattle.shared_list.specs.Stamps.{blocks_in, stamps_of, users_in}
use Rattle.shared_list.proofs.Columns.{column-at, item-set}
use Rattle.shared_list.proofs.stamps.Stamps.set.Goals as goal

pub returns-clause-set : goal.returns-clause-set
unfolding stamps_of users_in blocks_in
returns-clause-set c = λ q n low.
    let s = c.args.self.now in
    let K = s.users in
    let b = c.args.number in
    let u = c.args.user in
    let v = c.args.stamp in
    let items = s.stamps.items in
    let place = b * K + u in
    column-at K s.blocks (set items place v) (length-set items place v ∙ s.wide) q n low
    ∙ item-set K s.blocks items s.wide b u v c.requires.user c.requires.room q n low
    ∙ ap (λ w. cond (eqb b n && eqb u q) v w) (sym (column-at K s.blocks items s.wide q n low))
