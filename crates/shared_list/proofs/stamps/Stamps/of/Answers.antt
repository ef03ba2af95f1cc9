use Rattle.std.proofs.Common.{◌+◌, ◌*◌, sym, ◌∙◌, arith}
use Rattle.std.proofs.lemmas.List.{get_or_default}
use Rattle.marked_list.specs.Uses.{never}
use Rattle.shared_list.specs.Stamps.{blocks_in, stamps_of, users_in}
use Rattle.shared_list.proofs.Columns.{column-at, place-inside}
use Rattle.shared_list.proofs.stamps.Stamps.of.Goals as goal

pub returns : goal.returns
unfolding stamps_of users_in blocks_in
returns c =
    let s = c.args.self.now in
    let n = c.args.number in
    let q = c.args.user in
    c.index.ensures
    ∙ get_or_default s.stamps.items (n * s.users + q) c.index.result.now never
    (omega (arith, place-inside n s.blocks s.users q c.requires.room c.requires.user, s.wide))
    ∙ sym (column-at s.users s.blocks s.stamps.items s.wide q n c.requires.user)
