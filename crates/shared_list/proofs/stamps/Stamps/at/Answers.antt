use Rattle.std.proofs.Common.{◌+◌, ◌*◌, ◌≤◌, sym, ◌∙◌, arith}
use Rattle.std.proofs.Math.Nat.{mul-le-mul_right}
use Rattle.std.proofs.lemmas.List.{get_or_past}
use Rattle.marked_list.specs.Uses.{never}
use Rattle.shared_list.specs.Stamps.{blocks_in, stamps_of, users_in}
use Rattle.shared_list.proofs.Columns.{column-at}
use Rattle.shared_list.proofs.stamps.Stamps.at.Goals as goal

pub returns : goal.returns
unfolding stamps_of users_in blocks_in
returns c =
    let s = c.args.self.now in
    let n = c.args.number in
    let q = c.args.user in
    let rows : s.blocks * s.users ≤ n * s.users = mul-le-mul_right s.users c.if-number-self.false in
    sym (column-at s.users s.blocks s.stamps.items s.wide q n c.requires
    ∙ get_or_past s.stamps.items (n * s.users + q) never (omega (arith, rows, s.wide)))
