use Rattle.std.proofs.Common.{◌≡◌, ◌+◌, ◌*◌, ◌-◌, take, drop, length, arith}
use Rattle.std.specs.List.{find}
use Rattle.cache_core.specs.Policy.{is_fifo}
use Rattle.cache_core.specs.Row.{holds_block}
use Rattle.cache_core.proofs.Charged.{charged-row, charged-mid, charged-by}
use Rattle.std.proofs.lemmas.Grind.{common_steps}
use Rattle.cache_core.proofs.RowsOf.{row-put_mid_other}
use Rattle.cache_core.proofs.ways.serve_ways.Goals as goal

pub returns-clause-others : goal.returns-clause-others
returns-clause-others c = λ s apart.
    let long : length c.serve_row.new.row ≡ c.args.assoc = grind (arith, common_steps) in
    row-put_mid_other c.args.assoc s c.args.set c.args.ways.now c.serve_row.new.row apart c.requires
    long

pub returns-clause-charged : goal.returns-clause-charged
returns-clause-charged c =
    let xs = c.args.ways.now in
    let a = c.args.set * c.args.assoc in
    let k = a + c.args.assoc - a in
    let old = take k (drop a xs) in
    let step = charged-row old (is_fifo c.args.policy) c.args.policy.wback c.args.policy.walloc
    c.args.write c.args.block_addr (find (holds_block c.args.block_addr) old) in
    charged-mid a k _ xs c.serve_row.new.row
    (charged-by old _ _ _ _ c.serve_row.ensures.row c.serve_row.ensures.back step)
