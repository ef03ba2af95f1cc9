use Rattle.std.proofs.Common.{arith, rules}
use Rattle.dinero_options.proofs.CountLemmas.{below_end, below_room, one_more}
use Rattle.dinero_options.proofs.values.count_of.Goals as goal

pub overflow_mul-value : goal.overflow_mul-value
overflow_mul-value c =
    let l = c.loop-digit in
    let room = below_room l.digit-index l.value (omega arith) l.invariant.1 in
    omega arith

pub overflow_add-value : goal.overflow_add-value
overflow_add-value c =
    let l = c.loop-digit in
    let room = below_room l.digit-index l.value (omega arith) l.invariant.1 in
    omega arith

pub loop-digit-preserved : goal.loop-digit-preserved
loop-digit-preserved c =
    let l = c.loop-digit in
    one_more c.args.digits.now l.digit-index l.value c.from.result
    (search rules) c.loop-digit-test.true l.invariant.0 l.invariant.1 c.from.ensures

pub returns-clause-bound : goal.returns-clause-bound
returns-clause-bound c = below_end c.loop-digit.digit-index c.loop-digit.value
    (omega arith) c.loop-digit.invariant.1
