use Rattle.std.proofs.Common.{◌≡◌, ◌++◌, map, take, drop}
use Rattle.marked_list.specs.Marks.{settled}
use Rattle.marked_list.proofs.marks.settle_each.Given as goal

abbrev pub invariant-loop-mark : goal.invariant-loop-mark
invariant-loop-mark l = take l.mark-index l.mark-items
    ++ map (settled l.used) (drop l.mark-index l.mark-items)
    ≡ map (settled l.used) l.initial.mark-items
