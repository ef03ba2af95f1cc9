use Rattle.std.proofs.Common.{◌≡◌, ◌++◌, map, take, drop}
use Rattle.marked_list.specs.Marks.{restarted}
use Rattle.marked_list.proofs.marks.restart_each.Given as goal

abbrev pub invariant-loop-mark : goal.invariant-loop-mark
invariant-loop-mark l = take l.mark-index l.mark-items
    ++ map restarted (drop l.mark-index l.mark-items)
    ≡ map restarted l.initial.mark-items
