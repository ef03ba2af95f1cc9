use Rattle.std.proofs.Common.{◌<◌, ◌+◌, ℕ, get_or}
use Rattle.marked_list.proofs.marks.is_rising.Given as goal

-- the sizes that were passed rise
abbrev pub invariant-loop-index : goal.invariant-loop-index
invariant-loop-index l = (k : ℕ) → k + 1 < l.index → get_or l.sizes k 0 < get_or l.sizes (k + 1) 0
