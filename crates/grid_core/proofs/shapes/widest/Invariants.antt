use Rattle.std.specs.List.{All}
use Rattle.grid_core.specs.Shapes.{IsWider}
use Rattle.grid_core.specs.Slot.{HasWords}
use Rattle.grid_core.proofs.shapes.widest.Given as goal

abbrev pub invariant-loop-other : goal.invariant-loop-other
invariant-loop-other l = record {
  wider : IsWider l.fn.geometry l.best;
  words : HasWords l.fn.geometry → All HasWords l.geometries → HasWords l.best;
}
