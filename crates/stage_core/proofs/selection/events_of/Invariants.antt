use Rattle.std.proofs.Common.{◌≡◌, take}
use Rattle.stage_core.specs.Events.{events}
use Rattle.stage_core.specs.Standing.{WasOffered}
use Rattle.stage_core.proofs.selection.events_of.Given as goal

abbrev pub invariant-loop-next : goal.invariant-loop-next
invariant-loop-next l =
    record {
      selection : l.selector.selection ≡ l.fn.selection;
      offered : WasOffered l.selector (take l.next-index l.records);
      made : l.made.items ≡ events l.fn.selection (take l.next-index l.records);
    }
