use Rattle.std.proofs.Common.{◌≡◌, ◌+◌, ◌++◌, ◌≤◌, List, length}
use Rattle.std.specs.List.{flat_map}
use Rattle.cache_core.specs.Standing.{rules_of, served_of}
use Rattle.stage_core.specs.Merging.{what_in}
use Rattle.stage_core.specs.Standing.{L2StandsFor, cache_of, side_of, outbox_of, took_finish}
use Rattle.stage_core.specs.Standing.{l2_cache}
use Rattle.stage_core.specs.Plain.{AreWanted, state_after}
use Rattle.stage_core.specs.declared.message.What.{What}
use Rattle.stage_core.proofs.plain.drain.Given as goal

abbrev pub invariant-loop-message : goal.invariant-loop-message
invariant-loop-message l =
    record {
      wanted : AreWanted l.merge (outbox_of l.stage);
      room : served_of (l2_cache l.u) + length (flat_map what_in (outbox_of l.stage))
          ≤ 17592186044416;
      cache : cache_of l.stage ≡ cache_of l.initial.stage;
      side : side_of l.stage ≡ side_of l.initial.stage;
      finish : took_finish l.stage ≡ took_finish l.initial.stage;
      rules : rules_of (l2_cache l.u) ≡ rules_of (l2_cache l.initial.u);
      merge : state_after l.merge (outbox_of l.stage)
          ≡ state_after l.initial.merge (outbox_of l.initial.stage);
      second : (before : List What) → L2StandsFor l.initial.u before →
          (done : List What) × (done ++ flat_map what_in (outbox_of l.stage)
          ≡ flat_map what_in (outbox_of l.initial.stage)) × L2StandsFor l.u
          (before ++ done);
    }

abbrev pub decreases-loop-message : goal.decreases-loop-message
decreases-loop-message l = length (outbox_of l.stage)
