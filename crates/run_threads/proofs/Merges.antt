-- The merge's thread after one more message.
use Rattle.std.proofs.Common.{◌≡◌, List, [], ◌∷◌, ◌++◌, refl, sym, ◌∙◌, subst}
use Rattle.pipe_rings.specs.Rings.{received, SameRx}
use Rattle.pipe_rings.proofs.Ends.{rx_stays}
use Rattle.cache_core.specs.Standing.{rules_of}
use Rattle.stage_core.specs.Merging.{MergeState, AtOrder}
use Rattle.stage_core.specs.Merging.{wanted, want_of, after_turn, after_message, what_in}
use Rattle.stage_core.specs.Standing.{L2StandsFor, l2_cache}
use Rattle.stage_core.specs.Waiting.{HasMerged}
use Rattle.stage_core.specs.declared.message.Side.{Side}
use Rattle.stage_core.specs.declared.message.Side.TheVariants as side
use Rattle.stage_core.specs.declared.message.Turn.{Turn}
use Rattle.stage_core.specs.declared.message.Want.TheVariants as want
use Rattle.stage_core.specs.declared.message.What.{What}
use Rattle.stage_core.specs.declared.message.FromStage.{FromStage}
use Rattle.stage_core.specs.declared.l2_stage.L2Stage.{L2Stage}
use Rattle.run_threads.specs.declared.ends.MergeEnds.{MergeEnds}
use Rattle.run_threads.specs.Ends.{UnusedMerge, SameMergeEnds}
use Rattle.run_threads.specs.Threads.{MergeServed}
use Rattle.run_threads.specs.Waits.{OnlyFrom, end_from, merge_at}
use Rattle.stage_core.proofs.OnePop.{merged-turn, merged-from}

pub merges-nothing : (u : L2Stage) (ends : MergeEnds) (at : MergeState) → at ≡ AtOrder
    → L2StandsFor u [] → UnusedMerge ends → MergeServed at u ends u ends
merges-nothing u ends at begins stands unused = record {
  rings = record {
    order = ((refl, refl, refl, refl), refl);
    from_i = ((refl, refl, refl, refl), refl);
    from_d = ((refl, refl, refl, refl), refl);
  };
  rules = refl;
  requests = [];
  used = rw (unused.order, unused.from_i, unused.from_d, begins) refl;
  stands = stands;
}

module _ (began : L2Stage) (start : MergeEnds) (at : MergeState) (u : L2Stage)
    (was : MergeEnds) where
  pub merges-turn : (t : Turn) (now : MergeEnds) (next : MergeState)
      → MergeServed at began start u was
      → wanted at ≡ want.Order → next ≡ after_turn t → SameRx was.order now.order
      → received now.order ≡ received was.order ++ t ∷ []
      → now.from_i ≡ was.from_i → now.from_d ≡ was.from_d → MergeServed next began start u now
  merges-turn t now next going wants to ring got same_i same_d = record {
    rings = record {
      order = rx_stays start.order was.order now.order going.rings.order ring;
      from_i = subst (SameRx start.from_i) (sym same_i) going.rings.from_i;
      from_d = subst (SameRx start.from_d) (sym same_d) going.rings.from_d;
    };
    rules = going.rules;
    requests = going.requests;
    used = rw (got, same_i, same_d, to) (merged-turn (received was.order) (received was.from_i)
        (received was.from_d) going.requests at t going.used wants);
    stands = going.stands;
  }

  module _ (m : FromStage) (next : MergeState) (v : L2Stage) (now : MergeEnds)
      (going : MergeServed at began start u was) where
    -- the merge's ends are those of the same rings, after a message from this side
    rings-from : (s : Side) → OnlyFrom s was now → SameMergeEnds start now
    rings-from side.I only = record {
      order = subst (SameRx start.order) (sym only.0) going.rings.order;
      from_i = rx_stays start.from_i was.from_i now.from_i going.rings.from_i only.1;
      from_d = subst (SameRx start.from_d) (sym only.2) going.rings.from_d;
    }
    rings-from side.D only = record {
      order = subst (SameRx start.order) (sym only.0) going.rings.order;
      from_i = subst (SameRx start.from_i) (sym only.2) going.rings.from_i;
      from_d = rx_stays start.from_d was.from_d now.from_d going.rings.from_d only.1;
    }

    -- and the merge's rule has used that message too
    used-from : (s : Side) → wanted at ≡ want_of s → OnlyFrom s was now
        → received (end_from now s) ≡ received (end_from was s) ++ m ∷ []
        → next ≡ after_message at m → HasMerged (merge_at next (going.requests ++ what_in m) now)
    used-from side.I wants only got to = rw (only.0, got, only.2, to) (merged-from side.I
        (received was.order) (received was.from_i) (received was.from_d) going.requests at m
        going.used wants)
    used-from side.D wants only got to = rw (only.0, only.2, got, to) (merged-from side.D
        (received was.order) (received was.from_i) (received was.from_d) going.requests at m
        going.used wants)

    pub merges-from : (s : Side) → wanted at ≡ want_of s → OnlyFrom s was now
        → received (end_from now s) ≡ received (end_from was s) ++ m ∷ []
        → next ≡ after_message at m → ((before : List What) → L2StandsFor u before
        → L2StandsFor v (before ++ what_in m)) → rules_of (l2_cache v) ≡ rules_of (l2_cache u)
        → MergeServed next began start v now
    merges-from s wants only got to serves same = record {
      rings = rings-from s only;
      rules = same ∙ going.rules;
      requests = going.requests ++ what_in m;
      used = used-from s wants only got to;
      stands = serves going.requests going.stands;
    }
