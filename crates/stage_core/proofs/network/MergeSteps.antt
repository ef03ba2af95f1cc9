-- A core after a step of the merge.
use Rattle.std.proofs.Common.{◌≡◌, Bool, ◌++◌, Some, refl, ◌∙◌}
use Rattle.cache_core.specs.Standing.{rules_of}
use Rattle.stage_core.specs.Merging.{MergeState, wanted, want_of, after_turn, after_message}
use Rattle.stage_core.specs.Merging.{what_in}
use Rattle.stage_core.specs.Standing.{L2StandsFor, l2_cache}
use Rattle.stage_core.specs.Network.Rings.{Ring, pop}
use Rattle.stage_core.specs.Network.Sides.{OneChanges}
use Rattle.stage_core.specs.Network.{Network, Merging, merge}
use Rattle.stage_core.specs.Network.Cores.{Sound, network_of}
use Rattle.stage_core.specs.declared.message.Side.{Side}
use Rattle.stage_core.specs.declared.message.Side.TheVariants as side
use Rattle.stage_core.specs.declared.message.Want.TheVariants as want
use Rattle.stage_core.specs.declared.message.Turn.{Turn}
use Rattle.stage_core.specs.declared.message.FromStage.{FromStage}
use Rattle.stage_core.specs.declared.l2_stage.L2Stage.{L2Stage}
use Rattle.stage_core.specs.declared.network.Core.TheInside.{Inside}
use Rattle.stage_core.proofs.network.Steps.{Steps, reaches}

-- the core after the merge took a turn
abbrev pub with_turn : Inside → Ring Turn → MergeState → Inside
with_turn c o at = record c { order = o; merge = at }

-- it made the next step of the merge, and is sound
pub turn-steps : (c : Inside) (t : Turn) (o : Ring Turn) (at : MergeState) → Sound c
    → wanted c.merge ≡ want.Order → pop c.order ≡ Some (t, o) → at ≡ after_turn t
    → Steps Merging c (with_turn c o at)
turn-steps c t o at s w p e =
    reaches (record (network_of c) { order = o; at = at }) s
    (record { config = refl; events = refl }) (rw (w, p, e) refl) refl s.caches s.pushed

-- the network after the merge took a message of a side
next-taken : (s : Side) (n : Network) (m : FromStage) (i d : Ring FromStage)
    → wanted n.at ≡ want_of s
    → OneChanges s (λ was now. pop was ≡ Some (m, now)) n.i.from n.d.from i d
    → merge (wanted n.at) n ≡ Some (record n {
      i = record (n.i) { from = i };
      d = record (n.d) { from = d };
      at = after_message n.at m;
      given = n.given ++ what_in m;
    })
next-taken side.I n m i d w h = rw (w, h.0, h.1) refl
next-taken side.D n m i d w h = rw (w, h.0, h.1) refl

-- the core after the merge took a message
abbrev pub with_taken : Inside → Ring FromStage → Ring FromStage → MergeState → L2Stage → Bool
    → Inside
with_taken c i d at u f = record c {
  i = record (c.i) { from = i };
  d = record (c.d) { from = d };
  merge = at;
  u = u;
  failed = f;
}

-- it made the next step of the merge, and is sound
pub take-steps : (s : Side) (c : Inside) (m : FromStage) (i d : Ring FromStage) (at : MergeState)
    (u : L2Stage) (f : Bool) → Sound c → wanted c.merge ≡ want_of s
    → OneChanges s (λ was now. pop was ≡ Some (m, now)) c.i.from c.d.from i d
    → at ≡ after_message c.merge m
    → L2StandsFor u ((network_of c).given ++ what_in m)
    → rules_of (l2_cache u) ≡ rules_of (l2_cache c.u)
    → Steps Merging c (with_taken c i d at u f)
take-steps s c m i d at u f sound w h e stands rules =
    let n : Network = network_of c in
    reaches (record n {
      i = record (n.i) { from = i };
      d = record (n.d) { from = d };
      at = at;
      given = n.given ++ what_in m;
    }) sound (record { config = refl; events = refl }) (rw e (next-taken s n m i d w h)) refl
    (record {
      i = sound.caches.i;
      d = sound.caches.d;
      u = stands;
      u_rules = rules ∙ sound.caches.u_rules;
    }) sound.pushed
