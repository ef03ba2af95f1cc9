-- A step of a core leads to a sound core and to the next state of the network.
use Rattle.std.proofs.Common.{◌≡◌, suc, ◌^◌, ◌<◌, ◌≤◌, Bool, false, cond, List, [], length, Some}
use Rattle.std.proofs.Common.{Result, Ok, Err, OnOk, is_err, sym, ap, ◌∙◌, subst, arith}
use Rattle.cache_core.specs.Standing.{served_of}
use Rattle.stage_core.specs.Config.{hierarchy_of, ring_of}
use Rattle.stage_core.specs.Standing.{cache_of, l2_cache}
use Rattle.stage_core.specs.SecondLevel.{Parts}
use Rattle.stage_core.specs.Merging.{Merged, merged}
use Rattle.stage_core.specs.Network.Sides.{of_side}
use Rattle.stage_core.specs.Network.{Network, Machine, Consistent, enabled, steps_made}
use Rattle.stage_core.specs.Laws.{SecondLevelSeesAtMostTwo}
use Rattle.stage_core.specs.Network.Cores.{IsConsistent, enabled_in, CoreState, MakesStep}
use Rattle.stage_core.specs.Network.Cores.{IsSameRun, Sound, CachesStand, core_of, network_of}
use Rattle.stage_core.specs.Network.Cores.{next_in, parts_for}
use Rattle.stage_core.specs.declared.message.Side.{Side}
use Rattle.stage_core.specs.declared.message.Side.TheVariants as side
use Rattle.stage_core.specs.declared.message.What.{What}
use Rattle.stage_core.specs.declared.network.Core.TheInside.{Inside}
use Rattle.stage_core.proofs.Sides.{each_side}
use Rattle.stage_core.proofs.network.Kept.{keeps-next}
use Rattle.stage_core.proofs.network.Bounds.{few-given, few-taken_in}
use Rattle.stage_core.proofs.network.Schedules.{next-made}
use Rattle.stage_core.proofs.Worked.{served-requests}

-- a step of this machine leads to a sound core
pub record Steps (m : Machine) (old new : Inside) : Type 0 where
  pub sound : Sound new
  pub step : next_in (core_of old) m ≡ Some (network_of new)

-- a step leads to a sound core if its lanes, its other fields and its caches are those of the
-- network's next state; what the second level was given follows
pub reaches : {m : Machine} {old new : Inside} (n : Network) → Sound old
    → IsSameRun (core_of old) (core_of new) → next_in (core_of old) m ≡ Some n
    → n ≡ record (network_of new) { given = n.given }
    → CachesStand (hierarchy_of new.config) new.i.stage new.d.stage new.u new.i.to.popped
    new.d.to.popped n.given → new.pushed ≤ length new.pushes.items
    → Steps m old new
reaches {m} {old} {new} n sound run step rings caches pushed =
    let parts : Parts = parts_for old.config in
    let k = keeps-next parts old.events.items (network_of old) sound.consistent
    (ring_of old.config) m n step in
    let given : n.given ≡ (network_of new).given = ap (λ (x : Merged). x.taken) (sym k.merge)
    ∙ ap (λ (x : Network). (merged x.order.popped x.i.from.popped x.d.from.popped).taken) rings in
    let same : n ≡ network_of new =
    rings ∙ ap (λ (ws : List What). record (network_of new) { given = ws }) given in
    record {
      sound = record {
        consistent = rw (run.config, run.events) (subst (Consistent parts old.events.items) same k);
        caches = subst (CachesStand (hierarchy_of new.config) new.i.stage new.d.stage new.u
            new.i.to.popped new.d.to.popped) given caches;
        pushed = pushed;
        runnable = rw (run.config, run.events) sound.runnable;
      };
      step = step ∙ ap Some same;
    }

-- if the call did not fail, the core has made the machine's next step
pub makes-step : {T E P : Type 0} {m : Machine} {old : CoreState} {c : Inside}
    (new : Bool → Inside) (r : Result T E) (refused : Bool) → refused ≡ is_err r → core_of c ≡ old
    → ((f : Bool) → (new f).failed ≡ f) → (P → Steps m c (new refused)) → OnOk r P
    → OnOk r (MakesStep m old (core_of (new refused)))
makes-step {m} {old} {c} new (Ok x) refused same view failed steps p =
    let s = steps p in
    record {
      step = ap (λ (v : CoreState). next_in v m) (sym view) ∙ s.step;
      works = failed refused ∙ same;
    }
makes-step new (Err x) refused same view failed steps p = p

-- what holds of an answer that is no refusal, by the flag that says so
pub on_ok_by : {T E P : Type 0} (r : Result T E) (refused : Bool) → refused ≡ is_err r
    → refused ≡ false → OnOk r P → P
on_ok_by (Ok x) refused same ok p = p
on_ok_by (Err x) refused same ok p = absurd (cc)

-- a stage has room for one more request
pub room-below : (s : Side) {c : Inside} → Sound c
    → served_of (cache_of (of_side s c.i c.d).stage) < 2 ^ 44
room-below s {c} sound =
    let few = few-taken_in (parts_for c.config) c.events.items (network_of c) sound.consistent in
    each_side (λ s. served_of (cache_of (of_side s c.i c.d).stage) < 2 ^ 44)
    (omega (arith, sound.caches.i.stands.cache.served, few side.I, sound.runnable.short))
    (omega (arith, sound.caches.d.stands.cache.served, few side.D, sound.runnable.short)) s

-- the second level has room for one more
pub room-above : SecondLevelSeesAtMostTwo → (c : Inside) → Sound c
    → served_of (l2_cache c.u) < 2 ^ 44
room-above few c s =
    omega (
      arith,
      served-requests s.caches.u,
      few-given few (hierarchy_of c.config) c.events.items (network_of c) s.consistent,
      s.runnable.short,
    )

-- if no allocation failed, the enabled machines are those of the network
pub working : (v : CoreState) → v.failed ≡ false
    → enabled_in v ≡ enabled (parts_for v.config) (ring_of v.config) v.network
working v ok = ap (λ b. cond b [] (enabled (parts_for v.config) (ring_of v.config) v.network)) ok

-- a step of a core keeps it consistent, and counts as one
pub driven : {v w : CoreState} → IsConsistent v → (m : Machine) → MakesStep m v w
    → Consistent (parts_for v.config) v.events w.network
    × (steps_made w.network ≡ suc (steps_made v.network))
driven {v} {w} k m made = (
  keeps-next (parts_for v.config) v.events v.network k (ring_of v.config) m w.network made.step,
  next-made (parts_for v.config) (ring_of v.config) m v.network w.network made.step,
)
