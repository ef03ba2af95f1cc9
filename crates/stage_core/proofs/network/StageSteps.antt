-- A core after a step of a stage.
use Rattle.std.proofs.Common.{◌≡◌, ℕ, ◌^◌, ◌<◌, Bool, cond, List, [], ◌∷◌, Option, Some, None}
use Rattle.std.proofs.Common.{IsSome, refl, sym, ap, ◌∙◌, subst}
use Rattle.std.specs.Option.{option_map}
use Rattle.cache_core.specs.History.{Rules}
use Rattle.cache_core.specs.Standing.{rules_of, served_of}
use Rattle.stage_core.specs.SecondLevel.{Hierarchy, parts_of, parts_in, rules_at}
use Rattle.stage_core.specs.Streams.{reply}
use Rattle.stage_core.specs.Config.{hierarchy_of, ring_of}
use Rattle.stage_core.specs.Standing.{cache_of, outbox_of}
use Rattle.stage_core.specs.Network.Rings.{Ring, pop}
use Rattle.stage_core.specs.Network.Sides.{of_side, OneChanges}
use Rattle.stage_core.specs.Network.{Lane, Network, Stage, finish_taken, stage, with_lane}
use Rattle.stage_core.specs.Network.Lanes.{lane_of, stage_next, TookIn, MayStep, HasStepped}
use Rattle.stage_core.specs.Network.Cores.{Sound, core_of, network_of, next_in}
use Rattle.stage_core.specs.declared.message.Side.{Side}
use Rattle.stage_core.specs.declared.message.Side.TheVariants as side
use Rattle.stage_core.specs.declared.message.ToStage.{ToStage}
use Rattle.stage_core.specs.declared.message.ToStage.TheVariants as to_stage
use Rattle.stage_core.specs.declared.message.FromStage.{FromStage}
use Rattle.stage_core.specs.declared.network.lane.Lane as code
use Rattle.stage_core.specs.declared.network.Core.TheInside.{Inside}
use Rattle.stage_core.proofs.network.Steps.{Steps, reaches, room-below}

-- a stage's step is the same by the rules of its own cache and by those of its side
by_rules : (h : Hierarchy) (r : Rules) (s : Side) → r ≡ rules_at h s
    → (before : List ToStage) (m : ToStage)
    → reply (parts_of r) s before m ≡ reply (parts_in h) s before m
by_rules h r s e before (to_stage.Ref p c a) =
    ap (λ q. reply (parts_of q) s before (to_stage.Ref p c a)) e
by_rules h r s e before (to_stage.Flush p) =
    ap (λ q. reply (parts_of q) s before (to_stage.Flush p)) e
by_rules h r s e before to_stage.Finish = refl

same-map : {A B : Type 0} (f g : A → B) → ((x : A) → f x ≡ g x) → (o : Option A)
    → option_map f o ≡ option_map g o
same-map f g h None = refl
same-map f g h (Some x) = ap Some (h x)

same-stage : (h : Hierarchy) (r : Rules) (s : Side) → r ≡ rules_at h s → (capacity : ℕ)
    (outbox : List FromStage) (l : Lane)
    → stage (parts_of r) capacity s outbox l ≡ stage (parts_in h) capacity s outbox l
same-stage h r s e capacity (m ∷ rest) l = refl
same-stage h r s e capacity [] l =
    same-map _ _
    (λ (x : ToStage × Ring ToStage).
    ap (λ (o : List FromStage). record { to = x.1; outbox = o; from = l.from })
    (by_rules h r s e l.to.popped x.0)) (cond (finish_taken l) None (pop l.to))

-- what a mapped value comes from is there
some-mapped : {A B : Type 0} (f : A → B) (o : Option A) → IsSome (option_map f o) → IsSome o
some-mapped f None h = absurd (cc)
some-mapped f (Some x) h = refl

stage-is : (h : Hierarchy) (s : Side) (ms : List ToStage) (capacity : ℕ) (l : code.Lane)
    → TookIn (rules_at h s) s l.stage ms
    → stage_next capacity l ≡ stage (parts_in h) capacity s (outbox_of l.stage) (lane_of l)
stage-is h s ms capacity l took =
    ap (λ q. stage (parts_of (rules_of (cache_of l.stage))) capacity q (outbox_of l.stage)
    (lane_of l)) took.same_side
    ∙ same-stage h (rules_of (cache_of l.stage)) s took.same_rules capacity (outbox_of l.stage)
    (lane_of l)

-- a lane after a step of its stage, whose cache has the rules of its side
module _ (h : Hierarchy) (capacity : ℕ) (s : Side) (was now : code.Lane)
    (took : TookIn (rules_at h s) s was.stage was.to.popped)
    (steps : HasStepped capacity was now) where
  lane-next : stage (parts_in h) capacity s (outbox_of was.stage) (lane_of was)
      ≡ Some (lane_of now)
  lane-next = sym (stage-is h s was.to.popped capacity was took) ∙ steps.step

  still-took : TookIn (rules_at h s) s now.stage now.to.popped
  still-took = record {
    same_rules = steps.rules ∙ took.same_rules;
    same_side = steps.side ∙ took.same_side;
    stands = steps.stands;
  }

-- what the network and the stages' caches have come to, after a step of one stage
record Stepped (c : Inside) (s : Side) (i d : code.Lane) : Type 0 where
  next : next_in (core_of c) (Stage s)
      ≡ Some (record (network_of c) { i = lane_of i; d = lane_of d })
  took_i : TookIn (hierarchy_of c.config).i side.I i.stage i.to.popped
  took_d : TookIn (hierarchy_of c.config).d side.D d.stage d.to.popped

stepped : (s : Side) (c : Inside) (i d : code.Lane) → Sound c
    → OneChanges s (HasStepped (ring_of c.config)) c.i c.d i d → Stepped c s i d
stepped side.I c i d sound h = rw h.1 (record {
  next = ap (option_map (λ l. record (network_of c) { i = l }))
      (lane-next (hierarchy_of c.config) (ring_of c.config) side.I c.i i sound.caches.i h.0);
  took_i = still-took (hierarchy_of c.config) (ring_of c.config) side.I c.i i sound.caches.i h.0;
  took_d = sound.caches.d;
})
stepped side.D c i d sound h = rw h.0 (record {
  next = ap (option_map (λ l. record (network_of c) { d = l }))
      (lane-next (hierarchy_of c.config) (ring_of c.config) side.D c.d d sound.caches.d h.1);
  took_i = sound.caches.i;
  took_d = still-took (hierarchy_of c.config) (ring_of c.config) side.D c.d d sound.caches.d h.1;
})

-- the core after a step of one stage
abbrev pub with_lanes : Inside → code.Lane → code.Lane → Bool → Inside
with_lanes c i d f = record c { i = i; d = d; failed = f }

-- it made the next step of that stage, and is sound
pub stage-steps : (s : Side) (c : Inside) (i d : code.Lane) (f : Bool) → Sound c
    → OneChanges s (HasStepped (ring_of c.config)) c.i c.d i d
    → Steps (Stage s) c (with_lanes c i d f)
stage-steps s c i d f sound h =
    let now = stepped s c i d sound h in
    reaches (record (network_of c) { i = lane_of i; d = lane_of d }) sound
    (record { config = refl; events = refl }) now.next refl
    (record { i = now.took_i; d = now.took_d; u = sound.caches.u; u_rules = sound.caches.u_rules })
    sound.pushed

-- a lane of a sound core can make a step that the network can make
lane-may : (h : Hierarchy) (capacity : ℕ) (s : Side) (l : code.Lane) (f : Lane → Network)
    → TookIn (rules_at h s) s l.stage l.to.popped
    → IsSome (option_map f (stage (parts_in h) capacity s (outbox_of l.stage) (lane_of l)))
    → served_of (cache_of l.stage) < 2 ^ 44 → MayStep capacity l
lane-may h capacity s l f took possible room = record {
  stands = took.stands;
  possible = subst IsSome (sym (stage-is h s l.to.popped capacity l took))
      (some-mapped f _ possible);
  room = room;
}

-- so can the stage of a side
pub may-step : (s : Side) (c : Inside) → Sound c → IsSome (next_in (core_of c) (Stage s))
    → MayStep (ring_of c.config) (of_side s c.i c.d)
may-step side.I c sound possible = lane-may (hierarchy_of c.config) _ side.I c.i
    (λ l. with_lane side.I l (network_of c)) sound.caches.i possible (room-below side.I sound)
may-step side.D c sound possible = lane-may (hierarchy_of c.config) _ side.D c.d
    (λ l. with_lane side.D l (network_of c)) sound.caches.d possible (room-below side.D sound)
