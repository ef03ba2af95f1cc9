-- A core after a step of the splitter.
use Rattle.std.proofs.Common.{◌≡◌, ℕ, suc, ◌+◌, ◌<◌, ◌≤◌, Bool, true, false, cond, List, [], ◌∷◌}
use Rattle.std.proofs.Common.{length, get_or, drop, Some, None, IsSome, refl, sym, ap, ◌∙◌, subst}
use Rattle.std.proofs.Common.{arith, length-drop, drop-cons, add-one}
use Rattle.std.specs.Option.{option_map}
use Rattle.stage_core.specs.Config.{ring_of}
use Rattle.stage_core.specs.Network.Rings.{Ring}
use Rattle.stage_core.specs.Network.Pushes.{Push, Order, To, IsPushed}
use Rattle.stage_core.specs.Network.{Network, Splitter, split}
use Rattle.stage_core.specs.Network.Cores.{Sound, core_of, network_of, next_in}
use Rattle.stage_core.specs.declared.message.Side.TheVariants as side
use Rattle.stage_core.specs.declared.message.Turn.{Turn}
use Rattle.stage_core.specs.declared.message.ToStage.{ToStage}
use Rattle.stage_core.specs.declared.network.Core.TheInside.{Inside}
use Rattle.stage_core.proofs.network.Steps.{Steps, reaches}

-- if a push is possible, it gives the new state
some-push : {A B : Type 0} (f : A → B) (b : Bool) (x : A)
    → IsSome (option_map f (cond b (Some x) None))
    → option_map f (cond b (Some x) None) ≡ Some (f x)
some-push f true x h = refl
some-push f false x h = absurd (cc)

some-pushes : (capacity : ℕ) (n : Network) (ps : List Push) → IsSome (split capacity ps n)
    → 0 < length ps
some-pushes capacity n [] h = absurd (cc)
some-pushes capacity n (p ∷ ps) h = omega arith

-- the network after the splitter pushed a message
next-split : (capacity : ℕ) (p : Push) (rest : List Push) (n : Network) (o : Ring Turn)
    (i d : Ring ToStage) → IsSome (split capacity (p ∷ rest) n)
    → IsPushed p n.order n.i.to n.d.to o i d
    → split capacity (p ∷ rest) n ≡ Some (record n {
      still = rest;
      order = o;
      i = record (n.i) { to = i };
      d = record (n.d) { to = d };
    })
next-split capacity (Order t) rest n o i d some h = rw (h.0, h.1, h.2) (some-push _ _ _ some)
next-split capacity (To side.I m) rest n o i d some h = rw (h.0, h.1, h.2) (some-push _ _ _ some)
next-split capacity (To side.D m) rest n o i d some h = rw (h.0, h.1, h.2) (some-push _ _ _ some)

-- the messages that were popped from a ring to a stage
abbrev popped_of : Ring ToStage → List ToStage
popped_of r = r.popped

-- a push pops nothing
same-popped : (p : Push) (o o' : Ring Turn) (i d i' d' : Ring ToStage)
    → IsPushed p o i d o' i' d' → (i'.popped ≡ i.popped) × (d'.popped ≡ d.popped)
same-popped (Order t) o o' i d i' d' h = (ap popped_of h.1, ap popped_of h.2)
same-popped (To side.I m) o o' i d i' d' h = (ap popped_of h.1, ap popped_of h.2)
same-popped (To side.D m) o o' i d i' d' h = (ap popped_of h.1, ap popped_of h.2)

-- the next push of the splitter is the one at its index
next-push : (capacity : ℕ) (n : Network) (ps : List Push) (k : ℕ) (p : Push)
    → IsSome (split capacity (drop k ps) n) → p ≡ get_or ps k p
    → (drop k ps ≡ p ∷ drop (k + 1) ps) × (k + 1 ≤ length ps)
next-push capacity n ps k p h e =
    let some = some-pushes capacity n (drop k ps) h in
    let lt : k < length ps = omega (arith, some, length-drop k ps) in (
      drop-cons ps k p lt ∙ ap (λ x. x ∷ drop (suc k) ps) (sym e)
          ∙ ap (λ x. p ∷ drop x ps) (sym (add-one k)),
      omega arith,
    )

-- the core after the splitter pushed a message
abbrev pub with_push : Inside → Ring Turn → Ring ToStage → Ring ToStage → Bool → Inside
with_push c o i d f = record c {
  pushed = c.pushed + 1;
  order = o;
  i = record (c.i) { to = i };
  d = record (c.d) { to = d };
  failed = f;
}

-- it made the next step of the splitter, and is sound
pub split-steps : (p : Push) (c : Inside) (o : Ring Turn) (i d : Ring ToStage) (f : Bool)
    → Sound c → IsSome (next_in (core_of c) Splitter) → p ≡ get_or c.pushes.items c.pushed p
    → IsPushed p c.order c.i.to c.d.to o i d → Steps Splitter c (with_push c o i d f)
split-steps p c o i d f sound some e h =
    let n : Network = network_of c in
    let capacity = ring_of c.config in
    let at = next-push capacity n c.pushes.items c.pushed p some e in
    let rest = drop (c.pushed + 1) c.pushes.items in
    let popped = same-popped p c.order o c.i.to c.d.to i d h in
    reaches (record n {
      still = rest;
      order = o;
      i = record (n.i) { to = i };
      d = record (n.d) { to = d };
    }) sound (record { config = refl; events = refl })
    (ap (λ ps. split capacity ps n) at.0 ∙ next-split capacity p rest n o i d
    (subst (λ ps. IsSome (split capacity ps n)) at.0 some) h)
    refl (rw (popped.0, popped.1) sound.caches) at.1
