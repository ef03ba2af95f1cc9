-- A core at its start.
use Rattle.std.proofs.Common.{◌≡◌, ◌<◌, List, [], drop, sym, ap, ◌∙◌, subst, arith}
use Rattle.cache_core.specs.History.{Rules}
use Rattle.stage_core.specs.Merging.{AtOrder, MergeState, merged}
use Rattle.stage_core.specs.Config.{hierarchy_of, ring_of}
use Rattle.stage_core.specs.Standing.{L2StandsFor}
use Rattle.stage_core.specs.Network.Rings.{Ring, empty_ring}
use Rattle.stage_core.specs.Network.Pushes.{Push, pushes}
use Rattle.stage_core.specs.Network.{Lane, Network, Consistent, start, empty_lane}
use Rattle.stage_core.specs.Network.Lanes.{lane_of, TookIn}
use Rattle.stage_core.specs.Network.Cores.{Sound, CachesStand, IsRunnable, network_of, parts_for}
use Rattle.stage_core.specs.declared.config.Config.{Config}
use Rattle.stage_core.specs.declared.message.Side.{Side}
use Rattle.stage_core.specs.declared.message.Turn.{Turn}
use Rattle.stage_core.specs.declared.message.ToStage.{ToStage}
use Rattle.stage_core.specs.declared.l1_stage.L1Stage.{L1Stage}
use Rattle.stage_core.specs.declared.network.Core.TheInside.{Inside}
use Rattle.stage_core.proofs.network.Kept.{keeps-start}

-- the state of the network with these rings and lanes, before the first step
abbrev network_in : List Push → Ring Turn → Lane → Lane → MergeState → Network
network_in still order i d at = record {
  still = still;
  order = order;
  i = i;
  d = d;
  at = at;
  given = (merged order.popped i.from.popped d.from.popped).taken;
}

-- a core with all to push, empty rings and new caches is sound
pub sound-start : (c : Inside) → c.pushed ≡ 0 → c.pushes.items ≡ pushes c.events.items
    → c.order ≡ empty_ring → lane_of c.i ≡ empty_lane → lane_of c.d ≡ empty_lane
    → c.merge ≡ AtOrder
    → CachesStand (hierarchy_of c.config) c.i.stage c.d.stage c.u c.i.to.popped c.d.to.popped []
    → IsRunnable c.config c.events.items → Sound c
sound-start c k ps o i d at caches runnable =
    let all : drop c.pushed c.pushes.items ≡ pushes c.events.items =
    ap (λ x. drop x c.pushes.items) k ∙ ps in
    let same : network_of c ≡ start c.events.items =
    ap (λ x. network_in x c.order (lane_of c.i) (lane_of c.d) c.merge) all
    ∙ ap (λ x. network_in (pushes c.events.items) x (lane_of c.i) (lane_of c.d) c.merge) o
    ∙ ap (λ x. network_in (pushes c.events.items) empty_ring x (lane_of c.d) c.merge) i
    ∙ ap (λ x. network_in (pushes c.events.items) empty_ring empty_lane x c.merge) d
    ∙ ap (λ x. network_in (pushes c.events.items) empty_ring empty_lane empty_lane x) at in
    record {
      consistent = subst (Consistent (parts_for c.config) c.events.items) (sym same)
          (keeps-start (parts_for c.config) c.events.items);
      caches = record {
        i = caches.i;
        d = caches.d;
        u = subst (L2StandsFor c.u) (sym (ap (λ (n : Network). n.given) same)) caches.u;
        u_rules = caches.u_rules;
      };
      pushed = omega (arith, k);
      runnable = runnable;
    }

-- a stage took the same in under equal rules
pub same-rules-took : {s : Side} {l : L1Stage} {ms : List ToStage} {r q : Rules} → r ≡ q
    → TookIn r s l ms → TookIn q s l ms
same-rules-took e took = record {
  same_rules = took.same_rules ∙ e;
  same_side = took.same_side;
  stands = took.stands;
}

-- each ring of a configuration holds a message or more
pub some-room : (c : Config) → 0 < ring_of c
unfolding ring_of
some-room c = c.some_ring
