use Rattle.std.proofs.Common.{◌*◌, map, replicate, ap, ◌∙◌}
use Rattle.std.proofs.lemmas.List.{with_items_is}
use Rattle.cache_core.specs.Row.{empty_way}
use Rattle.cache_core.specs.Mapped.{cap_of, flat}
use Rattle.cache_core.proofs.Flat.{caps-emptied, flat-emptied}
use Rattle.cache_core.proofs.maps.Maps.clear.Goals as goal

pub invariant_of-self : goal.invariant_of-self
invariant_of-self c =
    let m = c.args.self.now in
    let items = with_items_is m.sets c.clear_maps.new.maps (c.clear_maps.auto.maps
    ∙ c.deref_mut.ensures.len) in
    record {
      caps = ap (map cap_of) (items ∙ c.clear_maps.ensures) ∙ caps-emptied _
          ∙ ap (map cap_of) c.deref_mut.ensures.value ∙ m.caps;
    }

pub returns-clause-empty : goal.returns-clause-empty
returns-clause-empty c =
    let m = c.args.self.now in
    let items = with_items_is m.sets c.clear_maps.new.maps (c.clear_maps.auto.maps
    ∙ c.deref_mut.ensures.len) in
    ap (flat m.assoc) (items ∙ c.clear_maps.ensures) ∙ flat-emptied m.assoc c.deref_mut.result.now
    ∙ ap (λ k. replicate (k * m.assoc) empty_way) c.deref_mut.ensures.len
