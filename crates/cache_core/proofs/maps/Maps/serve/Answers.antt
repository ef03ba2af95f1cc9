use Rattle.std.proofs.Common.{◌≡◌, ◌<◌, length, get_or, sym, ap, subst, ◌∙◌, arith}
use Rattle.std.specs.List.{find}
use Rattle.std.proofs.Math.Seq.{map-set_same}
use Rattle.std.proofs.lemmas.Result.{IfOk-weaker}
use Rattle.cache_core.specs.Policy.{is_fifo}
use Rattle.cache_core.specs.Row.{holds_block, row, dirty_count}
use Rattle.cache_core.specs.Mapped.{cap_of, shown, flat}
use Rattle.cache_core.proofs.Flat.{row-here, row-set, row-set_other, count-set, cap-at}
use Rattle.cache_core.proofs.Charged.{charged-row, charged-by}
use Rattle.cache_core.proofs.maps.Maps.serve.Goals as goal
use Rattle.cache_core.proofs.maps.Maps.serve.Goals.{After-index_mut}

-- the set has a map
inside : (c : After-index_mut) → c.args.set < length c.args.self.now.sets.items
inside c = subst (λ k. c.args.set < k) c.args.self.now.sets.ok.0 c.requires

-- and that map has the ways of each
cap : (c : After-index_mut) → c.index_mut.result.now.cap ≡ c.args.self.now.assoc
cap c =
    let m = c.args.self.now in
    ap (λ z. z.cap) c.index_mut.ensures.value
    ∙ cap-at m.assoc m.sets.items c.args.set _ c.index_mut.result.now m.caps (inside c)

pub returns-clause-others : goal.returns-clause-others
returns-clause-others c = λ s apart.
    row-set_other c.args.self.now.assoc c.args.self.now.sets.items c.args.set s c.serve_map.new.map
    apart

pub returns-clause-served : goal.returns-clause-served
returns-clause-served c =
    let m = c.args.self.now in let o = c.index_mut.result.now in
    let c₁ = (goal.at.returns-clause-served c).After-index_mut in
    let old : row m.assoc c.args.set (flat m.assoc m.sets.items) ≡ shown m.assoc o.entries =
    row-here m.assoc m.sets.items c.args.set o (inside c₁)
    ∙ ap (λ z. shown m.assoc z.entries) (sym c.index_mut.ensures.value) in
    let new = row-set m.assoc m.sets.items c.args.set c.serve_map.new.map (inside c₁) in
    rw (old, new) (rw (cap c₁) at c.serve_map.ensures.served)

pub returns-clause-charged : goal.returns-clause-charged
returns-clause-charged c =
    let m = c.args.self.now in let o = c.index_mut.result.now in
    let c₁ = (goal.at.returns-clause-charged c).After-index_mut in
    let old = shown m.assoc o.entries in
    let p = c.args.policy in
    let sum = count-set m.assoc m.sets.items c.args.set c.serve_map.new.map o (inside c₁) in
    let same : dirty_count (shown m.assoc (get_or m.sets.items c.args.set o).entries)
    ≡ dirty_count old = ap (λ z. dirty_count (shown m.assoc z.entries))
    (sym c.index_mut.ensures.value) in
    IfOk-weaker c.serve_map.result _ _ (λ answer served.
    let step = charged-by old _ _ _ _ (rw (cap c₁) at served.row) (rw (cap c₁) at served.back)
    (charged-row old (is_fifo p) p.wback p.walloc c.args.write c.args.block_addr
    (find (holds_block c.args.block_addr) old)) in
    omega arith) c.serve_map.ensures.served

pub invariant_of-self : goal.invariant_of-self
invariant_of-self c =
    let m = c.args.self.now in let o = c.index_mut.result.now in
    let cap : c.serve_map.new.map.cap ≡ (get_or m.sets.items c.args.set o).cap =
    c.serve_map.ensures.capacity ∙ ap (λ z. z.cap) c.index_mut.ensures.value in
    record { caps = map-set_same cap_of m.sets.items c.args.set c.serve_map.new.map o cap ∙ m.caps }
