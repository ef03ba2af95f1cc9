use Rattle.std.proofs.Common.{◌≡◌, List, ℕ, eqb, map, filter, length, ap, subst, arith}
use Rattle.std.specs.List.Sorted.{IsPermutation}
use Rattle.std.proofs.lemmas.List.Filters.{dedup_is}
use Rattle.cache_core.specs.Row.{is_dirty_way, block_addr_of}
use Rattle.cache_core.specs.Sets.{ways_in}
use Rattle.cache_core.proofs.sets.dirty_block_addrs.Goals as goal

pub returns-clause-block_addrs : goal.returns-clause-block_addrs
returns-clause-block_addrs c = (
  c.sort_unstable.new.self.items,
  subst (λ (l : List ℕ). IsPermutation l c.sort_unstable.new.self.items) c.in_ok-block_addrs.ensures
      c.sort_unstable.ensures.permutation,
  c.sort_unstable.ensures.sorted,
  dedup_is eqb _ _ c.dedup.ensures.filtered,
)

pub returns-clause-at_most : goal.returns-clause-at_most
returns-clause-at_most c = let a = c.dedup.ensures.bound in let b = c.sort_unstable.ensures.len in
    let d : length c.in_ok-block_addrs.block_addrs.items
    ≡ length (map block_addr_of (filter is_dirty_way (ways_in c.args.sets.now))) =
    ap length c.in_ok-block_addrs.ensures in let e =
    c.in_ok-block_addrs.block_addrs.ok.0 in omega arith
