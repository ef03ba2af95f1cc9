-- The contracts of the calls in `Contents::dirty`, put together.
use Rattle.std.proofs.Common.{◌≡◌, ℕ, ◌*◌, ◌<◌, List, length, map, filter, nat_eq, ◌∙◌, arith}
use Rattle.std.specs.List.{dedup}
use Rattle.std.specs.List.Sorted.{IsPermutation, IsSorted}
use Rattle.std.specs.Ordering.{nat_cmp}
use Rattle.cache_core.specs.declared.policy.Policy.{Policy}
use Rattle.cache_core.specs.declared.geometry.Geometry.{Geometry}
use Rattle.cache_core.specs.declared.ways.Way.{Way}
use Rattle.cache_core.specs.History.{History}
use Rattle.cache_core.specs.Dirty.{dirty_blocks}
use Rattle.cache_core.specs.Geometry.{size_of, bsize_of, assoc_of, sets_of}
use Rattle.cache_core.specs.Row.{row, is_dirty_way, block_addr_of, row_of}
use Rattle.cache_core.specs.Standing.{rules_from}
use Rattle.cache_core.proofs.Lawful.{IsSane, sane_of}
use Rattle.cache_core.proofs.Flushed.{flushed-is}

-- the dirty ways' first bytes, sorted and without repetitions, are those of the dirty blocks
pub flush-list : (g : Geometry) (p : Policy) (h : History) (xs : List Way)
    → length xs ≡ sets_of g * assoc_of g
    → ((t : ℕ) → t < (rules_from g p).sets → row (assoc_of g) t xs ≡ row_of (rules_from g p) h t)
    → (v : List ℕ) → (ys : List ℕ) × IsPermutation (map block_addr_of (filter is_dirty_way xs)) ys
    × IsSorted nat_cmp ys × (v ≡ dedup nat_eq ys)
    → v ≡ map (λ b. b * bsize_of g) (dirty_blocks (rules_from g p) h)
flush-list g p h xs long rows v f =
    let facts : IsSane (size_of g) (bsize_of g) (assoc_of g) = sane_of g in
    let pos : 0 < bsize_of g = (let low = facts.block_low in omega arith) in
    f.3 ∙ flushed-is (rules_from g p) pos facts.sets_pos h xs long rows f.0 f.1 f.2
