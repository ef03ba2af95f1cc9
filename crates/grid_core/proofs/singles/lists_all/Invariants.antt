use Rattle.std.proofs.Common.{◌≡◌, ℕ, ◌<◌, ◌≤◌, length, get_or, map, take}
use Rattle.std.specs.List.{All}
use Rattle.cache_core.specs.History.{History}
use Rattle.grid_core.specs.Cells.{items_of}
use Rattle.grid_core.specs.Singles.{SingleStandsFor, single_rules, single_dirty}
use Rattle.grid_core.specs.Written.{written_by}
use Rattle.grid_core.proofs.singles.lists_all.Given as goal

-- the lists are those of the caches that were passed
abbrev pub invariant-loop-single : goal.invariant-loop-single
invariant-loop-single l = record {
  lists : (h : History) → All (SingleStandsFor h) l.singles.items → map items_of l.lists.items
      ≡ map (written_by h) (map single_rules (take l.single-index l.singles.items));
  few : (k : ℕ) → k < l.single-index → get_or (map (λ v. length v.items) l.lists.items) k 0
      ≤ get_or (map single_dirty l.singles.items) k 0;
  len : length l.lists.items ≡ l.single-index;
}
