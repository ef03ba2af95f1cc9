-- Words for lists of caches, and for what a flush writes back in each.
use Rattle.std.specs.Prelude.{ℕ, ◌*◌, false, List, get_or, map}
use Rattle.cache_core.specs.History.{History, Rules}
use Rattle.cache_core.specs.Dirty.{dirty_blocks}

-- rules for what lies past the end of a list
abbrev pub no_rules : Rules
no_rules = record {
  bsize = 0;
  sets = 0;
  assoc = 0;
  blocks = 0;
  fifo = false;
  wback = false;
  walloc = false;
}

-- the rules at an index
abbrev pub rules_at_index : List Rules → ℕ → Rules
rules_at_index rs k = get_or rs k no_rules

-- the first bytes of the blocks that a flush writes back, in rising order
abbrev pub written_by : History → Rules → List ℕ
written_by h r = map (λ b. b * r.bsize) (dirty_blocks r h)
