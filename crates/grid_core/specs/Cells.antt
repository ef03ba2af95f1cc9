-- The caches of one engine that are served together.
use Rattle.std.specs.Prelude.{◌≡◌, ℕ, ◌<◌, ◌≤◌, not, ◌==◌, nat_lt, List, length, get_or}
use Rattle.std.specs.Prelude.{◌&&◌, Bool, if◌then◌else◌}
use Rattle.std.specs.List.{list_any}
use Rattle.std.specs.Global.{Vec}
use Rattle.cache_core.specs.declared.access.Access.{Access}
use Rattle.cache_core.specs.History.{History, Rules, block_of, is_write}
use Rattle.cache_core.specs.Residents.{hits, renewals}
use Rattle.cache_core.specs.Kinds.{referenced_blocks, shadow_of}
use Rattle.cache_core.specs.Parts.{outcome_of}
use Rattle.grid_core.specs.declared.cells.Shape.{Shape}
use Rattle.grid_core.specs.declared.shadows.PriorLevel.{PriorLevel}
use Rattle.grid_core.specs.Ways.{with_ways}
use Rattle.grid_core.specs.Standing.{stack_rules}
use Rattle.grid_core.specs.Hits.{hit_made}
use Rattle.grid_core.specs.Written.{written_by}

-- the rules of the cache of a shape
abbrev pub shape_rules : Shape → Rules
shape_rules s = stack_rules s.geometry s.wback

-- the shape is one of the caches that rows of the rules r serve
pub record IsPlacedOn (r : Rules) (s : Shape) : Type 0 where
  pub same : with_ways s.ways r ≡ shape_rules s
  pub some : 0 < s.ways
  pub fits : s.ways ≤ r.assoc

-- the shape is one of the caches of the rows that it names
pub record IsPlacedAmong (rs : List Rules) (s : Shape) : Type 0 where
  pub inside : s.stack < length rs
  pub placed : (d : Rules) → IsPlacedOn (get_or rs s.stack d) s

-- what is known of the block of an access, for the cache of one shape
pub record KnowsPrior (s : Shape) (h : History) (x : Access) (p : PriorLevel) : Type 0 where
  pub known : p.known
      ≡ list_any (λ b. b == block_of (shape_rules s) x) (referenced_blocks (shape_rules s) h)
  pub far : not (nat_lt s.rank p.level)
      ≡ hits (shadow_of (shape_rules s)) (renewals (shadow_of (shape_rules s)) h) x

-- how many writes are sent on, of n writes, where writes allocate
abbrev pub sent_on_of : Bool → ℕ → ℕ
sent_on_of wback n = if wback then 0 else n

-- the access x hits in the cache of a shape, after the history h
abbrev pub HitsIn : History → Access → Shape → Type 0
HitsIn h x s = outcome_of (shape_rules s) h x ≡ hit_made (is_write x && not s.wback)

-- the last access hit in the cache of a shape, by where its block stood in the rows of each number
-- of sets
abbrev pub hit_at : List ℕ → Shape → Bool
hit_at found s = nat_lt (get_or found s.stack 0) s.ways

-- what a flush writes back in the cache of a shape
abbrev pub dirty_bytes_of : History → Shape → List ℕ
dirty_bytes_of h s = written_by h (shape_rules s)

-- the items of a vector
abbrev pub items_of : Vec ℕ → List ℕ
items_of v = v.items
