-- The state of the caches that are served together, after a history.
use Rattle.std.specs.Prelude.{◌≡◌, ℕ, ◌<◌, ◌≤◌, ◌+◌, ◌==◌, Bool, true, not, List, length, get_or}
use Rattle.std.specs.Prelude.{map}
use Rattle.std.specs.List.{All, list_any}
use Rattle.cache_core.specs.declared.geometry.Geometry.{Geometry}
use Rattle.cache_core.specs.declared.counts.Counts.{Counts}
use Rattle.cache_core.specs.declared.counts.PerClass.{PerClass}
use Rattle.cache_core.specs.Counting.{IsWithin}
use Rattle.cache_core.specs.Counts.{by_class, flushes_in, none_by_class, total_of}
use Rattle.cache_core.specs.Geometry.{bsize_of, blocks_of}
use Rattle.cache_core.specs.History.{History, Rules, block_of}
use Rattle.cache_core.specs.Residents.{distinct, renewals}
use Rattle.cache_core.specs.Kinds.{referenced_blocks, shadow_of}
use Rattle.grid_core.specs.declared.cells.Alike.{Alike}
use Rattle.grid_core.specs.declared.cells.Shape.{Shape}
use Rattle.grid_core.specs.declared.shadows.Shadows.{Shadows}
use Rattle.grid_core.specs.declared.stack.Stack.{Stack}
use Rattle.grid_core.specs.Standing.{IsCountedIn, StackStandsFor, stack_rules, written_at}
use Rattle.grid_core.specs.Histograms.{past_in}
use Rattle.grid_core.specs.Recent.{IsRecent}
use Rattle.grid_core.specs.Shadows.{AreNumbered, HoldsOrder, far_in, is_known}
use Rattle.grid_core.specs.Shadows.{recent_in, shadow_sizes}
use Rattle.grid_core.specs.Cells.{sent_on_of, shape_rules}
use Rattle.grid_core.specs.FullyAssociative.{shadow_misses}
use Rattle.grid_core.specs.Shapes.{IsSuitedShape}
use Rattle.grid_core.specs.Totals.{lessened}

-- rules of the block size of a geometry, for what all caches of the block size share
abbrev pub base_rules : Geometry → Rules
base_rules g = stack_rules g true

-- rows, shadows and what they have counted, for caches of these shapes after a history, by the
-- numbers that the places of a list of blocks are
pub record IsAfter (blocks : List ℕ) (g : Geometry) (stacks : List Stack) (shadows : Shadows)
    (shapes : List Shape) (h : History) : Type 0 where
  pub rows : All (λ s. StackStandsFor s h) stacks
  pub order : HoldsOrder blocks shadows (distinct (renewals (shadow_of (base_rules g)) h))
  pub known : (b : ℕ) → is_known blocks shadows b
      ≡ list_any (λ t. t == b) (referenced_blocks (base_rules g) h)
  pub numbered : AreNumbered blocks shadows
  pub counted : All (IsCountedIn (shadow_sizes shadows) h) stacks
  pub far : All (λ s. far_in shadows s.rank ≡ shadow_misses (shape_rules s) h) shapes
  pub recent : IsRecent (bsize_of g) (recent_in shadows) h

-- what all caches count alike, after a history
pub record IsAlike (g : Geometry) (h : History) (a : Alike) : Type 0 where
  pub fetches : a.fetches ≡ by_class (λ g x. true) h
  pub firsts : a.firsts ≡ by_class (λ e x. not (list_any (λ b. b == block_of (base_rules g) x)
      (referenced_blocks (base_rules g) e))) h
  pub flushes : a.flushes ≡ flushes_in h

-- nothing counted
abbrev pub nothing_alike : Alike
nothing_alike = record { fetches = none_by_class; firsts = none_by_class; flushes = 0 }

-- no count that all caches have alike is above n
pub record IsWithinAlike (n : ℕ) (a : Alike) : Type 0 where
  pub fetches : IsWithin a.fetches n
  pub firsts : IsWithin a.firsts n
  pub flushes : a.flushes ≤ n

-- the rank of a shape is that of its number of blocks, and it has the block size of g
pub record IsRanked (sizes : List ℕ) (g : Geometry) (s : Shape) : Type 0 where
  pub inside : s.rank < length sizes
  pub found : get_or sizes s.rank 0 ≡ blocks_of s.geometry
  pub same : bsize_of s.geometry ≡ bsize_of g

-- the shape for a geometry and a write policy
pub record IsShapeFor (sizes : List ℕ) (stacks : List Stack) (g : Geometry) (wback : Bool)
    (s : Shape) : Type 0 where
  pub geometry : s.geometry ≡ g
  pub same_wback : s.wback ≡ wback
  pub suited : IsSuitedShape stacks s
  pub inside : s.rank < length sizes
  pub found : get_or sizes s.rank 0 ≡ blocks_of g

-- the accesses that missed in the cache of a shape, and in the first k of the shadows
abbrev pub shape_misses : List Stack → Shape → ℕ → PerClass
shape_misses stacks s k =
    get_or (map (λ t. past_in t.histogram s.ways k) stacks) s.stack none_by_class

-- how many blocks the cache of a shape has written back
abbrev pub shape_written_back : List Stack → Shape → ℕ
shape_written_back stacks s = get_or (map (λ t. written_at t s.ways) stacks) s.stack 0

-- all counts of a cache, by what all caches count alike, its misses, those of them that miss in its
-- shadow too, and the blocks that it wrote back
abbrev pub whole_counts : Alike → PerClass → PerClass → ℕ → Bool → Counts
whole_counts a misses far backs wback = record {
  fetches = a.fetches;
  misses = misses;
  compulsory = a.firsts;
  capacity = lessened far a.firsts;
  conflict = lessened misses far;
  loaded = total_of misses;
  written_back = backs;
  sent_on = sent_on_of wback a.fetches.write;
  flushes = a.flushes;
}

-- the counts of the cache of a shape
abbrev pub counts_at : Alike → List Stack → Shape → Counts
counts_at a stacks s = whole_counts a (shape_misses stacks s 0)
    (shape_misses stacks s (s.rank + 1)) (shape_written_back stacks s) s.wback
