-- Hill's three kinds of miss, each miss judged by itself.
use Rattle.std.specs.Prelude.{ℕ, Bool, true, false, if◌then◌else◌, ◌==◌, List, [], ◌∷◌, Option}
use Rattle.std.specs.Prelude.{Some, None}
use Rattle.std.specs.List.{list_any}
use Rattle.cache_core.specs.declared.access.Access.{Access}
use Rattle.cache_core.specs.declared.access.MissKind.{MissKind}
use Rattle.cache_core.specs.declared.access.MissKind.TheVariants.{Compulsory, Capacity, Conflict}
use Rattle.cache_core.specs.History.{access, flush, History, Rules, block_of}
use Rattle.cache_core.specs.Residents.{hits, renewals}

-- the shadow: a fully associative LRU cache with as many blocks and the same write allocation
abbrev pub shadow_of : Rules → Rules
shadow_of r = record r { sets = 1; assoc = r.blocks; fifo = false }

-- why an access misses, by whether its block was ever accessed and whether the shadow hits: a miss
-- is compulsory if the block never was; otherwise it is a capacity miss if the shadow misses too,
-- and a conflict miss if the shadow hits
abbrev pub kind_by : Bool → Bool → MissKind
kind_by referenced in_shadow =
    if referenced then (if in_shadow then Conflict else Capacity) else Compulsory

module _ (r : Rules) where
  -- the blocks of all accesses so far, also of those before a flush
  unfoldable pub referenced_blocks : History → List ℕ
  referenced_blocks [] = []
  referenced_blocks (flush ∷ h) = referenced_blocks h
  referenced_blocks (access x ∷ h) = block_of r x ∷ referenced_blocks h

  -- why the access x misses, by its block and its shadow
  unfoldable pub kind_of_miss : History → Access → MissKind
  kind_of_miss h x = kind_by (list_any (λ b. b == block_of r x) (referenced_blocks h))
      (hits (shadow_of r) (renewals (shadow_of r) h) x)

-- whether this is the kind k; a hit has no kind
abbrev pub is_kind : MissKind → Option MissKind → Bool
is_kind k None = false
is_kind Compulsory (Some j) = elim j as (λ _. Bool) [ Compulsory ↦ true | _ ↦ false ]
is_kind Capacity (Some j) = elim j as (λ _. Bool) [ Capacity ↦ true | _ ↦ false ]
is_kind Conflict (Some j) = elim j as (λ _. Bool) [ Conflict ↦ true | _ ↦ false ]
