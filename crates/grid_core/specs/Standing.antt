-- How the rows of slots relate to the history.
use Rattle.std.specs.Prelude.{◌≡◌, ℕ, ◌<◌, ◌≤◌, ◌+◌, ◌-◌, ◌*◌, ◌/◌, ◌%◌, ◌++◌, List, map, take}
use Rattle.std.specs.Prelude.{replicate, true, min, []}
use Rattle.std.specs.Prelude.{false, Bool, Option, get_or, nat_lt, if◌then◌else◌}
use Rattle.std.specs.List.{All}
use Rattle.std.specs.Option.{option_map}
use Rattle.cache_core.specs.declared.geometry.Geometry.{Geometry}
use Rattle.cache_core.specs.declared.access.Access.{Access}
use Rattle.cache_core.specs.declared.policy.Repl.TheVariants.{Lru}
use Rattle.cache_core.specs.History.{History, Rules, block_of, is_write}
use Rattle.cache_core.specs.Residents.{hits, renewals}
use Rattle.cache_core.specs.Parts.{outcome_of}
use Rattle.cache_core.specs.Order.{ranked}
use Rattle.cache_core.specs.Row.{row}
use Rattle.cache_core.specs.Standing.{rules_from}
use Rattle.cache_core.specs.Geometry.{bsize_of, sets_of}
use Rattle.grid_core.specs.Slot.{Slot, no_slot, slot_of, slots_in, stride_of, used_slot}
use Rattle.grid_core.specs.declared.stack.Stack.{Stack}
use Rattle.grid_core.specs.declared.stacks.Behind.{Behind}
use Rattle.grid_core.specs.Slots.{dirty_slot_count_in_rows, stays_in}
use Rattle.grid_core.specs.Histograms.{HasCounted, IsWithinHistogram, first_in, histogram_levels}
use Rattle.grid_core.specs.Pushed.{dirty_in}
use Rattle.grid_core.specs.Ways.{with_ways, stack_distance}
use Rattle.grid_core.specs.Levels.{dirty_level}

-- the rules of an LRU cache of this shape that allocates at writes
abbrev pub stack_rules : Geometry → Bool → Rules
stack_rules g wback = rules_from g record { repl = Lru; wback = wback; walloc = true }

-- the rules of the widest cache
unfoldable pub rules_of_rows : Stack → Rules
rules_of_rows s = stack_rules s.geometry s.wback

module _ (r : Rules) where
  -- the slot of block b after a history
  abbrev pub slot_at : History → ℕ → Slot
  slot_at h b = used_slot b (dirty_level r h b)

  -- the slots of set s after a history: its blocks by last use, and then empty slots
  unfoldable pub slots_of : History → ℕ → List Slot
  slots_of h s = take r.assoc (map (slot_at h) (ranked r s (renewals r h))
      ++ replicate r.assoc no_slot)

-- the slots of a row
abbrev pub row_slots : Stack → ℕ → List Slot
row_slots s t = slots_in (stride_of s.geometry) (sets_of s.geometry) t (row s.ways t s.slots.items)

-- the stack stands for the history: each row is what the history gives
pub record StackStandsFor (s : Stack) (h : History) : Type 0 where
  pub rows : (t : ℕ) → t < (rules_of_rows s).sets →
      row_slots s t ≡ slots_of (rules_of_rows s) h t

-- there is a history that all these rows stand for
abbrev pub HaveLived : List Stack → Type 0
HaveLived ss = ∥ ((h : History) × All (λ s. StackStandsFor s h) ss) ∥₁

-- where the block of the last access stood before
unfoldable pub found_in : Stack → ℕ
found_in s = s.found

-- the slot behind the first n of the row of the last access, or the one that the row lost
abbrev pub behind_in : Stack → ℕ → Slot
behind_in s n =
    if nat_lt n s.ways then get_or (row_slots s s.set) n no_slot
    else slot_of (stride_of s.geometry) (sets_of s.geometry) s.set s.lost

-- the first byte of the block that a cache of n ways wrote back at the last access, if it missed
abbrev pub back_at : Stack → ℕ → Option ℕ
back_at s n = option_map (λ b. b * bsize_of s.geometry) (dirty_in s.wback n (behind_in s n))

-- the last access was x, after the history h: it is known where its block stood, and what each
-- cache that missed wrote back
pub record HasMoved (h : History) (x : Access) (s : Stack) : Type 0 where
  pub found : found_in s ≡ stack_distance (rules_of_rows s) h (block_of (rules_of_rows s) x)
  pub backs : (n : ℕ) → 0 < n → n ≤ (rules_of_rows s).assoc
      → hits (with_ways n (rules_of_rows s)) (renewals (with_ways n (rules_of_rows s)) h) x ≡ false
      → (outcome_of (with_ways n (rules_of_rows s)) h x).back ≡ back_at s n

-- an access leaves the row of its set as it is
abbrev pub stays_at : Stack → Access → Bool
stays_at s x =
    let b = x.addr / bsize_of s.geometry in
    stays_in b (is_write x) (row_slots s (b % sets_of s.geometry))

-- after the history h the block of the access x is the first of its set, and if x writes, dirty in
-- all numbers of ways: x changes no row
pub record StaysFirst (r : Rules) (h : History) (x : Access) : Type 0 where
  pub first : stack_distance r h (block_of r x) ≡ 0
  pub dirty : is_write x ≡ true → dirty_level r h (block_of r x) ≡ 0

-- so it is in all rows of more than m sets, where blocks have n bytes
abbrev pub StayFirstFrom : ℕ → ℕ → History → Access → Type 0
StayFirstFrom n m h x = (s : Stack) → (rules_of_rows s).bsize ≡ n → m < (rules_of_rows s).sets →
    StaysFirst (rules_of_rows s) h x

-- after the history h the block of the access x is not among the first d blocks of its set, where d
-- counts as at most the number of ways
abbrev pub IsBehind : ℕ → History → Access → Rules → Type 0
IsBehind d h x r = min d r.assoc ≤ stack_distance r h (block_of r x)

-- so it is, with the places of `b`, in all rows of at most `b.last_set + 1` sets, where blocks have
-- n bytes
abbrev pub AreBehind : Behind → ℕ → History → Access → Type 0
AreBehind b n h x = (s : Stack) → (rules_of_rows s).bsize ≡ n →
    (rules_of_rows s).sets ≤ b.last_set + 1 → IsBehind b.places h x (rules_of_rows s)

-- rows of the rules r serve a cache of this geometry, so many ways and this write policy: they have
-- its block size, its number of sets and its write policy, and at least as many ways
pub record RowsSuit (r : Rules) (g : Geometry) (ways : ℕ) (wback : Bool) : Type 0 where
  pub same_bsize : r.bsize ≡ bsize_of g
  pub same_sets : r.sets ≡ sets_of g
  pub same_wback : r.wback ≡ wback
  pub fits : ways ≤ r.assoc

-- the stack has counted the accesses of the history, with levels in the shadows of these sizes
abbrev pub IsCountedIn : List ℕ → History → Stack → Type 0
IsCountedIn sizes h s = HasCounted (rules_of_rows s) sizes h s.histogram

-- how many levels in the shadows the stack tells apart
abbrev pub told_in : Stack → ℕ
told_in s = histogram_levels s.histogram

-- no count of the stack is above n
abbrev pub IsWithinStack : ℕ → Stack → Type 0
IsWithinStack n s = IsWithinHistogram n s.histogram

-- how many slots are dirty in n ways
abbrev pub dirty_slots : Stack → ℕ → ℕ
dirty_slots s n = dirty_slot_count_in_rows s.wback n (row_slots s) (sets_of s.geometry)

-- how many blocks a cache of n ways has written back
abbrev pub written_at : Stack → ℕ → ℕ
written_at s n = if s.wback then (first_in s.histogram n).write - dirty_slots s n else 0

-- the stack is empty and has counted nothing, and tells so many levels apart
pub record IsEmptyStack (levels : ℕ) (s : Stack) : Type 0 where
  pub stands : StackStandsFor s []
  pub counted : (sizes : List ℕ) → IsCountedIn sizes [] s
  pub within : IsWithinStack 0 s
  pub told : told_in s ≡ levels
