-- Bounds of what stacks have counted.
use Rattle.std.proofs.Common.{◌≡◌, ℕ, zero, suc, ◌+◌, ◌^◌, ◌<◌, ◌≤◌, List, [], ◌∷◌, get_or, map}
use Rattle.std.proofs.Common.{arith}
use Rattle.std.specs.List.{All}
use Rattle.cache_core.specs.declared.counts.PerClass.{PerClass}
use Rattle.cache_core.specs.Counting.{IsWithin}
use Rattle.grid_core.specs.declared.stack.Stack.{Stack}
use Rattle.grid_core.specs.declared.stacked.Stacked.{Stacked}
use Rattle.grid_core.specs.Histograms.{first_in, past_in}
use Rattle.grid_core.specs.Standing.{IsEmptyStack, IsWithinStack, told_in}
use Rattle.grid_core.proofs.Totals.{within-more}

-- a larger bound of a stack holds too
pub within-stack : (n m : ℕ) → n ≤ m → (s : Stack) → IsWithinStack n s → IsWithinStack m s
within-stack n m le s all = (
  within-more (past_in s.histogram 0 0) n m le all.0,
  within-more (first_in s.histogram 0) n m le all.1,
)

-- and of all
pub within-stacks : (n m : ℕ) → n ≤ m → (stacks : List Stack) → All (IsWithinStack n) stacks
    → All (IsWithinStack m) stacks
within-stacks n m le stacks all k d lt = within-stack n m le (get_or stacks k d) (all k d lt)

-- empty stacks tell so many levels apart
pub told-all : (n : ℕ) (stacks : List Stack) → All (IsEmptyStack n) stacks
    → All (λ m. m ≡ n) (map told_in stacks)
told-all n [] empty k d lt = absurd (omega arith)
told-all n (s ∷ stacks) empty zero d lt = (empty 0 s (omega arith)).told
told-all n (s ∷ stacks) empty (suc k) d lt =
    told-all n stacks (λ i e low. empty (suc i) e (omega arith)) k d (omega arith)

-- a level is below the number of levels of each stack
pub low-levels : (n level : ℕ) (stacks : List Stack) → All (λ m. m ≡ n + 1) (map told_in stacks)
    → level ≤ n → All (λ s. level < told_in s) stacks
low-levels n level [] told le k d lt = absurd (omega arith)
low-levels n level (s ∷ stacks) told le zero d lt =
    let is = told 0 0 (omega arith) in omega arith
low-levels n level (s ∷ stacks) told le (suc k) d lt =
    low-levels n level stacks (λ i e low. told (suc i) e (omega arith)) le k d (omega arith)

-- what is within the number of served accesses and flushes is within the most that there may be
pub within-events : (e : Stacked) {p : PerClass} → IsWithin p e.served → IsWithin p (2 ^ 44)
within-events e {p} all = let few = e.few in within-more p e.served (2 ^ 44) (omega arith) all
