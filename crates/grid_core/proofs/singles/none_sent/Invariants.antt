use Rattle.std.specs.List.{All, AllWithin}
use Rattle.cache_core.specs.declared.access.Access.{Access}
use Rattle.cache_core.specs.History.{History}
use Rattle.cache_core.specs.Parts.{SendsNothing, outcome_of}
use Rattle.grid_core.specs.Singles.{SingleHasAnswered, single_rules}
use Rattle.grid_core.proofs.singles.none_sent.Given as goal

-- the caches that were passed sent nothing
abbrev pub invariant-loop-single : goal.invariant-loop-single
invariant-loop-single l = (h : History) (x : Access) → All (SingleHasAnswered h x) l.singles →
    AllWithin (λ s. SendsNothing (outcome_of (single_rules s) h x)) l.singles 0 l.single-index
