-- The names that the lemmas on one access share.
use Rattle.std.proofs.Common.{ℕ, ◌%◌, Bool, List, ◌∷◌}
use Rattle.cache_core.specs.declared.access.Access.{Access}
use Rattle.cache_core.specs.History.{Rules, History, access, block_of, is_write}
use Rattle.cache_core.specs.Residents.{renewals}

-- an access under some rules, after some history
pub record AtAccess : Type 0 where
  -- its block, and the set of that block
  pub b : ℕ
  pub s : ℕ
  -- the renewals before it, and the history with it
  pub ms : List ℕ
  pub h' : History
  -- whether it writes
  pub w : Bool

-- the access x after the history h
abbrev pub at_access : Rules → History → Access → AtAccess
at_access r h x = record {
  b = block_of r x;
  s = block_of r x % r.sets;
  ms = renewals r h;
  h' = access x ∷ h;
  w = is_write x;
}
