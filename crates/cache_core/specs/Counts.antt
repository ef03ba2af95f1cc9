-- The counts that a cache has after a history.
use Rattle.std.specs.Prelude.{◌≡◌, ℕ, ◌+◌, Bool, true, ◌&&◌, not, [], ◌∷◌, length, is_some}
use Rattle.cache_core.specs.declared.access.Access.{Access}
use Rattle.cache_core.specs.declared.access.MissKind.TheVariants.{Compulsory, Capacity, Conflict}
use Rattle.cache_core.specs.declared.counts.PerClass.{PerClass}
use Rattle.cache_core.specs.declared.counts.Counts.{Counts}
use Rattle.cache_core.specs.History.{access, flush, History, Rules, is_instr, is_read, is_write}
use Rattle.cache_core.specs.History.{is_misc}
use Rattle.cache_core.specs.Dirty.{dirty_blocks}
use Rattle.cache_core.specs.Kinds.{is_kind}
use Rattle.cache_core.specs.Parts.{one_if, outcome_of}

-- how many accesses of a history pass a test, which gets the history before the access too
unfoldable pub tally : (History → Access → Bool) → History → ℕ
tally test [] = 0
tally test (flush ∷ h) = tally test h
tally test (access x ∷ h) = one_if (test h x) + tally test h

-- how many accesses of each class pass the test
abbrev pub by_class : (History → Access → Bool) → History → PerClass
by_class test h = record {
  instr = tally (λ g x. is_instr x && test g x) h;
  read = tally (λ g x. is_read x && test g x) h;
  write = tally (λ g x. is_write x && test g x) h;
  misc = tally (λ g x. is_misc x && test g x) h;
}

-- how many flushes a history has
unfoldable pub flushes_in : History → ℕ
flushes_in [] = 0
flushes_in (flush ∷ h) = 1 + flushes_in h
flushes_in (access x ∷ h) = flushes_in h

module _ (r : Rules) where
  -- how many blocks the flushes of a history wrote back
  unfoldable pub flushed_back : History → ℕ
  flushed_back [] = 0
  flushed_back (flush ∷ h) = length (dirty_blocks r h) + flushed_back h
  flushed_back (access x ∷ h) = flushed_back h

  -- all counts: a definition of each line of the report
  unfoldable pub counts_of : History → Counts
  counts_of h = record {
    fetches = by_class (λ g x. true) h;
    misses = by_class (λ g x. not (outcome_of r g x).hit) h;
    compulsory = by_class (λ g x. is_kind Compulsory (outcome_of r g x).kind) h;
    capacity = by_class (λ g x. is_kind Capacity (outcome_of r g x).kind) h;
    conflict = by_class (λ g x. is_kind Conflict (outcome_of r g x).kind) h;
    loaded = tally (λ g x. (outcome_of r g x).fetch) h;
    written_back = tally (λ g x. is_some (outcome_of r g x).back) h + flushed_back h;
    sent_on = tally (λ g x. (outcome_of r g x).through) h;
    flushes = flushes_in h;
  }

-- zero in each class
abbrev pub none_by_class : PerClass
none_by_class = record { instr = 0; read = 0; write = 0; misc = 0 }

-- the counts of a cache that was given nothing
abbrev pub no_counts : Counts
no_counts = record {
  fetches = none_by_class;
  misses = none_by_class;
  compulsory = none_by_class;
  capacity = none_by_class;
  conflict = none_by_class;
  loaded = 0;
  written_back = 0;
  sent_on = 0;
  flushes = 0;
}

-- the sum over the classes
abbrev pub total_of : PerClass → ℕ
total_of p = p.instr + p.read + p.write + p.misc

-- three counts add up to a whole, class by class and in total
pub record AddUp (whole a b c : PerClass) : Type 0 where
  pub instr : a.instr + b.instr + c.instr ≡ whole.instr
  pub read : a.read + b.read + c.read ≡ whole.read
  pub write : a.write + b.write + c.write ≡ whole.write
  pub misc : a.misc + b.misc + c.misc ≡ whole.misc
  pub total : total_of a + total_of b + total_of c ≡ total_of whole

-- the three kinds of miss add up to the misses
abbrev pub KindsAddUp : Counts → Type 0
KindsAddUp c = AddUp c.misses c.compulsory c.capacity c.conflict
