-- The counts of a cache after one more event.
use Rattle.std.specs.Prelude.{ℕ, ◌+◌, ◌≤◌, Bool, true, ◌&&◌, not, Option, is_some}
use Rattle.cache_core.specs.declared.access.Access.{Access}
use Rattle.cache_core.specs.declared.access.Outcome.{Outcome}
use Rattle.cache_core.specs.declared.access.MissKind.{MissKind}
use Rattle.cache_core.specs.declared.access.MissKind.TheVariants.{Compulsory, Capacity, Conflict}
use Rattle.cache_core.specs.declared.counts.PerClass.{PerClass}
use Rattle.cache_core.specs.declared.counts.Counts.{Counts}
use Rattle.cache_core.specs.History.{is_instr, is_read, is_write, is_misc}
use Rattle.cache_core.specs.Kinds.{is_kind}
use Rattle.cache_core.specs.Parts.{one_if}

-- the counts by class, with one more in the class of this access if the flag is true
abbrev pub with_one : Access → Bool → PerClass → PerClass
with_one x counted p = record {
  instr = one_if (is_instr x && counted) + p.instr;
  read = one_if (is_read x && counted) + p.read;
  write = one_if (is_write x && counted) + p.write;
  misc = one_if (is_misc x && counted) + p.misc;
}

-- the counts with this access added to its kind of miss, if it has one
abbrev pub with_kind : Access → Option MissKind → Counts → Counts
with_kind x k c = record c {
  compulsory = with_one x (is_kind Compulsory k) c.compulsory;
  capacity = with_one x (is_kind Capacity k) c.capacity;
  conflict = with_one x (is_kind Conflict k) c.conflict;
}

-- the counts after this access, which had this outcome
abbrev pub with_access : Access → Outcome → Counts → Counts
with_access x o c = record {
  fetches = with_one x true c.fetches;
  misses = with_one x (not o.hit) c.misses;
  compulsory = with_one x (is_kind Compulsory o.kind) c.compulsory;
  capacity = with_one x (is_kind Capacity o.kind) c.capacity;
  conflict = with_one x (is_kind Conflict o.kind) c.conflict;
  loaded = one_if o.fetch + c.loaded;
  written_back = one_if (is_some o.back) + c.written_back;
  sent_on = one_if o.through + c.sent_on;
  flushes = c.flushes;
}

-- the counts after a flush that wrote n blocks back
abbrev pub with_flush : ℕ → Counts → Counts
with_flush n c = record c { written_back = c.written_back + n; flushes = c.flushes + 1 }

-- none of the four counts is above n
pub record IsWithin (p : PerClass) (n : ℕ) : Type 0 where
  pub instr : p.instr ≤ n
  pub read : p.read ≤ n
  pub write : p.write ≤ n
  pub misc : p.misc ≤ n

-- no count of a cache is above n
pub record AreWithin (c : Counts) (n : ℕ) : Type 0 where
  pub fetches : IsWithin c.fetches n
  pub misses : IsWithin c.misses n
  pub compulsory : IsWithin c.compulsory n
  pub capacity : IsWithin c.capacity n
  pub conflict : IsWithin c.conflict n
  pub loaded : c.loaded ≤ n
  pub written_back : c.written_back ≤ n
  pub sent_on : c.sent_on ≤ n
  pub flushes : c.flushes ≤ n
