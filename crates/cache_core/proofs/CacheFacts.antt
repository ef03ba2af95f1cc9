-- Facts about the fields of a cache.
use Rattle.std.proofs.Common.{◌≡◌, ℕ, ◌+◌, ◌≤◌, Bool, true, false, ◌&&◌, refl, arith}
use Rattle.cache_core.specs.declared.access.Access.{Access}
use Rattle.cache_core.specs.declared.access.Outcome.{Outcome}
use Rattle.cache_core.specs.declared.counts.PerClass.{PerClass}
use Rattle.cache_core.specs.declared.counts.Counts.{Counts}
use Rattle.std.proofs.Common.{Option, not}
use Rattle.cache_core.specs.declared.access.MissKind.TheVariants.{Compulsory, Capacity, Conflict}
use Rattle.cache_core.specs.History.{is_instr, is_read, is_write, is_misc}
use Rattle.cache_core.specs.Kinds.{is_kind}
use Rattle.cache_core.specs.Parts.{one_if}
use Rattle.cache_core.specs.Counts.{none_by_class, no_counts, AddUp, KindsAddUp}
use Rattle.cache_core.specs.Row.{outcome_made}
use Rattle.cache_core.specs.Counting.{with_one, with_access, with_flush, IsWithin, AreWithin}

one_if-le : (b : Bool) → one_if b ≤ 1
one_if-le true = omega arith
one_if-le false = omega arith

one_more : (b : Bool) (k n : ℕ) → k ≤ n → one_if b + k ≤ n + 1
one_more b k n h = let one = one_if-le b in omega arith

pub IsWithin-with_one : (x : Access) (t : Bool) (p : PerClass) (n : ℕ) → IsWithin p n
    → IsWithin (with_one x t p) (n + 1)
IsWithin-with_one x t p n h = record {
  instr = one_more _ p.instr n h.instr;
  read =
      one_more _ p.read n h.read;
  write = one_more _ p.write n h.write;
  misc =
      one_more _ p.misc n h.misc;
}

-- where no count is above n, none is above n + 1 after an access
pub AreWithin-with_access : (x : Access) (o : Outcome) (c : Counts) (n : ℕ) → AreWithin c n
    → AreWithin (with_access x o c) (n + 1)
AreWithin-with_access x o c n h = record {
  fetches = IsWithin-with_one x _ c.fetches n h.fetches;
  misses = IsWithin-with_one x _ c.misses n h.misses;
  compulsory = IsWithin-with_one x _ c.compulsory n h.compulsory;
  capacity = IsWithin-with_one x _ c.capacity n h.capacity;
  conflict = IsWithin-with_one x _ c.conflict n h.conflict;
  loaded = one_more _ c.loaded n h.loaded;
  written_back = one_more _ c.written_back n h.written_back;
  sent_on = one_more _ c.sent_on n h.sent_on;
  flushes = (let f = h.flushes in omega arith);
}

IsWithin-more : (p : PerClass) (n : ℕ) → IsWithin p n → IsWithin p (n + 1)
IsWithin-more p n h = let a = h.instr in let b = h.read in let c = h.write in let d = h.misc in
    record { instr = omega arith; read = omega arith; write = omega arith; misc = omega arith }

-- nor after a flush, where what it writes back fits
pub AreWithin-with_flush : (k : ℕ) (c : Counts) (n : ℕ) → c.written_back + k ≤ n → AreWithin c n
    → AreWithin (with_flush k c) (n + 1)
AreWithin-with_flush k c n le h = record {
  fetches = IsWithin-more c.fetches n h.fetches;
  misses = IsWithin-more c.misses n h.misses;
  compulsory = IsWithin-more c.compulsory n h.compulsory;
  capacity = IsWithin-more c.capacity n h.capacity;
  conflict = IsWithin-more c.conflict n h.conflict;
  loaded = (let a = h.loaded in omega arith);
  written_back = omega arith;
  sent_on = (let a = h.sent_on in omega arith);
  flushes = (let a = h.flushes in omega arith);
}

-- a miss has exactly one kind, and a hit has none
one_kind : (a b c m k : Bool) → one_if a + one_if b + one_if c ≡ one_if m
    → one_if (k && a) + one_if (k && b) + one_if (k && c) ≡ one_if (k && m)
one_kind a b c m true h = h
one_kind a b c m false h = refl

one_class : (a b c m : ℕ) (i j k l : ℕ) → i + j + k ≡ l → a + b + c ≡ m
    → (i + a) + (j + b) + (k + c) ≡ l + m
one_class a b c m i j k l h g = omega arith

-- counts that add up in each class add up in total
pub in_total : (whole a b c : PerClass) → a.instr + b.instr + c.instr ≡ whole.instr
    → a.read + b.read + c.read ≡ whole.read
    → a.write + b.write + c.write ≡ whole.write → a.misc + b.misc + c.misc ≡ whole.misc
    → AddUp whole a b c
in_total whole a b c i r w m =
    record { instr = i; read = r; write = w; misc = m; total = omega arith }

AddUp-with_one : (x : Access) (a b c m : Bool) (whole p q s : PerClass)
    → one_if a + one_if b + one_if c ≡ one_if m → AddUp whole p q s
    → AddUp (with_one x m whole) (with_one x a p) (with_one x b q) (with_one x c s)
AddUp-with_one x a b c m whole p q s h g = in_total _ _ _ _
    (one_class p.instr q.instr s.instr whole.instr _ _ _ _ (one_kind a b c m (is_instr x) h)
    g.instr)
    (one_class p.read q.read s.read whole.read _ _ _ _ (one_kind a b c m (is_read x) h) g.read)
    (one_class p.write q.write s.write whole.write _ _ _ _ (one_kind a b c m (is_write x) h)
    g.write)
    (one_class p.misc q.misc s.misc whole.misc _ _ _ _ (one_kind a b c m (is_misc x) h) g.misc)

kinds-made : (wb a w hit referenced in_shadow : Bool) (back : Option ℕ)
    → let o = outcome_made wb a w hit back referenced in_shadow in
    one_if (is_kind Compulsory o.kind) + one_if (is_kind Capacity o.kind)
    + one_if (is_kind Conflict o.kind) ≡ one_if (not o.hit)
kinds-made wb a w true referenced in_shadow back = refl
kinds-made wb a w false true true back = refl
kinds-made wb a w false true false back = refl
kinds-made wb a w false false in_shadow back = refl

-- after an access the kinds of miss still add up to the misses
pub KindsAddUp-with_access : (x : Access) (wb a w hit referenced in_shadow : Bool) (back : Option ℕ)
    (c : Counts) → KindsAddUp c → KindsAddUp
    (with_access x (outcome_made wb a w hit back referenced in_shadow) c)
KindsAddUp-with_access x wb a w hit referenced in_shadow back c h =
    AddUp-with_one x _ _ _ _ c.misses c.compulsory c.capacity c.conflict
    (kinds-made wb a w hit referenced in_shadow back) h

none-within : IsWithin none_by_class 0
none-within = record {
  instr = omega arith;
  read = omega arith;
  write = omega arith;
  misc =
      omega arith;
}

-- no count is above 0 at the start
pub AreWithin-none : AreWithin no_counts 0
AreWithin-none = record {
  fetches = none-within;
  misses = none-within;
  compulsory = none-within;
  capacity = none-within;
  conflict = none-within;
  loaded = omega arith;
  written_back = omega arith;
  sent_on = omega arith;
  flushes = omega arith;
}
