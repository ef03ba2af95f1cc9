-- The outcome of one access, which includes what it sends to the next level.
use Rattle.std.specs.Prelude.{◌≡◌, ℕ, ◌+◌, ◌*◌, Bool, false, ◌&&◌, ◌||◌, not, if◌then◌else◌}
use Rattle.std.specs.Prelude.{Option, Some, None, is_some}
use Rattle.cache_core.specs.declared.access.Access.{Access}
use Rattle.cache_core.specs.declared.access.Outcome.{Outcome}
use Rattle.cache_core.specs.History.{History, Rules, is_write}
use Rattle.cache_core.specs.Residents.{hits, uses, loads, renewals, victim}
use Rattle.cache_core.specs.Dirty.{is_dirty}
use Rattle.cache_core.specs.Kinds.{kind_of_miss}

-- 1 if it is true, else 0
abbrev pub one_if : Bool → ℕ
one_if b = if b then 1 else 0

module _ (r : Rules) where
  -- the first byte of the evicted block, if there is one and it is dirty
  abbrev pub dirty_victim : History → Option ℕ → Option ℕ
  dirty_victim h None = None
  dirty_victim h (Some b) = if is_dirty r h b then Some (b * r.bsize) else None

  -- The parts that go to the next level are, in this order: `back`, a dirty victim is written back;
  -- `fetch`, a load fetches its block; `through`, a write is sent on under write through, and if it
  -- misses without write allocation.
  unfoldable pub outcome_of : History → Access → Outcome
  outcome_of h x = record {
    hit = hits r (renewals r h) x;
    kind = (if hits r (renewals r h) x then None else Some (kind_of_miss r h x));
    back = dirty_victim h (victim r h x);
    fetch = loads r (renewals r h) x;
    through = is_write x && (not r.wback || not (uses r (renewals r h) x));
  }

-- none of the parts is there
pub record SendsNothing (o : Outcome) : Type 0 where
  pub back : o.back ≡ None
  pub fetch : o.fetch ≡ false
  pub through : o.through ≡ false

-- how many parts an outcome has
abbrev pub part_count : Outcome → ℕ
part_count o = one_if (is_some o.back) + one_if o.fetch + one_if o.through
