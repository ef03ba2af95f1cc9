-- The block that was used last.
use Rattle.std.specs.Prelude.{◌≡◌, ℕ, ◌/◌, ◌==◌, Bool, true, false, ◌&&◌, ◌||◌, [], ◌∷◌}
use Rattle.cache_core.specs.History.{History, access, flush, is_write}
use Rattle.grid_core.specs.declared.recent.Recent.{Recent}

-- block b, where blocks have n bytes, was used last, and no flush came since
unfoldable pub used_last : ℕ → ℕ → History → Bool
used_last n b [] = false
used_last n b (flush ∷ h) = false
used_last n b (access x ∷ h) = x.addr / n == b

-- it was used last, and a write is among its uses since another block was used
unfoldable pub written_last : ℕ → ℕ → History → Bool
written_last n b [] = false
written_last n b (flush ∷ h) = false
written_last n b (access x ∷ h) = x.addr / n == b && (is_write x || written_last n b h)

-- what is known of the block that was used last is so
pub record IsRecent (n : ℕ) (p : Recent) (h : History) : Type 0 where
  pub used : p.used ≡ true → used_last n p.block h ≡ true
  pub written : p.written ≡ true → written_last n p.block h ≡ true

-- nothing is known
abbrev pub none_recent : Recent
none_recent = record { block = 0; used = false; written = false }

-- what is known after a use of block b
abbrev pub after_use : ℕ → Bool → Recent → Recent
after_use b write p = record {
  block = b;
  used = true;
  written = write || (p.block == b && p.written);
}

-- block b was used last, and if this use writes, a write was among the uses before
pub record IsAgain (b : ℕ) (write : Bool) (p : Recent) : Type 0 where
  pub used : p.used ≡ true
  pub block : p.block ≡ b
  pub written : write ≡ true → p.written ≡ true
