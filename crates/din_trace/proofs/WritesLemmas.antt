-- Calls that write, one after another.
use Rattle.std.proofs.Common.{◌≡◌, ◌∙◌, ℕ, List, ◌++◌, Option, None, Some, Result, Ok, Err, ap}
use Rattle.std.specs.Io.KnownBytes.{Appends, Keeps}
use Rattle.std.proofs.KnownBytes.{Appends-trans}
use Rattle.din_trace.specs.Device.{Writes, once_more}

-- two appends in a row are one append
pub appends_twice : (x y z : Option (List ℕ)) (a b : List ℕ) → Appends x y a → Appends y z b
    → Appends x z (a ++ b)
appends_twice = Appends-trans

module _ {W S E F : Type 0} {contents : W → Option (List ℕ)} {failures : W
    → ℕ} {old mid new : W} where
  -- a call that answered `Ok`, and another after it, act as one call
  pub writes_then : {T : Type 0} {x : T} (s : Result S F) (a b : List ℕ)
      → Writes {E = E} contents failures old mid (Ok x) a → Writes contents failures mid new s b
      → Writes contents failures old new s (a ++ b)
  writes_then (Ok y) a b h k =
      record {
        ok = appends_twice (contents old) (contents mid) (contents new) a b h.ok k.ok;
        kept =
            k.kept ∙ h.kept;
        failed = tt;
      }
  writes_then (Err y) a b h k =
      record { ok = tt; kept = tt; failed = k.failed ∙ ap once_more h.kept }

module _ {W S F : Type 0} {contents : W → Option (List ℕ)} {failures : W → ℕ} {old new : W} where
  -- the text may be replaced by an equal one
  pub writes_as : (s : Result S F) (a b : List ℕ) → a ≡ b → Writes contents failures old new s a
      → Writes contents failures old new s b
  writes_as s a b e h = rw (← e) h

-- what was appended stays if the bytes then stay as they are
pub appended_kept : (x y z : Option (List ℕ)) (a : List ℕ) → Appends x y a → Keeps y z
    → Appends x z a
appended_kept None y z a took kept = tt
appended_kept (Some xs) None z a took kept = absurd took
appended_kept (Some xs) (Some ys) None a took kept = absurd kept
appended_kept (Some xs) (Some ys) (Some zs) a took kept = kept ∙ took
