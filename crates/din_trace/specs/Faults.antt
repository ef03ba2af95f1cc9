-- What a run over a reader may answer: that the reader gave a text and came to its end, or which
-- fault.
use Rattle.std.specs.Prelude.{◌≡◌, ◌⊎◌, ◌≤◌, ℕ, List, ◌++◌, length, Option, Some}
use Rattle.std.specs.Io.KnownBytes.{Consumes, IsAtEnd}
use Rattle.din_trace.specs.declared.fault.TraceFault.{TraceFault}
use Rattle.din_trace.specs.Device.{once_more}
use Rattle.din_trace.specs.Line.{ADDRESS_MAX}
use Rattle.din_trace.specs.Text.{fault, failed_fault}

-- the reader gave the text, came to its end, and never failed: some reader of this type has all
-- of that behind it, and has failed as often as this one; if the reader's bytes are not known, this
-- holds of every text
pub record GaveAll {R : Type 0} (remaining : R → Option (List ℕ)) (failures : R → ℕ) (reader : R)
    (text : List ℕ) : Type 0 where
  pub last : R
  pub gave : Consumes (remaining reader) (remaining last) text
  pub ended : IsAtEnd (remaining last)
  pub sound : failures last ≡ failures reader

-- the text begins with the given bytes, and some reader of this type has the rest left and has
-- failed once more than this one, as this one has once it failed after it gave those bytes; that it
-- gave all of them before it failed is not said
pub record FailedBehind {R : Type 0} (remaining : R → Option (List ℕ)) (failures : R → ℕ)
    (reader : R) (text given : List ℕ) : Type 0 where
  pub rest : List ℕ
  pub whole : text ≡ given ++ rest
  pub last : R
  pub told : remaining last ≡ Some rest
  pub failed : failures last ≡ once_more (failures reader)

-- the fault of the reader's text under the limit, or the fault of a reader that failed after it
-- gave some first bytes of the text
abbrev pub IsFaultOf : {R : Type 0} → (R → Option (List ℕ)) → (R → ℕ) → R → List ℕ → ℕ
    → TraceFault → Type 0
IsFaultOf remaining failures reader text limit met =
    (fault ADDRESS_MAX text limit ≡ Some met)
    ⊎ ((given : List ℕ) × FailedBehind remaining failures reader text given
    × (length given ≤ limit) × (failed_fault ADDRESS_MAX given ≡ Some met))
