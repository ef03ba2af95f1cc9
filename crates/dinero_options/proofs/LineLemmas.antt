-- The line of a fault, written piece by piece.
use Rattle.std.proofs.Common.{◌≡◌, ℕ, List, [], ◌∷◌, ◌++◌, Bool, false, Option, Result, Ok, refl}
use Rattle.std.specs.Prelude.{if◌then◌else◌}
use Rattle.din_trace.specs.Device.{Writes}
use Rattle.din_trace.proofs.WritesLemmas.{writes_then, writes_as}

-- unless it is for help: the program's name, the message and the end of the line
pub line-written : {W S E F : Type 0} {contents : W → Option (List ℕ)} {failures : W → ℕ}
    {w0 w1 w2 w3 : W} {x1 x2 : S} (result : Result S F) (help : Bool) (name message : List ℕ)
    → help ≡ false → Writes {E = E} contents failures w0 w1 (Ok x1) name
    → Writes {E = E} contents failures w1 w2 (Ok x2) message
    → Writes contents failures w2 w3 result (10 ∷ [])
    → Writes contents failures w0 w3 result
    (if help then [] else name ++ (message ++ 10 ∷ []))
line-written result help name message other h1 h2 h3 =
    writes_as _ _ _ (rw other refl) (writes_then _ _ _ h1 (writes_then _ _ _ h2 h3))
