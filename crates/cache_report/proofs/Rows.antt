-- The five columns of a line, written one after another.
use Rattle.std.proofs.Common.{ℕ, List, [], ◌∷◌, ◌++◌, Option, Result, Ok, append_assoc}
use Rattle.std.specs.List.{flat_map}
use Rattle.cache_report.specs.Report.{column}
use Rattle.din_trace.specs.Device.{Writes}
use Rattle.din_trace.proofs.WritesLemmas.{writes_then, writes_as}

-- the column over all classes, that of each class, and the end of the line
pub columns-written : {W S E F : Type 0} {contents : W → Option (List ℕ)} {failures : W → ℕ}
    {w0 w1 w2 w3 w4 w5 w6 : W} {x1 x2 x3 x4 x5 : S} (result : Result S F)
    (total instr read write misc : List ℕ)
    → Writes {E = E} contents failures w0 w1 (Ok x1) (column total)
    → Writes {E = E} contents failures w1 w2 (Ok x2) (column instr)
    → Writes {E = E} contents failures w2 w3 (Ok x3) (column read)
    → Writes {E = E} contents failures w3 w4 (Ok x4) (column write)
    → Writes {E = E} contents failures w4 w5 (Ok x5) (column misc)
    → Writes contents failures w5 w6 result (10 ∷ [])
    → Writes contents failures w0 w6 result
    (flat_map column (total ∷ instr ∷ read ∷ write ∷ misc ∷ []) ++ 10 ∷ [])
columns-written result total instr read write misc h1 h2 h3 h4 h5 h6 =
    writes_as _ _ _ (simp append_assoc)
    (writes_then _ _ _ h1 (writes_then _ _ _ h2 (writes_then _ _ _ h3 (writes_then _ _ _ h4
    (writes_then _ _ _ h5 h6)))))
