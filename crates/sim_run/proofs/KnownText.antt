-- What a new source has left, if the bytes of its reader are known.
use Rattle.std.proofs.Common.{◌≡◌, ℕ, List, Option, Some, refl}
use Rattle.din_trace.specs.Line.{ADDRESS_MAX}
use Rattle.din_trace.specs.Remaining.{Script, Fate, Follows}
use Rattle.din_trace.specs.Source.{HasLeft, Takes, reader_of}
use Rattle.din_trace.specs.Text.{text_left}
use Rattle.din_trace.specs.declared.source.Source.{Source}
use Rattle.din_trace.proofs.Told.{MayBeLeft, script_of_told}

-- a script that a source may follow whose reader gives the text, and what it then has left
pub left-of-text : {R : Type 0} (remaining : R → Option (List ℕ)) (failures : R → ℕ) (reader : R)
    (text : List ℕ) (limit : ℕ) (old new : Source R) (given : List ℕ) (fate : Fate)
    → reader_of old ≡ reader
    → ((script : Script)
    → HasLeft old script (text_left ADDRESS_MAX 1 script.given limit script.fails))
    → Takes remaining failures old new given fate → remaining reader ≡ Some text
    → (before later : Script) × Follows fate given before later
    × HasLeft old before (text_left ADDRESS_MAX 1 before.given limit before.fails)
    × MayBeLeft remaining failures reader (reader_of new) text limit
    (text_left ADDRESS_MAX 1 before.given limit before.fails)
left-of-text remaining failures reader text limit old new given fate same left took told =
    let script = script_of_told remaining failures reader (reader_of new) text limit fate given _
    refl (rw (same, told) at took.reader) in
    (script.0, script.1, script.2, left script.0, script.3)
