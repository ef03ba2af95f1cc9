-- A complete line at the start of some bytes, and runs of bytes in it.
use Rattle.std.specs.Prelude.{◌≡◌, ℕ, ◌+◌, ◌==◌, true, false, List, [], ◌∷◌, ◌++◌, length, drop}
use Rattle.std.specs.List.{AllByRecursion}
use Rattle.din_trace.specs.declared.record.DinRecord.{DinRecord}
use Rattle.din_trace.specs.Line.{ADDRESS_MAX, is_blank, is_hex, has_prefix, Din, form}

-- no byte is an LF
abbrev pub HasNoLf : List ℕ → Type 0
HasNoLf text = AllByRecursion (λ byte. (byte == 10) ≡ false) text

-- the bytes begin with a line that holds this record; with its LF the line has this many bytes
pub record BeginsWithLine (bytes : List ℕ) (r : DinRecord) (count : ℕ) : Type 0 where
  pub line : List ℕ
  pub whole : bytes ≡ line ++ 10 ∷ drop count bytes
  pub counted : count ≡ length line + 1
  pub one_line : HasNoLf line
  pub holds : form ADDRESS_MAX line ≡ Din r

-- `0x`, `0X` or nothing
abbrev pub IsPrefix : List ℕ → Type 0
IsPrefix [] = Unit {0}
IsPrefix (a ∷ []) = ⊥
IsPrefix (a ∷ b ∷ rest) = (has_prefix (a ∷ b ∷ []) ≡ true) × (rest ≡ [])

-- the bytes from index `start` up to, but not including, `stop` all have a property
pub record Run (Holds : ℕ → Type 0) (bytes : List ℕ) (start stop : ℕ) : Type 0 where
  pub run : List ℕ
  pub each : AllByRecursion Holds run
  pub counted : stop ≡ start + length run
  pub whole : drop start bytes ≡ run ++ drop stop bytes

-- the bytes between these two indexes are blanks
abbrev pub Blanks : List ℕ → ℕ → ℕ → Type 0
Blanks bytes start stop = Run (λ byte. is_blank byte ≡ true) bytes start stop

-- the bytes between these two indexes are hexadecimal digits
abbrev pub Digits : List ℕ → ℕ → ℕ → Type 0
Digits bytes start stop = Run (λ byte. is_hex byte ≡ true) bytes start stop

-- no byte between these two indexes is an LF
abbrev pub Others : List ℕ → ℕ → ℕ → Type 0
Others bytes start stop = Run (λ byte. (byte == 10) ≡ false) bytes start stop
