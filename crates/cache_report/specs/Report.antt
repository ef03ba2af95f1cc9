-- The report: three blocks of eleven lines, one for each cache.
use Rattle.std.specs.Prelude.{ℕ, ◌-◌, ◌*◌, ◌/◌, ◌%◌, ◌==◌, List, [], ◌∷◌, ◌++◌, map}
use Rattle.std.specs.Prelude.{length, replicate, codes, decimal}
use Rattle.std.specs.Prelude.{if◌then◌else◌}
use Rattle.std.specs.List.{concat, flat_map}
use Rattle.cache_core.specs.declared.counts.PerClass.{PerClass}
use Rattle.cache_core.specs.declared.counts.Counts.{Counts}
use Rattle.cache_core.specs.Counts.{total_of}
use Rattle.stage_core.specs.declared.totals.Totals.{Totals}

-- Codes: 32 is a space, 46 a point, 48 the digit 0 and 10 the end of a line.

-- a name, filled on the right to 18 characters
abbrev pub name_field : List ℕ → List ℕ
name_field name = name ++ replicate (18 - length name) 32

-- a column, filled on the left to 12 characters; a longer text is not cut
abbrev pub column : List ℕ → List ℕ
column text = replicate (12 - length text) 32 ++ text

-- a line: its name, its columns and the end of a line
unfoldable pub line : List ℕ → List (List ℕ) → List ℕ
line name columns = name_field name ++ (flat_map column columns ++ 10 ∷ [])

-- the five numbers of a line: the total, then the four classes
abbrev pub five : PerClass → List ℕ
five p = total_of p ∷ p.instr ∷ p.read ∷ p.write ∷ p.misc ∷ []

-- the miss rate in ten-thousandths, rounded down; 0 if there were no fetches
abbrev pub ten_thousandths : ℕ → ℕ → ℕ
ten_thousandths misses fetches = if fetches == 0 then 0 else misses * 10000 / fetches

-- a number below 10000, written with four digits
abbrev pub four_digits : ℕ → List ℕ
four_digits n = replicate (4 - length (decimal n)) 48 ++ decimal n

-- a number of ten-thousandths, written with a point and four decimals
abbrev pub rate_text : ℕ → List ℕ
rate_text q = decimal (q / 10000) ++ 46 ∷ four_digits (q % 10000)

-- the miss rate as it is written
abbrev pub rate : ℕ → ℕ → List ℕ
rate misses fetches = rate_text (ten_thousandths misses fetches)

-- the five rates of a line: the total, then the four classes
abbrev pub five_rates : PerClass → PerClass → List (List ℕ)
five_rates misses fetches =
    rate (total_of misses) (total_of fetches) ∷ rate misses.instr fetches.instr
    ∷ rate misses.read fetches.read ∷ rate misses.write fetches.write
    ∷ rate misses.misc fetches.misc ∷ []

-- the heads of the five columns
abbrev pub heads : List (List ℕ)
heads = codes "Total" ∷ codes "Instrn" ∷ codes "Read" ∷ codes "Write" ∷ codes "Misc" ∷ []

-- a line of counts by class
abbrev pub class_line : List ℕ → PerClass → List ℕ
class_line name counts = line name (map decimal (five counts))

-- a line of a single count
abbrev pub count_line : List ℕ → ℕ → List ℕ
count_line name count = line name (decimal count ∷ [])

-- the eleven lines of a cache's block
unfoldable pub block : List ℕ → Counts → List ℕ
block name c = concat (
    line name heads
    ∷ class_line (codes "Demand Fetches") c.fetches
    ∷ class_line (codes "Demand Misses") c.misses
    ∷ line (codes "Miss Rate") (five_rates c.misses c.fetches)
    ∷ class_line (codes "Compulsory") c.compulsory
    ∷ class_line (codes "Capacity") c.capacity
    ∷ class_line (codes "Conflict") c.conflict
    ∷ count_line (codes "Blocks Fetched") c.loaded
    ∷ count_line (codes "Written Back") c.written_back
    ∷ count_line (codes "Writes Sent On") c.sent_on
    ∷ count_line (codes "Flushes") c.flushes
    ∷ [])

-- the whole report: three blocks, separated by empty lines
unfoldable pub report : Totals → List ℕ
report t =
    block (codes "l1-icache") t.i
    ++ (10 ∷ block (codes "l1-dcache") t.d
    ++ (10 ∷ block (codes "l2-ucache") t.u))
