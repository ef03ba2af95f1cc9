-- The table of a grid: a line of heads, and a line for each configuration.
use Rattle.std.specs.Prelude.{ℕ, ◌-◌, ◌*◌, ◌/◌, ◌%◌, ◌==◌, List, [], ◌∷◌, ◌++◌, map}
use Rattle.std.specs.Prelude.{length, replicate, codes, decimal, if◌then◌else◌}
use Rattle.std.specs.List.{flat_map}
use Rattle.cache_core.specs.declared.counts.PerClass.{PerClass}
use Rattle.cache_core.specs.declared.counts.Counts.{Counts}
use Rattle.cache_core.specs.Counts.{total_of}
use Rattle.grid_run.specs.declared.figures.Figures.{Figures}
use Rattle.grid_run.specs.declared.grid.Columns.{Columns}
use Rattle.grid_run.specs.declared.grid.Columns.TheVariants.{Plain, Full}

-- Codes: 9 is a tab, 10 the end of a line, 46 a point and 48 the digit 0.

-- a word and the tab after it
abbrev pub tabbed : List ℕ → List ℕ
tabbed word = word ++ 9 ∷ []

-- words, each with the tab after it
unfoldable pub tabbed_words : List (List ℕ) → List ℕ
tabbed_words words = flat_map tabbed words

-- a line: words with tabs between them, and after the last the end of a line
abbrev pub tabbed_line : List (List ℕ) → List ℕ → List ℕ
tabbed_line words last = tabbed_words words ++ (last ++ 10 ∷ [])

-- the classes of accesses, as the head of a column has them
abbrev pub class_names : List (List ℕ)
class_names = codes "-instr" ∷ codes "-read" ∷ codes "-write" ∷ codes "-misc" ∷ []

-- the head of a count, and in a full table those of its classes
abbrev pub counted_heads : Columns → List ℕ → List (List ℕ)
counted_heads Plain head = head ∷ []
counted_heads Full head = head ∷ map (λ class. head ++ class) class_names

-- the heads of the columns of one cache
unfoldable pub heads_of : Columns → List ℕ → List (List ℕ)
heads_of columns cache =
    counted_heads columns (cache ++ codes "-fetches")
    ++ (counted_heads columns (cache ++ codes "-misses")
    ++ ((cache ++ codes "-miss-rate") ∷ (counted_heads columns (cache ++ codes "-compulsory")
    ++ (counted_heads columns (cache ++ codes "-capacity")
    ++ (counted_heads columns (cache ++ codes "-conflict")
    ++ (counted_heads columns (cache ++ codes "-fully-associative-misses")
    ++ ((cache ++ codes "-blocks-fetched") ∷ (cache ++ codes "-written-back")
    ∷ (cache ++ codes "-writes-sent-on") ∷ (cache ++ codes "-flushes") ∷ [])))))))

-- the heads of the columns of all three caches
abbrev pub cache_heads : Columns → List (List ℕ)
cache_heads columns =
    heads_of columns (codes "l1-icache")
    ++ (heads_of columns (codes "l1-dcache") ++ heads_of columns (codes "l2-ucache"))

-- the first line: the names of the options that have columns, the columns of the three caches,
-- and the fault
unfoldable pub head_line : Columns → List (List ℕ) → List ℕ
head_line columns names = tabbed_line (names ++ cache_heads columns) (codes "fault")

-- the miss rate in millionths, rounded down; 0 if there were no fetches
abbrev pub millionths : ℕ → ℕ → ℕ
millionths misses fetches = if fetches == 0 then 0 else misses * 1000000 / fetches

-- a number below 1000000, written with six digits
abbrev pub six_digits : ℕ → List ℕ
six_digits n = replicate (6 - length (decimal n)) 48 ++ decimal n

-- a number of millionths, written with a point and six decimals
abbrev pub millionths_text : ℕ → List ℕ
millionths_text q = decimal (q / 1000000) ++ 46 ∷ six_digits (q % 1000000)

-- the miss rate as it is written
abbrev pub miss_rate : ℕ → ℕ → List ℕ
miss_rate misses fetches = millionths_text (millionths misses fetches)

-- a count over all classes, and in a full table that of each class
abbrev pub counted : Columns → PerClass → List (List ℕ)
counted Plain n = decimal (total_of n) ∷ []
counted Full n =
    decimal (total_of n) ∷ decimal n.instr ∷ decimal n.read ∷ decimal n.write ∷ decimal n.misc ∷ []

-- the columns of a cache, from its counts and its fully associative misses
unfoldable pub columns_of : Columns → Counts → PerClass → List (List ℕ)
columns_of columns c shadow =
    counted columns c.fetches ++ (counted columns c.misses
    ++ (miss_rate (total_of c.misses) (total_of c.fetches) ∷ (counted columns c.compulsory
    ++ (counted columns c.capacity ++ (counted columns c.conflict ++ (counted columns shadow
    ++ (decimal c.loaded ∷ decimal c.written_back ∷ decimal c.sent_on ∷ decimal c.flushes
    ∷ [])))))))

-- the columns of all three caches
abbrev pub figure_columns : Columns → Figures → List (List ℕ)
figure_columns columns f =
    columns_of columns f.totals.i f.shadows.i
    ++ (columns_of columns f.totals.d f.shadows.d ++ columns_of columns f.totals.u f.shadows.u)

-- the line of a configuration that was simulated: its words, its figures, and no fault
unfoldable pub counted_line : Columns → List (List ℕ) → Figures → List ℕ
counted_line columns words figures = tabbed_line (words ++ figure_columns columns figures)
    (codes "-")

-- a hyphen for each column of a cache
unfoldable pub no_columns : Columns → List (List ℕ)
no_columns columns = map (λ head. codes "-") (heads_of columns [])

-- a hyphen for each column of all three caches
abbrev pub no_figures : Columns → List (List ℕ)
no_figures columns = no_columns columns ++ (no_columns columns ++ no_columns columns)

-- the line of a configuration that was refused: its words, no figures, and its fault
unfoldable pub refused_line : Columns → List (List ℕ) → List ℕ → List ℕ
refused_line columns words fault = tabbed_line (words ++ no_figures columns) fault
