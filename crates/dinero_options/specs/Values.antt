-- How the value of an option is read.
use Rattle.std.specs.Prelude.{ℕ, ◌-◌, ◌*◌, ◌==◌, ◌&&◌, ◌||◌, Bool, true, false, length, take}
use Rattle.std.specs.Prelude.{slice_index, nat_le, Option, Some, None, option_map}
use Rattle.std.specs.Prelude.{if◌then◌else◌, codes}
use Rattle.std.specs.Char.{is_ascii_digit}
use Rattle.std.specs.List.{list_all}
use Rattle.std.specs.Option.{option_map_or}
use Rattle.std.specs.Str.{bytes_eq}
use Rattle.std.specs.Str.Parse.{digits_value}
use Rattle.clap.specs.Words.{Text}
use Rattle.cache_core.specs.declared.policy.Repl.{Repl}
use Rattle.cache_core.specs.declared.policy.Repl.TheVariants.{Lru, Fifo}

-- a count: 1 to 12 decimal digits
abbrev pub is_count : Text → Bool
is_count text = nat_le 1 (length text) && (nat_le (length text) 12 && list_all is_ascii_digit text)

-- the number that a text gives if it is a count
abbrev pub count_value : Text → Option ℕ
count_value text = if is_count text then Some (digits_value 10 text) else None

-- the factor of a unit: k and K (107 and 75) are 1024, m and M (109 and 77) are 1024 * 1024
abbrev pub unit_value : ℕ → Option ℕ
unit_value byte =
    if byte == 107 || byte == 75 then Some 1024
    else (if byte == 109 || byte == 77 then Some 1048576 else None)

-- the number of bytes that a text gives if it is a size: a count, or a count with a unit after it
abbrev pub size_value : Text → Option ℕ
size_value text = option_map_or
    (λ unit. option_map (λ n. n * unit) (count_value (take (length text - 1) text)))
    (unit_value (slice_index text (length text - 1)))
    (count_value text)

-- the replacement that a letter means: l is LRU, f is FIFO
abbrev pub replacement_value : Text → Option Repl
replacement_value text =
    if bytes_eq text (codes "l") then Some Lru
    else (if bytes_eq text (codes "f") then Some Fifo else None)

-- the choice that a letter means: a (always) is true, n (never) is false
abbrev pub choice_value : Text → Option Bool
choice_value text =
    if bytes_eq text (codes "a") then Some true
    else (if bytes_eq text (codes "n") then Some false else None)
