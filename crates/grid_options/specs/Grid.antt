-- The grid that the words of a command line ask for.
use Rattle.std.specs.Prelude.{◌≡◌, ◌⊎◌, ◌==◌, Bool, true, false, not, List, [], ◌∷◌, ◌++◌, codes}
use Rattle.std.specs.Prelude.{filter, find, flat_map, fold, length, map, nat_lt, string_bytes}
use Rattle.std.specs.Prelude.{if◌then◌else◌, Option, Some, None, is_none, unwrap_or, Result, Ok}
use Rattle.std.specs.Prelude.{Err}
use Rattle.std.specs.List.{AllZip, list_all, slice_split}
use Rattle.std.specs.Option.{option_map_or}
use Rattle.clap.specs.Words.{App, Row, Text, with_rule}
use Rattle.stage_core.specs.Events.{IsBounded}
use Rattle.stage_core.specs.Lawful.{refusal_of}
use Rattle.stage_core.specs.declared.config.Config.{Config}
use Rattle.stage_core.specs.declared.config.ConfigFault.{ConfigFault}
use Rattle.dinero_options.specs.Answer.{AcceptsWords, IsConfigOf, RefusesWords, reads_as}
use Rattle.dinero_options.specs.Answer.{refusal_by_option, settings_at, text_at, text_of}
use Rattle.dinero_options.specs.Options.{bare_app, cache_options, data_options, default_of, id_of}
use Rattle.dinero_options.specs.Options.{instruction_options, kind_of_option, options}
use Rattle.dinero_options.specs.Options.{second_level_options, selection_options, with_options}
use Rattle.dinero_options.specs.declared.opt.Opt.{Opt}
use Rattle.dinero_options.specs.declared.opt.Opt.TheVariants.{Ring, Skipcount, Maxcount}
use Rattle.dinero_options.specs.declared.settings.Settings.{Settings}
use Rattle.dinero_options.specs.declared.fault.WordsFault.{WordsFault}
use Rattle.dinero_options.specs.declared.fault.WordsFault.TheVariants.{Memory}
use Rattle.grid_options.specs.Own.{full_rule, is_full, threads_of, threads_rule}
use Rattle.grid_options.specs.Written.{written}
use Rattle.grid_options.specs.declared.grid.GridPoint.{GridPoint}
use Rattle.grid_options.specs.declared.grid.ParsedGrid.{ParsedGrid}
use Rattle.grid_options.specs.declared.fault.GridWordsFault.{GridWordsFault}
use Rattle.grid_options.specs.declared.fault.GridWordsFault.TheVariants.{Words, Threads, TooMany}

-- the options that the program shares with that of one configuration: all but the rings
abbrev pub shared_options : List Opt
shared_options = cache_options instruction_options ++ (cache_options data_options ++
    (cache_options second_level_options ++ selection_options))

-- the command with all options
abbrev pub grid_app : App
grid_app = with_rule
    (with_rule (with_options (bare_app (codes "dinero_grid")) shared_options) threads_rule)
    full_rule

-- is it the capacity of the rings, which the program has no option for?
abbrev pub is_ring : Opt → Bool
is_ring Ring = true
is_ring _ = false

-- may the value of an option be a list?
abbrev pub takes_list : Opt → Bool
takes_list Ring = false
takes_list Skipcount = false
takes_list Maxcount = false
takes_list _ = true

-- the text of an option in clap's matches; of the rings, their default
abbrev pub grid_text : List Row → Opt → Text
grid_text rows x = if is_ring x then unwrap_or (default_of x) [] else text_of rows x

-- the pieces of a text between its commas; 44 is a comma
abbrev pub pieces : Text → List Text
pieces text = slice_split (λ byte. byte == 44) text

-- the values of an option: the pieces of its text if it may be a list, or else the text
unfoldable pub values_of : List Row → Opt → List Text
values_of rows x = if takes_list x then pieces (grid_text rows x) else grid_text rows x ∷ []

-- can all values of an option be read?
unfoldable pub has_readable : List Row → Opt → Bool
has_readable rows x = list_all (reads_as (kind_of_option x)) (values_of rows x)

-- the first option one of whose values cannot be read, if any
abbrev pub first_unreadable : List Row → Option Opt
first_unreadable rows = find (λ x. not (has_readable rows x)) options

-- the options with two or more values
abbrev pub varied : List Row → List Opt
varied rows = filter (λ x. nat_lt 1 (length (values_of rows x))) options

-- the options that the points have words for: in a full table all shared ones, or else those that
-- vary
abbrev pub shown : Bool → List Row → List Opt
shown full rows = if full then shared_options else varied rows

-- each point with each of these values behind it, point by point
unfoldable pub extended : List (List Text) → List Text → List (List Text)
extended points values = flat_map (λ p. map (λ v. p ++ v ∷ []) values) points

-- every choice of one value for each of these options; the value of the last option varies fastest
abbrev pub product : (Opt → List Text) → List Opt → List (List Text)
product values xs = fold (λ points x. extended points (values x)) ([] ∷ []) xs

-- the points of the grid: lists of texts, one for each option
abbrev pub points_of : List Row → List (List Text)
points_of rows = product (values_of rows) options

-- an allocation failed
abbrev pub memory : GridWordsFault
memory = Words Memory

-- the fault of the grid, if it has one: the first option one of whose values cannot be read, or a
-- number of threads that cannot be read or is too large, or more than 4096 points
abbrev pub grid_fault : List Row → Option GridWordsFault
grid_fault rows = option_map_or (λ x. Some (Words (refusal_by_option x))) (first_unreadable rows)
    (if is_none (threads_of rows) then Some Threads
    else (if nat_lt 4096 (length (points_of rows)) then Some TooMany else None))

-- the configuration with these settings, or the first rule that they break
abbrev pub IsConfigured : Settings → Result Config ConfigFault → Type 0
IsConfigured w (Ok c) = (refusal_of w.i w.d w.u w.ring ≡ None) × IsConfigOf c w
IsConfigured w (Err f) = refusal_of w.i w.d w.u w.ring ≡ Some f

-- the words of a point: in a full table what these options are set to, or else their texts
abbrev pub words_of : Bool → List Opt → List Text → List Text
words_of full xs texts =
    if full then map (written (settings_at (text_at texts))) xs else map (text_at texts) xs

-- the point has the words of these options, and what all its texts ask for; each number of its
-- selection is at most 2 ^ 40
pub record IsPoint (full : Bool) (xs : List Opt) (texts : List Text) (p : GridPoint) : Type 0 where
  pub words : map string_bytes p.words.items ≡ words_of full xs texts
  pub selection : p.selection ≡ (settings_at (text_at texts)).selection
  pub config : IsConfigured (settings_at (text_at texts)) p.config
  pub bound : IsBounded p.selection

-- the grid has the names of the options that are shown, all points in their order, the number of
-- threads that was asked for, and whether its table is full
pub record IsGridOf (rows : List Row) (g : ParsedGrid) : Type 0 where
  pub names : map string_bytes g.names.items ≡ map id_of (shown (is_full rows) rows)
  pub points :
      AllZip (IsPoint (is_full rows) (shown (is_full rows) rows)) (points_of rows) g.points.items
  pub threads : Some g.threads ≡ threads_of rows
  pub full : g.full ≡ is_full rows

-- the answer to clap's matches: the grid, or its fault
abbrev pub AnswersGrid : List Row → Result ParsedGrid GridWordsFault → Type 0
AnswersGrid rows (Ok g) = (grid_fault rows ≡ None) × IsGridOf rows g
AnswersGrid rows (Err f) = grid_fault rows ≡ Some f

-- the answer to the words: the answer to clap's matches, if clap accepts the words; or else why
-- they are refused, which may be want of memory for any words
abbrev pub AnswersGridWords : List Text → Result ParsedGrid GridWordsFault → Type 0
AnswersGridWords words r =
    ((rows : List Row) × AcceptsWords grid_app words rows × AnswersGrid rows r)
    ⊎ ((f : WordsFault) × RefusesWords grid_app words f × (r ≡ Err (Words f)))
