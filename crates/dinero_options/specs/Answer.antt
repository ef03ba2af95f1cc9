-- The answer to the words of the command line.
use Rattle.std.specs.Prelude.{◌≡◌, ◌⊎◌, ℕ, Bool, true, false, not, List, [], find, Option, Some}
use Rattle.std.specs.Prelude.{None, is_some, option_map, unwrap_or, Result, Ok, Err, slice_index_or}
use Rattle.std.specs.Option.{option_map_or}
use Rattle.clap.specs.Words.{App, IsAmong, Row, Text, fault_of, first_of, matches_of, takes}
use Rattle.clap.specs.declared.error.kind.ErrorKind.{ErrorKind}
use Rattle.clap.specs.declared.error.kind.ErrorKind.TheVariants as kind
use Rattle.cache_core.specs.declared.policy.Repl.{Repl}
use Rattle.cache_core.specs.declared.policy.Repl.TheVariants.{Lru}
use Rattle.stage_core.specs.Config.{IsCacheOf, ring_of}
use Rattle.stage_core.specs.Lawful.{refusal_of}
use Rattle.stage_core.specs.declared.config.CacheName.TheVariants as cache_name
use Rattle.stage_core.specs.declared.config.CacheSpec.{CacheSpec}
use Rattle.stage_core.specs.declared.config.Config.{Config}
use Rattle.stage_core.specs.declared.selection.Selection.{Selection}
use Rattle.dinero_options.specs.Options.{command_app, data_options, id_of}
use Rattle.dinero_options.specs.Options.{instruction_options, kind_of_option, options, place_of}
use Rattle.dinero_options.specs.Options.{second_level_options}
use Rattle.dinero_options.specs.Values.{choice_value, count_value, replacement_value}
use Rattle.dinero_options.specs.Values.{size_value}
use Rattle.dinero_options.specs.declared.opt.CacheOptions.{CacheOptions}
use Rattle.dinero_options.specs.declared.opt.Kind.{Kind}
use Rattle.dinero_options.specs.declared.opt.Kind.TheVariants.{Size, Count, References}
use Rattle.dinero_options.specs.declared.opt.Kind.TheVariants.{Replacement, Choice}
use Rattle.dinero_options.specs.declared.opt.Opt.{Opt}
use Rattle.dinero_options.specs.declared.opt.Opt.TheVariants as o
use Rattle.dinero_options.specs.declared.settings.Settings.{Settings}
use Rattle.dinero_options.specs.declared.fault.WordsFault.{WordsFault}
use Rattle.dinero_options.specs.declared.fault.WordsFault.TheVariants as fault

-- the text of an option in clap's matches: the one that was given, or its default
abbrev pub text_of : List Row → Opt → Text
text_of rows x = unwrap_or (first_of (id_of x) rows) []

-- the text of an option in a list of texts, one for each option in their order; empty past its end
abbrev pub text_at : List Text → Opt → Text
text_at texts x = slice_index_or texts (place_of x) []

-- can a text be read as a value of this kind?
abbrev pub reads_as : Kind → Text → Bool
reads_as Size text = is_some (size_value text)
reads_as Count text = is_some (count_value text)
reads_as References text = is_some (count_value text)
reads_as Replacement text = is_some (replacement_value text)
reads_as Choice text = is_some (choice_value text)

-- the fault if the value of an option of this kind cannot be read
abbrev pub refusal_by : Kind → Opt → WordsFault
refusal_by Size x = fault.Number x
refusal_by Count x = fault.Number x
refusal_by References x = fault.Number x
refusal_by Replacement x = fault.Choice x
refusal_by Choice x = fault.Choice x

-- the fault if the value of this option cannot be read
abbrev pub refusal_by_option : Opt → WordsFault
refusal_by_option x = refusal_by (kind_of_option x) x

-- can the text of an option be read?
unfoldable pub is_readable : (Opt → Text) → Opt → Bool
is_readable texts x = reads_as (kind_of_option x) (texts x)

-- the first of these options whose text cannot be read, if any
abbrev pub first_unreadable : (Opt → Text) → List Opt → Option Opt
first_unreadable texts xs = find (λ x. not (is_readable texts x)) xs

-- the value, or the fault of the first of these options that cannot be read
unfoldable pub if_readable : {A : Type 0} → (Opt → Text) → List Opt → A → Result A WordsFault
if_readable texts xs a = option_map_or
    (λ x. Err (refusal_by_option x)) (first_unreadable texts xs) (Ok a)

-- the size that an option sets, in bytes; 0 if its text cannot be read
abbrev pub size_at : (Opt → Text) → Opt → ℕ
size_at texts x = unwrap_or (size_value (texts x)) 0

-- the count that an option sets; 0 if its text cannot be read
abbrev pub count_at : (Opt → Text) → Opt → ℕ
count_at texts x = unwrap_or (count_value (texts x)) 0

-- the replacement that an option sets; LRU if its text cannot be read
abbrev pub replacement_at : (Opt → Text) → Opt → Repl
replacement_at texts x = unwrap_or (replacement_value (texts x)) Lru

-- the choice that an option sets: always is true, never is false; false if its text cannot be read
abbrev pub choice_at : (Opt → Text) → Opt → Bool
choice_at texts x = unwrap_or (choice_value (texts x)) false

-- write back and write allocation; both are true if a cache has no options for them
abbrev pub write_choices : (Opt → Text) → Option (Opt × Opt) → Bool × Bool
write_choices texts None = (true, true)
write_choices texts (Some pair) = (choice_at texts pair.0, choice_at texts pair.1)

-- the cache that these options ask for
abbrev pub cache_at : (Opt → Text) → CacheOptions → CacheSpec
cache_at texts c = record {
  size = size_at texts c.size;
  bsize = size_at texts c.bsize;
  assoc = count_at texts c.assoc;
  policy = record {
    repl = replacement_at texts c.repl;
    wback = (write_choices texts c.write).0;
    walloc = (write_choices texts c.write).1;
  };
}

-- which references are simulated, and where flushes are inserted
abbrev pub selection_at : (Opt → Text) → Selection
selection_at texts = record {
  skip = count_at texts o.Skipcount;
  max = count_at texts o.Maxcount;
  every = count_at texts o.Flushcount;
}

-- all settings that the words ask for
abbrev pub settings_at : (Opt → Text) → Settings
settings_at texts = record {
  i = cache_at texts instruction_options;
  d = cache_at texts data_options;
  u = cache_at texts second_level_options;
  ring = count_at texts o.Ring;
  selection = selection_at texts;
}

-- the configuration has these settings
pub record IsConfigOf (c : Config) (w : Settings) : Type 0 where
  pub i : IsCacheOf c cache_name.I w.i
  pub d : IsCacheOf c cache_name.D w.d
  pub u : IsCacheOf c cache_name.U w.u
  pub ring : ring_of c ≡ w.ring

-- the configuration and the selection of these settings, or the first rule that they break
abbrev pub Configures : Settings → Result (Config × Selection) WordsFault → Type 0
Configures w (Ok p) = (refusal_of w.i w.d w.u w.ring ≡ None) × IsConfigOf p.0 w
    × (p.1 ≡ w.selection)
Configures w (Err f) = option_map fault.Config (refusal_of w.i w.d w.u w.ring) ≡ Some f

-- the fault of an option, or else the answer to the settings
abbrev pub Follows : Result Settings WordsFault → Result (Config × Selection) WordsFault → Type 0
Follows (Err f) r = r ≡ Err f
Follows (Ok w) r = Configures w r

-- the answer to clap's matches: the fault of the first option that cannot be read, or else the
-- answer to the settings
abbrev pub AnswersRows : List Row → Result (Config × Selection) WordsFault → Type 0
AnswersRows rows r = let texts = text_of rows in
    Follows (if_readable texts options (settings_at texts)) r

-- the fault if clap refuses the words for this reason
abbrev pub refusal_by_kind : ErrorKind → WordsFault
refusal_by_kind kind.DisplayHelp = fault.Help
refusal_by_kind kind.OutOfMemory = fault.Memory
refusal_by_kind _ = fault.Words

-- clap accepts the words for this command, and these are its matches
abbrev pub AcceptsWords : App → List Text → List Row → Type 0
AcceptsWords app words rows = (fault_of app words ≡ []) × (rows ≡ matches_of app words)

-- why words are refused for a command: `Memory`, or one of the reasons for which clap refuses them
abbrev pub RefusesWords : App → List Text → WordsFault → Type 0
RefusesWords app words f = (f ≡ fault.Memory)
    ⊎ ((k : ErrorKind) × (takes app words ≡ false) × IsAmong k (fault_of app words)
    × (f ≡ refusal_by_kind k))

-- the answer to the words: the answer to clap's matches, if clap accepts the words; or else why
-- they are refused, which may be `Memory` for any words
abbrev pub AnswersWords : List Text → Result (Config × Selection) WordsFault → Type 0
AnswersWords words r =
    ((rows : List Row) × AcceptsWords command_app words rows × AnswersRows rows r)
    ⊎ ((f : WordsFault) × RefusesWords command_app words f × (r ≡ Err f))
