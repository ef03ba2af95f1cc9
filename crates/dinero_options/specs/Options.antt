-- The options of the command line, and the command that clap parses them with.
use Rattle.std.specs.Prelude.{ℕ, List, [], ◌∷◌, ◌++◌, fold, codes, true, Option, Some, None}
use Rattle.std.specs.Prelude.{is_none}
use Rattle.std.specs.Option.{option_map_or}
use Rattle.clap.specs.Words.{App, Rule, Text, new_app, new_rule, with_rule}
use Rattle.dinero_options.specs.declared.opt.CacheOptions.{CacheOptions}
use Rattle.dinero_options.specs.declared.opt.Kind.{Kind}
use Rattle.dinero_options.specs.declared.opt.Kind.TheVariants.{Size, Count, References}
use Rattle.dinero_options.specs.declared.opt.Kind.TheVariants.{Replacement, Choice}
use Rattle.dinero_options.specs.declared.opt.Opt.{Opt}
use Rattle.dinero_options.specs.declared.opt.Opt.TheVariants.{L1Isize, L1Ibsize, L1Iassoc, L1Irepl}
use Rattle.dinero_options.specs.declared.opt.Opt.TheVariants.{L1Dsize, L1Dbsize, L1Dassoc, L1Drepl}
use Rattle.dinero_options.specs.declared.opt.Opt.TheVariants.{L1Dwback, L1Dwalloc, L2Usize}
use Rattle.dinero_options.specs.declared.opt.Opt.TheVariants.{L2Ubsize}
use Rattle.dinero_options.specs.declared.opt.Opt.TheVariants.{L2Uassoc, L2Urepl, L2Uwback}
use Rattle.dinero_options.specs.declared.opt.Opt.TheVariants.{L2Uwalloc}
use Rattle.dinero_options.specs.declared.opt.Opt.TheVariants.{Ring, Skipcount, Maxcount, Flushcount}

-- the options of the instruction cache, which has no options for writes
abbrev pub instruction_options : CacheOptions
instruction_options = record {
  size = L1Isize;
  bsize = L1Ibsize;
  assoc = L1Iassoc;
  repl = L1Irepl;
  write = None;
}

-- the options of the data cache
abbrev pub data_options : CacheOptions
data_options = record {
  size = L1Dsize;
  bsize = L1Dbsize;
  assoc = L1Dassoc;
  repl = L1Drepl;
  write = Some (L1Dwback, L1Dwalloc);
}

-- the options of the second level
abbrev pub second_level_options : CacheOptions
second_level_options = record {
  size = L2Usize;
  bsize = L2Ubsize;
  assoc = L2Uassoc;
  repl = L2Urepl;
  write = Some (L2Uwback, L2Uwalloc);
}

-- the options for writes, if there are any: write back, then write allocation
abbrev pub write_options : Option (Opt × Opt) → List Opt
write_options None = []
write_options (Some pair) = pair.0 ∷ pair.1 ∷ []

-- the options of one cache, in their order
abbrev pub cache_options : CacheOptions → List Opt
cache_options c = c.size ∷ c.bsize ∷ c.assoc ∷ c.repl ∷ write_options c.write

-- the options of the selection
abbrev pub selection_options : List Opt
selection_options = Skipcount ∷ Maxcount ∷ Flushcount ∷ []

-- all options, in their order
abbrev pub options : List Opt
options = cache_options instruction_options ++ (cache_options data_options ++
    (cache_options second_level_options ++ Ring ∷ selection_options))

-- the place of an option among all options
abbrev pub place_of : Opt → ℕ
place_of L1Isize = 0
place_of L1Ibsize = 1
place_of L1Iassoc = 2
place_of L1Irepl = 3
place_of L1Dsize = 4
place_of L1Dbsize = 5
place_of L1Dassoc = 6
place_of L1Drepl = 7
place_of L1Dwback = 8
place_of L1Dwalloc = 9
place_of L2Usize = 10
place_of L2Ubsize = 11
place_of L2Uassoc = 12
place_of L2Urepl = 13
place_of L2Uwback = 14
place_of L2Uwalloc = 15
place_of Ring = 16
place_of Skipcount = 17
place_of Maxcount = 18
place_of Flushcount = 19

-- an option without the two hyphens in front
abbrev pub id_of : Opt → Text
id_of L1Isize = codes "l1-isize"
id_of L1Ibsize = codes "l1-ibsize"
id_of L1Iassoc = codes "l1-iassoc"
id_of L1Irepl = codes "l1-irepl"
id_of L1Dsize = codes "l1-dsize"
id_of L1Dbsize = codes "l1-dbsize"
id_of L1Dassoc = codes "l1-dassoc"
id_of L1Drepl = codes "l1-drepl"
id_of L1Dwback = codes "l1-dwback"
id_of L1Dwalloc = codes "l1-dwalloc"
id_of L2Usize = codes "l2-usize"
id_of L2Ubsize = codes "l2-ubsize"
id_of L2Uassoc = codes "l2-uassoc"
id_of L2Urepl = codes "l2-urepl"
id_of L2Uwback = codes "l2-uwback"
id_of L2Uwalloc = codes "l2-uwalloc"
id_of Ring = codes "ring"
id_of Skipcount = codes "skipcount"
id_of Maxcount = codes "maxcount"
id_of Flushcount = codes "flushcount"

-- an option with the two hyphens in front
abbrev pub name_of : Opt → Text
name_of option = codes "--" ++ id_of option

-- the kind of an option's value
abbrev pub kind_of_option : Opt → Kind
kind_of_option L1Isize = Size
kind_of_option L1Ibsize = Size
kind_of_option L1Iassoc = Count
kind_of_option L1Irepl = Replacement
kind_of_option L1Dsize = Size
kind_of_option L1Dbsize = Size
kind_of_option L1Dassoc = Count
kind_of_option L1Drepl = Replacement
kind_of_option L1Dwback = Choice
kind_of_option L1Dwalloc = Choice
kind_of_option L2Usize = Size
kind_of_option L2Ubsize = Size
kind_of_option L2Uassoc = Count
kind_of_option L2Urepl = Replacement
kind_of_option L2Uwback = Choice
kind_of_option L2Uwalloc = Choice
kind_of_option Ring = Count
kind_of_option Skipcount = References
kind_of_option Maxcount = References
kind_of_option Flushcount = References

-- the default of an option of this kind; an option without a default is required
abbrev pub default_by : Kind → Option Text
default_by Size = None
default_by Count = Some (codes "1")
default_by References = Some (codes "0")
default_by Replacement = Some (codes "l")
default_by Choice = Some (codes "a")

-- the default of an option; an option without a default is required
abbrev pub default_of : Opt → Option Text
default_of Ring = Some (codes "64")
default_of option = default_by (kind_of_option option)

-- the option as clap knows it: it takes one value, and has a default or is required
abbrev pub rule_of_option : Opt → Rule
rule_of_option option = record (new_rule (id_of option)) {
  long = Some (id_of option);
  value_names = 1;
  defaults = option_map_or (λ text. text ∷ []) (default_of option) [];
  required = is_none (default_of option);
}

-- the command of a program without options; its words do not include the program's name
abbrev pub bare_app : Text → App
bare_app name = let app = new_app name in record app {
  top = record app.top {
    no_binary_name = true;
  };
}

-- a command, and these options added to it in turn
abbrev pub with_options : App → List Opt → App
with_options app xs = fold (λ a x. with_rule a (rule_of_option x)) app xs

-- the command with all options
abbrev pub command_app : App
command_app = with_options (bare_app (codes "dinero_pipe")) options
