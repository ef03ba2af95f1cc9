-- The options that the program has of its own, behind those that it shares.
use Rattle.std.specs.Prelude.{ℕ, Bool, List, [], ◌∷◌, Option, Some, None, codes, nat_le}
use Rattle.std.specs.Prelude.{if◌then◌else◌, option_and_then, unwrap_or}
use Rattle.std.specs.Str.{bytes_eq}
use Rattle.clap.specs.Words.{Row, Rule, Text, first_of, new_rule}
use Rattle.clap.specs.declared.builder.action.ArgAction.TheVariants.{SetTrue}
use Rattle.dinero_options.specs.Values.{count_value}

-- the option for the number of threads as clap knows it: it takes one value, by default 0
abbrev pub threads_rule : Rule
threads_rule = record (new_rule (codes "threads")) {
  long = Some (codes "threads");
  value_names = 1;
  defaults = codes "0" ∷ [];
}

-- the number of threads that a text gives: a count of at most 1024
abbrev pub threads_value : Text → Option ℕ
threads_value text = option_and_then (λ n. if nat_le n 1024 then Some n else None)
    (count_value text)

-- the number of threads in clap's matches: the one that was given, or else the default
abbrev pub threads_of : List Row → Option ℕ
threads_of rows = threads_value (unwrap_or (first_of (codes "threads") rows) [])

-- the flag for a full table as clap knows it: it takes no value
abbrev pub full_rule : Rule
full_rule = record (new_rule (codes "full")) {
  long = Some (codes "full");
  action = Some SetTrue;
}

-- do clap's matches ask for a full table? There the value of a flag is true if it was given
abbrev pub is_full : List Row → Bool
is_full rows = bytes_eq (unwrap_or (first_of (codes "full") rows) []) (codes "true")
