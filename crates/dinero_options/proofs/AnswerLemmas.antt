-- What clap takes and refuses, and texts that are read by their place.
use Rattle.std.proofs.Common.{◌≡◌, ◌∙◌, Bool, true, false, List, [], map, refl, sym, ap, subst, inl}
use Rattle.std.proofs.Common.{inr, Ok, Err, Result, Some, None}
use Rattle.std.proofs.lemmas.Bool.{and_parts}
use Rattle.std.specs.Option.{option_map_or}
use Rattle.clap.specs.Words.{App, HasKind, Row, Text, fault_of, found_of, is_simple}
use Rattle.clap.specs.Words.{is_simple_and_free, kind_of, matches_of, rows_of, subcommand_of}
use Rattle.clap.specs.Words.{subcommand_rows_of, takes}
use Rattle.clap.specs.declared.error.kind.ErrorKind.TheVariants as kind
use Rattle.clap.specs.declared.error.Error.{Error}
use Rattle.clap.specs.declared.parser.matches.ArgMatches.{ArgMatches}
use Rattle.stage_core.specs.declared.config.Config.{Config}
use Rattle.stage_core.specs.declared.selection.Selection.{Selection}
use Rattle.dinero_options.specs.Answer.{AcceptsWords, AnswersWords, Follows, RefusesWords}
use Rattle.dinero_options.specs.Answer.{first_unreadable, if_readable, is_readable}
use Rattle.dinero_options.specs.Answer.{refusal_by_kind, refusal_by_option, settings_at, text_at}
use Rattle.dinero_options.specs.Answer.{text_of}
use Rattle.dinero_options.specs.Options.{command_app, options}
use Rattle.dinero_options.specs.declared.opt.Opt.{Opt}
use Rattle.dinero_options.specs.declared.fault.WordsFault.{WordsFault}

-- texts that stand in the order of the options are read as the texts themselves
pub by_place : {A : Type 0} (texts : Opt → Text) (a : A)
    → if_readable (text_at (map texts options)) options a ≡ if_readable texts options a
unfolding if_readable is_readable
by_place texts a = refl

module _ {A : Type 0} (texts : Opt → Text) (a : A) where
  -- the first option that cannot be read is refused
  pub refused_first : (x : Opt) → Some x ≡ first_unreadable texts options
      → if_readable texts options a ≡ Err (refusal_by_option x)
  unfolding if_readable
  refused_first x h =
      ap (λ o. option_map_or (λ y. Err (refusal_by_option y)) o (Ok a)) (sym h)

  -- if each option can be read, the answer is the value
  pub none_refused : None ≡ first_unreadable texts options → if_readable texts options a ≡ Ok a
  unfolding if_readable
  none_refused h =
      ap (λ o. option_map_or (λ y. Err (refusal_by_option y)) o (Ok a)) (sym h)

-- clap accepted the words
pub accepts_matches : (a : App) (words : List Text) (m : ArgMatches)
    → is_simple_and_free a ≡ true
    → (is_simple a ≡ true → (rows_of (found_of m) ≡ matches_of a words)
    × (subcommand_rows_of m ≡ subcommand_of a words))
    → (is_simple_and_free a ≡ true → fault_of a words ≡ [])
    → AcceptsWords a words (rows_of (found_of m))
accepts_matches a words m free matches kinds = (kinds free, (matches (and_parts _ _ free).0).0)

-- clap refused the words
pub refuses_words : (a : App) (words : List Text) (x : Error) (f : WordsFault)
    → is_simple_and_free a ≡ true
    → (takes a words ≡ true → kind_of x ≡ kind.OutOfMemory)
    → (is_simple_and_free a ≡ true → HasKind (fault_of a words) x)
    → f ≡ refusal_by_kind (kind_of x) → RefusesWords a words f
refuses_words a words x f free passes kinds is = go (takes a words) refl (kinds free)
  where
    go : (t : Bool) → takes a words ≡ t → HasKind (fault_of a words) x → RefusesWords a words f
    go true t h = inl (is ∙ ap refusal_by_kind (passes t))
    go false t (inl memory) = inl (is ∙ ap refusal_by_kind memory)
    go false t (inr among) = inr (kind_of x, t, among, is)

-- the answer to these texts
abbrev pub AnswersTexts : (Opt → Text) → Result (Config × Selection) WordsFault → Type 0
AnswersTexts texts r = Follows (if_readable texts options (settings_at texts)) r

-- the answer to the texts in clap's matches is the answer to the words
pub answers_texts : (words : List Text) (rows : List Row) (texts : List Text)
    (r : Result (Config × Selection) WordsFault) → AcceptsWords command_app words rows
    → texts ≡ map (text_of rows) options
    → AnswersTexts (text_at texts) r → AnswersWords words r
answers_texts words rows texts r takes is follows =
    let listed = subst (λ ts. AnswersTexts (text_at ts) r) is follows in
    let settings = settings_at (text_of rows) in
    let said : AnswersTexts (text_of rows) r =
    subst (λ s. Follows s r) (by_place (text_of rows) settings) listed in
    inl (rows, takes, said)

-- the fault of refused words is the answer to the words
pub answers_refusal : (words : List Text) (f : WordsFault) → RefusesWords command_app words f
    → AnswersWords words (Err f)
answers_refusal words f refuses = inr (f, refuses, refl)
