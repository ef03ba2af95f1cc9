use Rattle.std.proofs.Common.{◌≡◌, ◌⊎◌, ◌∙◌, [], ◌∷◌, ap, inl, inr, map, string_bytes, subst, sym}
use Rattle.std.proofs.Common.{true}
use Rattle.clap.specs.Words.{App, HasKind, IsAmong, Kinds, fault_of, is_simple_and_free, kind_of}
use Rattle.clap.specs.Words.{takes}
use Rattle.clap.specs.declared.error.Error.{Error}
use Rattle.clap.specs.declared.error.kind.ErrorKind.{ErrorKind}
use Rattle.clap.specs.declared.error.kind.ErrorKind.TheVariants.{DisplayHelp, OutOfMemory}
use Rattle.grid_options.proofs.refusal.grid_refusal_text.Goals as goal

-- an error that is help comes only where help is among the kinds that may come
help_among : (kinds : Kinds) (x : Error) → DisplayHelp ≡ kind_of x → HasKind kinds x
    → IsAmong DisplayHelp kinds
help_among kinds x is (inl memory) = cc
help_among kinds x is (inr among) = subst (λ k. IsAmong k kinds) (sym is) among

-- the one kind of a list of help alone is help
help_alone : (k : ErrorKind) → IsAmong k (DisplayHelp ∷ []) → k ≡ DisplayHelp
help_alone k (inl is) = is
help_alone k (inr never) = absurd never

-- an error that has no kind, or help alone, is want of memory or help
memory_or_help : (kinds : Kinds) (x : Error) → (kinds ≡ []) ⊎ (kinds ≡ DisplayHelp ∷ [])
    → HasKind kinds x → (kind_of x ≡ OutOfMemory) ⊎ (kind_of x ≡ DisplayHelp)
memory_or_help kinds x said (inl memory) = inl memory
memory_or_help kinds x (inl none) (inr among) =
    absurd (subst (λ ks. IsAmong (kind_of x) ks) none among)
memory_or_help kinds x (inr help) (inr among) =
    inr (help_alone (kind_of x) (subst (λ ks. IsAmong (kind_of x) ks) help among))

pub returns-in_default-try_get_matches_from-clause-told :
    goal.returns-in_default-try_get_matches_from-clause-told
returns-in_default-try_get_matches_from-clause-told c none =
    inl (subst (λ a. fault_of a (map string_bytes c.args.words.now) ≡ []) c.in-Ok.ensures
    (c.in_default-try_get_matches_from.ensures.kinds (ap is_simple_and_free c.in-Ok.ensures)))

pub returns-in-DisplayHelp-clause-told : goal.returns-in-DisplayHelp-clause-told
returns-in-DisplayHelp-clause-told c none =
    let words = map string_bytes c.args.words.now in
    inr (help_among _ c.in-Err.error c.in-DisplayHelp.ensures
    (subst (λ a. HasKind (fault_of a words) c.in-Err.error) c.in-Ok.ensures
    (c.in-Err.ensures.kinds (ap is_simple_and_free c.in-Ok.ensures))))

-- clap fails at words that it takes only where it is refused memory
pub returns-in-Ok-first_paragraph-clause-taken : goal.returns-in-Ok-first_paragraph-clause-taken
returns-in-Ok-first_paragraph-clause-taken c t =
    absurd (c.in_default-kind.not-OutOfMemory (c.kind.ensures
    ∙ c.in-Err.ensures.passes (subst (λ (a : App). takes a (map string_bytes c.args.words.now)
    ≡ true) (sym c.in-Ok.ensures) t)))

pub returns-in-Ok-first_paragraph-clause-silent : goal.returns-in-Ok-first_paragraph-clause-silent
returns-in-Ok-first_paragraph-clause-silent c said =
    let words = map string_bytes c.args.words.now in
    let kinds = subst (λ a. HasKind (fault_of a words) c.in-Err.error) c.in-Ok.ensures
    (c.in-Err.ensures.kinds (ap is_simple_and_free c.in-Ok.ensures)) in
    absurd (elim (memory_or_help _ c.in-Err.error said kinds) [
      | inl is ↦ c.in_default-kind.not-OutOfMemory (c.kind.ensures ∙ is)
      | inr is ↦ c.in_default-kind.not-DisplayHelp (c.kind.ensures ∙ is)
    ])
