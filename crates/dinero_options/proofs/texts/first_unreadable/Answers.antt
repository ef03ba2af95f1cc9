use Rattle.std.proofs.Common.{◌∙◌, ap, get_or, map, not, sym}
use Rattle.dinero_options.specs.Answer.{is_readable, reads_as, text_at}
use Rattle.dinero_options.specs.Options.{kind_of_option, options}
use Rattle.dinero_options.specs.declared.opt.Opt.TheVariants.{L1Isize}
use Rattle.dinero_options.proofs.FirstLemmas.{found_first, none_more}
use Rattle.dinero_options.proofs.texts.first_unreadable.Goals as goal

pub returns-then-not-can_read : goal.returns-then-not-can_read
unfolding is_readable
returns-then-not-can_read c =
    let x = get_or options c.loop-option.option-index L1Isize in
    sym (found_first
    (λ y. not (is_readable (text_at (map (λ t. t.now) c.args.texts.now)) y)) options
    c.loop-option.option-index L1Isize c.loop-option.invariant c.loop-option-test.true
    (ap not (ap (reads_as (kind_of_option x)) (sym c.listed_text.ensures)
    ∙ sym c.can_read.ensures ∙ c.if-not-can_read.true)))

pub loop-option-preserved : goal.loop-option-preserved
unfolding is_readable
loop-option-preserved c =
    let x = get_or options c.loop-option.option-index L1Isize in
    none_more
    (λ y. not (is_readable (text_at (map (λ t. t.now) c.args.texts.now)) y)) options
    c.loop-option.option-index L1Isize c.loop-option.invariant c.loop-option-test.true
    (ap not (ap (reads_as (kind_of_option x)) (sym c.listed_text.ensures)
    ∙ sym c.can_read.ensures ∙ c.if-not-can_read.false))
