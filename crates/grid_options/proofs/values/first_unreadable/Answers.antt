use Rattle.std.proofs.Common.{◌∙◌, ap, get_or, map, not, sym}
use Rattle.std.specs.List.{list_all}
use Rattle.clap.specs.Words.{found_of, rows_of}
use Rattle.dinero_options.specs.Answer.{reads_as}
use Rattle.dinero_options.specs.Options.{kind_of_option, options}
use Rattle.dinero_options.specs.declared.opt.Opt.TheVariants.{L1Isize}
use Rattle.dinero_options.proofs.FirstLemmas.{found_first, none_more}
use Rattle.grid_options.specs.Grid.{has_readable}
use Rattle.grid_options.proofs.values.first_unreadable.Goals as goal

pub returns-then-not-can_read_all : goal.returns-then-not-can_read_all
unfolding has_readable
returns-then-not-can_read_all c =
    let rows = rows_of (found_of c.args.matches.now) in
    let x = get_or options c.loop-option.option-index L1Isize in
    sym (found_first (λ y. not (has_readable rows y)) options c.loop-option.option-index L1Isize
    c.loop-option.invariant c.loop-option-test.true
    (ap not (ap (list_all (reads_as (kind_of_option x)))
    (sym (ap (map (λ t. t.now)) c.as_slice.ensures.value ∙ c.in_ok-values.ensures))
    ∙ sym c.can_read_all.ensures ∙ c.if-not-can_read_all.true)))

pub loop-option-preserved : goal.loop-option-preserved
unfolding has_readable
loop-option-preserved c =
    let rows = rows_of (found_of c.args.matches.now) in
    let x = get_or options c.loop-option.option-index L1Isize in
    none_more (λ y. not (has_readable rows y)) options c.loop-option.option-index L1Isize
    c.loop-option.invariant c.loop-option-test.true
    (ap not (ap (list_all (reads_as (kind_of_option x)))
    (sym (ap (map (λ t. t.now)) c.as_slice.ensures.value ∙ c.in_ok-values.ensures))
    ∙ sym c.can_read_all.ensures ∙ c.if-not-can_read_all.false))
