use Rattle.std.proofs.Common.{◌∙◌, codes, refl, sym}
use Rattle.clap.specs.Words.{found_of}
use Rattle.clap.proofs.WalkLemmas.{first_value-rows}
use Rattle.grid_options.proofs.own.full_in.Goals as goal

pub returns-in-Some : goal.returns-in-Some
returns-in-Some c =
    rw (sym (first_value-rows (found_of c.args.matches.now) (codes "full")) ∙ sym c.in-Some.ensures)
    c.eq.ensures

pub returns-in-None : goal.returns-in-None
returns-in-None c =
    rw (sym (first_value-rows (found_of c.args.matches.now) (codes "full")) ∙ sym c.in-None.ensures)
    refl
