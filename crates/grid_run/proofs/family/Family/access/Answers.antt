use Rattle.std.proofs.lemmas.Result.{on_ok_weaker}
use Rattle.std.proofs.Common.{sym, subst}
use Rattle.grid_core.specs.Numbers.{IsNumberOf}
use Rattle.grid_run.specs.Families.{bsize_on}
use Rattle.grid_run.proofs.family.Family.access.Goals as goal

pub returns-clause-last : goal.returns-clause-last
unfolding bsize_on
returns-clause-last c =
    let old = c.args.self.now in
    on_ok_weaker c.access_numbered.result (λ answers blocks h is st. record {
      engine = answers blocks h (subst (λ n. IsNumberOf blocks n c.args.access c.args.number)
          (sym old.sized) is) st.engine;
    }) c.access_numbered.ensures.answers

pub returns-clause-stands : goal.returns-clause-stands
unfolding bsize_on
returns-clause-stands c =
    let old = c.args.self.now in
    on_ok_weaker c.access_numbered.result (λ stands blocks h is st. record {
      engine = stands blocks h (subst (λ n. IsNumberOf blocks n c.args.access c.args.number)
          (sym old.sized) is) st.engine;
    }) c.access_numbered.ensures.stands
