use Rattle.std.proofs.Common.{map, ap, sym, refl, ◌∙◌}
use Rattle.grid_core.specs.Written.{written_by}
use Rattle.grid_run.proofs.front.Front.serve_flush.Goals as goal

pub returns-clause-last : goal.returns-clause-last
returns-clause-last c = λ blocks h st. record {
  last = (
    refl,
    c.in_ok-self.ensures.backs blocks h st.stands
        ∙ ap (map (written_by h)) (sym c.flush.ensures.rules),
  );
}
