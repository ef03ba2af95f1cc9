use Rattle.std.proofs.Common.{rules, ◌≡◌, Err}
use Rattle.din_trace.proofs.Lent.{lent_fault, lent_gave_all}
use Rattle.grid_run.specs.declared.fault.GridFault.TheVariants.{Trace}
use Rattle.dinero_grid.proofs.run.Goals as goal

pub returns-in-Ok-table-clause-table : goal.returns-in-Ok-table-clause-table
returns-in-Ok-table-clause-table g c text known =
    let told = c.in-Ok-table.ensures.table text known in (
      told.0,
      record {
        parsed = c.in-Ok.asked;
        asked = c.in-Ok.ensures.answer;
        grid = told.1.0;
        rows = told.1.1;
        refused = c.in-Ok-table.ensures.refused;
        written = told.1.2;
      },
    )

pub returns-in-Err-table-clause-trace : goal.returns-in-Err-table-clause-trace
returns-in-Err-table-clause-trace g c text known why is =
    let met : c.table.result ≡ Err (Trace why) = search rules in
    lent_fault (λ lent. lent.now) _ (c.table.ensures.trace text known why met)

pub returns-in-Ok-table-clause-whole : goal.returns-in-Ok-table-clause-whole
returns-in-Ok-table-clause-whole g c =
    let told = c.in-Ok-table.ensures.whole in (
      told.0,
      lent_gave_all (λ lent. lent.now) _ told.1,
      told.2,
      record {
        parsed = c.in-Ok.asked;
        asked = c.in-Ok.ensures.answer;
        grid = told.3.0;
        rows = told.3.1;
        refused = c.in-Ok-table.ensures.refused;
        written = told.3.2;
      },
    )
