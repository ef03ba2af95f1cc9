use Rattle.std.proofs.Common.{rules, ◌≡◌, Err}
use Rattle.din_trace.proofs.WritesLemmas.{appended_kept}
use Rattle.grid_run.specs.declared.fault.GridFault.TheVariants.{Trace}
use Rattle.dinero_grid.proofs.table.table.Goals as goal

pub returns-in_err-simulate_grid-clause-trace : goal.returns-in_err-simulate_grid-clause-trace
returns-in_err-simulate_grid-clause-trace g c text known why is =
    let met : c.simulate_grid.result ≡ Err (Trace why) = search rules in
    c.simulate_grid.ensures.trace text known why met

pub returns-in-Ok-flush_buffer-clause-table : goal.returns-in-Ok-flush_buffer-clause-table
returns-in-Ok-flush_buffer-clause-table g c text known =
    let told = c.in_ok-simulate_grid.ensures.table text known in (
      told.0,
      (
        c.in-Ok.grid,
        c.in-Ok.ensures.grid,
        appended_kept _ _ _ _ told.1 c.in-Ok-flush_buffer.ensures.passed,
      ),
    )

pub returns-in-Ok-flush_buffer-clause-whole : goal.returns-in-Ok-flush_buffer-clause-whole
returns-in-Ok-flush_buffer-clause-whole g c =
    let told = c.in_ok-simulate_grid.ensures.whole in (
      told.0,
      told.1,
      told.2,
      (
        c.in-Ok.grid,
        c.in-Ok.ensures.grid,
        appended_kept _ _ _ _ told.3 c.in-Ok-flush_buffer.ensures.passed,
      ),
    )
