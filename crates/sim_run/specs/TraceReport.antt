-- The report of a trace.
use Rattle.std.specs.Prelude.{ℕ, List}
use Rattle.din_trace.specs.Line.{ADDRESS_MAX}
use Rattle.din_trace.specs.Text.{records}
use Rattle.stage_core.specs.Config.{hierarchy_of}
use Rattle.stage_core.specs.Events.{events}
use Rattle.stage_core.specs.SecondLevel.{totals}
use Rattle.stage_core.specs.declared.config.Config.{Config}
use Rattle.stage_core.specs.declared.selection.Selection.{Selection}
use Rattle.cache_report.specs.Report.{report}

-- the report of a trace: the counts that the definitions give for its selected events
unfoldable pub report_of : Config → Selection → List ℕ → List ℕ
report_of config selection text =
    report (totals (hierarchy_of config) (events selection (records ADDRESS_MAX text)))
