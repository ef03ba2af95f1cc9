use Rattle.std.proofs.Common.{◌≡◌, ◌⊎◌, true}
use Rattle.stage_core.specs.Standing.{IsReady}
use Rattle.run_threads.specs.Threads.{StageServed}
use Rattle.run_threads.specs.Waits.{AnswersPublished}
use Rattle.run_threads.proofs.stage_thread.serve_all.Given as goal

abbrev pub invariant-loop : goal.invariant-loop
invariant-loop g l =
    StageServed l.fn.stage l.fn.ends l.stage l.ends
    × IsReady l.stage
    × ((g.G.Gate.open l.fn.gate ≡ true) ⊎ AnswersPublished l.ends)
