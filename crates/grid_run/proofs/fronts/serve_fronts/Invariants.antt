use Rattle.cache_core.specs.Lists.{IsBeginning}
use Rattle.grid_core.specs.Numbered.{blocks_in}
use Rattle.grid_core.proofs.ListLoops.{HasChanged}
use Rattle.grid_run.specs.Fronts.{front_rules}
use Rattle.grid_run.proofs.LoopTurns.{Serves}
use Rattle.grid_run.proofs.fronts.serve_fronts.Given as goal

-- the caches that were passed have served the request, and the others are as they were; there may
-- be more numbers of blocks
abbrev pub invariant-loop-front : goal.invariant-loop-front
invariant-loop-front l = record {
  changed : HasChanged (Serves l.fn.request (blocks_in l.initial.numbers) (blocks_in l.numbers))
      front_rules l.initial.front-items l.front-index l.front-items;
  grows : IsBeginning (blocks_in l.initial.numbers) (blocks_in l.numbers);
}
