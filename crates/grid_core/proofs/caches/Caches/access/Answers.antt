use Rattle.std.proofs.Common.{refl}
use Rattle.grid_core.proofs.Shadings.{shaded-still}
use Rattle.grid_core.proofs.caches.Caches.access.Goals as goal

pub invariant_of-self : goal.invariant_of-self
invariant_of-self c = record {
  shaded = shaded-still c.args.self.now.shaded c.serve_stacked.ensures.rules refl refl;
}
