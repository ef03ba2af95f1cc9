use Rattle.std.proofs.Common.{◌≡◌, length, rules, true}
use Rattle.cache_core.specs.declared.policy.Repl.TheVariants.{Lru}
use Rattle.grid_run.specs.Seats.{rules_on}
use Rattle.grid_run.proofs.Shelves.{lone-rules}
use Rattle.grid_run.proofs.shelf.Shelf.lone.Goals as goal

pub returns-clause-rules : goal.returns-clause-rules
unfolding rules_on
returns-clause-rules c =
    let s = c.args.self.now in
    let lru : c.args.self.now.policy.repl ≡ Lru = search rules in
    let loads : c.args.self.now.policy.walloc ≡ true = search rules in
    let one : length c.args.self.now.geometries.items ≡ 1 = search rules in
    lone-rules s.geometries.items s.policy one lru loads c.index.result.now c.index.ensures
