use Rattle.std.proofs.lemmas.Result.{on_ok_weaker}
use Rattle.cache_core.specs.Geometry.{bsize_of}
use Rattle.grid_run.specs.Seats.{rules_on}
use Rattle.grid_run.proofs.Shelves.{alike-added, cell-found, cell-joined, cells-joined}
use Rattle.grid_run.proofs.shelf.Shelf.cell_for.Goals as goal

pub returns-in-Some-clause-cell : goal.returns-in-Some-clause-cell
returns-in-Some-clause-cell c =
    cell-found c.args.self.now c.args.geometry c.in-Some.index c.in-Some.ensures c.requires

pub returns-clause-cell : goal.returns-clause-cell
unfolding rules_on
returns-clause-cell c =
    let old = c.args.self.now in
    cell-joined old.geometries.items c.add_to.new.list.items c.args.geometry old.policy
    c.add_to.result c.add_to.ensures.last c.add_to.ensures.joined

pub returns-clause-keeps : goal.returns-clause-keeps
unfolding rules_on
returns-clause-keeps c =
    let old = c.args.self.now in
    on_ok_weaker c.add_to.result
    (cells-joined old.geometries.items c.add_to.new.list.items c.args.geometry old.policy)
    c.add_to.ensures.joined

pub invariant_of-self : goal.invariant_of-self
invariant_of-self c =
    let old = c.args.self.now in
    record {
      alike = alike-added (bsize_of old.first) c.add_to.result old.geometries.items
          c.add_to.new.list.items c.args.geometry c.add_to.ensures.joined
          c.add_to.ensures.kept old.alike c.requires;
    }
