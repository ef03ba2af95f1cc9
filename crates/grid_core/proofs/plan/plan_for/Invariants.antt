use Rattle.std.proofs.Common.{◌≡◌, take, map}
use Rattle.std.specs.List.{All}
use Rattle.cache_core.specs.Geometry.{bsize_of}
use Rattle.cache_core.specs.Standing.{rules_from}
use Rattle.grid_core.specs.Places.{IsSeated, planned_rules}
use Rattle.grid_core.specs.Plans.{IsNewShade, IsNewSingle}
use Rattle.grid_core.specs.Shades.{shade_rules}
use Rattle.grid_core.specs.Shading.{IsShaded}
use Rattle.grid_core.specs.Singles.{single_rules, single_shading}
use Rattle.grid_core.specs.Slot.{HasWords}
use Rattle.grid_core.proofs.plan.plan_for.Given as goal

-- there is a seat for each geometry that was passed
abbrev pub invariant-loop-geometry : goal.invariant-loop-geometry
invariant-loop-geometry l = record {
  rules : map (λ s. rules_from s.geometry l.policy) l.seats.items
      ≡ map (λ g. rules_from g l.policy) (take l.geometry-index l.geometries);
  seated : All (IsSeated l.policy (planned_rules l.policy.wback l.together.items)
      (map single_rules l.singles.items) (map shade_rules l.shades.items)) l.seats.items;
  shaded : All (IsShaded (planned_rules l.policy.wback l.together.items)
      (map shade_rules l.shades.items)) (map single_shading l.singles.items);
  same : All (λ g. bsize_of g ≡ bsize_of l.fn.first) l.together.items;
  words : All HasWords l.together.items;
  fresh : All IsNewSingle l.singles.items;
  fresh_shades : All IsNewShade l.shades.items;
}
