-- The machines that are moved into threads, and a run whose threads were started.
use Rattle.std.specs.Prelude.{◌≡◌, []}
use Rattle.stage_core.specs.SecondLevel.{Hierarchy}
use Rattle.stage_core.specs.Standing.{StageStandsFor, L2StandsFor, IsReady, side_of}
use Rattle.stage_core.specs.Standing.{hierarchy_by}
use Rattle.stage_core.specs.declared.message.Side.{Side}
use Rattle.stage_core.specs.declared.message.Side.TheVariants as side
use Rattle.stage_core.specs.declared.l1_stage.L1Stage.{L1Stage}
use Rattle.run_threads.specs.declared.ends.Rings.{Rings}
use Rattle.run_threads.specs.declared.pipeline.Machines.{Machines}
use Rattle.run_threads.specs.declared.pipeline.Started.{Started}

-- a stage of this side that has received nothing
pub record IsNew (s : Side) (stage : L1Stage) : Type 0 where
  pub side : side_of stage ≡ s
  pub ready : IsReady stage
  pub stands : StageStandsFor stage []

-- none of the machines has received anything
pub record AreNew (m : Machines) : Type 0 where
  pub i : IsNew side.I m.i
  pub d : IsNew side.D m.d
  pub u : L2StandsFor m.u []

-- the rules of the machines' caches
abbrev pub hierarchy_in : Machines → Hierarchy
hierarchy_in m = hierarchy_by m.i m.d m.u

-- the machines with which the threads began
abbrev pub machines_at : Started → Machines
machines_at s = record {
  i = s.i.promise.machine.value;
  d = s.d.promise.machine.value;
  u = s.merge.promise.machine.value;
}

-- the ends with which the threads began, and the splitter's ends as they are now
abbrev pub rings_at : Started → Rings
rings_at s = record {
  splitter = s.splitter;
  i = s.i.promise.ends.value;
  d = s.d.promise.ends.value;
  merge = s.merge.promise.ends.value;
}
