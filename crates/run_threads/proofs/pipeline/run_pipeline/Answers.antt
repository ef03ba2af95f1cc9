use Rattle.std.proofs.Common.{rules, [], subst, inl, refl}
use Rattle.din_trace.specs.Remaining.{Open}
use Rattle.din_trace.specs.Source.{HasLeft}
use Rattle.din_trace.proofs.Calls.{no_calls}
use Rattle.stage_core.specs.Config.{hierarchy_of, ring_of}
use Rattle.stage_core.specs.SecondLevel.{Hierarchy}
use Rattle.run_threads.specs.Runs.{RunsOver}
use Rattle.run_threads.specs.declared.fault.RunFault.TheVariants.{Memory}
use Rattle.run_threads.proofs.Endings.{runs-refused}
use Rattle.run_threads.proofs.pipeline.run_pipeline.Goals as goal

pub returns-in_default-clause-reads : goal.returns-in_default-clause-reads
returns-in_default-clause-reads g c = (
  [],
  Open,
  no_calls g.R.ByteReader.remaining g.R.ByteReader.failures c.args.source,
  λ first last l is left. runs-refused (ring_of c.args.config.now) (hierarchy_of c.args.config.now)
      c.args.selection.now l (HasLeft c.args.source last) Memory (inl refl)
      (subst (λ s. HasLeft c.args.source s l) is left),
)

pub scoped-requires : goal.scoped-requires
scoped-requires g c = record {
  at = λ scope. (
    c.requires.bounded,
    (
      c.in-Ok.ensures.new,
      (
        c.in-Ok.ensures.paired,
        (c.in-Ok.ensures.unused, (search rules, search rules)),
      ),
    ),
  );
}

pub returns-clause-reads : goal.returns-clause-reads
returns-clause-reads g c =
    let reads = c.scoped.ensures.1.1.1.1 in (
      reads.0,
      reads.1,
      reads.2,
      λ first last l is left. subst
          (λ (h : Hierarchy). RunsOver (ring_of c.args.config.now) h c.args.selection.now l
          (HasLeft c.scoped.result.0 last) c.scoped.result.1) c.in-Ok.ensures.rules
          (reads.3 (ring_of c.args.config.now) first last l c.in-Ok.ensures.capacity is left),
    )
