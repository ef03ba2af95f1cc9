use Rattle.std.proofs.Common.{[], ℕ, subst, sym}
use Rattle.std.proofs.lemmas.Result.{IfOk-weaker}
use Rattle.din_trace.specs.Remaining.{Open}
use Rattle.din_trace.specs.Source.{HasLeft}
use Rattle.din_trace.proofs.Calls.{no_calls}
use Rattle.run_threads.specs.declared.pipeline.Machines.{Machines}
use Rattle.run_threads.specs.declared.pipeline.Settled.{Settled}
use Rattle.run_threads.specs.Ends.{HaveCapacity}
use Rattle.run_threads.specs.Machines.{AreNew, hierarchy_in}
use Rattle.run_threads.specs.Runs.{HasRun}
use Rattle.run_threads.proofs.Endings.{runs-over, runs-refused}
use Rattle.run_threads.proofs.Wholes.{capacity-kept, same-stage_ends}
use Rattle.run_threads.proofs.pipeline.run_in.Goals as goal

pub returns-in-Err-clause-reads : goal.returns-in-Err-clause-reads
returns-in-Err-clause-reads g c = (
  [],
  Open,
  no_calls g.R.ByteReader.remaining g.R.ByteReader.failures c.args.source,
  λ ring first last l room is left. runs-refused ring (hierarchy_in c.args.machines)
      c.args.selection l (HasLeft c.args.source last) c.in-Err.fault c.in-Err.ensures.refused
      (subst (λ s. HasLeft c.args.source s l) is left),
)

pub returns-clause-reads : goal.returns-clause-reads
returns-clause-reads g c =
    let reads = rw (c.of-feed.ensures, sym c.into_source.ensures) at c.split-fed.ensures.reads in
    let same = c.in-Ok.ensures.machines in
    let fed : (ring : ℕ) → HaveCapacity ring c.args.rings → HaveCapacity ring _ =
    λ ring room. capacity-kept ring _ _
    (subst (HaveCapacity ring) (sym c.in-Ok.ensures.rings) room) c.split-fed.ensures.rings
    (same-stage_ends _) (same-stage_ends _) in (
      reads.0,
      reads.1,
      reads.2,
      λ ring first last l room is left. runs-over ring (hierarchy_in c.args.machines)
          c.args.selection l (HasLeft c.into_source.result last) c.split-fed.new.ends
          c.split-fed.result c.finish.result (reads.3 first last l is left) c.finish.ensures.fed
          (IfOk-weaker c.finish.result _ _ (λ (s : Settled) whole es sent.
          subst (λ (m : Machines). HasRun ring (hierarchy_in m) es s) same
          (whole ring (fed ring room) es (subst AreNew (sym same) c.requires.new) sent))
          c.finish.ensures.whole)
          c.finish.ensures.answers,
    )

pub returns-clause-told : goal.returns-clause-told
returns-clause-told g c =
    let told = rw (c.of-feed.ensures, sym c.into_source.ensures) at c.split-fed.ensures.told in
    λ none f met. c.finish.ensures.source f (told none f met)
