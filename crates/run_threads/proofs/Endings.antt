-- The result of a run over a source, from the results of its threads.
use Rattle.std.proofs.Common.{◌≡◌, List, [], None, Option, Result, Ok, Err, refl, sym}
use Rattle.std.proofs.Common.{true, ℕ, ◌⊎◌, inl, inr, Some, subst, append-nil}
use Rattle.std.specs.Prelude.{OnOk, IfOk, IfErr, IsOk, option_map}
use Rattle.din_trace.specs.Text.{fault, Remaining}
use Rattle.din_trace.specs.declared.record.DinRecord.{DinRecord}
use Rattle.din_trace.specs.declared.fault.TraceFault.{TraceFault}
use Rattle.stage_core.specs.Events.{events}
use Rattle.stage_core.specs.SecondLevel.{Hierarchy}
use Rattle.stage_core.specs.Waiting.{HasPosted}
use Rattle.stage_core.specs.declared.selection.Selection.{Selection}
use Rattle.run_threads.specs.declared.ends.SplitterEnds.{SplitterEnds}
use Rattle.run_threads.specs.declared.fault.RunFault.{RunFault}
use Rattle.run_threads.specs.declared.pipeline.Settled.{Settled}
use Rattle.run_threads.specs.declared.fault.RunFault.TheVariants.{Memory, Threads, Cut}
use Rattle.run_threads.specs.declared.fault.Stop.{Stop}
use Rattle.run_threads.specs.declared.fault.Stop.TheVariants as stop
use Rattle.run_threads.specs.Faults.{MayAnswer, fault_of_stop}
use Rattle.run_threads.specs.Threads.{LeavesRest, SplitUp, at_end}
use Rattle.run_threads.specs.Runs.{HasRun, RunsOver}
use Rattle.run_threads.specs.Waits.{splitter_at}

-- a property of the splitter's fault, of `Memory` and of `Cut` is one of the fault of lowest rank
module _ (P : RunFault → Type 0) (memory : P Memory) (cut : P Cut) (result : RunFault) where
  of-fault_of_stop : (end : Option Stop) → option_map fault_of_stop end ≡ Some result → P result
  of-fault_of_stop None is = cc
  of-fault_of_stop (Some stop.Memory) is = let same : Memory ≡ result = cc in subst P same memory
  of-fault_of_stop (Some stop.Cut) is = let same : Cut ≡ result = cc in subst P same cut

  pub of-gravest : (splitter : RunFault) (i d merge : Option Stop) → P splitter
      → (result ≡ splitter) ⊎ ((option_map fault_of_stop i ≡ Some result)
      ⊎ ((option_map fault_of_stop d ≡ Some result)
      ⊎ (option_map fault_of_stop merge ≡ Some result)))
      → P result
  of-gravest splitter i d merge fault one = elim one [
    | inl e ↦ subst P (sym e) fault
    | inr rest ↦ elim rest [
      | inl e ↦ of-fault_of_stop i e
      | inr last ↦ elim last [ inl e ↦ of-fault_of_stop d e | inr e ↦ of-fault_of_stop merge e ]
    ]
  ]

-- a source that was not read still has everything left
pub leaves-all : (l : Remaining) (HasLeft : Remaining → Type 0) → HasLeft l → LeavesRest l HasLeft
leaves-all l HasLeft left = record {
  gone = [];
  rest = l;
  records = refl;
  fault = refl;
  left = left;
}

pub runs-over : (ring : ℕ) (c : Hierarchy) (selection : Selection) (l : Remaining)
    (HasLeft : Remaining → Type 0) (ends : SplitterEnds) (fed : Result (Unit {0}) RunFault)
    (result : Result Settled RunFault)
    → SplitUp selection l HasLeft ends fed → OnOk result (IsOk fed)
    → IfOk result (λ s. (es : List DinRecord) → HasPosted (splitter_at es true ends)
    → HasRun ring c es s)
    → IfErr result (λ why. (left : Option TraceFault) → IfErr fed (MayAnswer left)
    → MayAnswer left why) → RunsOver ring c selection l HasLeft result
runs-over ring c selection l HasLeft ends (Ok done) (Ok settled) up fine whole answers =
    (up.0, whole (events selection l.records) up.1, up.2)
runs-over ring c selection l HasLeft ends (Ok done) (Err why) up fine whole answers = (
  answers l.fault tt,
  record {
    gone = l.records;
    rest = at_end;
    records = sym (append-nil l.records);
    fault = sym up.0;
    left = up.2;
  },
)
runs-over ring c selection l HasLeft ends (Err f) (Ok settled) up fine whole answers = absurd cc
runs-over ring c selection l HasLeft ends (Err f) (Err why) up fine whole answers =
    (answers l.fault up.0, up.1)

-- the result if the threads could not all be started
pub runs-refused : (ring : ℕ) (c : Hierarchy) (selection : Selection) (l : Remaining)
    (HasLeft : Remaining → Type 0) (why : RunFault) → (why ≡ Memory) ⊎ (why ≡ Threads) → HasLeft l
    → RunsOver ring c selection l HasLeft (Err why)
runs-refused ring c selection l HasLeft why refused left = (
  elim refused [
    | inl e ↦ subst (MayAnswer l.fault) (sym e) tt
    | inr e ↦ subst (MayAnswer l.fault) (sym e) tt
  ],
  leaves-all l HasLeft left,
)
