use Rattle.std.proofs.Common.{◌≡◌, ◌++◌, ◌+◌, ◌-◌, ℕ, List, take, drop, ap, subst, sym, ◌∙◌}
use Rattle.std.proofs.Common.{append_assoc, arith}
use Rattle.std.proofs.Math.Seq.{take-add}
use Rattle.din_trace.specs.declared.record.DinRecord.{DinRecord}
use Rattle.grid_run.specs.Workers.{HasTakenUnlessFailed}
use Rattle.grid_run.proofs.worker.Worker.take_parts.Goals as goal

pub parts-smaller : goal.parts-smaller
parts-smaller g c =
    let lt = c.parts-test.true in
    let within = c.parts.invariant.within in
    omega arith

pub parts-preserved : goal.parts-preserved
parts-preserved g c =
    let xs = c.args.batch.now in
    let k = c.parts.taken in
    let lt = c.parts-test.true in
    record {
      taken = λ past was.
          subst (λ (l : List DinRecord). HasTakenUnlessFailed l c.take_part.new.self)
          (append_assoc past (take k xs) _ ∙ ap (λ l. past ++ l)
          (ap (λ n. take k xs ++ take n (drop k xs)) (add-sub k) ∙ sym (take-add k 49152 xs)))
          (c.take_part.ensures.taken (past ++ take k xs) (c.parts.invariant.taken past was));
      within = omega arith;
      task = c.take_part.ensures.task ∙ c.parts.invariant.task;
    }
  where
    add-sub : (k : ℕ) → k + 49152 - k ≡ 49152
    add-sub k = omega arith
