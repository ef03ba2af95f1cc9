-- Workers, each of which goes on with its own task.
use Rattle.std.proofs.Common.{◌≡◌, ℕ, ◌<◌, List, [], ◌∷◌, length, get_or, map, refl, sym}
use Rattle.std.proofs.Common.{◌∙◌, arith}
use Rattle.std.proofs.lemmas.List.{get_or-map, length-map, same_lists}
use Rattle.grid_run.specs.Workers.{worker_task}
use Rattle.grid_run.specs.declared.worker.Worker.{Worker}

-- if each worker has its task still, the tasks are the same
pub same-tasks : (old new : List Worker) → length new ≡ length old
    → ((k : ℕ) (d : Worker) → k < length old
    → worker_task (get_or new k d) ≡ worker_task (get_or old k d))
    → map worker_task new ≡ map worker_task old
same-tasks [] [] len each = refl
same-tasks [] (y ∷ ys) len each = absurd (omega (arith, len))
same-tasks (x ∷ xs) new len each = same_lists (map worker_task new) (map worker_task (x ∷ xs))
    (omega (arith, len, length-map new worker_task, length-map (x ∷ xs) worker_task))
    (λ k t lt.
    let inside : k < length new = omega (arith, lt, length-map new worker_task) in
    let inside' : k < length (x ∷ xs) = omega (arith, inside, len) in
    get_or-map worker_task new k x t inside ∙ each k x inside'
    ∙ sym (get_or-map worker_task (x ∷ xs) k x t inside'))
