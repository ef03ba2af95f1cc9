use Rattle.std.proofs.Common.{◌≡◌, ◌++◌, ◌∷◌, [], ℕ, List, drop, length, map, take, ap, ◌∙◌}
use Rattle.std.proofs.Common.{append-nil, arith}
use Rattle.std.proofs.lemmas.List.{map-append, take-append-drop}
use Rattle.grid_run.specs.Backs.{BackTask, NothingWaits, WereAsked, back_task, each_task}
use Rattle.grid_run.specs.Backs.{no_requests, task_of_shelf}
use Rattle.grid_run.specs.Banks.{each_of}
use Rattle.grid_run.specs.declared.back.Back.{Back}
use Rattle.grid_run.specs.declared.plan.BackShelf.{BackShelf}
use Rattle.grid_run.proofs.BankLemmas.{each-append, more-done}
use Rattle.grid_run.proofs.Growing.{all-push}
use Rattle.grid_run.proofs.bank.backs_for.Goals as goal

-- what the users of one more do comes last
one-more : (old new : List Back) (b : Back) → new ≡ old ++ b ∷ []
    → each_of (map back_task new) ≡ each_of (map back_task old) ++ each_task (back_task b)
one-more old new b is =
    ap (λ (l : List Back). each_of (map back_task l)) is
    ∙ ap each_of (map-append back_task old (b ∷ []))
    ∙ each-append (map back_task old) (back_task b ∷ [])
    ∙ ap (λ (ts : List BackTask). each_of (map back_task old) ++ ts)
    (append-nil (each_task (back_task b)))

pub backs-preserved : goal.backs-preserved
backs-preserved c =
    let old = c.backs.backs.items in
    let new = c.add_to.new.list.items in
    let now = c.backs.invariant in
    let b = c.in_ok-back.back in
    let made = c.in_ok-back.ensures.back in
    let rest = c.backs.rest.now in
    let n = length b.users.items in
    let behind = c.split_at.result.1.now in
    let joined = c.in_ok-add_to.ensures.joined in
    let same : c.len.result ≡ n = omega (arith, c.len.ensures, b.users.ok.0) in
    let cut : take n rest ++ behind ≡ rest =
    ap (λ (l : List BackShelf). take n rest ++ l) (c.split_at.ensures.back
    ∙ ap (λ (j : ℕ). drop j rest) same) ∙ take-append-drop n rest in
    record {
      tasks = ap (λ (ts : List BackTask). ts ++ map task_of_shelf behind)
          (one-more old new b joined)
          ∙ more-done (each_of (map back_task old)) (each_task (back_task b)) rest (take n rest)
          behind made.tasks cut
          ∙ now.tasks;
      asked = λ blocks. all-push (WereAsked blocks no_requests) old new b joined
          (now.asked blocks) (made.asked blocks);
      settled = all-push NothingWaits old new b joined now.settled made.settled;
    }
