-- Second levels in banks.
use Rattle.std.proofs.Common.{◌≡◌, ℕ, ◌≤◌, ◌+◌, ◌++◌, ◌∷◌, List, length, map}
use Rattle.std.proofs.Common.{take, drop, ap, sym, subst, ◌∙◌, append_assoc, length-append, arith}
use Rattle.std.proofs.lemmas.Grind.{flat_map-append}
use Rattle.std.proofs.Math.Seq.{drop-append_seam, take-append_seam}
use Rattle.std.specs.Global.{Vec}
use Rattle.std.specs.List.{All, flat_map}
use Rattle.std.proofs.lemmas.List.{get_or-append-add, get_or_append_left}
use Rattle.std.proofs.lemmas.List.{length-map, map-append}
use Rattle.std.proofs.lemmas.List.Elements.{All-append, All-head, All-tail}
use Rattle.std.proofs.lemmas.List.Folds.{flat_map-map}
use Rattle.std.proofs.lemmas.Simd.{map-map}
use Rattle.grid_run.specs.Backs.{BackTask, SharedTask, back_seats, back_task, each_task}
use Rattle.grid_run.specs.Backs.{RequestsFor, queue_seats, seats_of_shared, task_of_shelf}
use Rattle.grid_run.specs.Banks.{HaveServed, NothingWaitsIn, WasAsked, bank_task, each_of}
use Rattle.grid_run.specs.Banks.{tasks_of_banks}
use Rattle.grid_run.specs.declared.plan.BackShelf.{BackShelf}
use Rattle.grid_run.specs.declared.bank.Bank.{Bank}
use Rattle.grid_run.specs.declared.queue.Queue.{Queue}
use Rattle.grid_run.proofs.Slices.{on-items, told-items}

-- what each user does of two runs of second levels
pub each-append : (xs ys : List SharedTask) → each_of (xs ++ ys) ≡ each_of xs ++ each_of ys
each-append xs ys = flat_map-append each_task xs ys

-- more second levels do what the next shelves ask
pub more-done : (done more : List BackTask) (shelves part behind : List BackShelf)
    → more ≡ map task_of_shelf part → part ++ behind ≡ shelves
    → (done ++ more) ++ map task_of_shelf behind ≡ done ++ map task_of_shelf shelves
more-done done more shelves part behind does cut =
    append_assoc done more (map task_of_shelf behind)
    ∙ ap (λ (ts : List BackTask). done ++ (ts ++ map task_of_shelf behind)) does
    ∙ ap (λ (ts : List BackTask). done ++ ts)
    (sym (map-append task_of_shelf part behind) ∙ ap (map task_of_shelf) cut)

-- banks that do the same have second levels that do the same
pub tasks-told : (xs ys : List Bank) → map bank_task xs ≡ map bank_task ys
    → tasks_of_banks xs ≡ tasks_of_banks ys
tasks-told xs ys told =
    sym (flat_map-map (λ (ts : List SharedTask). ts) bank_task xs)
    ∙ ap (flat_map (λ (ts : List SharedTask). ts)) told
    ∙ flat_map-map (λ (ts : List SharedTask). ts) bank_task ys

-- banks that were lent, and came back with the same to do
module _ (banks : Vec Bank) (lent new : List Bank) (are : lent ≡ banks.items)
    (told : map bank_task new ≡ map bank_task lent) where
  -- what they have served, the banks have served
  pub lent-served : HaveServed lent new
      → HaveServed banks.items (take banks.len (new ++ drop (length new) banks.items))
  lent-served =
      on-items bank_task banks.items lent new banks.len HaveServed banks.ok.0 are told

  -- the banks do the same
  pub lent-told : tasks_of_banks (take banks.len (new ++ drop (length new) banks.items))
      ≡ tasks_of_banks banks.items
  lent-told = tasks-told _ _ (told-items bank_task banks lent new are told)

-- the seats of second levels are those of what they do
pub seats-of-bank : (b : Bank) → map seats_of_shared (bank_task b) ≡ map back_seats b.backs.items
unfolding bank_task back_task
seats-of-bank b = map-map seats_of_shared back_task b.backs.items

-- what holds of all of two lists holds of all of each
module _ {X : Type 0} (P : X → Type 0) (xs ys : List X) (all : All P (xs ++ ys)) where
  pub all-front : All P xs
  all-front k d lt = subst P (get_or_append_left xs ys d k lt)
      (all k d (omega (arith, lt, length-append xs ys)))

  pub all-behind : All P ys
  all-behind k d lt = subst P (get_or-append-add xs ys k d)
      (all (length xs + k) d (omega (arith, lt, length-append xs ys)))

-- two lists that are the same, and begin with lists of the same length, have the same parts
module _ {X : Type 0} (xs us ys vs : List X) (long : length xs ≡ length us)
    (same : xs ++ ys ≡ us ++ vs) where
  pub same-front : xs ≡ us
  same-front =
      sym (take-append_seam xs ys) ∙ ap (λ n. take n (xs ++ ys)) long ∙ ap (take (length us)) same
      ∙ take-append_seam us vs

  pub same-rest : ys ≡ vs
  same-rest =
      sym (drop-append_seam xs ys) ∙ ap (λ n. drop n (xs ++ ys)) long ∙ ap (drop (length us)) same
      ∙ drop-append_seam us vs

-- banks are a run of them, and then another
module _ {banks : List Bank} (front behind : List Bank) (is : banks ≡ front ++ behind) where
  -- what all were asked for, those of each run were asked for
  pub front-asked : (blocks : List ℕ) (all : RequestsFor) → All (WasAsked blocks all) banks
      → All (WasAsked blocks all) front
  front-asked blocks all were =
      all-front (WasAsked blocks all) front behind (subst (All (WasAsked blocks all)) is were)

  pub behind-asked : (blocks : List ℕ) (all : RequestsFor) → All (WasAsked blocks all) banks
      → All (WasAsked blocks all) behind
  behind-asked blocks all were =
      all-behind (WasAsked blocks all) front behind (subst (All (WasAsked blocks all)) is were)

  -- what both have served, all have served
  pub both-served : (front' behind' : List Bank) → HaveServed front front'
      → HaveServed behind behind' → HaveServed banks (front' ++ behind')
  both-served front' behind' one other = record {
    asked = λ blocks all were. All-append (WasAsked blocks all) front' behind'
        (one.asked blocks all (front-asked blocks all were))
        (other.asked blocks all (behind-asked blocks all were));
    settled = All-append NothingWaitsIn front' behind' one.settled other.settled;
  }

-- there are as many second levels in a bank as there are tasks of it
long-task : (b : Bank) → length (bank_task b) ≡ length b.backs.items
unfolding bank_task
long-task b = length-map b.backs.items back_task

-- one bank comes first
module _ {banks : List Bank} (bank : Bank) (rest : List Bank) (is : banks ≡ bank ∷ rest) where
  -- what holds of all holds of it
  pub of-first : (P : Bank → Type 0) → All P banks → P bank
  of-first P all = All-head P bank rest (subst (All P) is all)

  pub of-rest : (P : Bank → Type 0) → All P banks → All P rest
  of-rest P all = All-tail P bank rest (subst (All P) is all)

  -- what all do is what it does, and then what the others do
  tasks-from : tasks_of_banks banks ≡ bank_task bank ++ tasks_of_banks rest
  tasks-from = ap tasks_of_banks is

  -- queues behind the seats of all
  module _ (qs : List Queue)
      (same : map queue_seats qs ≡ map seats_of_shared (tasks_of_banks banks))
    where
      all-seats : map queue_seats qs
          ≡ map seats_of_shared (bank_task bank) ++ map seats_of_shared (tasks_of_banks rest)
      all-seats =
          same ∙ ap (map seats_of_shared) tasks-from
          ∙ map-append seats_of_shared (bank_task bank) (tasks_of_banks rest)

      -- are enough for the first
      pub enough-queues : length bank.backs.items ≤ length qs
      enough-queues =
          omega (
            arith,
            ap length all-seats,
            length-append (map seats_of_shared (bank_task bank))
                (map seats_of_shared (tasks_of_banks rest)),
            length-map qs queue_seats,
            length-map (bank_task bank) seats_of_shared,
            long-task bank,
          )

      module _ (near behind : List Queue) (cut : qs ≡ near ++ behind)
          (long : length near ≡ length bank.backs.items) where
        first-long : length (map queue_seats near) ≡ length (map seats_of_shared (bank_task bank))
        first-long =
            omega (
              arith,
              long,
              length-map near queue_seats,
              length-map (bank_task bank) seats_of_shared,
              long-task bank,
            )

        both : map queue_seats near ++ map queue_seats behind
            ≡ map seats_of_shared (bank_task bank) ++ map seats_of_shared (tasks_of_banks rest)
        both =
            sym (map-append queue_seats near behind) ∙ ap (map queue_seats) (sym cut) ∙ all-seats

        -- and these are behind its seats
        pub near-seats : map queue_seats near ≡ map seats_of_shared (bank_task bank)
        near-seats = same-front _ _ _ _ first-long both

        -- and the others behind those of the rest
        pub behind-seats : map queue_seats behind ≡ map seats_of_shared (tasks_of_banks rest)
        behind-seats = same-rest _ _ _ _ first-long both
