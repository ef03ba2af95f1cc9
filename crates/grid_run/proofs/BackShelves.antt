-- Second levels behind seats of the first level, while more caches join them.
use Rattle.std.proofs.Common.{◌≡◌, ℕ, ◌<◌, [], ◌∷◌, ◌++◌, List, length, get_or, map, set}
use Rattle.std.proofs.Common.{ap, sym, subst, ◌∙◌}
use Rattle.std.specs.List.{All}
use Rattle.std.proofs.lemmas.List.{get_or-map, length-map, map_push, map-set}
use Rattle.std.proofs.lemmas.List.Elements.{All-set, All-weaker}
use Rattle.cache_core.specs.History.{Rules}
use Rattle.cache_core.specs.Standing.{rules_from}
use Rattle.cache_core.specs.declared.geometry.Geometry.{Geometry}
use Rattle.cache_core.specs.declared.policy.Policy.{Policy}
use Rattle.grid_run.specs.Backs.{BackTask, IsPlacedIn, task_of_shelf}
use Rattle.grid_run.specs.Plans.{IsCellBehind, IsSeatBehind, KeepsBehind, KeepsPlaced, SuitsBehind}
use Rattle.grid_run.specs.Seats.{IsCellOf, Keeps, KeepsCells, SeatRules, rules_on}
use Rattle.grid_run.specs.declared.plan.BackShelf.{BackShelf}
use Rattle.grid_run.specs.declared.seat.Seat.{Seat}
use Rattle.grid_run.specs.declared.shelf.Shelf.{Shelf}
use Rattle.grid_run.proofs.Growing.{all-push, at-changed, at-push, at-set, inside-push}
use Rattle.grid_run.proofs.Growing.{inside-set}
use Rattle.grid_run.proofs.Shelves.{seat-stays}

module _ (xs ys : List BackShelf) (x : BackShelf) (is : ys ≡ xs ++ x ∷ []) where
  joined : map task_of_shelf ys ≡ map task_of_shelf xs ++ task_of_shelf x ∷ []
  joined = ap (map task_of_shelf) is ∙ map_push task_of_shelf xs x

  -- seats stay where more second levels join
  pub backs-joined : KeepsBehind (map task_of_shelf xs) (map task_of_shelf ys)
  backs-joined = λ i d r s own.
      let old = map task_of_shelf xs in
      let new = map task_of_shelf ys in
      record {
        family = inside-push old new s.family (task_of_shelf x) joined own.family;
        back = λ other. at-push (IsCellBehind i d r s.cell) old new s.family (task_of_shelf x)
            other joined own.family (own.back other);
      }

  -- all are behind seats that are there
  pub placed-joined : KeepsPlaced x.i x.d (map task_of_shelf xs) (map task_of_shelf ys)
  unfolding task_of_shelf
  placed-joined = λ on_i on_d at_i at_d all.
      all-push (IsPlacedIn on_i on_d) (map task_of_shelf xs) (map task_of_shelf ys)
      (task_of_shelf x) joined all (record { on_i = at_i; on_d = at_d })

-- second levels with another shelf
abbrev pub with_shelf : BackShelf → Shelf → BackShelf
with_shelf x s = record { i = x.i; d = x.d; shelf = s }

module _ (xs : List BackShelf) (k : ℕ) (x : BackShelf) (s : Shelf) (lt : k < length xs)
    (at : x ≡ get_or xs k x) where
  family-inside : k < length (map task_of_shelf xs)
  family-inside = subst (λ n. k < n) (sym (length-map xs task_of_shelf)) lt

  here : (other : BackTask) → get_or (map task_of_shelf xs) k other ≡ task_of_shelf x
  here other = get_or-map task_of_shelf xs k x other lt ∙ ap task_of_shelf (sym at)

  changed : map task_of_shelf (set xs k (with_shelf x s))
      ≡ set (map task_of_shelf xs) k (task_of_shelf (with_shelf x s))
  changed = map-set task_of_shelf xs k (with_shelf x s)

  cell-kept : KeepsCells (rules_on x.shelf) (rules_on s) → (i d : Seat) (r : Rules) (cell : ℕ)
      → IsCellBehind i d r cell (task_of_shelf x)
      → IsCellBehind i d r cell (task_of_shelf (with_shelf x s))
  unfolding task_of_shelf
  cell-kept keeps i d r cell own =
      record { on_i = own.on_i; on_d = own.on_d; cell = keeps r cell own.cell }

  -- seats stay where the shelf keeps its cells
  pub backs-kept : KeepsCells (rules_on x.shelf) (rules_on s)
      → KeepsBehind (map task_of_shelf xs) (map task_of_shelf (set xs k (with_shelf x s)))
  backs-kept keeps = λ i d r u own.
      let old = map task_of_shelf xs in
      let y = task_of_shelf (with_shelf x s) in
      subst (λ (l : List BackTask). IsSeatBehind i d r l u) (sym changed) (record {
        family = inside-set old k u.family y own.family;
        back = λ other. at-set (IsCellBehind i d r u.cell) old k u.family y other family-inside
            (λ was. cell-kept keeps i d r u.cell
            (subst (IsCellBehind i d r u.cell) (here other) was)) (own.back other);
      })

  -- the seat of a cell of the shelf
  pub seat-among : (i d : Seat) (g : Geometry) (p : Policy) (cell : ℕ)
      → SuitsBehind i d g p x → IsCellOf (rules_on s) (rules_from g x.shelf.policy) cell
      → IsSeatBehind i d (rules_from g p) (map task_of_shelf (set xs k (with_shelf x s)))
      (record { family = k; cell = cell })
  unfolding task_of_shelf
  seat-among i d g p cell suits found =
      let old = map task_of_shelf xs in
      let y = task_of_shelf (with_shelf x s) in
      let r = rules_from g p in
      let own = subst (λ (q : Policy). IsCellOf (rules_on s) (rules_from g q) cell)
      suits.shelf.policy found in
      subst (λ (l : List BackTask). IsSeatBehind i d r l (record { family = k; cell = cell }))
      (sym changed) (record {
        family = inside-set old k k y family-inside;
        back = λ other. at-changed (IsCellBehind i d r cell) old k y other family-inside
            (record { on_i = suits.on_i; on_d = suits.on_d; cell = own });
      })

  -- all stay behind their seats
  pub placed-kept : (on_i on_d : SeatRules) → All (IsPlacedIn on_i on_d) (map task_of_shelf xs)
      → All (IsPlacedIn on_i on_d) (map task_of_shelf (set xs k (with_shelf x s)))
  unfolding task_of_shelf
  placed-kept on_i on_d all =
      let old = map task_of_shelf xs in
      let y = task_of_shelf (with_shelf x s) in
      let was : IsPlacedIn on_i on_d (task_of_shelf x) =
      subst (IsPlacedIn on_i on_d) (here (task_of_shelf x))
      (all k (task_of_shelf x) family-inside) in
      subst (All (IsPlacedIn on_i on_d)) (sym changed)
      (All-set (IsPlacedIn on_i on_d) old k y
      (record { on_i = was.on_i; on_d = was.on_d }) all)

-- all stay behind their seats where the seats stay
pub placed-grows : (i j d e : SeatRules) → Keeps i j → Keeps d e → (bs : List BackTask)
    → All (IsPlacedIn i d) bs → All (IsPlacedIn j e) bs
placed-grows i j d e on_i on_d bs all =
    All-weaker (IsPlacedIn i d) (IsPlacedIn j e) (λ b own. record {
      on_i = seat-stays i j on_i b.i own.on_i;
      on_d = seat-stays d e on_d b.d own.on_d;
    }) bs all
