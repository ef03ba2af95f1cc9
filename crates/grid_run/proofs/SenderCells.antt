-- The caches that send to each user of a queue, while users join them, and what each user gets.
use Rattle.std.proofs.Common.{◌≡◌, ℕ, suc, zero, ◌+◌, ◌<◌, List, [], ◌∷◌, ◌++◌, length, get_or, map}
use Rattle.std.proofs.Common.{set, take, Bool, true, false, not, ◌&&◌, ◌||◌}
use Rattle.std.proofs.Common.{ap, sym, refl, subst, ◌∙◌, append-nil, arith}
use Rattle.std.specs.Prelude.{if◌then◌else◌}
use Rattle.std.specs.List.{All, flat_map, list_any}
use Rattle.std.proofs.Math.Seq.{map-set_same}
use Rattle.std.proofs.lemmas.Grind.{flat_map-append}
use Rattle.std.proofs.lemmas.List.{flat_map_more, take_more}
use Rattle.std.proofs.lemmas.List.Concat.{flat_map_single}
use Rattle.std.proofs.lemmas.List.Elements.{All-head, All-tail}
use Rattle.std.proofs.lemmas.List.Folds.{flat_map-map, list_any-append}
use Rattle.shared_list.specs.Users.{is_user}
use Rattle.shared_list.specs.declared.users.Users.{Users}
use Rattle.stage_core.specs.Places.{list_if}
use Rattle.stage_core.specs.SecondLevel.{back, flush_all}
use Rattle.stage_core.specs.declared.message.Side.{Side}
use Rattle.stage_core.specs.declared.message.Side.TheVariants as side
use Rattle.stage_core.specs.declared.message.What.{What}
use Rattle.grid_run.specs.Numbering.{is_flush, part_to}
use Rattle.grid_run.specs.Senders.{cells_for}
use Rattle.grid_run.specs.declared.senders.Sender.{Sender}

-- the cell of a cache, if it sends to user k
abbrev pub cell_to : ℕ → Sender → List ℕ
cell_to k x = if is_user x.users k then x.cell ∷ [] else []

-- a list that is made of each element, where one is replaced by one of which the same is made
made-same : {X A : Type 0} (f : X → List A) (xs : List X) (i : ℕ) (y d : X)
    → f y ≡ f (get_or xs i d) → flat_map f (set xs i y) ≡ flat_map f xs
made-same {A = A} f xs i y d same =
    sym (flat_map-map (λ (l : List A). l) f (set xs i y))
    ∙ ap (flat_map (λ (l : List A). l)) (map-set_same f xs i y d same)
    ∙ flat_map-map (λ (l : List A). l) f xs

nil-left : {A : Type 0} (xs ys : List A) → xs ++ ys ≡ [] → xs ≡ []
nil-left [] ys e = refl
nil-left (x ∷ xs) ys e = absurd cc

nil-right : {A : Type 0} (xs ys : List A) → xs ++ ys ≡ [] → ys ≡ []
nil-right [] ys e = e
nil-right (x ∷ xs) ys e = absurd cc

made-nothing : {X A : Type 0} (f : X → List A) → ((x : X) → f x ≡ []) → (xs : List X)
    → flat_map f xs ≡ []
made-nothing f none [] = refl
made-nothing f none (x ∷ xs) =
    ap (λ l. l ++ flat_map f xs) (none x) ∙ made-nothing f none xs

-- where nothing was made of any element, only what is made of the one that replaces another
made-alone : {X A : Type 0} (f : X → List A) (xs : List X) (i : ℕ) (y : X) → i < length xs
    → flat_map f xs ≡ [] → flat_map f (set xs i y) ≡ f y
made-alone f [] i y lt none = absurd (omega arith)
made-alone f (x ∷ xs) zero y lt none =
    ap (λ l. f y ++ l) (nil-right (f x) (flat_map f xs) none) ∙ append-nil (f y)
made-alone f (x ∷ xs) (suc i) y lt none =
    ap (λ l. l ++ flat_map f (set xs i y)) (nil-left (f x) (flat_map f xs) none)
    ∙ made-alone f xs i y (omega arith) (nil-right (f x) (flat_map f xs) none)

-- one more user of a cache
module _ (xs : List Sender) (i : ℕ) (d y : Sender) (lt : i < length xs)
    (same : y.cell ≡ (get_or xs i d).cell) where
  pub own-cell : (user : ℕ) → is_user y.users user ≡ true → cells_for user xs ≡ []
      → cells_for user (set xs i y) ≡ y.cell ∷ []
  own-cell user has none =
      made-alone (cell_to user) xs i y lt none
      ∙ ap (λ (b : Bool). if b then y.cell ∷ [] else []) has

  pub other-cell : (k : ℕ) → is_user y.users k ≡ is_user (get_or xs i d).users k
      → cells_for k (set xs i y) ≡ cells_for k xs
  other-cell k is =
      made-same (cell_to k) xs i y d
      (ap (λ (b : Bool). if b then y.cell ∷ [] else []) is
      ∙ ap (λ c. if is_user (get_or xs i d).users k then c ∷ [] else []) same)

-- one more cache, with one user
pub cells-more : (k : ℕ) (xs : List Sender) (x : Sender)
    → cells_for k (xs ++ x ∷ []) ≡ cells_for k xs ++ cell_to k x
cells-more k xs x = sym (flat_map_more (cell_to k) [] xs x)

-- the caches up to one are those before it, and then that one
pub cells-next : (k : ℕ) (xs : List Sender) (i : ℕ) (d : Sender) → i < length xs
    → cells_for k (take (i + 1) xs) ≡ cells_for k (take i xs) ++ cell_to k (get_or xs i d)
cells-next k xs i d lt =
    ap (cells_for k) (take_more xs i d lt) ∙ cells-more k (take i xs) (get_or xs i d)

-- what is made of the cell of one cache, for the users that it sends to
made-if : {A : Type 0} (g : ℕ → List A) (cell : ℕ) (b : Bool)
    → flat_map g (if b then cell ∷ [] else []) ≡ (if b then g cell else [])
made-if g cell true = append-nil (g cell)
made-if g cell false = refl

any-if : (p : ℕ → Bool) (cell : ℕ) (b : Bool)
    → list_any p (if b then cell ∷ [] else []) ≡ (b && p cell)
any-if p cell true = or-false (p cell)
  where
    or-false : (b : Bool) → (b || false) ≡ b
    or-false true = refl
    or-false false = refl
any-if p cell false = refl

module _ (k : ℕ) (xs : List Sender) (i : ℕ) (d : Sender) (lt : i < length xs) where
  pub made-next : {A : Type 0} (g : ℕ → List A) → flat_map g (cells_for k (take (i + 1) xs))
      ≡ flat_map g (cells_for k (take i xs))
      ++ (if is_user (get_or xs i d).users k then g (get_or xs i d).cell else [])
  made-next g =
      let x = get_or xs i d in
      ap (flat_map g) (cells-next k xs i d lt)
      ∙ flat_map-append g (cells_for k (take i xs)) (cell_to k x)
      ∙ ap (λ l. flat_map g (cells_for k (take i xs)) ++ l) (made-if g x.cell (is_user x.users k))

  pub any-next : (p : ℕ → Bool) → list_any p (cells_for k (take (i + 1) xs))
      ≡ (list_any p (cells_for k (take i xs))
      || (is_user (get_or xs i d).users k && p (get_or xs i d).cell))
  any-next p =
      let x = get_or xs i d in
      ap (list_any p) (cells-next k xs i d lt)
      ∙ list_any-append p (cells_for k (take i xs)) (cell_to k x)
      ∙ ap (λ b. list_any p (cells_for k (take i xs)) || b) (any-if p x.cell (is_user x.users k))

-- write-backs go to all of the users, or to none
backs-if : (addrs : List ℕ) (b : Bool) → flat_map (λ a. if b then back a ∷ [] else []) addrs
    ≡ (if b then map back addrs else [])
backs-if addrs true = flat_map_single back addrs
backs-if addrs false = made-nothing (λ (a : ℕ). if false then back a ∷ [] else []) (λ a. refl) addrs

pub backs-to : (k : ℕ) (users : Users) (addrs : List ℕ)
    → flat_map (part_to k users) (map back addrs)
    ≡ (if is_user users k then map back addrs else [])
backs-to k users addrs =
    flat_map-map (part_to k users) back addrs ∙ backs-if addrs (is_user users k)

as-list : (w : What) (b : Bool) → (if b then w ∷ [] else []) ≡ list_if b w
as-list w true = refl
as-list w false = refl

-- a request that is made if there are users goes to those
pub part-if : (k : ℕ) (users : Users) (none : Bool) (w : What) → is_flush w ≡ false
    → (none ≡ true → is_user users k ≡ false)
    → flat_map (part_to k users) (list_if (not none) w) ≡ list_if (is_user users k) w
part-if k users true w plain empty = ap (λ b. list_if b w) (sym (empty refl))
part-if k users false w plain empty =
    append-nil (part_to k users w)
    ∙ ap (λ (f : Bool). if f || is_user users k then w ∷ [] else []) plain
    ∙ as-list w (is_user users k)

-- a cache past the end of a list
abbrev pub no_sender : Sender
no_sender = record { cell = 0; users = record { bits = 0 } }

-- a single cell is that of the first cache, if it sends to the user, or one of the others
first-of : (n cell : ℕ) (x : Sender) (others : List ℕ) → x.cell < n
    → (others ≡ cell ∷ [] → cell < n) → (b : Bool)
    → (if b then x.cell ∷ [] else []) ++ others ≡ cell ∷ [] → cell < n
first-of n cell x others inside next true e =
    subst (λ m. m < n) (ap (λ l. get_or l 0 0) e) inside
first-of n cell x others inside next false e = next e

-- the cell of the cache that sends to a user is one of those of all
pub cell-of : (n k : ℕ) (xs : List Sender) (cell : ℕ) → All (λ x. x.cell < n) xs
    → cells_for k xs ≡ cell ∷ [] → cell < n
cell-of n k [] cell all e = absurd cc
cell-of n k (x ∷ xs) cell all e =
    first-of n cell x (cells_for k xs) (All-head (λ (y : Sender). y.cell < n) x xs all)
    (cell-of n k xs cell (All-tail (λ (y : Sender). y.cell < n) x xs all)) (is_user x.users k) e

-- a flush goes to each user
pub flush-to : (k : ℕ) (users : Users) (s : Side) → flat_map (part_to k users) (flush_all s)
    ≡ flush_all s
flush-to k users side.I = refl
flush-to k users side.D = refl
