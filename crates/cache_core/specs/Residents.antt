-- Which blocks are resident after a history, by reuse distance (Mattson and others, 1970).
use Rattle.std.specs.Prelude.{ℕ, ◌%◌, Bool, ◌&&◌, ◌||◌, not, if◌then◌else◌, nat_lt, ◌==◌, List, []}
use Rattle.std.specs.Prelude.{◌∷◌, length, filter, Option}
use Rattle.std.specs.List.{find, list_any}
use Rattle.cache_core.specs.declared.access.Access.{Access}
use Rattle.cache_core.specs.History.{access, flush, History, Rules, block_of, is_write}

-- the list without repetitions: of equal members, the first stays
abbrev pub distinct : List ℕ → List ℕ
distinct [] = []
distinct (m ∷ ms) = m ∷ filter (λ n. not (n == m)) (distinct ms)

-- the members before the first b
abbrev pub before : ℕ → List ℕ → List ℕ
before b [] = []
before b (m ∷ ms) = if m == b then [] else m ∷ before b ms

module _ (r : Rules) where
  -- the blocks of the list that belong to set s
  abbrev pub in_set : ℕ → List ℕ → List ℕ
  in_set s ms = filter (λ m. m % r.sets == s) ms

  -- A block is renewed at each use under LRU, and at each load under FIFO. The list ms has the
  -- renewed blocks, the latest first. The reuse distance of block b says how much happened in its
  -- set since its last renewal: LRU counts the distinct blocks that were used, FIFO the loads.
  unfoldable pub reuse_distance : List ℕ → ℕ → ℕ
  reuse_distance ms b =
      let later = before b (in_set (b % r.sets) ms) in
      length (if r.fifo then later else distinct later)

  -- b is resident if it was renewed and its reuse distance is less than the number of ways
  unfoldable pub is_resident : List ℕ → ℕ → Bool
  is_resident ms b = list_any (λ m. m == b) ms && nat_lt (reuse_distance ms b) r.assoc

  -- an access hits if its block is resident
  abbrev pub hits : List ℕ → Access → Bool
  hits ms x = is_resident ms (block_of r x)

  -- an access uses its block, unless it is a write that misses without write allocation
  abbrev pub uses : List ℕ → Access → Bool
  uses ms x = not (is_write x) || r.walloc || hits ms x

  -- an access loads its block if it misses and uses it
  abbrev pub loads : List ℕ → Access → Bool
  loads ms x = uses ms x && not (hits ms x)

  -- whether an access renews its block
  abbrev pub renews : List ℕ → Access → Bool
  renews ms x = if r.fifo then loads ms x else uses ms x

  -- the blocks renewed since the last flush, the latest first; each access is judged by the history
  -- before it
  unfoldable pub renewals : History → List ℕ
  renewals [] = []
  renewals (flush ∷ h) = []
  renewals (access x ∷ h) = if renews (renewals h) x then block_of r x ∷ renewals h else renewals h

  -- whether the access evicts b: it is resident before the access and not after it
  abbrev pub leaves : History → Access → ℕ → Bool
  leaves h x b = is_resident (renewals h) b && not (is_resident (renewals (access x ∷ h)) b)

  -- the block that the access evicts, if any; by a law there is at most one
  unfoldable pub victim : History → Access → Option ℕ
  victim h x = find (leaves h x) (renewals h)
