-- A list of blocks in order of last use, the latest first, and which sizes of a fully associative
-- LRU cache hold a block (Mattson and others, 1970).
use Rattle.std.specs.Prelude.{ℕ, suc, Bool, ◌==◌, not, cond, List, [], ◌∷◌, take, filter}
use Rattle.std.specs.List.{list_any}

-- block b is among the first of the list, as many as the size says
abbrev pub is_among : ℕ → List ℕ → ℕ → Bool
is_among b ys size = list_any (λ m. m == b) (take size ys)

-- the index of the first that passes, or the length of the list
abbrev pub index_of : {X : Type 0} → (X → Bool) → List X → ℕ
index_of p [] = 0
index_of p (x ∷ xs) = cond (p x) 0 (suc (index_of p xs))

-- the index of block b in the list, or the length of the list if it is not there
abbrev pub index_in : ℕ → List ℕ → ℕ
index_in b ys = index_of (λ m. m == b) ys

-- the level of a block: the index of the first size that holds it, or the number of sizes
abbrev pub level_of : List ℕ → List ℕ → ℕ → ℕ
level_of sizes ys b = index_of (is_among b ys) sizes

-- the list after a use of block b
abbrev pub brought_front : ℕ → List ℕ → List ℕ
brought_front b ys = b ∷ filter (λ n. not (n == b)) ys
