-- What users see of a log in which one use gets other users.
use Rattle.std.proofs.Common.{◌≡◌, ℕ, ◌<◌, Bool, cond, List, length, map, get_or, set, ap, sym}
use Rattle.std.proofs.Common.{◌≢◌, ◌≤◌, [], true, ltb, reverse, subst, ◌∙◌, arith}
use Rattle.std.proofs.Math.ListN.{get_or-map as get_or-map-any}
use Rattle.std.proofs.Math.Seq.{map-set_same}
use Rattle.std.proofs.lemmas.List.{get_or_default, get_or-map, length-map, length-reverse}
use Rattle.std.proofs.lemmas.List.{map-set}
use Rattle.std.specs.List.{All}
use Rattle.std.proofs.lemmas.Bool.{false≢true, ltb-true, ltb-false}
use Rattle.cache_core.proofs.Cases.{by_cases}
use Rattle.cache_core.proofs.Reuse.{has}
use Rattle.marked_list.specs.Uses.{dead, living}
use Rattle.marked_list.proofs.LastUse.{has-there}
use Rattle.marked_list.proofs.Living.{has-living}
use Rattle.shared_list.specs.declared.log.Use.{Use}
use Rattle.shared_list.specs.Log.{no_use, seen, seen_by}
use Rattle.shared_list.specs.Users.{has_user}

-- a use is the same whatever would stand for one past the end
pub use-is : (log : List Use) (p : ℕ) (u : Use) → u ≡ get_or log p u → p < length log → (d : Use)
    → get_or log p d ≡ u
use-is log p u is lt d = get_or_default log p d u lt ∙ sym is

-- what a user sees at a place
pub seen-at : (log : List Use) (i q : ℕ) (t : Bool) → i < length log
    → t ≡ has_user (get_or log i (no_use 0)).users q
    → get_or (map (seen q) log) i 0 ≡ cond t (get_or log i (no_use 0)).number dead
seen-at log i q t lt e = get_or-map (seen q) log i (no_use 0) 0 lt
    ∙ sym (ap (λ b. cond b (get_or log i (no_use 0)).number dead) e)

-- the numbers at a place, where all numbers are the same
pub number-at : (new old : List Use) (i : ℕ)
    → map (λ (v : Use). v.number) new ≡ map (λ (v : Use). v.number) old
    → (get_or new i (no_use 0)).number ≡ (get_or old i (no_use 0)).number
number-at new old i e = sym (get_or-map-any (λ (v : Use). v.number) new i (no_use 0))
    ∙ ap (λ l. get_or l i 0) e ∙ get_or-map-any (λ (v : Use). v.number) old i (no_use 0)

-- where all numbers are the same, there are as many uses
pub length-same : (new old : List Use)
    → map (λ (v : Use). v.number) new ≡ map (λ (v : Use). v.number) old → length new ≡ length old
length-same new old e = sym (length-map new (λ (v : Use). v.number))
    ∙ ap (λ (l : List ℕ). length l) e ∙ length-map old (λ (v : Use). v.number)

-- all numbers stay below a bound
pub numbers-low : (n : ℕ) (old new : List Use)
    → map (λ (v : Use). v.number) new ≡ map (λ (v : Use). v.number) old
    → All (λ (v : Use). v.number < n) old → All (λ (v : Use). v.number < n) new
numbers-low n old new e low k d lt =
    let long = length-same new old e in
    let lk : k < length old = omega (arith, lt, long) in
    let is = ap (λ (v : Use). v.number) (get_or_default new k d (no_use 0) lt)
    ∙ number-at new old k e in
    let below = low k (no_use 0) lk in
    omega (arith, is, below)

pub length-seen : (q : ℕ) (log : List Use) → length (map (seen q) log) ≡ length log
length-seen q log = length-map log (seen q)

pub length-seen-by : (q : ℕ) (log : List Use) → length (seen_by q log) ≡ length log
length-seen-by q log = length-reverse (map (seen q) log) ∙ length-seen q log

-- a user sees something where it is one of the users of a use
pub sees-some : (log : List Use) (i q : ℕ) → i < length log
    → has_user (get_or log i (no_use 0)).users q ≡ true → (get_or log i (no_use 0)).number < dead
    → living (seen_by q log) ≢ []
sees-some log i q lt has-it low none =
    let v = map (seen q) log in
    let n = (get_or log i (no_use 0)).number in
    let at : get_or v i 0 ≡ n = seen-at log i q true lt (sym has-it) in
    let there = has-there v i (omega (arith, lt, length-seen q log)) in
    let ne : n ≢ dead = λ e. omega (arith, low, e) in
    false≢true (sym (ap (λ l. has l n) none)
    ∙ has-living (reverse v) n ne ∙ subst (λ z. has (reverse v) z ≡ true) at there)

-- so only those of whom there are so many are among the users of a use
pub user-inside : (log : List Use) (users : ℕ)
    → ((q : ℕ) → users ≤ q → q < 32 → living (seen_by q log) ≡ [])
    → All (λ (v : Use). v.number < dead) log → (i q : ℕ) → i < length log → q < 32
    → has_user (get_or log i (no_use 0)).users q ≡ true → q < users
user-inside log users none low i q lt lq has-it = by_cases (ltb q users)
    (λ e. ltb-true q users e)
    (λ e. absurd (sees-some log i q lt has-it (low i (no_use 0) lt)
    (none q (ltb-false q users e) lq)))

module _ (log : List Use) (p : ℕ) (u : Use) (is : u ≡ get_or log p u) (users : ℕ) where
  abbrev changed : Use
  changed = record { number = u.number; users = users }

  pub numbers-same : map (λ (v : Use). v.number) (set log p changed)
      ≡ map (λ (v : Use). v.number) log
  numbers-same = map-set_same (λ (v : Use). v.number) log p changed u
      (ap (λ (v : Use). v.number) is)

  -- a user to whom this means nothing sees what it saw
  pub seen-same : (q : ℕ) → has_user users q ≡ has_user u.users q
      → map (seen q) (set log p changed) ≡ map (seen q) log
  seen-same q e = map-set_same (seen q) log p changed u
      (ap (λ t. cond t u.number dead) e ∙ ap (seen q) is)

  -- any user sees the block, or a dead use
  pub seen-changed : (q : ℕ) (t : Bool) → has_user users q ≡ t
      → map (seen q) (set log p changed) ≡ set (map (seen q) log) p (cond t u.number dead)
  seen-changed q t e = map-set (seen q) log p changed
      ∙ ap (λ b. set (map (seen q) log) p (cond b u.number dead)) e
