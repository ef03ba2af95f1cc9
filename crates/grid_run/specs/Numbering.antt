-- Requests with the numbers of their blocks.
use Rattle.std.specs.Prelude.{◌≡◌, ℕ, Bool, true, false, ◌||◌, if◌then◌else◌, List, []}
use Rattle.std.specs.Prelude.{◌∷◌, Option, None, Some}
use Rattle.std.specs.List.{All, flat_map}
use Rattle.cache_core.specs.declared.access.Access.{Access}
use Rattle.cache_core.specs.History.{Event, access, flush}
use Rattle.cache_core.specs.declared.access.Class.{Class}
use Rattle.cache_core.specs.Lists.{IsBeginning}
use Rattle.grid_core.specs.Numbers.{IsNumberOf, number_at}
use Rattle.stage_core.specs.SecondLevel.{read_as}
use Rattle.stage_core.specs.declared.message.What.{What}
use Rattle.stage_core.specs.declared.message.What.TheVariants as what
use Rattle.shared_list.specs.Users.{is_user}
use Rattle.shared_list.specs.declared.users.Users.{Users}
use Rattle.grid_run.specs.declared.numbered.Known.{Known}
use Rattle.grid_run.specs.declared.numbered.Numbered.{Numbered}
use Rattle.grid_run.specs.declared.numbered.Sort.{Sort}
use Rattle.grid_run.specs.declared.numbered.Sort.TheVariants as sort

-- the request of this sort for an address
abbrev pub what_at : Sort → ℕ → What
what_at sort.Back a = what.Back a
what_at (sort.Fetch c) a = what.Fetch c a
what_at sort.Through a = what.Through a
what_at sort.FlushAll a = what.FlushAll

-- the request without its number
abbrev pub what_of : Numbered → What
what_of w = what_at w.sort w.addr

-- a request to flush is for all users
abbrev pub is_flush : What → Bool
is_flush (what.Back a) = false
is_flush (what.Fetch c a) = false
is_flush (what.Through a) = false
is_flush what.FlushAll = true

-- a request for these users is for user k
abbrev pub is_to : ℕ → Users → What → Bool
is_to k users w = is_flush w || is_user users k

-- what user k gets of a request for these users: the request, or nothing
abbrev pub part_to : ℕ → Users → What → List What
part_to k users w = if is_to k users w then w ∷ [] else []

-- the request is for user k
abbrev pub is_for : ℕ → Numbered → Bool
is_for k w = is_to k w.users (what_of w)

-- the requests for user k, without their numbers
abbrev pub sent_to : ℕ → List Numbered → List What
sent_to k ws = flat_map (λ w. part_to k w.users (what_of w)) ws

-- the access of a class to an address, or a flush where there is no class
abbrev pub event_at : Option Class → ℕ → Event
event_at None a = flush
event_at (Some c) a = access (record { class = c; addr = a })

-- the block that is known, if there is one, has this number
abbrev pub KnowsNumber : List ℕ → Option Known → Type 0
KnowsNumber blocks known = (k : Known) → known ≡ Some k → number_at blocks k.block ≡ Some k.number

-- where blocks have n bytes, the block of a request has this number, if it asks for one
abbrev pub IsNumberFor : List ℕ → ℕ → What → ℕ → Type 0
IsNumberFor blocks n w number =
    (x : Access) → read_as w ≡ access x → IsNumberOf blocks n x number

-- a request has the number of its block
pub record IsNumbered (blocks : List ℕ) (n : ℕ) (w : Numbered) : Type 0 where
  pub number : IsNumberFor blocks n (what_of w) w.number

-- Requests that had the numbers of their blocks have them still, and so have those that joined
-- them; there may be more numbers.
pub record StayNumbered (n : ℕ) (before : List ℕ) (old : List Numbered) (after : List ℕ)
    (new : List Numbered) : Type 0 where
  pub grows : IsBeginning before after
  pub each : All (IsNumbered before n) old → All (IsNumbered after n) new
