-- Seats that stay, while caches serve.
use Rattle.std.proofs.Common.{ℕ, List, sym, subst}
use Rattle.std.specs.List.{All}
use Rattle.cache_core.specs.declared.policy.Policy.{Policy}
use Rattle.cache_core.specs.History.{Rules}
use Rattle.grid_core.specs.declared.caches.Caches.{Caches}
use Rattle.grid_core.specs.declared.places.Seat.{Seat}
use Rattle.grid_core.specs.Caches.{HaveSameRules}
use Rattle.grid_core.specs.Caches.{together_rules, apart_rules, shades_rules}
use Rattle.grid_core.specs.Numbers.{HaveBlocksOf}
use Rattle.grid_core.specs.Places.{IsSeated}

-- blocks keep their size
pub sized-same : (n : ℕ) (c d : Caches) → HaveSameRules c d → HaveBlocksOf n (together_rules d)
    → HaveBlocksOf n (together_rules c)
sized-same n c d same sized =
    subst (λ (l : List Rules). HaveBlocksOf n l) (sym same.together) sized

-- seats stay where the rules do
pub seated-same : (p : Policy) (c d : Caches) → HaveSameRules c d → (seats : List Seat)
    → All (IsSeated p (together_rules d) (apart_rules d) (shades_rules d)) seats
    → All (IsSeated p (together_rules c) (apart_rules c) (shades_rules c)) seats
seated-same p c d same seats all =
    subst (λ (l : List Rules). All (IsSeated p (together_rules c) (apart_rules c) l) seats)
    (sym same.shades)
    (subst (λ (l : List Rules). All (IsSeated p (together_rules c) l (shades_rules d)) seats)
    (sym same.apart)
    (subst (λ (l : List Rules). All (IsSeated p l (apart_rules d) (shades_rules d)) seats)
    (sym same.together) all))
