-- Accesses that send nothing to the next level.
use Rattle.std.proofs.Common.{◌≡◌, ℕ, zero, suc, ◌<◌, Bool, false, not, ◌&&◌, List, [], ◌∷◌}
use Rattle.std.proofs.Common.{length, get_or, map, refl, sym, ap, subst, ◌∙◌, arith}
use Rattle.std.specs.List.{All}
use Rattle.cache_core.specs.declared.access.Access.{Access}
use Rattle.cache_core.specs.History.{History, Rules, is_write}
use Rattle.cache_core.specs.Parts.{SendsNothing, outcome_of}
use Rattle.grid_core.specs.declared.cells.Shape.{Shape}
use Rattle.grid_core.specs.declared.places.Place.{Place}
use Rattle.grid_core.specs.declared.places.Place.TheVariants.{Together, Apart}
use Rattle.grid_core.specs.Cells.{HitsIn, shape_rules}
use Rattle.grid_core.specs.Hits.{hit_made}
use Rattle.grid_core.specs.Places.{IsPlace, rules_placed}
use Rattle.grid_core.specs.Written.{rules_at_index}

-- where all hit, and no write is sent on, nothing is sent
pub hits-send-nothing : (h : History) (x : Access) (wback through : Bool) (shapes : List Shape)
    → All (HitsIn h x) shapes → All (λ s. s.wback ≡ wback) shapes
    → through ≡ (is_write x && not wback) → through ≡ false
    → All (λ s. SendsNothing (outcome_of (shape_rules s) h x)) shapes
hits-send-nothing h x wback through shapes hit policy is none k d lt =
    let s = get_or shapes k d in
    let made : outcome_of (shape_rules s) h x ≡ hit_made false = hit k d lt
    ∙ ap (λ t. hit_made (is_write x && not t)) (policy k d lt) ∙ ap hit_made (sym is ∙ none) in
    subst SendsNothing (sym made) (record { back = refl; fetch = refl; through = refl })

-- what holds of the rules of each holds of those at an index
pub at-rules : {X : Type 0} (f : X → Rules) (P : Rules → Type 0) (xs : List X)
    → All (λ x. P (f x)) xs → (i : ℕ) → i < length (map f xs) → P (rules_at_index (map f xs) i)
at-rules f P [] all i lt = absurd (omega arith)
at-rules f P (x ∷ xs) all zero lt = all 0 x (omega arith)
at-rules f P (x ∷ xs) all (suc i) lt =
    at-rules f P xs (λ k d in_xs. all (suc k) d (omega arith)) i (omega arith)

-- what holds of the rules of both kinds holds at each place
pub at-place : (P : Rules → Type 0) (rs ss : List Rules)
    → ((i : ℕ) → i < length rs → P (rules_at_index rs i))
    → ((i : ℕ) → i < length ss → P (rules_at_index ss i))
    → (p : Place) → IsPlace (length rs) (length ss) p → P (rules_placed rs ss p)
at-place P rs ss together apart (Together i) lt = together i lt
at-place P rs ss together apart (Apart i) lt = apart i lt
