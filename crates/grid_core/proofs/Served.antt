-- One access in the cache of one cell.
use Rattle.std.proofs.Common.{◌≡◌, ℕ, ◌-◌, Bool, true, false, not, ◌&&◌, ◌==◌, ltb, ◌∷◌}
use Rattle.std.proofs.Common.{Option}
use Rattle.std.proofs.Common.{None, sym, ap, subst, ◌∙◌}
use Rattle.std.specs.List.{list_any}
use Rattle.cache_core.specs.declared.access.Access.{Access}
use Rattle.cache_core.specs.declared.access.Outcome.{Outcome}
use Rattle.cache_core.specs.declared.access.MissKind.{MissKind}
use Rattle.cache_core.specs.History.{Rules, History, access, block_of, is_write}
use Rattle.cache_core.specs.Residents.{hits, renewals}
use Rattle.cache_core.specs.Kinds.{shadow_of, referenced_blocks}
use Rattle.cache_core.specs.Parts.{outcome_of}
use Rattle.cache_core.specs.Counting.{with_one}
use Rattle.cache_core.proofs.MapStep.{suc_pred}
use Rattle.cache_core.proofs.Steps.{counts-step}
use Rattle.grid_core.specs.declared.cells.Shape.{Shape}
use Rattle.grid_core.specs.declared.shadows.PriorLevel.{PriorLevel}
use Rattle.grid_core.specs.FullyAssociative.{shadow_misses}
use Rattle.grid_core.specs.Ways.{with_ways, IsStacked, stack_distance}
use Rattle.grid_core.specs.Cells.{IsPlacedOn, KnowsPrior, HitsIn, shape_rules}
use Rattle.grid_core.specs.Hits.{hit_made}
use Rattle.grid_core.proofs.Outcomes.{outcome-hit, outcome-kind, outcome-fetch, outcome-through}
use Rattle.grid_core.proofs.Outcomes.{kind_made, outcome-kept}

-- an outcome by its parts
abbrev pub made : Bool → Option MissKind → Option ℕ → Bool → Bool → Outcome
made hit kind back fetch through = record {
  hit = hit;
  kind = kind;
  back = back;
  fetch = fetch;
  through = through;
}

same-parts : (a a' : Bool) (b b' : Option MissKind) (c c' : Option ℕ) (d d' e e' : Bool) → a ≡ a'
    → b ≡ b' → c ≡ c' → d ≡ d' → e ≡ e' → made a b c d e ≡ made a' b' c' d' e'
same-parts a a' b b' c c' d d' e e' p q r s t =
    ap (λ z. made z b c d e) p ∙ ap (λ z. made a' z c d e) q ∙ ap (λ z. made a' b' z d e) r
    ∙ ap (λ z. made a' b' c' z e) s ∙ ap (λ z. made a' b' c' d' z) t

module _ (r : Rules) (st : IsStacked r) (s : Shape) (on : IsPlacedOn r s) (h : History) (x : Access)
    (p : PriorLevel) (prior : KnowsPrior s h x p) (d : ℕ)
    (found : d ≡ stack_distance r h (block_of r x))
  where
    abbrev q : Rules
    q = with_ways s.ways r

    known : list_any (λ z. z == block_of q x) (referenced_blocks q h) ≡ p.known
    known = sym (subst (λ w. p.known ≡ list_any (λ z. z == block_of w x) (referenced_blocks w h))
        (sym on.same) prior.known)

    far : hits (shadow_of q) (renewals (shadow_of q) h) x ≡ not (ltb s.rank p.level)
    far = sym (subst (λ w. not (ltb s.rank p.level)
        ≡ hits (shadow_of w) (renewals (shadow_of w) h) x) (sym on.same) prior.far)

    kind-is : (outcome_of q h x).kind ≡ kind_made (ltb d s.ways) p.known (not (ltb s.rank p.level))
    kind-is = outcome-kind r st s.ways on.fits h x
        ∙ ap (λ t. kind_made (ltb t s.ways) (list_any (λ z. z == block_of q x)
        (referenced_blocks q h))
        (hits (shadow_of q) (renewals (shadow_of q) h) x)) (sym found)
        ∙ ap (λ t. kind_made (ltb d s.ways) t (hits (shadow_of q) (renewals (shadow_of q) h) x))
        known
        ∙ ap (kind_made (ltb d s.ways) p.known) far

    -- the outcome, by the position that was found and what was known
    pub outcome-is : (kind : Option MissKind) (back : Option ℕ) (through : Bool)
        → kind ≡ kind_made (ltb d s.ways) p.known (not (ltb s.rank p.level))
        → (outcome_of q h x).back ≡ back → through ≡ (is_write x && not r.wback)
        → made (ltb d s.ways) kind back (not (ltb d s.ways)) through
        ≡ outcome_of (shape_rules s) h x
    outcome-is kind back through ek eb et =
        same-parts (ltb d s.ways) (outcome_of q h x).hit kind (outcome_of q h x).kind
        back (outcome_of q h x).back (not (ltb d s.ways)) (outcome_of q h x).fetch
        through (outcome_of q h x).through
        (ap (λ t. ltb t s.ways) found ∙ sym (outcome-hit r st s.ways on.fits h x))
        (ek ∙ sym kind-is)
        (sym eb)
        (ap (λ t. not (ltb t s.ways)) found ∙ sym (outcome-fetch r st s.ways on.fits h x))
        (et ∙ sym (outcome-through r st s.ways on.fits h x))
        ∙ ap (λ w. outcome_of w h x) on.same

-- a hit, whatever is known of the block
pub hit-is : (r : Rules) → IsStacked r → (s : Shape) → IsPlacedOn r s → (h : History) (x : Access)
    → ltb (stack_distance r h (block_of r x)) s.ways ≡ true → HitsIn h x s
hit-is r st s on h x near =
    let n = s.ways in
    let q = with_ways n r in
    let o = outcome_of q h x in
    let b = block_of q x in
    ap (λ w. outcome_of w h x) (sym on.same)
    ∙ same-parts o.hit true o.kind None o.back None o.fetch false o.through
    (is_write x && not r.wback)
    (outcome-hit r st n on.fits h x ∙ near)
    (outcome-kind r st n on.fits h x
    ∙ ap (λ t. kind_made t (list_any (λ z. z == b) (referenced_blocks q h))
    (hits (shadow_of q) (renewals (shadow_of q) h) x)) near)
    (outcome-kept r st n on.fits h x (n - 1) (suc_pred n on.some) near)
    (outcome-fetch r st n on.fits h x ∙ ap not near)
    (outcome-through r st n on.fits h x)
    ∙ ap (λ (w : Rules). hit_made (is_write x && not w.wback)) on.same

-- the misses of the shadow after an access
pub far-step : (s : Shape) (h : History) (x : Access) (p : PriorLevel) → KnowsPrior s h x p
    → with_one x (ltb s.rank p.level) (shadow_misses (shape_rules s) h)
    ≡ shadow_misses (shape_rules s) (access x ∷ h)
unfolding shadow_misses outcome_of
far-step s h x p prior =
    let w = shadow_of (shape_rules s) in
    ap (λ t. with_one x t (shadow_misses (shape_rules s) h))
    (not-back (ltb s.rank p.level) (hits w (renewals w h) x) prior.far)
    ∙ ap (λ c. c.misses) (counts-step w h x)
  where
    not-back : (a b : Bool) → not a ≡ b → a ≡ not b
    not-back true b e = ap not e
    not-back false b e = ap not e
