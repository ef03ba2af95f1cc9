-- What was sent, by what the caches of a front served last.
use Rattle.std.proofs.Common.{◌≡◌, ◌<◌, ◌*◌, ◌++◌, ℕ, List, [], length, map}
use Rattle.std.proofs.Common.{refl, ap, sym, subst, ◌∙◌, inl, inr, option_to_list}
use Rattle.std.proofs.Common.{Bool, true, false}
use Rattle.std.specs.Prelude.{if◌then◌else◌}
use Rattle.std.specs.Global.{Vec}
use Rattle.cache_core.specs.History.{History, Rules, access, flush}
use Rattle.cache_core.specs.declared.access.Access.{Access}
use Rattle.grid_core.specs.Cells.{items_of}
use Rattle.cache_core.specs.History.{block_of}
use Rattle.cache_core.specs.Parts.{SendsNothing, outcome_of}
use Rattle.grid_core.specs.Written.{rules_at_index, written_by}
use Rattle.stage_core.specs.Places.{list_if}
use Rattle.stage_core.specs.SecondLevel.{back, fetch_class, parts_of}
use Rattle.stage_core.specs.declared.message.Side.{Side}
use Rattle.stage_core.specs.declared.message.What.TheVariants as what
use Rattle.grid_run.specs.Fronts.{HasSent, HasSentNothing, IsSilent, WasLast}
use Rattle.grid_run.specs.Fronts.{front_rules}
use Rattle.grid_run.specs.Families.{HasServedLast, family_rules}
use Rattle.grid_run.specs.Sending.{event_of}
use Rattle.grid_run.specs.declared.front.Front.{Front}
use Rattle.grid_run.specs.declared.front.Last.{Last}
use Rattle.grid_run.specs.declared.front.Last.TheVariants as last
use Rattle.grid_run.specs.declared.family.Family.{Family}
use Rattle.grid_run.specs.declared.requests.Request.{Request}
use Rattle.grid_run.specs.declared.requests.Request.TheVariants as request

module _ (l : Family) (h : History) (lists : List (Vec ℕ)) (r : Rules) (s : Side) where
  pub sent-access : (x : Access) (q : Request) → WasLast l h (last.Access x) lists q
      → (parts_of r s h (event_of q) ≡ parts_of r s h (access x)) × HasServedLast l h x
  sent-access x (request.Access y) (served, inl is) =
      let same : y ≡ x = cc in (
        subst (λ z. parts_of r s h (access z) ≡ parts_of r s h (access x)) (sym same) refl,
        subst (HasServedLast l h) same served,
      )
  sent-access x (request.Access y) (served, inr silent) = let e = silent.0 in absurd cc
  sent-access x request.Flush was = let e = was.0 in absurd cc

  pub sent-flush : (q : Request) → WasLast l h last.Flush lists q
      → (parts_of r s h (event_of q) ≡ parts_of r s h flush)
      × (map items_of lists ≡ map (written_by h) (family_rules l))
  sent-flush (request.Access y) (served, inl is) = absurd cc
  sent-flush (request.Access y) (served, inr silent) = let e = silent.0 in absurd cc
  sent-flush request.Flush was = (refl, was.1)

-- an access that sends nothing has no parts
silent-parts : (r : Rules) (s : Side) (h : History) (x : Access)
    → SendsNothing (outcome_of r h x) → parts_of r s h (access x) ≡ []
unfolding parts_of
silent-parts r s h x none =
    let o = outcome_of r h x in
    let first = block_of r x * r.bsize in
    ap (λ b. (map back (option_to_list b) ++ list_if o.fetch (what.Fetch (fetch_class s) first))
    ++ list_if o.through (what.Through x.addr)) none.back
    ∙ ap (λ b. list_if b (what.Fetch (fetch_class s) first)
    ++ list_if o.through (what.Through x.addr)) none.fetch
    ∙ ap (λ b. list_if b (what.Through x.addr)) none.through

-- caches that were silent sent nothing
sent-silence : (l : Family) (h : History) (lists : List (Vec ℕ)) (cell : ℕ) (s : Side)
    (q : Request) → cell < length (family_rules l) → WasLast l h last.Silence lists q
    → parts_of (rules_at_index (family_rules l) cell) s h (event_of q) ≡ []
sent-silence l h lists cell s (request.Access x) inside (served, inl is) = absurd cc
sent-silence l h lists cell s (request.Access x) inside (served, inr silent) =
    silent-parts (rules_at_index (family_rules l) cell) s h x (silent.1 cell inside)
sent-silence l h lists cell s request.Flush inside was = let e = was.0 in absurd cc

-- what a silent cache sent
pub sent-by-silent : (f : Front) (h : History) (cell : ℕ) (s : Side) (q : Request)
    → cell < length (front_rules f) → IsSilent f → HasSent h q f
    → parts_of (rules_at_index (front_rules f) cell) s h (event_of q) ≡ []
sent-by-silent f h cell s q inside is sent =
    sent-silence f.family h f.lists.items cell s q inside
    (subst (λ (w : Last). WasLast f.family h w f.lists.items q) is sent.last)

-- an access that was served is what was served last, whether it sent something or not
pub was-access : (l : Family) (h : History) (lists : List (Vec ℕ)) (x : Access) (none : Bool)
    (w : Last) → w ≡ (if none then last.Silence else last.Access x)
    → (none ≡ true → HasSentNothing l h x) → HasServedLast l h x
    → WasLast l h w lists (request.Access x)
was-access l h lists x true w is silent served = (served, inr (is, silent refl))
was-access l h lists x false w is silent served = (served, inl is)
