-- The outcome of an access to an LRU cache that allocates at writes.
use Rattle.std.proofs.Common.{◌≡◌, ℕ, ◌<◌, Bool, true, false, not, ◌&&◌, nat_eq, ◌==◌, Option}
use Rattle.std.proofs.Common.{None, refl, sym, ap, ◌∙◌}
use Rattle.std.specs.List.{list_any}
use Rattle.cache_core.specs.declared.access.Access.{Access}
use Rattle.cache_core.specs.History.{History, Rules, block_of, is_write}
use Rattle.cache_core.specs.Kinds.{kind_by, referenced_blocks, shadow_of}
use Rattle.cache_core.specs.Parts.{outcome_of}
use Rattle.cache_core.specs.Residents.{hits, is_resident, renewals}
use Rattle.cache_core.specs.Row.{outcome_made}
use Rattle.cache_core.proofs.Steps.{outcome-is, outcome_of-hit}
use Rattle.grid_core.specs.Hits.{hit_made}
use Rattle.grid_core.specs.Ways.{IsStacked}
use Rattle.stamped_cache.specs.Counted.{load_made}
use Rattle.stamped_cache.proofs.Residents.{hit-back}

made-hit : (wback w known near : Bool)
    → outcome_made wback true w true None known near ≡ hit_made (w && not wback)
made-hit true true known near = refl
made-hit true false known near = refl
made-hit false true known near = refl
made-hit false false known near = refl

made-load : (wback w known near : Bool) (back : Option ℕ)
    → outcome_made wback true w false back known near
    ≡ load_made (kind_by known near) back (w && not wback)
made-load true true known near back = refl
made-load true false known near back = refl
made-load false true known near back = refl
made-load false false known near back = refl

module _ (r : Rules) (st : IsStacked r) (h : History) (x : Access) where
  made-of : (hit : Bool) (back : Option ℕ) (known near : Bool)
      → (outcome_of r h x).hit ≡ hit → (outcome_of r h x).back ≡ back
      → list_any (λ t. nat_eq t (block_of r x)) (referenced_blocks r h) ≡ known
      → hits (shadow_of r) (renewals (shadow_of r) h) x ≡ near
      → outcome_of r h x ≡ outcome_made r.wback true (is_write x) hit back known near
  made-of hit back known near p q s t = sym (outcome-is r h x)
      ∙ ap (λ a. outcome_made r.wback a (is_write x) (outcome_of r h x).hit
      (outcome_of r h x).back (list_any (λ t. nat_eq t (block_of r x)) (referenced_blocks r h))
      (hits (shadow_of r) (renewals (shadow_of r) h) x)) st.allocates
      ∙ ap (λ a. outcome_made r.wback true (is_write x) a (outcome_of r h x).back
      (list_any (λ t. nat_eq t (block_of r x)) (referenced_blocks r h))
      (hits (shadow_of r) (renewals (shadow_of r) h) x)) p
      ∙ ap (λ a. outcome_made r.wback true (is_write x) hit a
      (list_any (λ t. nat_eq t (block_of r x)) (referenced_blocks r h))
      (hits (shadow_of r) (renewals (shadow_of r) h) x)) q
      ∙ ap (λ a. outcome_made r.wback true (is_write x) hit back a
      (hits (shadow_of r) (renewals (shadow_of r) h) x)) s
      ∙ ap (λ a. outcome_made r.wback true (is_write x) hit back known a) t

  -- of a hit
  pub outcome-hit : 0 < r.assoc → is_resident r (renewals r h) (block_of r x) ≡ true
      → outcome_of r h x ≡ hit_made (is_write x && not r.wback)
  outcome-hit some hit =
      let known = list_any (λ t. nat_eq t (block_of r x)) (referenced_blocks r h) in
      let near = hits (shadow_of r) (renewals (shadow_of r) h) x in
      made-of true None known near (outcome_of-hit r h x ∙ hit) (hit-back r st h x some hit)
      refl refl ∙ made-hit r.wback (is_write x) known near

  -- of an access that loads its block
  pub outcome-load : (known near : Bool)
      → is_resident r (renewals r h) (block_of r x) ≡ false
      → known ≡ list_any (λ t. t == block_of r x) (referenced_blocks r h)
      → near ≡ hits (shadow_of r) (renewals (shadow_of r) h) x
      → outcome_of r h x
      ≡ load_made (kind_by known near) (outcome_of r h x).back (is_write x && not r.wback)
  outcome-load known near miss was there = made-of false (outcome_of r h x).back known near
      (outcome_of-hit r h x ∙ miss) refl (sym was) (sym there)
      ∙ made-load r.wback (is_write x) known near (outcome_of r h x).back
