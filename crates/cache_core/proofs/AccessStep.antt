-- The contracts of the calls in `Contents::serve` and `Cache::access`, put together.
use Rattle.std.proofs.Common.{◌≡◌, ◌≢◌, ℕ, zero, suc, pred, ◌*◌, ◌<◌, Bool, cond, not, ◌&&◌}
use Rattle.std.proofs.Common.{◌||◌, nat_eq, List, ◌∷◌, map, Option, is_some, refl, ap, ◌∙◌, arith}
use Rattle.std.proofs.Common.{true, false, sym}
use Rattle.std.specs.List.{find, list_any}
use Rattle.std.specs.Map.{lookup}
use Rattle.std.proofs.Math.Nat.{mod-lt}
use Rattle.cache_core.specs.declared.access.Access.{Access}
use Rattle.cache_core.specs.declared.access.Served.{Served}
use Rattle.cache_core.specs.declared.kinds.Prior.{Prior}
use Rattle.cache_core.specs.declared.policy.Policy.{Policy}
use Rattle.cache_core.specs.declared.geometry.Geometry.{Geometry}
use Rattle.cache_core.specs.declared.ways.Way.{Way}
use Rattle.cache_core.specs.History.{Rules, History, access, is_write}
use Rattle.cache_core.specs.Residents.{hits, renewals}
use Rattle.cache_core.specs.Kinds.{referenced_blocks, shadow_of}
use Rattle.cache_core.specs.Geometry.{size_of, bsize_of, assoc_of}
use Rattle.cache_core.specs.Order.{ways_of}
use Rattle.cache_core.specs.Policy.{is_fifo}
use Rattle.cache_core.specs.Row.{holds_block, next_row, pushed_out, row, row_of}
use Rattle.cache_core.specs.Standing.{rules_from, IsServed, IsKnown}
use Rattle.cache_core.proofs.AtAccess.{at_access}
use Rattle.cache_core.proofs.Lawful.{IsSane, sane_of}
use Rattle.lru.specs.LruCache.{lru_cache, promoted, put_entries}
use Rattle.cache_core.proofs.Shadow.{pair, in_shadow-is, after_classify, shadow-step}
use Rattle.cache_core.proofs.Again.{referenced-stays}
use Rattle.cache_core.proofs.Referenced.{renewals-referenced}
use Rattle.cache_core.proofs.Victim.{resident-renewed}
use Rattle.cache_core.proofs.Steps.{outcome_of-hit, outcome_of-back, rows-step}
use Rattle.cache_core.proofs.Steps.{hit-is as row-hit, back-is as row-back}

suc_pred : (n : ℕ) → 0 < n → n ≡ suc (pred n)
suc_pred zero h = absurd (omega arith)
suc_pred (suc n) h = refl

module _ (g : Geometry) (p : Policy) (h : History) (x : Access) where
  abbrev r : Rules
  r = rules_from g p

  open at_access r h x use {b, s}

  abbrev block_addr : ℕ
  block_addr = b * bsize_of g

  abbrev shown : History → List (ℕ × Unit {0})
  shown k = map pair (ways_of (shadow_of r) 0 (renewals (shadow_of r) k))

  facts : IsSane (size_of g) (bsize_of g) (assoc_of g)
  facts = sane_of g

  pos : 0 < bsize_of g
  pos = let low = facts.block_low in omega arith

  inside : s < r.sets
  inside = mod-lt b facts.sets_pos

  size : r.assoc ≡ suc (pred (assoc_of g))
  size = suc_pred (assoc_of g) facts.assoc_pos

  abbrev found : List Way → Option Way
  found xs = find (holds_block block_addr) (row (assoc_of g) s xs)

  -- a block that hits was accessed before
  was-referenced : hits r (renewals r h) x ≡ true
      → list_any (λ t. nat_eq t b) (referenced_blocks r h) ≡ true
  was-referenced e = renewals-referenced r h b (resident-renewed r (renewals r h) b e)

  or-referenced : (hit referenced : Bool) → (hit ≡ true → referenced ≡ true)
      → (hit || referenced) ≡ referenced
  or-referenced true referenced e = sym (e refl)
  or-referenced false referenced e = refl

  module _ (xs : List Way) (rows : (t : ℕ) → t < r.sets
      → row (assoc_of g) t xs ≡ row_of r h t) where
    -- what the row of its set answers is what the definitions say
    pub served-is : (served : Served) → served.hit ≡ is_some (found xs) → served.back
        ≡ pushed_out p.wback p.walloc block_addr (is_write x) (row (assoc_of g) s xs) (found xs)
        → IsServed r h x served
    served-is served hit-is back-is =
        let here = rows s inside in
        record {
          hit = hit-is ∙ ap (λ l. is_some (find (holds_block block_addr) l)) here
              ∙ row-hit r pos (pred (assoc_of g)) size h x ∙ sym (outcome_of-hit r h x);
          back = back-is ∙ ap (λ l. pushed_out p.wback p.walloc block_addr (is_write x) l
              (find (holds_block block_addr) l)) here
              ∙ row-back r pos (pred (assoc_of g)) size h x ∙ sym (outcome_of-back r h x);
        }

    -- where the row of its set took the step and the others stayed, the rows are those after the
    -- access
    pub rows-after : (ys : List Way)
        → row (assoc_of g) s ys ≡ next_row p.wback p.walloc block_addr (is_write x)
        (row (assoc_of g) s xs) (found xs) (is_fifo p)
        → ((t : ℕ) → t ≢ s → row (assoc_of g) t ys ≡ row (assoc_of g) t xs)
        → (t : ℕ) → t < r.sets → row (assoc_of g) t ys ≡ row_of r (access x ∷ h) t
    rows-after ys now others = rows-step r pos (pred (assoc_of g)) size h x xs ys rows now others
        inside

  -- what the known blocks and the shadow answer is what the definitions say
  pub known-is : (hit : Bool) (prior : Prior) (entries : List (ℕ × Unit {0}))
      → hit ≡ hits r (renewals r h) x
      → prior.referenced ≡ (hit || list_any (λ t. nat_eq t b) (referenced_blocks r h))
      → prior.in_shadow ≡ is_some (lookup (nat_eq b) entries) → entries ≡ shown h
      → IsKnown r h x prior
  known-is hit prior entries hit-is referenced-is shadow-is entries-is = record {
    referenced = referenced-is ∙ or-referenced hit _ (λ q. was-referenced (sym hit-is ∙ q));
    in_shadow = shadow-is ∙ ap (λ l. is_some (lookup (nat_eq b) l)) entries-is
        ∙ in_shadow-is r h x (pred r.blocks) (suc_pred r.blocks facts.blocks_pos);
  }

  -- the shadow is the one after the access
  pub shadow-after : (in_shadow load : Bool) (cap : ℕ) (old new : List (ℕ × Unit {0}))
      → new ≡ cond (not in_shadow && load)
      (put_entries nat_eq (lru_cache (promoted (nat_eq b) old) cap) b tt)
      (promoted (nat_eq b) old)
      → in_shadow ≡ is_some (lookup (nat_eq b) old) → load ≡ (not (is_write x) || p.walloc)
      → cap ≡ r.blocks → old ≡ shown h → new ≡ shown (access x ∷ h)
  shadow-after in_shadow load cap old new is in-is load-is cap-is old-is =
      is
      ∙ ap (λ t. cond (not t && load)
      (put_entries nat_eq (lru_cache (promoted (nat_eq b) old) cap) b tt)
      (promoted (nat_eq b) old)) in-is
      ∙ ap (λ t. after_classify b t cap old) load-is
      ∙ ap (λ n. after_classify b (not (is_write x) || p.walloc) n old) cap-is
      ∙ ap (after_classify b (not (is_write x) || p.walloc) r.blocks) old-is
      ∙ shadow-step r h x (pred r.blocks) (suc_pred r.blocks facts.blocks_pos)

  -- so are the known blocks
  pub referenced-after : (hit : Bool) (had : ℕ → Bool) → hit ≡ hits r (renewals r h) x
      → ((q : ℕ) → had q ≡ list_any (λ t. nat_eq t q) (referenced_blocks r h)) → (q : ℕ)
      → (not hit && nat_eq b q || had q)
      ≡ list_any (λ t. nat_eq t q) (referenced_blocks r (access x ∷ h))
  unfolding referenced_blocks
  referenced-after true had hit-is was q = referenced-stays had b q
      (was b ∙ was-referenced (sym hit-is))
      ∙ ap (λ t. nat_eq b q || t) (was q)
  referenced-after false had hit-is was q = ap (λ t. nat_eq b q || t) (was q)
