-- The order of the blocks, and which are known, after an access.
use Rattle.std.proofs.Common.{◌≡◌, ℕ, ◌<◌, Bool, true, ◌==◌, ◌||◌, List, ◌∷◌, length, map}
use Rattle.std.proofs.Common.{Some, sym, ap, ◌∙◌}
use Rattle.std.specs.List.{list_any}
use Rattle.cache_core.specs.declared.access.Access.{Access}
use Rattle.cache_core.specs.Geometry.{blocks_of}
use Rattle.cache_core.specs.History.{History, Rules, access, block_of}
use Rattle.cache_core.specs.Kinds.{referenced_blocks, shadow_of}
use Rattle.cache_core.specs.Residents.{distinct, hits, renewals}
use Rattle.marked_list.specs.Recency.{brought_front, is_among}
use Rattle.shared_list.specs.declared.list.SharedList.{SharedList}
use Rattle.shared_list.specs.Shared.{order_by, size_of_list, was_used_by}
use Rattle.grid_core.specs.Numbers.{number_at}
use Rattle.grid_core.specs.Shadows.{number_by, was_number_used}
use Rattle.grid_core.proofs.Renumbered.{low-after, used-after}
use Rattle.stamped_cache.specs.declared.caches.StampedCaches.{StampedCaches}
use Rattle.stamped_cache.specs.Stamped.{StampedStandsBy, stamped_rules}
use Rattle.stamped_cache.proofs.CacheFacts.{is-stacked, used-named}
use Rattle.stamped_cache.proofs.Nearness.{near-is, order-next}

module _ (blocks : List ℕ) (c : StampedCaches) (q : ℕ) (h : History)
    (st : StampedStandsBy blocks c q h) (x : Access) (n : ℕ)
    (is : number_at blocks (block_of (stamped_rules c) x) ≡ Some n) where
  abbrev r : Rules
  r = stamped_rules c

  -- whether its block was known before
  pub known-before : was_used_by c.list q n
      ≡ list_any (λ t. t == block_of r x) (referenced_blocks r h)
  known-before = ap (was_number_used (was_used_by c.list q)) (sym is) ∙ st.known (block_of r x)

  -- whether the shadow had it
  pub near-before : (near : Bool)
      → near ≡ is_among n (order_by c.list q) (size_of_list c.list)
      → near ≡ hits (shadow_of r) (renewals (shadow_of r) h) x
  unfolding stamped_rules
  near-before near at = near-is blocks r (is-stacked c) h x n is (used-named blocks c q h st) near
      (at ∙ ap (is_among n (order_by c.list q)) c.sized
      ∙ ap (λ l. is_among n l (blocks_of c.geometry)) st.order)

  module _ (new : SharedList) (order : order_by new q ≡ brought_front n (order_by c.list q))
      (used : (k : ℕ) → was_used_by new q k ≡ (n == k || was_used_by c.list q k)) where
    pub order-after : order_by new q
        ≡ map (number_by blocks) (distinct (renewals r (access x ∷ h)))
    order-after = order ∙ ap (brought_front n) st.order
        ∙ order-next blocks r (is-stacked c) h x n is (used-named blocks c q h st)

    pub known-after : (b : ℕ) → was_number_used (was_used_by new q) (number_at blocks b)
        ≡ list_any (λ t. t == b) (referenced_blocks r (access x ∷ h))
    unfolding referenced_blocks
    known-after b = used-after (was_used_by c.list q) (was_used_by new q) blocks (block_of r x) n is
        used b ∙ ap (λ t. block_of r x == b || t) (st.known b)

    pub numbered-after : (k : ℕ) → was_used_by new q k ≡ true → k < length blocks
    numbered-after = low-after (was_used_by c.list q) (was_used_by new q) blocks (block_of r x) n is
        used st.numbered
