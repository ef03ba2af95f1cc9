-- A cache that is as before still stands for its history.
use Rattle.std.proofs.Common.{◌≡◌, ℕ, ◌==◌, List, map, sym, ap, subst, ◌∙◌}
use Rattle.std.specs.List.{list_any}
use Rattle.cache_core.specs.Counts.{counts_of, tally}
use Rattle.cache_core.specs.History.{History, Rules}
use Rattle.cache_core.specs.Kinds.{referenced_blocks}
use Rattle.cache_core.specs.Residents.{distinct, renewals}
use Rattle.shared_list.specs.Shared.{was_used_by}
use Rattle.grid_core.specs.FullyAssociative.{shadow_misses}
use Rattle.grid_core.specs.Numbers.{number_at}
use Rattle.grid_core.specs.Shadows.{number_by}
use Rattle.grid_core.specs.WriteBacks.{is_first_write}
use Rattle.stamped_cache.specs.declared.caches.StampedCaches.{StampedCaches}
use Rattle.stamped_cache.specs.declared.tally.Tally.{Tally}
use Rattle.stamped_cache.specs.Holding.{HoldBy}
use Rattle.stamped_cache.specs.Rows.{rows_of}
use Rattle.stamped_cache.specs.Serving.{IsSameCache, IsSameSet}
use Rattle.stamped_cache.specs.Stamped.{StampedStandsBy, stamped_counts, stamped_rules}
use Rattle.stamped_cache.specs.Stamped.{stamped_served, stamped_shadow_misses}
use Rattle.stamped_cache.specs.States.{states_of}
use Rattle.stamped_cache.proofs.CacheFacts.{used-same}
use Rattle.stamped_cache.proofs.Holds.{holds-same}

module _ (q : ℕ) (old new : StampedCaches) (same : IsSameCache q old new) where
  -- it served as much
  pub same-served : stamped_served new q ≡ stamped_served old q
  unfolding stamped_served
  same-served = ap (λ (t : Tally). t.served) same.tally

  pub same-counts : stamped_counts new q ≡ stamped_counts old q
  unfolding stamped_counts
  same-counts = ap (λ (t : Tally). t.counts) same.tally

  pub same-far : stamped_shadow_misses new q ≡ stamped_shadow_misses old q
  unfolding stamped_shadow_misses
  same-far = ap (λ (t : Tally). t.far) same.tally

  pub same-stands : IsSameSet old new → (blocks : List ℕ) (h : History)
      → StampedStandsBy blocks old q h → StampedStandsBy blocks new q h
  same-stands all blocks h st =
      let e = all.rules in
      record {
        working = all.failed ∙ st.working;
        served = same-served ∙ st.served;
        order = same.order ∙ st.order
            ∙ sym (ap (λ r. map (number_by blocks) (distinct (renewals r h))) e);
        known = λ b. used-same (was_used_by old.list q) (was_used_by new.list q) same.used
            (number_at blocks b) ∙ st.known b
            ∙ sym (ap (λ r. list_any (λ t. t == b) (referenced_blocks r h)) e);
        numbered = λ n used. st.numbered n (sym (same.used n) ∙ used);
        holds = subst (λ r. HoldBy blocks r h (states_of new.states q)
            (rows_of new.rows new.users q)) (sym e)
            (holds-same blocks (stamped_rules old) h (states_of old.states q)
            (states_of new.states q) (rows_of old.rows old.users q) (rows_of new.rows new.users q)
            same.states same.rows st.holds);
        counts = same-counts ∙ st.counts ∙ sym (ap (λ r. counts_of r h) e);
        far = same-far ∙ st.far ∙ sym (ap (λ r. shadow_misses r h) e);
        first_writes = λ back. ap (λ (t : Tally). t.first_writes) same.tally
            ∙ st.first_writes (sym (ap (λ (r : Rules). r.wback) e) ∙ back)
            ∙ sym (ap (λ r. tally (is_first_write r) h) e);
      }
