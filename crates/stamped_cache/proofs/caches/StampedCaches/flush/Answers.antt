use Rattle.std.proofs.Common.{ℕ, ◌∷◌, ◌<◌, map, sym, ap, subst, ◌∙◌, arith}
use Rattle.cache_core.specs.History.{flush as flushed}
use Rattle.cache_core.specs.Residents.{distinct}
use Rattle.cache_core.proofs.Nothing.{renewals-flush}
use Rattle.grid_core.specs.Numbers.{number_at}
use Rattle.grid_core.specs.Shadows.{number_by}
use Rattle.grid_core.proofs.After.{far-flush, referenced-flush}
use Rattle.shared_list.specs.Shared.{users_of, was_used_by}
use Rattle.stamped_cache.specs.declared.tally.Tally.{Tally}
use Rattle.stamped_cache.specs.Rows.{rows_of}
use Rattle.stamped_cache.specs.Stamped.{stamped_counts, stamped_has_failed, stamped_rules}
use Rattle.stamped_cache.specs.Stamped.{stamped_served, stamped_shadow_misses, stamped_users}
use Rattle.stamped_cache.specs.States.{states_of}
use Rattle.stamped_cache.specs.Tallies.{tally_of}
use Rattle.stamped_cache.proofs.CacheFacts.{assoc-some, is-stacked, used-same}
use Rattle.stamped_cache.proofs.Holds.{holds-nothing}
use Rattle.stamped_cache.proofs.Tallied.{counts-flush, first-flush}
use Rattle.stamped_cache.proofs.caches.StampedCaches.flush.Goals as goal

pub returns-clause-stands : goal.returns-clause-stands
unfolding stamped_rules stamped_served stamped_counts stamped_shadow_misses stamped_has_failed stamped_users
returns-clause-stands c = λ blocks q h lt st.
    let old = c.args.self.now in
    let r = stamped_rules old in
    let list = c.clear-2.new.self in
    let before = tally_of old.tallies q in
    let none = renewals-flush r h in
    let lt' : q < users_of old.list = subst (λ n. q < n) (sym old.listed) lt in
    let used = λ (n : ℕ). c.clear-2.ensures.used q n lt' in
    let now = c.flush.ensures.each q (subst (λ n. q < n) (sym old.tallied) lt) in
    record {
      working = st.working;
      served = ap (λ (t : Tally). t.served) now ∙ (let s = st.served in omega arith);
      order = c.clear-2.ensures.order q
          ∙ sym (ap (λ l. map (number_by blocks) (distinct l)) none);
      known = λ b. used-same (was_used_by old.list q) (was_used_by list q) used
          (number_at blocks b) ∙ st.known b ∙ referenced-flush r h b;
      numbered = λ n there. st.numbered n (sym (used n) ∙ there);
      holds = holds-nothing blocks r (flushed ∷ h) (states_of c.forget_all.new.self q)
          (rows_of c.clear.new.self old.users q) none (c.forget_all.ensures.none q)
          (λ s. c.clear.ensures.empty _);
      counts = counts-flush r (is-stacked old).allocates (assoc-some old) h before.counts
          (tally_of c.flush.new.self q).counts before.first_writes st.counts st.first_writes
          (ap (λ (t : Tally). t.counts) now);
      far = ap (λ (t : Tally). t.far) now ∙ st.far ∙ far-flush r h;
      first_writes = λ back. ap (λ (t : Tally). t.first_writes) now ∙ st.first_writes back
          ∙ first-flush r h;
    }
