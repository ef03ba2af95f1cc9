use Rattle.std.proofs.Common.{◌≡◌, ℕ, ◌<◌, ◌+◌, ◌*◌, true, cond, eqb, not, ◌&&◌, refl}
use Rattle.std.proofs.Common.{sym, ap, subst, ◌∙◌, arith}
use Rattle.cache_core.specs.History.{block_of, is_write}
use Rattle.cache_core.specs.Counting.{with_access, with_one}
use Rattle.cache_core.specs.Counts.{tally}
use Rattle.cache_core.specs.Parts.{one_if, outcome_of}
use Rattle.cache_core.specs.Residents.{is_resident, renewals}
use Rattle.cache_core.proofs.Steps.{counts-step}
use Rattle.shared_list.specs.Shared.{users_of}
use Rattle.grid_core.specs.WriteBacks.{is_first_write}
use Rattle.stamped_cache.specs.declared.state.State.TheVariants.{Written}
use Rattle.stamped_cache.specs.Rows.{rows_of}
use Rattle.stamped_cache.specs.Stamped.{stamped_counts, stamped_has_failed, stamped_rules}
use Rattle.stamped_cache.specs.Stamped.{stamped_served, stamped_shadow_misses, stamped_users}
use Rattle.stamped_cache.specs.States.{is_held, state_users, states_of, was_written}
use Rattle.stamped_cache.specs.Tallies.{tally_of}
use Rattle.stamped_cache.proofs.AfterUse.{known-after, near-before, numbered-after, order-after}
use Rattle.stamped_cache.proofs.CacheFacts.{assoc-some, is-stacked}
use Rattle.stamped_cache.proofs.Holds.{holds-hit}
use Rattle.stamped_cache.proofs.Outcomes.{outcome-hit}
use Rattle.stamped_cache.proofs.Places.{note-elsewhere, note-here}
use Rattle.stamped_cache.proofs.Tallied.{far-next, first-hit, first-next}
use Rattle.stamped_cache.proofs.caches.StampedCaches.hit.Goals as goal

pub returns : goal.returns
unfolding stamped_rules stamped_served stamped_counts stamped_shadow_misses stamped_has_failed stamped_users
returns c =
    let old = c.args.self.now in
    let r = stamped_rules old in
    let x = c.args.access in
    let n = c.args.number in
    let u = c.args.user in
    let users = old.users in
    let w = is_write x in
    let list = c.touch-near.new.self in
    let before = tally_of old.tallies u in
    let order = c.touch-near.ensures.order in
    let used = c.touch-near.ensures.used in
    let near = c.touch-near.result in
    let counted = c.hit.ensures.counts in
    let written = c.was_written-written.result in
    let notes = λ (q k : ℕ). c.note_write.ensures.notes q k
    ∙ ap (λ t. cond (eqb (k * state_users old.states + q) c.args.place && t) Written
    (states_of old.states q k)) c.writes.ensures in
    record {
      stands = λ blocks h is st.
          let states = states_of old.states u in
          let rows = rows_of old.rows users u in
          let held : is_held (states n) ≡ true = ap is_held (sym c.requires.state)
          ∙ c.requires.held in
          let each = st.holds.each (block_of r x) n is in
          let hit : is_resident r (renewals r h) (block_of r x) ≡ true = sym each.held ∙ held in
          record {
            working = st.working;
            served = (let e = counted.served in let s = st.served in omega arith);
            order = order-after blocks old u h st x n is list order used;
            known = known-after blocks old u h st x n is list order used;
            numbered = numbered-after blocks old u h st x n is list order used;
            holds = holds-hit blocks r (is-stacked old) (assoc-some old) h x states rows st.holds n
                is held (states_of c.note_write.new.self u)
                (note-here (states_of old.states) (states_of c.note_write.new.self) users
                (state_users old.states) n u c.args.place w old.stated c.requires.place
                c.requires.user notes);
            counts = counted.counts
                ∙ ap (λ o. with_access x o before.counts)
                (sym (outcome-hit r (is-stacked old) h x (assoc-some old) hit))
                ∙ ap (with_access x (outcome_of r h x)) st.counts ∙ counts-step r h x;
            far = counted.far
                ∙ ap (with_one x (not near)) st.far
                ∙ far-next r h x near
                (near-before blocks old u h st x n is near c.touch-near.ensures.near);
            first_writes = λ back. counted.first_writes
                ∙ ap (λ k. one_if (w && not written) + k) (st.first_writes back)
                ∙ ap (λ t. one_if t + tally (is_first_write r) h)
                (sym (first-hit r h x written back hit
                (c.was_written-written.ensures ∙ ap was_written c.requires.state
                ∙ each.written held)))
                ∙ sym (first-next r h x);
          };
      served = counted.served;
      others = λ q lt ne.
          let lt' : q < users_of old.list = subst (λ k. q < k) (sym old.listed) lt in
          record {
            order = c.touch-near.ensures.others q lt' ne;
            used = λ k. c.touch-near.ensures.unused q k lt' ne;
            states = λ k. note-elsewhere (states_of old.states) (states_of c.note_write.new.self)
                users (state_users old.states) n u c.args.place w old.stated c.requires.place
                c.requires.user notes q k lt ne;
            rows = λ s. refl;
            tally = c.hit.ensures.others q ne;
          };
      same = record { rules = refl; users = refl; failed = refl };
      ready = record {
        begun = c.touch-near.ensures.begun;
        room = subst (λ k. n < k) (sym c.note_write.ensures.blocks) c.requires.ready.room;
        low = c.requires.ready.low;
      };
    }
