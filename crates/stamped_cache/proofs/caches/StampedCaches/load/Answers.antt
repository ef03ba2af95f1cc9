use Rattle.std.proofs.Common.{◌≡◌, ℕ, ◌+◌, ◌*◌, ◌<◌, ◌%◌, false, not, ◌&&◌, ◌∷◌}
use Rattle.std.proofs.Common.{refl, sym, ap, subst}
use Rattle.std.proofs.Common.{◌∙◌, arith}
use Rattle.cache_core.specs.Geometry.{sets_of}
use Rattle.cache_core.specs.History.{access, block_of, is_write}
use Rattle.cache_core.specs.Counting.{with_access, with_one}
use Rattle.cache_core.specs.Counts.{tally}
use Rattle.cache_core.specs.Parts.{one_if, outcome_of}
use Rattle.cache_core.specs.Residents.{is_resident, renewals}
use Rattle.cache_core.proofs.Steps.{counts-step}
use Rattle.grid_core.specs.WriteBacks.{is_first_write}
use Rattle.shared_list.specs.Shared.{users_of}
use Rattle.shared_list.proofs.Columns.{places-apart}
use Rattle.stamped_cache.specs.Holding.{HoldBy}
use Rattle.stamped_cache.specs.Putting.{LeavesRoom, Misses}
use Rattle.stamped_cache.specs.Rows.{rows_in, rows_of}
use Rattle.stamped_cache.specs.Stamped.{stamped_counts, stamped_has_failed, stamped_rules}
use Rattle.stamped_cache.specs.Stamped.{stamped_served, stamped_shadow_misses, stamped_users}
use Rattle.stamped_cache.specs.States.{state_users, states_of}
use Rattle.stamped_cache.specs.Tallies.{tally_of}
use Rattle.stamped_cache.proofs.AfterUse.{known-after, known-before, near-before, numbered-after}
use Rattle.stamped_cache.proofs.AfterUse.{order-after}
use Rattle.stamped_cache.proofs.CacheFacts.{assoc-some, is-stacked, row-inside, sets-some}
use Rattle.stamped_cache.proofs.Outcomes.{outcome-load}
use Rattle.stamped_cache.proofs.Tallied.{any_back, any_back-is, far-next, first-load, first-next}
use Rattle.stamped_cache.proofs.caches.StampedCaches.load.Goals as goal

pub overflow_mul-row : goal.overflow_mul-row
unfolding stamped_rules stamped_users rows_in
overflow_mul-row c =
    let old = c.args.self.now in
    let deep = sets-some old in
    let is = c.set-set.ensures in
    let inside = row-inside old c.set-set.result c.args.user (omega arith) c.requires.user in
    omega (arith, inside, old.rows.filled.ok.0)

pub overflow_add-row : goal.overflow_add-row
unfolding stamped_rules stamped_users rows_in
overflow_add-row c =
    let old = c.args.self.now in
    let deep = sets-some old in
    let is = c.set-set.ensures in
    let inside = row-inside old c.set-set.result c.args.user (omega arith) c.requires.user in
    omega (arith, inside, old.rows.filled.ok.0)

pub leaving-leaving-requires-clause-row : goal.leaving-leaving-requires-clause-row
unfolding stamped_rules stamped_users
leaving-leaving-requires-clause-row c =
    let old = c.args.self.now in
    let deep = sets-some old in
    let is = c.set-set.ensures in
    row-inside old c.set-set.result c.args.user (omega arith) c.requires.user

pub put-back-requires-clause-row : goal.put-back-requires-clause-row
unfolding stamped_rules stamped_users
put-back-requires-clause-row c =
    let old = c.args.self.now in
    let deep = sets-some old in
    let is = c.set-set.ensures in
    row-inside old c.set-set.result c.args.user (omega arith) c.requires.user

pub returns : goal.returns
unfolding stamped_rules stamped_served stamped_counts stamped_shadow_misses stamped_has_failed stamped_users
returns c =
    let old = c.args.self.now in
    let r = stamped_rules old in
    let x = c.args.access in
    let n = c.args.number in
    let u = c.args.user in
    let users = old.users in
    let set = c.set-set.result in
    let row : ℕ = set * users + u in
    let list = c.touch-near.new.self in
    let before = tally_of old.tallies u in
    let order = c.touch-near.ensures.order in
    let used = c.touch-near.ensures.used in
    let near = c.touch-near.result in
    let w = is_write x in
    let count = c.load.ensures.counts in
    let at : row ≡ set * state_users old.states + u = ap (λ k. set * k + u) (sym old.stated) in
    record {
      stands = λ blocks h is st.
          let states = states_of old.states u in
          let rows = rows_of old.rows users u in
          let held = st.holds in
          let absent = c.requires.absent in
          let miss : is_resident r (renewals r h) (block_of r x) ≡ false =
          sym (held.each (block_of r x) n is).held ∙ absent in
          let here : set ≡ block_of r x % r.sets =
          c.set-set.ensures ∙ ap (λ (b : ℕ). b % sets_of old.geometry) c.block.ensures in
          let inside : set < r.sets = (let e = here in let deep = sets-some old in omega arith) in
          let misses : Misses blocks r h x n set c.leaving-leaving.result states rows = record {
            stacked = is-stacked old;
            some = assoc-some old;
            deep = sets-some old;
            held = held;
            number = is;
            absent = absent;
            here = here;
            place = subst (λ k. LeavesRoom k (rows set) c.leaving-leaving.result) old.wide
                c.leaving-leaving.ensures.place;
            last = c.leaving-leaving.ensures.last blocks h set inside refl st;
          } in
          let misses' = subst (λ k. Misses blocks r h x n set c.leaving-leaving.result states
          (rows_of old.rows k u)) (sym old.stated) misses in
          let near' = near-before blocks old u h st x n is near c.touch-near.ensures.near in
          let known = c.knows-known.ensures ∙ known-before blocks old u h st x n is in
          let counted = count (outcome_of r h x).back
          (c.put-back.ensures.back blocks r h x set at misses') in
          record {
            working = st.working;
            served = (let e = counted.served in let s = st.served in omega arith);
            order = order-after blocks old u h st x n is list order used;
            known = known-after blocks old u h st x n is list order used;
            numbered = numbered-after blocks old u h st x n is list order used;
            holds = subst (λ k. HoldBy blocks r (access x ∷ h) (states_of c.put-back.new.states u)
                (rows_of c.put-back.new.rows k u)) old.stated
                (c.put-back.ensures.held blocks r h x set at c.writes.ensures misses');
            counts = counted.counts
                ∙ ap (λ o. with_access x o before.counts)
                (sym (outcome-load r (is-stacked old) h x c.knows-known.result near miss known
                near'))
                ∙ ap (with_access x (outcome_of r h x)) st.counts ∙ counts-step r h x;
            far = counted.far ∙ ap (with_one x (not near)) st.far
                ∙ far-next r h x near near';
            first_writes = λ back. counted.first_writes
                ∙ ap (λ k. one_if w + k) (st.first_writes back)
                ∙ ap (λ t. one_if t + tally (is_first_write r) h) (sym (first-load r h x back miss))
                ∙ sym (first-next r h x);
          };
      served = (let b = c.put-back.result && old.wback in
          count (any_back b) (any_back-is b)).served;
      others = λ q lt ne.
          let lt' : q < users_of old.list = subst (λ k. q < k) (sym old.listed) lt in
          record {
            order = c.touch-near.ensures.others q lt' ne;
            used = λ k. c.touch-near.ensures.unused q k lt' ne;
            states = λ k. c.put-back.ensures.others q k (subst (λ m. q < m) (sym old.stated) lt) ne;
            rows = λ s. c.put-back.ensures.apart (s * users + q)
                (λ same. ne (places-apart s set users q u lt c.requires.user same).1);
            tally = c.load.ensures.others q ne;
          };
      same = record { rules = refl; users = refl; failed = refl };
      ready = record {
        begun = c.touch-near.ensures.begun;
        room = subst (λ k. n < k) (sym c.put-back.ensures.blocks) c.requires.ready.room;
        low = c.requires.ready.low;
      };
    }
