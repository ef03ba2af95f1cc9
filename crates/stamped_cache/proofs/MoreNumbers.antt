-- What stands for a history by some numbers of blocks does so by more of them.
use Rattle.std.proofs.Common.{◌≡◌, ℕ, ◌<◌, ◌≤◌, true, List, length, map, Some, is_some, unwrap_or}
use Rattle.std.proofs.Common.{length-append, inl, inr, sym, ap, subst, ◌∙◌, arith}
use Rattle.std.proofs.lemmas.Bool.{cases_lt, false≢true, false_from_ne_true}
use Rattle.cache_core.specs.History.{History, Rules}
use Rattle.cache_core.specs.Lists.{IsBeginning}
use Rattle.cache_core.specs.Order.{residents_of}
use Rattle.cache_core.specs.Residents.{distinct, is_resident, renewals}
use Rattle.cache_core.proofs.Reuse.{has}
use Rattle.shared_list.specs.Shared.{was_used_by}
use Rattle.grid_core.specs.Numbers.{number_at}
use Rattle.grid_core.specs.Shadows.{number_by}
use Rattle.grid_core.proofs.Numbers.{number-kept, number-low, number-low-kept}
use Rattle.grid_core.proofs.Renumbered.{low-same, used-same}
use Rattle.stamped_cache.specs.declared.state.State.{State}
use Rattle.stamped_cache.specs.Holding.{HoldBy}
use Rattle.stamped_cache.specs.Rows.{rows_of}
use Rattle.stamped_cache.specs.Stamped.{MoreNumbersServeStampedCaches, stamped_rules}
use Rattle.stamped_cache.specs.States.{is_held, states_of}
use Rattle.stamped_cache.proofs.CacheFacts.{used-named}
use Rattle.stamped_cache.proofs.Holds.{resident-number}
use Rattle.stamped_cache.proofs.Named.{same-by}
use Rattle.stamped_cache.proofs.Residents.{has-resident}

module _ (blocks more : List ℕ) (on : IsBeginning blocks more) (r : Rules) (h : History)
    (states : ℕ → State) (rows : ℕ → List ℕ) (held : HoldBy blocks r h states rows) where
  kept : (y n : ℕ) → number_at blocks y ≡ Some n → number_at more y ≡ Some n
  kept y n e = subst (λ l. number_at l y ≡ Some n) (sym on.1) (number-kept blocks on.0 y n e)

  low-is : (y n : ℕ) → number_at more y ≡ Some n → n < length blocks → number_at blocks y ≡ Some n
  low-is y n e lt = number-low-kept blocks on.0 y n (subst (λ l. number_at l y ≡ Some n) on.1 e) lt

  longer : length blocks ≤ length more
  longer = let all = ap (λ (l : List ℕ). length l) on.1 ∙ length-append blocks on.0 in omega arith

  numbers-same : (s : ℕ) → map (number_by blocks) (residents_of r h s)
      ≡ map (number_by more) (residents_of r h s)
  numbers-same s = same-by (number_by blocks) (number_by more) (residents_of r h s)
      (λ y there. sym (ap (λ o. unwrap_or o 0) (kept y (number_by blocks y)
      (resident-number blocks r h states rows held y (has-resident r h s y there)))))

  pub holds-more : HoldBy more r h states rows
  holds-more = record {
    named = λ y res. ap is_some (kept y (number_by blocks y)
        (resident-number blocks r h states rows held y res));
    each = λ y n e. elim (cases_lt n (length blocks)) [
      | inl lt ↦ held.each y n (low-is y n e lt)
      | inr le ↦
          let absent = false_from_ne_true (is_held (states n))
          (λ there. let lt = held.low n there in absurd (omega arith)) in
          record {
            held = absent ∙ sym (false_from_ne_true (is_resident r (renewals r h) y) (λ res.
                let is = resident-number blocks r h states rows held y res in
                let same : n ≡ number_by blocks y =
                ap (λ o. unwrap_or o 0) (sym e ∙ kept y (number_by blocks y) is) in
                let lt = number-low blocks y (number_by blocks y) is in
                absurd (omega arith)));
            written = λ there. absurd (false≢true (sym absent ∙ there));
          }
    ];
    low = λ n there. let lt = held.low n there in let le = longer in omega arith;
    sets = λ s lt. record {
      once = (held.sets s lt).once;
      same = λ n. (held.sets s lt).same n ∙ ap (λ l. has l n) (numbers-same s);
    };
  }

-- each of many caches
pub caches-more : MoreNumbersServeStampedCaches
caches-more blocks more c q h on st =
    let named = λ (y : ℕ) (there : has (distinct (renewals (stamped_rules c) h)) y ≡ true).
    used-named blocks c q h st y there in
    let states = states_of c.states q in
    let rows = rows_of c.rows c.users q in
    record {
      working = st.working;
      served = st.served;
      order = st.order ∙ same-by (number_by blocks) (number_by more)
          (distinct (renewals (stamped_rules c) h)) (λ y there. sym (ap (λ o. unwrap_or o 0)
          (kept blocks more on (stamped_rules c) h states rows st.holds y (number_by blocks y)
          (named y there))));
      known = λ b. used-same (was_used_by c.list q) blocks more on st.numbered b ∙ st.known b;
      numbered = low-same (was_used_by c.list q) blocks more on st.numbered;
      holds = holds-more blocks more on (stamped_rules c) h states rows st.holds;
      counts = st.counts;
      far = st.far;
      first_writes = st.first_writes;
    }
