use Rattle.std.proofs.Common.{◌≡◌, ◌<◌, ◌≤◌, ℕ, List, length, get_or, map, sym, ap, subst, ◌∙◌}
use Rattle.std.proofs.Common.{arith, true, ◌==◌}
use Rattle.std.specs.List.{All, list_any}
use Rattle.cache_core.specs.Residents.{distinct, renewals}
use Rattle.marked_list.specs.Recency.{index_in}
use Rattle.shared_list.specs.Shared.{order_by}
use Rattle.grid_core.specs.Shadows.{number_by}
use Rattle.stamped_cache.specs.Rows.{row_held, rows_of}
use Rattle.stamped_cache.specs.Stamped.{stamped_rules, stamped_users}
use Rattle.stamped_cache.specs.States.{states_of}
use Rattle.stamped_cache.proofs.Leaving.{leaving-is, row-used}
use Rattle.stamped_cache.proofs.CacheFacts.{assoc-some, is-stacked, used-named}
use Rattle.stamped_cache.proofs.caches.StampedCaches.leaving.Goals as goal

pub returns-clause-last : goal.returns-clause-last
unfolding stamped_rules stamped_users
returns-clause-last c = λ blocks h s lt at st.
    let old = c.args.self.now in
    let u = c.args.user in
    let r = stamped_rules old in
    let rows = rows_of old.rows old.users u in
    let states = states_of old.states u in
    let row = c.held-held.ensures.held ∙ ap (row_held old.rows) at in
    let order = map (number_by blocks) (distinct (renewals r h)) in
    let named = used-named blocks old u h st in
    let used = row-used blocks r (is-stacked old) (assoc-some old) h states rows st.holds named s lt
    in
    let oldest = c.oldest.ensures.oldest (subst (λ (l : List ℕ).
    All (λ n. list_any (λ m. m == n) (order_by old.list u) ≡ true) l) (sym row)
    (subst (λ (l : List ℕ). All (λ n. list_any (λ m. m == n) l ≡ true) (rows s)) (sym st.order)
    used)) in
    ap (λ z. get_or (row_held old.rows z) c.oldest.result 0) at
    ∙ leaving-is blocks r (is-stacked old) (assoc-some old) h states rows st.holds named s lt
    (omega (
      arith,
      c.if-held-ways.false,
      c.ways.ensures,
      c.held-held.ensures.few,
      old.wide,
      ap (λ (l : List ℕ). length l) row,
    ))
    c.oldest.result
    (omega (arith, c.oldest.ensures.inside, ap (λ (l : List ℕ). length l) row))
    (subst (λ (l : List ℕ). (k : ℕ) → k < length l
    → index_in (get_or l k 0) order ≤ index_in (get_or l c.oldest.result 0) order) row
    (subst (λ (o : List ℕ). (k : ℕ) → k < length c.held-held.result.now
    → index_in (get_or c.held-held.result.now k 0) o
    ≤ index_in (get_or c.held-held.result.now c.oldest.result 0) o) st.order oldest))
