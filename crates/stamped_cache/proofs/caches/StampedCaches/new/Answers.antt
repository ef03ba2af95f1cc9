use Rattle.std.proofs.Common.{◌≡◌, ◌*◌, ◌^◌, ◌<◌, ◌≤◌, [], ℕ, map, refl, sym, ap, subst, ◌∙◌}
use Rattle.std.proofs.Common.{arith, Fits, w64}
use Rattle.std.proofs.Math.Nat.{mul_assoc, mul_comm, mul-le-mul_left, mul-le-mul_right}
use Rattle.std.proofs.lemmas.Bool.{false≢true}
use Rattle.cache_core.specs.Geometry.{assoc_of, sets_of}
use Rattle.cache_core.specs.Residents.{distinct}
use Rattle.cache_core.proofs.Lawful.{sane_of}
use Rattle.grid_core.specs.Numbers.{number_at}
use Rattle.grid_core.specs.Shadows.{number_by}
use Rattle.grid_core.specs.Standing.{stack_rules}
use Rattle.grid_core.proofs.After.{far-start}
use Rattle.shared_list.specs.Shared.{was_used_by}
use Rattle.stamped_cache.specs.declared.tally.Tally.{Tally}
use Rattle.stamped_cache.specs.Rows.{rows_of}
use Rattle.stamped_cache.specs.Stamped.{stamped_counts, stamped_has_failed, stamped_rules}
use Rattle.stamped_cache.specs.Stamped.{stamped_served, stamped_shadow_misses, stamped_users}
use Rattle.stamped_cache.specs.States.{states_of}
use Rattle.stamped_cache.proofs.CacheFacts.{none-renewed, referenced-none, used-none}
use Rattle.stamped_cache.proofs.Holds.{holds-nothing}
use Rattle.stamped_cache.proofs.Tallied.{counts-start, first-start}
use Rattle.stamped_cache.proofs.caches.StampedCaches.new.Goals as goal

pub new-requires-clause-size : goal.new-requires-clause-size
new-requires-clause-size c =
    subst (λ n. 0 < n) (sym c.blocks-2.ensures) (sane_of c.args.geometry).blocks_pos

-- so many rows of so many ways in so many caches are not too many
few-rows : (sets ways users : ℕ) → sets * ways ≤ 2 ^ 24 → users ≤ 32
    → sets * users * ways ≤ 2 ^ 29
few-rows sets ways users fit few =
    let a : users * (sets * ways) ≤ 32 * (sets * ways) = mul-le-mul_right (sets * ways) few in
    let b : sets * users * ways ≡ users * (sets * ways) =
    ap (λ n. n * ways) (mul_comm sets users) ∙ mul_assoc users sets ways in
    omega arith

pub overflow_mul-sets : goal.overflow_mul-sets
overflow_mul-sets c =
    let g = c.args.geometry in
    let fit = (sane_of g).ways_fit in
    let one : 1 ≤ assoc_of g = (sane_of g).assoc_pos in
    let a : sets_of g * 1 ≤ sets_of g * assoc_of g = mul-le-mul_left (sets_of g) one in
    let b : sets_of g * c.args.users ≤ sets_of g * 32 = mul-le-mul_left (sets_of g) c.requires.users
    in
    subst (λ n. Fits w64 (n * c.args.users)) (sym c.sets-sets.ensures) (omega arith)

pub new-requires-2-clause-few : goal.new-requires-2-clause-few
new-requires-2-clause-few c =
    let fit = (sane_of c.args.geometry).ways_fit in
    subst (λ n. n * c.args.users * c.assoc.result ≤ 536870912) (sym c.sets-sets.ensures)
    (subst (λ n. sets_of c.args.geometry * c.args.users * n ≤ 536870912) (sym c.assoc.ensures)
    (few-rows (sets_of c.args.geometry) (assoc_of c.args.geometry) c.args.users fit
    c.requires.users))

pub new-requires-2-clause-narrow : goal.new-requires-2-clause-narrow
new-requires-2-clause-narrow c =
    let fit = (sane_of c.args.geometry).ways_fit in
    let one : 1 ≤ sets_of c.args.geometry = (sane_of c.args.geometry).sets_pos in
    let all = mul-le-mul_right (assoc_of c.args.geometry) one in
    let is = c.assoc.ensures in
    omega arith

pub returns-clause-stands : goal.returns-clause-stands
unfolding stamped_rules stamped_served stamped_counts stamped_shadow_misses stamped_has_failed stamped_users
returns-clause-stands c = λ blocks q low.
    let r = stack_rules c.args.geometry c.args.wback in
    let none = none-renewed r in
    let list = c.in-Ok.list in
    let empty = c.in-Ok-new-2.ensures.none q in
    record {
      working = refl;
      served = ap (λ (t : Tally). t.served) empty;
      order = c.in-Ok.ensures.order q
          ∙ sym (ap (λ l. map (number_by blocks) (distinct l)) none);
      known = λ b. used-none (was_used_by list q) (λ n. c.in-Ok.ensures.used q n low)
          (number_at blocks b) ∙ referenced-none r b;
      numbered = λ n used. absurd (false≢true (sym (c.in-Ok.ensures.used q n low) ∙ used));
      holds = holds-nothing blocks r [] (states_of c.new-4.result q)
          (rows_of c.in-Ok-new.rows c.args.users q) none (c.new-4.ensures.none q)
          (λ s. c.in-Ok-new.ensures.empty _);
      counts = ap (λ (t : Tally). t.counts) empty ∙ counts-start r;
      far = ap (λ (t : Tally). t.far) empty ∙ far-start r;
      first_writes = λ back. ap (λ (t : Tally). t.first_writes) empty ∙ first-start r;
    }
