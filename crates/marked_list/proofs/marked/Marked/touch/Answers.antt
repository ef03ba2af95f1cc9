use Rattle.std.proofs.Common.{◌≡◌, ◌≢◌, ◌||◌, true, eqb, reverse, sym, ap, subst, ◌∙◌, arith}
use Rattle.std.proofs.lemmas.Bool.{eqb-true}
use Rattle.cache_core.proofs.Cases.{by_cases}
use Rattle.cache_core.proofs.Reuse.{has}
use Rattle.marked_list.specs.Log.{uses_of, is_stamped}
use Rattle.marked_list.specs.Marked.{order_of, marked_sizes, was_used}
use Rattle.marked_list.specs.Uses.{dead, has_stamp}
use Rattle.marked_list.proofs.LastUse.{has-get}
use Rattle.marked_list.proofs.Latest.{front-stays, level-front}
use Rattle.marked_list.proofs.Stamps.{used-stamped}
use Rattle.marked_list.proofs.marked.Marked.touch.Goals as goal

pub returns-then-is_latest-clause-level : goal.returns-then-is_latest-clause-level
unfolding order_of marked_sizes
returns-then-is_latest-clause-level c =
    let old = c.args.self.now in
    let latest = c.is_latest.ensures c.if-is_latest.true in
    let low : c.args.number ≢ dead = omega arith in
    level-front c.args.number low (uses_of old.uses) latest.0 latest.1 old.marks.items old.marked

pub returns-then-is_latest-clause-order : goal.returns-then-is_latest-clause-order
unfolding order_of uses_of
returns-then-is_latest-clause-order c =
    let old = c.args.self.now in
    let latest = c.is_latest.ensures c.if-is_latest.true in
    let low : c.args.number ≢ dead = omega arith in
    front-stays c.args.number low (uses_of old.uses) old.uses.once latest.0 latest.1

pub returns-then-is_latest-clause-used : goal.returns-then-is_latest-clause-used
unfolding was_used is_stamped uses_of
returns-then-is_latest-clause-used c = λ q.
    let uses = c.args.self.now.uses in
    let b = c.args.number in
    let ms = reverse uses.log.items in
    let latest = c.is_latest.ensures c.if-is_latest.true in
    let low : b ≢ dead = omega arith in
    by_cases (eqb b q)
    (λ e. subst (λ z. has_stamp uses.stamps.items z ≡ true) (eqb-true b q e)
    (used-stamped ms uses.stamps.items uses.stamped b low
    (subst (λ z. has ms z ≡ true) latest.1 (has-get ms 0 latest.0)))
    ∙ sym (ap (λ t. t || has_stamp uses.stamps.items q) e))
    (λ e. sym (ap (λ t. t || has_stamp uses.stamps.items q) e))
