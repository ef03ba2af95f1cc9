use Rattle.std.proofs.Common.{◌≡◌, ◌<◌, ◌+◌, ◌^◌, ℕ, List, length, reverse, cond, arith, refl}
use Rattle.std.proofs.Common.{sym, subst}
use Rattle.cache_core.specs.Residents.{distinct}
use Rattle.cache_core.proofs.Reuse.{has}
use Rattle.marked_list.specs.Log.{is_stamped}
use Rattle.marked_list.specs.Uses.{AreStamps, HaveStampRoom, forgotten, living, stamp_at}
use Rattle.marked_list.proofs.Stamps.{stamps-room, unstamped, unstamped-same}
use Rattle.marked_list.proofs.uses.Uses.clear.Goals as goal

pub unstamp_each-requires : goal.unstamp_each-requires
unstamp_each-requires c = let old = c.args.self.now in
    subst (λ l. HaveStampRoom l old.stamps.items) (sym c.keep_each.ensures)
    (stamps-room (reverse old.log.items) old.stamps.items old.stamped)

-- the stamps are told by the last uses
module _ (old stamps new kept : List ℕ) (same : reverse kept ≡ living (reverse old))
    (is : (q : ℕ) → stamp_at new q ≡ cond (has (reverse kept) q) forgotten (stamp_at stamps q))
  where
    told : (q : ℕ)
        → stamp_at new q ≡ cond (has (living (reverse old)) q) forgotten (stamp_at stamps q)
    told = subst
        (λ l. (q : ℕ) → stamp_at new q ≡ cond (has l q) forgotten (stamp_at stamps q)) same is

pub invariant_of-self : goal.invariant_of-self
invariant_of-self c = let old = c.args.self.now in
    let new = c.unstamp_each.new.stamps.items in
    let none = sym c.clear.ensures.items in
    record {
      stamped = subst (λ l. AreStamps (reverse l) new) none
          (unstamped (reverse old.log.items) old.stamps.items new old.stamped
          (told old.log.items old.stamps.items new c.keep_each.new.log.items c.keep_each.ensures
          c.unstamp_each.ensures));
      once = subst (λ (l : List ℕ). distinct (living (reverse l)) ≡ living (reverse l)) none refl;
      short = subst (λ (l : List ℕ). length l + 1 < 2 ^ 32) none (omega arith);
    }

pub returns-clause-used : goal.returns-clause-used
unfolding is_stamped
returns-clause-used c = λ q. let old = c.args.self.now in
    unstamped-same (reverse old.log.items) old.stamps.items c.unstamp_each.new.stamps.items
    old.stamped
    (told old.log.items old.stamps.items c.unstamp_each.new.stamps.items c.keep_each.new.log.items
    c.keep_each.ensures c.unstamp_each.ensures) q
