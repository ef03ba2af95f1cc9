use Rattle.std.proofs.Common.{◌≡◌, ◌<◌, ◌≤◌, ◌+◌, ◌^◌, ℕ, List, length, reverse, arith, sym, ap}
use Rattle.std.proofs.Common.{subst, ◌∙◌}
use Rattle.std.specs.Prelude.{unwrap_or}
use Rattle.std.proofs.lemmas.List.{length-reverse}
use Rattle.cache_core.specs.Residents.{distinct}
use Rattle.marked_list.specs.Log.{is_stamped}
use Rattle.marked_list.specs.Uses.{AreStamps, HaveStampRoom, forgotten, last_in, living, stamp_at}
use Rattle.marked_list.proofs.Counted.{living-le}
use Rattle.marked_list.proofs.Living.{living-twice}
use Rattle.marked_list.proofs.Stamps.{stamps-room, restamped, restamped-same}
use Rattle.marked_list.proofs.uses.Uses.shorten.Goals as goal

no-longer : (old new : List ℕ) → reverse new ≡ living (reverse old) → length old + 1 < 2 ^ 32
    → length new + 1 < 2 ^ 32
no-longer old new e lt = let long = ap (λ (l : List ℕ). length l) e in
    omega (arith, long, length-reverse new, length-reverse old, living-le (reverse old))

pub restamp_each-requires-clause-short : goal.restamp_each-requires-clause-short
restamp_each-requires-clause-short c = let old = c.args.self.now in
    omega (arith, no-longer old.log.items c.keep_each.new.log.items c.keep_each.ensures old.short)

pub restamp_each-requires-clause-room : goal.restamp_each-requires-clause-room
restamp_each-requires-clause-room c = let old = c.args.self.now in
    subst (λ l. HaveStampRoom l old.stamps.items) (sym c.keep_each.ensures)
    (stamps-room (reverse old.log.items) old.stamps.items old.stamped)

-- the stamps are told by the last uses
module _ (old stamps new kept : List ℕ) (same : reverse kept ≡ living (reverse old))
    (is : (q : ℕ) → stamp_at new q ≡ unwrap_or (last_in (reverse kept) q) (stamp_at stamps q)) where
  told : (q : ℕ) → stamp_at new q ≡ unwrap_or (last_in (living (reverse old)) q) (stamp_at stamps q)
  told = subst (λ l. (q : ℕ) → stamp_at new q ≡ unwrap_or (last_in l q) (stamp_at stamps q)) same is

small : (log : List ℕ) → length log + 1 < 2 ^ 32 → length (reverse log) ≤ forgotten
small log lt = omega (arith, length-reverse log)

pub invariant_of-self : goal.invariant_of-self
invariant_of-self c =
    let old = c.args.self.now in
    let log = old.log.items in
    let ms = reverse log in
    let new = c.restamp_each.new.stamps.items in
    record {
      stamped = subst (λ l. AreStamps l new) (sym c.keep_each.ensures)
          (restamped ms old.stamps.items new old.stamped (small log old.short)
          (told log old.stamps.items new c.keep_each.new.log.items c.keep_each.ensures
          c.restamp_each.ensures));
      once = subst (λ l. distinct (living l) ≡ living l) (sym c.keep_each.ensures)
          (ap distinct (living-twice ms) ∙ old.once ∙ sym (living-twice ms));
      short = no-longer log c.keep_each.new.log.items c.keep_each.ensures old.short;
    }

pub returns-clause-used : goal.returns-clause-used
unfolding is_stamped
returns-clause-used c = λ q.
    let old = c.args.self.now in
    let log = old.log.items in
    restamped-same (reverse log) old.stamps.items c.restamp_each.new.stamps.items old.stamped
    (small log old.short)
    (told log old.stamps.items c.restamp_each.new.stamps.items c.keep_each.new.log.items
    c.keep_each.ensures c.restamp_each.ensures) q
