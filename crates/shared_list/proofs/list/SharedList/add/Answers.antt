use Rattle.std.proofs.Common.{ℕ, ap, List, length, get_or, ◌∙◌, arith}
use Rattle.std.specs.Result.{is_ok}
use Rattle.marked_list.specs.Uses.{dead}
use Rattle.shared_list.specs.Log.{seen_by}
use Rattle.shared_list.specs.Stamps.{blocks_in, stamps_of}
use Rattle.shared_list.specs.Windows.{no_window}
use Rattle.shared_list.proofs.Adding.{below-either, fit-either, kept-either, length-either}
use Rattle.shared_list.proofs.Adding.{living-either}
use Rattle.shared_list.proofs.SeenUses.{seen-more}
use Rattle.shared_list.proofs.Kept.{kept-same}
use Rattle.shared_list.proofs.list.SharedList.add.Goals as goal

pub invariant_of-self : goal.invariant_of-self
invariant_of-self c = let self = c.args.self.now in
    record {
      kept = λ q lt. kept-same self.size (seen_by q self.log.items) (stamps_of self.stamps q)
          (stamps_of c.grow.new.self q) (get_or self.windows.items q no_window) (self.kept q lt)
          (λ n. c.grow.ensures.kept q n (omega (arith, lt, self.users)));
      users = c.grow.ensures.users ∙ self.users;
      few = self.few;
      none = self.none;
      low = self.low;
      room = λ k d lt. let room = self.room k d lt in omega (arith, room, c.grow.ensures.more);
      short = self.short;
      fit = self.fit;
      long = self.long;
      limited = self.limited;
    }

pub invariant_of-self-2 : goal.invariant_of-self-2
invariant_of-self-2 c = let self = c.args.self.now in
    let log = self.log.items in
    let new = c.push.new.self.items in
    let t = is_ok c.push.result in
    let n = c.args.number in
    let is = c.push.ensures.items in
    record {
      kept = λ q lt. kept-either t n log new is self.size q (stamps_of c.grow.new.self q)
          (get_or self.windows.items q no_window)
          (kept-same self.size (seen_by q log) (stamps_of self.stamps q)
          (stamps_of c.grow.new.self q) (get_or self.windows.items q no_window) (self.kept q lt)
          (λ k. c.grow.ensures.kept q k (omega (arith, lt, self.users))));
      users = c.grow.ensures.users ∙ self.users;
      few = self.few;
      none = λ q past lq. living-either t n log new is q ∙ self.none q past lq;
      low = below-either t n log new is dead c.requires.low self.low;
      room = below-either t n log new is (blocks_in c.grow.new.self) c.in_ok-grow.ensures.room
          (λ k d lt. let room = self.room k d lt in omega (arith, room, c.grow.ensures.more));
      short = (let few = length-either t n log new is in
          omega (arith, few, c.if-len.false, c.len.ensures, self.log.ok.0));
      fit = fit-either t n log new is self.fit;
      long = (let few = length-either t n log new is in omega (arith, few, c.requires.room));
      limited = (let limited = self.limited in
          let more = seen-more log new (length self.windows.items)
          (λ q lt. let same = ap (λ (l : List ℕ). length l) (living-either t n log new is q) in
          omega (arith, same)) in
          omega (arith, limited, more));
    }
