use Rattle.std.proofs.Common.{◌^◌, ◌≡◌, ◌<◌, ℕ, List, [], length, get_or, cond, refl, sym, ap}
use Rattle.std.proofs.Common.{subst, ◌∙◌, arith}
use Rattle.std.specs.List.{All}
use Rattle.cache_core.proofs.Nothing.{take_none}
use Rattle.cache_core.proofs.Reuse.{has}
use Rattle.marked_list.specs.Uses.{dead, forgotten, living, stamp_at}
use Rattle.marked_list.proofs.Stamps.{unstamped, unstamped-same}
use Rattle.shared_list.specs.declared.log.Use.{Use}
use Rattle.shared_list.specs.Log.{seen_by}
use Rattle.shared_list.specs.Shared.{users_of, was_used_by}
use Rattle.shared_list.specs.Stamps.{blocks_in, stamps_of}
use Rattle.shared_list.specs.Windows.{IsKept, no_window}
use Rattle.shared_list.proofs.list.SharedList.clear.Goals as goal

-- nothing is kept of an empty log
kept-none : (size : ℕ) (stamps : List ℕ) → 0 < size
    → Rattle.marked_list.specs.Uses.AreStamps [] stamps → IsKept size [] stamps no_window
kept-none size stamps some stamped = record {
  stamped = stamped;
  once = refl;
  used = refl;
  mark = record { some = some; within = omega arith; window = take_none size };
  inside = omega arith;
  fresh = λ e. refl;
}

pub invariant_of-self : goal.invariant_of-self
invariant_of-self c = let self = c.args.self.now in
    let log = self.log.items in
    let old = self.windows.items in
    let new = c.restart_each.new.windows.items in
    let none = c.clear.ensures.items in
    let long : length new ≡ length old = c.restart_each.ensures.len in
    record {
      kept = λ q lt. let lq : q < length old = omega (arith, lt, long) in
          let window : get_or new q no_window ≡ no_window = c.restart_each.ensures.each q lq in
          subst (λ l. IsKept self.size (seen_by q l) (stamps_of c.unstamp.new.stamps q)
          (get_or new q no_window)) (sym none)
          (subst (IsKept self.size [] (stamps_of c.unstamp.new.stamps q)) (sym window)
          (kept-none self.size (stamps_of c.unstamp.new.stamps q) (self.kept q lq).mark.some
          (unstamped (seen_by q log) (stamps_of self.stamps q) (stamps_of c.unstamp.new.stamps q)
          (self.kept q lq).stamped
          (λ n. c.unstamp.ensures.forgotten q n (omega (arith, lq, self.users))
          ∙ ap (λ l. cond (has (living (seen_by q l)) n) forgotten
          (stamp_at (stamps_of self.stamps q) n)) c.deref.ensures.value))));
      users = c.unstamp.ensures.users ∙ self.users ∙ sym long;
      few = (let all = self.few in omega (arith, all, long));
      none = λ q past lq. ap (λ l. living (seen_by q l)) none;
      low = subst (All (λ (u : Use). u.number < dead)) (sym none)
          (λ k d lt. absurd (omega (arith, lt)));
      room = subst (All (λ (u : Use). u.number < blocks_in c.unstamp.new.stamps)) (sym none)
          (λ k d lt. absurd (omega (arith, lt)));
      short = (let all = ap (λ (l : List Use). length l) none in omega (arith, all));
      fit = subst (All (λ (u : Use). u.users < 2 ^ 32)) (sym none)
          (λ k d lt. absurd (omega (arith, lt)));
      long = (let all = ap (λ (l : List Use). length l) none in omega (arith, all));
      limited = omega arith;
    }

pub returns-clause-used : goal.returns-clause-used
unfolding was_used_by users_of
returns-clause-used c = λ q b lt. let self = c.args.self.now in
    unstamped-same (seen_by q self.log.items) (stamps_of self.stamps q)
    (stamps_of c.unstamp.new.stamps q) (self.kept q lt).stamped
    (λ n. c.unstamp.ensures.forgotten q n (omega (arith, lt, self.users))
    ∙ ap (λ l. cond (has (living (seen_by q l)) n) forgotten
    (stamp_at (stamps_of self.stamps q) n)) c.deref.ensures.value) b
