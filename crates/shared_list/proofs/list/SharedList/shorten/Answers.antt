use Rattle.std.proofs.Common.{◌^◌, ◌≡◌, ◌<◌, ℕ, List, length, take, get_or, sym, ap, subst, ◌∙◌}
use Rattle.std.proofs.Common.{arith}
use Rattle.std.specs.List.{All}
use Rattle.std.proofs.lemmas.List.{get_or-map, length-map}
use Rattle.std.proofs.lemmas.List.Elements.{All-filter, filter_passes}
use Rattle.std.specs.Prelude.{unwrap_or}
use Rattle.marked_list.specs.Uses.{dead, last_in, living, stamp_at}
use Rattle.shared_list.specs.declared.log.Use.{Use}
use Rattle.shared_list.specs.declared.window.Window.{Window}
use Rattle.shared_list.specs.Log.{has_users, seen_by, seen_uses}
use Rattle.shared_list.specs.Shared.{order_by, users_of, was_used_by}
use Rattle.shared_list.specs.Stamps.{blocks_in, stamps_of, users_in}
use Rattle.shared_list.specs.Windows.{IsKept, at_place, no_window}
use Rattle.shared_list.proofs.Seen.{length-seen-by}
use Rattle.shared_list.proofs.Shortened.{few-kept, kept-shortened, kept_uses, known-shortened}
use Rattle.shared_list.proofs.Shortened.{living-shortened}
use Rattle.shared_list.proofs.SeenUses.{each-sees}
use Rattle.shared_list.proofs.list.SharedList.shorten.Goals as goal

pub restamp-requires-clause-short : goal.restamp-requires-clause-short
restamp-requires-clause-short c = let self = c.args.self.now in
    let all = ap (λ (l : List Use). length l) (c.deref-3.ensures.value ∙ c.keep_used.ensures) in
    omega (arith, all, few-kept self.log.items, self.short)

pub restamp-requires-clause-users : goal.restamp-requires-clause-users
restamp-requires-clause-users c = λ q past lq. let self = c.args.self.now in
    ap (λ l. living (seen_by q l)) (c.deref-3.ensures.value ∙ c.keep_used.ensures)
    ∙ living-shortened q self.log.items ∙ self.none q (omega (arith, past, self.users)) lq

pub restamp-requires-clause-low : goal.restamp-requires-clause-low
restamp-requires-clause-low c = let self = c.args.self.now in
    subst (All (λ (u : Use). u.number < dead))
    (sym (c.deref-3.ensures.value ∙ c.keep_used.ensures))
    (All-filter has_users (λ (u : Use). u.number < dead) self.log.items self.low)

pub restamp-requires-clause-room : goal.restamp-requires-clause-room
restamp-requires-clause-room c = let self = c.args.self.now in
    subst (All (λ (u : Use). u.number < blocks_in self.stamps))
    (sym (c.deref-3.ensures.value ∙ c.keep_used.ensures))
    (All-filter has_users (λ (u : Use). u.number < blocks_in self.stamps) self.log.items self.room)

pub invariant_of-self-2 : goal.invariant_of-self-2
invariant_of-self-2 c = let self = c.args.self.now in
    let log = self.log.items in
    let old = self.windows.items in
    let new = c.move_windows.new.windows.items in
    let stamps = c.restamp.new.stamps in
    let few = few-kept log in
    let same = c.deref-3.ensures.value ∙ c.keep_used.ensures in
    let long : length new ≡ length old = ap (λ (l : List Window). length l) c.move_windows.ensures
    ∙ length-map old (at_place c.deref-2.result.now) in
    record {
      kept = λ q lt. let lq : q < length old = omega (arith, lt, long) in
          let w = get_or old q no_window in
          let kept = self.kept q lq in
          let at : get_or c.deref-2.result.now w.place 0 ≡ length (kept_uses (take w.place log)) =
          ap (λ (l : List ℕ). get_or l w.place 0) c.deref-2.ensures.value
          ∙ c.in_ok-before.ensures.kept w.place
          (let all = ap (λ (l : List Use). length l) c.deref.ensures.value in
          omega (arith, all, kept.inside, length-seen-by q log))
          ∙ ap (λ l. length (kept_uses (take w.place l))) c.deref.ensures.value in
          let window : get_or new q no_window
          ≡ record { place = length (kept_uses (take w.place log)); used = w.used } =
          ap (λ l. get_or l q no_window) c.move_windows.ensures
          ∙ get_or-map (at_place c.deref-2.result.now) old q no_window no_window lq
          ∙ ap (λ p. record { place = p; used = w.used }) at in
          subst (λ l. IsKept self.size (seen_by q l) (stamps_of stamps q) (get_or new q no_window))
          (sym c.keep_used.ensures)
          (subst (IsKept self.size (seen_by q (kept_uses log)) (stamps_of stamps q)) (sym window)
          (kept-shortened q log self.size (stamps_of self.stamps q) w kept (stamps_of stamps q)
          self.short (λ n low. c.restamp.ensures.stamped q n (omega (arith, lq, self.users)) low
          ∙ ap (λ l. unwrap_or (last_in (seen_by q l) n) (stamp_at (stamps_of self.stamps q) n))
          same)));
      users = c.restamp.ensures.users ∙ self.users ∙ sym long;
      few = (let all = self.few in omega (arith, all, long));
      none = λ q past lq. ap (λ l. living (seen_by q l)) c.keep_used.ensures
          ∙ living-shortened q log ∙ self.none q (omega (arith, past, long)) lq;
      low = subst (All (λ (u : Use). u.number < dead)) (sym c.keep_used.ensures)
          (All-filter has_users (λ (u : Use). u.number < dead) log self.low);
      room = subst (λ n. All (λ (u : Use). u.number < n) c.keep_used.new.log.items)
          (sym c.restamp.ensures.blocks)
          (subst (All (λ (u : Use). u.number < blocks_in self.stamps)) (sym c.keep_used.ensures)
          (All-filter has_users (λ (u : Use). u.number < blocks_in self.stamps) log self.room));
      short = (let all = ap (λ (l : List Use). length l) c.keep_used.ensures in
          let short = self.short in omega (arith, all, few, short));
      fit = subst (All (λ (u : Use). u.users < 2 ^ 32)) (sym c.keep_used.ensures)
          (All-filter has_users (λ (u : Use). u.users < 2 ^ 32) log self.fit);
      long = omega (arith, c.len.ensures, c.keep_used.new.log.ok.0);
      limited = (let kept = kept_uses log in
          let sees = each-sees (length new) kept (filter_passes has_users log)
          (All-filter has_users (λ (u : Use). u.users < 2 ^ 32) log self.fit)
          (All-filter has_users (λ (u : Use). u.number < dead) log self.low)
          (λ q past lq. ap (λ (l : List ℕ). length l) (living-shortened q log
          ∙ self.none q (omega (arith, past, long)) lq)) in
          let is = ap (λ (l : List Use). length l) c.keep_used.ensures in
          let same = ap (λ l. seen_uses l (length new)) c.keep_used.ensures in
          omega (arith, sees, is, same, c.len.ensures, c.keep_used.new.log.ok.0));
    }

pub returns-clause-order : goal.returns-clause-order
unfolding order_by
returns-clause-order c = λ q. ap (λ l. living (seen_by q l)) c.keep_used.ensures
    ∙ living-shortened q c.args.self.now.log.items

pub returns-clause-used : goal.returns-clause-used
unfolding was_used_by users_of
returns-clause-used c = λ q b lt. let self = c.args.self.now in
    let log = self.log.items in
    let few : q < users_in self.stamps = omega (arith, lt, self.users) in
    known-shortened q log self.size (stamps_of self.stamps q)
    (get_or self.windows.items q no_window)
    (self.kept q lt) (stamps_of c.restamp.new.stamps q) self.short
    (λ n low. c.restamp.ensures.stamped q n few low
    ∙ ap (λ l. unwrap_or (last_in (seen_by q l) n) (stamp_at (stamps_of self.stamps q) n))
    (c.deref-3.ensures.value ∙ c.keep_used.ensures))
    (c.restamp.ensures.no_block q few) b
