use Rattle.std.proofs.Common.{◌≡◌, ◌≢◌, ◌<◌, ◌-◌, ℕ, List, Some, length, get_or, set, unwrap_or}
use Rattle.std.proofs.Common.{arith, refl, sym, ap, subst, ◌∙◌}
use Rattle.std.proofs.lemmas.List.{set-get_or}
use Rattle.std.specs.List.{All}
use Rattle.marked_list.specs.Marks.{IsMark, covers}
use Rattle.marked_list.specs.Uses.{dead, living, used_next}
use Rattle.marked_list.proofs.Living.{once-is}
use Rattle.marked_list.proofs.Windows.{stays-inside}
use Rattle.shared_list.specs.declared.list.SharedList.{SharedList}
use Rattle.shared_list.specs.declared.log.Use.{Use}
use Rattle.shared_list.specs.declared.window.Window.{Window}
use Rattle.shared_list.specs.Log.{no_use, seen_by}
use Rattle.shared_list.specs.Shared.{order_by, size_of_list, users_of, was_used_by, window_of}
use Rattle.shared_list.specs.Stamps.{blocks_in, stamps_of}
use Rattle.shared_list.specs.Windows.{IsKept, mark_of, no_window}
use Rattle.shared_list.proofs.Seen.{length-same, number-at, numbers-low}
use Rattle.shared_list.proofs.SeenUses.{seen-more}
use Rattle.shared_list.proofs.Touching.{after, before-latest, kept-all, mark, more-seen, order-next}
use Rattle.shared_list.proofs.Touching.{order-stays, rest, unseen-latest, unused-then, used-stays}
use Rattle.shared_list.proofs.Touching.{used-then}
use Rattle.shared_list.proofs.list.SharedList.touch_near.Goals as goal

-- where a test said no, the use is not the latest one
not-latest : (l : SharedList) (n p : ℕ) → n ≡ length l.log.items → p ≢ n - 1
    → Some p ≢ Some (length l.log.items - 1)
not-latest l n p is ne e = ne (ap (λ o. unwrap_or o 0) e ∙ ap (λ k. k - 1) (sym is))

pub use_latest-requires-clause-before : goal.use_latest-requires-clause-before
unfolding users_of
use_latest-requires-clause-before c = let self = c.args.self.now in
    before-latest self c.args.user c.args.number c.requires.user c.requires.begun
    (Some c.args.place) (sym c.requires.last)
    (not-latest self c.len.result c.args.place (omega (arith, c.len.ensures, self.log.ok.0))
    c.if-place-len.true)

pub invariant_of-self : goal.invariant_of-self
unfolding users_of
invariant_of-self c = let self = c.args.self.now in
    let u = c.args.user in
    let b = c.args.number in
    let last = Some c.args.place in
    let is = sym c.requires.last in
    let lu = c.requires.user in
    let begun = c.requires.begun in
    let ne = not-latest self c.len.result c.args.place
    (omega (arith, c.len.ensures, self.log.ok.0)) c.if-place-len.true in
    let log = c.use_latest.new.log.items in
    let stamps = c.use_latest.new.stamps in
    let windows = self.windows.items in
    let w = window_of self u in
    let after-use = after self u b lu begun last is ne in
    let before = rest self u b lu begun last is ne in
    let seen = c.use_latest.ensures.seen before (unseen-latest self u b lu begun last is ne)
    after-use.once after-use.low after-use.before in
    let long = length-same log self.log.items c.use_latest.ensures.numbers in
    let moved : IsMark (used_next b before) (mark_of self.size w) =
    stays-inside before b after-use.low (once-is before after-use.once) (mark_of self.size w)
    (mark self u b lu begun last is ne)
    (sym (ap (covers w.place) after-use.before) ∙ c.requires.near) in
    let same : set windows u w ≡ windows = set-get_or windows u no_window in
    record {
      kept = subst (λ (l : List Window). (q : ℕ) → q < length l → IsKept self.size (seen_by q log)
          (stamps_of stamps q) (get_or l q no_window)) same
          (kept-all self u b lu begun last is ne log stamps w seen
          c.use_latest.ensures.others c.use_latest.ensures.stamps moved refl);
      users = c.use_latest.ensures.users ∙ self.users;
      few = self.few;
      none = λ q past lq. ap living (c.use_latest.ensures.others q lq
          (λ e. omega (arith, past, lu, e))) ∙ self.none q past lq;
      low = numbers-low dead self.log.items log c.use_latest.ensures.numbers self.low;
      room = subst (λ n. All (λ (z : Use). z.number < n) log)
          (sym c.use_latest.ensures.blocks) (numbers-low (blocks_in self.stamps) self.log.items log
          c.use_latest.ensures.numbers self.room);
      short = (let short = self.short in omega (arith, short, long));
      fit = c.use_latest.ensures.fit self.fit;
      long = (let below = self.long in omega (arith, below, long));
      limited = (let limited = self.limited in
          let more = seen-more self.log.items log (length windows)
          (more-seen self u b lu begun last is ne log stamps w seen
          c.use_latest.ensures.others c.use_latest.ensures.stamps moved refl) in
          omega (arith, limited, more));
    }

pub returns-then-place-len : goal.returns-then-place-len
unfolding order_by size_of_list users_of was_used_by
returns-then-place-len c = let self = c.args.self.now in
    let u = c.args.user in
    let b = c.args.number in
    let last = Some c.args.place in
    let is = sym c.requires.last in
    let lu = c.requires.user in
    let begun = c.requires.begun in
    let ne = not-latest self c.len.result c.args.place
    (omega (arith, c.len.ensures, self.log.ok.0)) c.if-place-len.true in
    let log = c.use_latest.new.log.items in
    let stamps = c.use_latest.new.stamps in
    let w = window_of self u in
    let after-use = after self u b lu begun last is ne in
    let before = rest self u b lu begun last is ne in
    let seen = c.use_latest.ensures.seen before (unseen-latest self u b lu begun last is ne)
    after-use.once after-use.low after-use.before in
    let long = length-same log self.log.items c.use_latest.ensures.numbers in
    record {
      order = order-next self u b lu begun last is ne log seen;
      others = λ q lq apart. let few = self.few in
          ap living (c.use_latest.ensures.others q (omega arith) apart);
      used = λ n. used-then self u b stamps c.use_latest.ensures.stamps n lu;
      unused = unused-then self u b stamps c.use_latest.ensures.stamps;
      begun = record {
        some = omega (arith, long, begun.some);
        room = omega (arith, begun.room, c.use_latest.ensures.blocks);
        block = ap (λ n. (get_or log (n - 1) (no_use 0)).number) long
            ∙ number-at log self.log.items (length self.log.items - 1)
            c.use_latest.ensures.numbers ∙ begun.block;
      };
      users = refl;
      size = refl;
    }

pub returns-else-place-len : goal.returns-else-place-len
unfolding order_by size_of_list users_of was_used_by
returns-else-place-len c = let self = c.args.self.now in
    let u = c.args.user in
    let b = c.args.number in
    let at = c.requires.last ∙ ap (λ k. Some k)
    (omega (arith, c.len.ensures, self.log.ok.0, c.if-place-len.false)) in
    record {
      order = order-stays self u b c.requires.user c.requires.begun at;
      others = λ q lq apart. refl;
      used = used-stays self u b c.requires.user c.requires.begun at;
      unused = λ q n lq apart. refl;
      begun = c.requires.begun;
      users = refl;
      size = refl;
    }
