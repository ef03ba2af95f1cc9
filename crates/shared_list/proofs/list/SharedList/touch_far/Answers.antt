use Rattle.std.proofs.Common.{◌≡◌, ◌<◌, ◌-◌, length, get_or, arith}
use Rattle.std.proofs.Common.{refl, sym, ap, subst, ◌∙◌}
use Rattle.std.proofs.lemmas.List.{get_or_default, length-set}
use Rattle.std.specs.List.{All}
use Rattle.marked_list.specs.Marks.{IsMark, IsUseAfter, counted_with, covers}
use Rattle.marked_list.specs.Uses.{dead, living}
use Rattle.shared_list.specs.declared.log.Use.{Use}
use Rattle.shared_list.specs.declared.window.Window.{Window}
use Rattle.shared_list.specs.Log.{no_use, seen_by, seen_uses}
use Rattle.shared_list.specs.Shared.{order_by, size_of_list, users_of, was_used_by, window_of}
use Rattle.shared_list.specs.Stamps.{blocks_in}
use Rattle.shared_list.specs.Windows.{mark_of, no_window}
use Rattle.shared_list.proofs.Seen.{length-same, number-at, numbers-low}
use Rattle.shared_list.proofs.SeenUses.{seen-more}
use Rattle.shared_list.proofs.Touching.{after, before-latest, far-before, few-used, kept-all, mark}
use Rattle.shared_list.proofs.Touching.{more-seen, order-next, rest, unseen-latest, unused-then}
use Rattle.shared_list.proofs.Touching.{used-then}
use Rattle.shared_list.proofs.list.SharedList.touch_far.Goals as goal

pub use_latest-requires-clause-before : goal.use_latest-requires-clause-before
unfolding users_of
use_latest-requires-clause-before c = let self = c.args.self.now in
    let last = c.args.last in
    let lu = c.requires.user in
    let begun = c.requires.begun in
    before-latest self c.args.user c.args.number lu begun last c.requires.last
    (far-before self c.args.user c.args.number lu begun last c.requires.last c.requires.far)

pub window_after-requires-clause-low : goal.window_after-requires-clause-low
window_after-requires-clause-low c = subst (All (λ (u : Use). u.number < dead))
    (sym c.deref.ensures.value)
    (numbers-low dead c.args.self.now.log.items c.use_latest.new.log.items
    c.use_latest.ensures.numbers
    c.args.self.now.low)

pub window_after-requires-clause-used : goal.window_after-requires-clause-used
unfolding users_of
window_after-requires-clause-used c = let self = c.args.self.now in
    let last = c.args.last in
    let lu = c.requires.user in
    let begun = c.requires.begun in
    let few = few-used self c.args.user c.args.number lu begun last c.requires.last
    (far-before self c.args.user c.args.number lu begun last c.requires.last c.requires.far) in
    let is = ap (λ (w : Window). w.used) (c.index-window.ensures
    ∙ get_or_default self.windows.items c.args.user c.index-window.result.now no_window
    c.requires.user) in
    omega (arith, few, is)

pub window_after-requires-clause-far : goal.window_after-requires-clause-far
unfolding users_of
window_after-requires-clause-far c = let self = c.args.self.now in
    ap (λ (w : Window). covers w.place c.args.last) (c.index-window.ensures
    ∙ get_or_default self.windows.items c.args.user c.index-window.result.now no_window
    c.requires.user) ∙ c.requires.far

pub invariant_of-self : goal.invariant_of-self
unfolding users_of
invariant_of-self c = let self = c.args.self.now in
    let u = c.args.user in
    let b = c.args.number in
    let last = c.args.last in
    let is = c.requires.last in
    let lu = c.requires.user in
    let begun = c.requires.begun in
    let ne = far-before self u b lu begun last is c.requires.far in
    let log = c.use_latest.new.log.items in
    let v = c.window_after.result in
    let w = window_of self u in
    let after-use = after self u b lu begun last is ne in
    let seen = c.use_latest.ensures.seen (rest self u b lu begun last is ne)
    (unseen-latest self u b lu begun last is ne) after-use.once after-use.low after-use.before in
    let window : c.index-window.result.now ≡ w = c.index-window.ensures
    ∙ get_or_default self.windows.items u c.index-window.result.now no_window lu in
    let same = c.deref.ensures.value in
    let long = length-same log self.log.items c.use_latest.ensures.numbers in
    let moved = c.window_after.ensures.mark (rest self u b lu begun last is ne) b
    (ap (seen_by u) same ∙ seen)
    (subst (λ (z : Window). IsUseAfter (rest self u b lu begun last is ne) b last z.used)
    (sym window) after-use)
    (subst (λ (z : Window). IsMark (rest self u b lu begun last is ne)
    (mark_of self.size z)) (sym window) (mark self u b lu begun last is ne)) in
    let used = c.window_after.ensures.used
    ∙ ap (λ (z : Window). counted_with last z.used) window in
    record {
      kept = kept-all self u b lu begun last is ne log c.use_latest.new.stamps v seen
          c.use_latest.ensures.others c.use_latest.ensures.stamps
          moved used;
      users = c.use_latest.ensures.users ∙ self.users ∙ sym (length-set self.windows.items u v);
      few = (let few = self.few in omega (arith, few, length-set self.windows.items u v));
      none = λ q past lq. ap living (c.use_latest.ensures.others q lq
          (λ e. let few = length-set self.windows.items u v in omega (arith, past, few, lu, e)))
          ∙ self.none q
          (let few = length-set self.windows.items u v in omega (arith, past, few)) lq;
      low = numbers-low dead self.log.items log c.use_latest.ensures.numbers self.low;
      room = subst (λ n. All (λ (z : Use). z.number < n) log)
          (sym c.use_latest.ensures.blocks) (numbers-low (blocks_in self.stamps) self.log.items log
          c.use_latest.ensures.numbers self.room);
      short = (let short = self.short in omega (arith, short, long));
      fit = c.use_latest.ensures.fit self.fit;
      long = (let below = self.long in omega (arith, below, long));
      limited = (let limited = self.limited in
          let more = seen-more self.log.items log (length self.windows.items)
          (more-seen self u b lu begun last is ne log c.use_latest.new.stamps v seen
          c.use_latest.ensures.others c.use_latest.ensures.stamps moved used) in
          let all = ap (seen_uses log) (length-set self.windows.items u v) in
          omega (arith, limited, more, all));
    }

pub returns : goal.returns
unfolding order_by size_of_list users_of was_used_by
returns c = let self = c.args.self.now in
    let u = c.args.user in
    let b = c.args.number in
    let last = c.args.last in
    let is = c.requires.last in
    let lu = c.requires.user in
    let begun = c.requires.begun in
    let ne = far-before self u b lu begun last is c.requires.far in
    let log = c.use_latest.new.log.items in
    let stamps = c.use_latest.new.stamps in
    let after-use = after self u b lu begun last is ne in
    let long = length-same log self.log.items c.use_latest.ensures.numbers in
    record {
      order = order-next self u b lu begun last is ne log
          (c.use_latest.ensures.seen (rest self u b lu begun last is ne)
          (unseen-latest self u b lu begun last is ne) after-use.once after-use.low
          after-use.before);
      others = λ q lq apart. let few = self.few in
          ap living (c.use_latest.ensures.others q (omega arith) apart);
      used = λ n. used-then self u b stamps c.use_latest.ensures.stamps n lu;
      unused = unused-then self u b stamps c.use_latest.ensures.stamps;
      begun = record {
        some = omega (arith, long, begun.some);
        room = omega (arith, begun.room, c.use_latest.ensures.blocks);
        block = ap (λ n. (get_or log (n - 1) (no_use 0)).number) long
            ∙ number-at log self.log.items (length self.log.items - 1)
            c.use_latest.ensures.numbers ∙ begun.block;
      };
      users = length-set self.windows.items u c.window_after.result;
      size = refl;
    }
