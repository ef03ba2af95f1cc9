use Rattle.std.proofs.Common.{◌≡◌, ◌≢◌, ◌<◌, ◌+◌, ◌++◌, ◌∷◌, ◌||◌, [], ℕ, List, length, reverse}
use Rattle.std.proofs.Common.{not, eqb, Option, arith, sym, ap, subst, ◌∙◌}
use Rattle.std.proofs.lemmas.List.{length-append, length-reverse}
use Rattle.cache_core.specs.Residents.{distinct}
use Rattle.marked_list.specs.Log.{uses_of, is_stamped}
use Rattle.marked_list.specs.Uses.{AreStamps, dead, forgotten, last_in, living, never}
use Rattle.marked_list.specs.Uses.{stamped_place, used_next, with_dead}
use Rattle.marked_list.proofs.LastUse.{last-there}
use Rattle.marked_list.proofs.Living.{log-next, length-buried, once-is, once-next}
use Rattle.marked_list.proofs.Stamps.{stamps-next, stamped-next}
use Rattle.marked_list.proofs.uses.Uses.add.Goals as goal

pub bury-requires : goal.bury-requires
unfolding uses_of
bury-requires c = λ p is.
    let log = c.args.self.now.log.items in
    let below = (last-there (reverse log) c.args.number p (sym c.requires.last ∙ is)).0 in
    omega (
      arith,
      below,
      length-reverse log,
      length-append log (c.args.number ∷ []),
      ap (λ (l : List ℕ). length l) c.in_ok-note.ensures.log,
    )

-- the log after a use is what it is to be
module _ (old pushed new : List ℕ) (b : ℕ) (last : Option ℕ) (low : b ≢ dead)
    (once : distinct (living (reverse old)) ≡ living (reverse old))
    (is : last ≡ last_in (reverse old) b) (push : pushed ≡ old ++ b ∷ [])
    (bury : new ≡ with_dead pushed last) where
  next : reverse new ≡ used_next b (reverse old)
  next = ap (λ (l : List ℕ). reverse l) (bury ∙ ap (λ l. with_dead l last) push)
      ∙ log-next old b (once-is (reverse old) once) low last (sym is)

  longer : length new ≡ length old + 1
  longer = sym (length-reverse new) ∙ ap (λ (l : List ℕ). length l) next
      ∙ (let long = length-buried b (reverse old) in omega (arith, long, length-reverse old))

pub invariant_of-self-2 : goal.invariant_of-self-2
unfolding uses_of
invariant_of-self-2 c =
    let old = c.args.self.now in
    let b = c.args.number in
    let log = old.log.items in
    let new = c.bury.new.log.items in
    let stamps = c.note.new.stamps.items in
    let low : b ≢ dead = omega (arith, c.requires.low) in
    let small : length log < forgotten =
    omega (arith, c.if-len.false, c.len.ensures, old.log.ok.0) in
    let after = next log c.note.new.log.items new b c.args.last low old.once c.requires.last
    c.in_ok-note.ensures.log c.bury.ensures in
    let long = longer log c.note.new.log.items new b c.args.last low old.once c.requires.last
    c.in_ok-note.ensures.log c.bury.ensures in
    record {
      stamped = subst (λ l. AreStamps l stamps) (sym after)
          (stamps-next c.grow.new.stamps.items stamps b (length log) small
          c.in_ok-note.ensures.stamps (reverse log)
          (λ q ne. ap stamped_place (c.grow.ensures.kept q) ∙ old.stamped q ne)
          (sym (length-reverse log)));
      once = subst (λ l. distinct (living l) ≡ living l) (sym after)
          (once-next b (reverse log) low old.once);
      short = omega (arith, long, small);
    }

pub returns-clause-added : goal.returns-clause-added
unfolding uses_of
returns-clause-added c =
    let old = c.args.self.now in
    next old.log.items c.note.new.log.items c.bury.new.log.items c.args.number c.args.last
    (omega (arith, c.requires.low)) old.once c.requires.last c.in_ok-note.ensures.log
    c.bury.ensures

pub returns-clause-used : goal.returns-clause-used
unfolding is_stamped
returns-clause-used c = λ q.
    let old = c.args.self.now in
    let log = old.log.items in
    let small : length log < forgotten =
    omega (arith, c.if-len.false, c.len.ensures, old.log.ok.0) in
    stamped-next c.grow.new.stamps.items c.note.new.stamps.items c.args.number (length log) small
    c.in_ok-note.ensures.stamps q
    ∙ ap (λ n. eqb c.args.number q || not (eqb n never)) (c.grow.ensures.kept q)
