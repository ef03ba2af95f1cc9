-- A list when a user uses the block of the use that was begun.
use Rattle.std.proofs.Common.{◌≤◌, ◌≡◌, ◌≢◌, ℕ, Bool, ◌-◌, ◌^◌, ◌<◌, ◌&&◌, ◌||◌, not, true, false}
use Rattle.std.proofs.Common.{cond, eqb, ltb, List, ◌∷◌, length, set, get_or, Option, Some, None}
use Rattle.std.proofs.Common.{arith, get_or-set_same, get_or-set_other}
use Rattle.std.proofs.Common.{refl, sym, ap, subst, ◌∙◌}
use Rattle.std.proofs.lemmas.Bool.{eqb-true, eqb-false, eq-eqb, le-ltb, ltb-true, ltb-false}
use Rattle.std.proofs.lemmas.Bool.{ne_eqb, true≢false}
use Rattle.std.proofs.lemmas.Option.{none-some}
use Rattle.std.proofs.lemmas.List.{get_or-reverse, length-set}
use Rattle.cache_core.proofs.Cases.{by_cases}
use Rattle.marked_list.specs.Marks.{IsMark, IsUseAfter, counted_with, covers}
use Rattle.marked_list.specs.Recency.{brought_front, is_among}
use Rattle.marked_list.specs.Uses.{dead, has_stamp, last_in, living, never, stamp_at, stamped_place}
use Rattle.marked_list.specs.Uses.{used_next}
use Rattle.marked_list.proofs.Counted.{count-next, living-le}
use Rattle.marked_list.proofs.LastUse.{last-there}
use Rattle.marked_list.proofs.Latest.{front-stays}
use Rattle.marked_list.proofs.Living.{living-next}
use Rattle.marked_list.proofs.Windows.{mark-covers}
use Rattle.shared_list.specs.declared.list.SharedList.{SharedList}
use Rattle.shared_list.specs.declared.log.Use.{Use}
use Rattle.shared_list.specs.declared.stamps.Stamps.{Stamps}
use Rattle.shared_list.specs.declared.window.Window.{Window}
use Rattle.shared_list.specs.Log.{no_use, seen_by}
use Rattle.shared_list.specs.Shared.{IsBegun, window_of}
use Rattle.shared_list.specs.Stamps.{stamps_of, users_in}
use Rattle.shared_list.specs.Windows.{IsKept, mark_of, no_window}
use Rattle.shared_list.proofs.Kept.{after-rest, kept-next, kept-same, last-rest, living-rest}
use Rattle.shared_list.proofs.Kept.{mark-rest, unseen}
use Rattle.shared_list.proofs.Kept as kept
use Rattle.shared_list.proofs.Seen.{length-seen-by}

-- the number of a block is not the one that stands for a dead use
pub begun-low : (l : SharedList) (b : ℕ) → IsBegun l b → b ≢ dead
begun-low l b begun e = let some = begun.some in
    let low = l.low (length l.log.items - 1) (no_use 0) (omega (arith, some)) in
    omega (arith, low, begun.block, e)

counted-more : (last : Option ℕ) (n : ℕ) → n ≤ counted_with last n
counted-more None n = omega arith
counted-more (Some place) n = omega arith

-- where the latest use is one of the user already, nothing is to do
module _ (self : SharedList) (u b : ℕ) (lu : u < length self.windows.items)
    (begun : IsBegun self b)
    (at : last_in (seen_by u self.log.items) b ≡ Some (length self.log.items - 1)) where
  abbrev seen-there : List ℕ
  seen-there = seen_by u self.log.items

  long-there : length seen-there ≡ length self.log.items
  long-there = length-seen-by u self.log.items

  first-is : get_or seen-there 0 0 ≡ b
  first-is = let there = last-there seen-there b (length self.log.items - 1) at in
      sym (get_or-reverse seen-there (length self.log.items - 1) 0
      (omega (arith, begun.some, long-there))
      ∙ ap (λ i. get_or seen-there i 0)
      (let e : length seen-there - 1 - (length self.log.items - 1) ≡ 0 =
      omega (arith, begun.some, long-there) in e))
      ∙ there.1

  pub order-stays : living seen-there ≡ brought_front b (living seen-there)
  order-stays = front-stays b (begun-low self b begun) seen-there (self.kept u lu).once
      (omega (arith, begun.some, long-there)) first-is

  -- and it was used before
  pub used-stays : (n : ℕ) → has_stamp (stamps_of self.stamps u) n
      ≡ (eqb b n || has_stamp (stamps_of self.stamps u) n)
  used-stays n = by_cases (eqb b n)
      (λ e. subst (λ k. has_stamp (stamps_of self.stamps u) k ≡ true) (eqb-true b n e) stamp-there
      ∙ sym (ap (λ t. t || has_stamp (stamps_of self.stamps u) n) e))
      (λ e. sym (ap (λ t. t || has_stamp (stamps_of self.stamps u) n) e))
    where
      stamp-there : has_stamp (stamps_of self.stamps u) b ≡ true
      stamp-there = by_cases (eqb (stamp_at (stamps_of self.stamps u) b) never)
          (λ e. let none : stamped_place (stamp_at (stamps_of self.stamps u) b) ≡ None =
          ap stamped_place (eqb-true (stamp_at (stamps_of self.stamps u) b) never e) in
          absurd (none-some (length self.log.items - 1) (sym none
          ∙ (self.kept u lu).stamped b (begun-low self b begun) ∙ at)))
          (λ e. ap not e)

differ : (u q : ℕ) → q ≢ u → eqb u q ≡ false
differ u q apart = by_cases (eqb u q) (λ e. absurd (apart (sym (eqb-true u q e)))) (λ e. e)

-- which user used which block, once the user has its stamp
module _ (self : SharedList) (u b : ℕ) (stamps : Stamps)
    (stamped : (q n : ℕ) → q < users_in self.stamps → stamp_at (stamps_of stamps q) n
    ≡ cond (eqb b n && eqb u q) (length self.log.items - 1)
    (stamp_at (stamps_of self.stamps q) n)) where
  abbrev pick : ℕ → ℕ → Bool → ℕ
  pick q n t = cond t (length self.log.items - 1) (stamp_at (stamps_of self.stamps q) n)

  pub used-then : (n : ℕ) → u < length self.windows.items → has_stamp (stamps_of stamps u) n
      ≡ (eqb b n || has_stamp (stamps_of self.stamps u) n)
  used-then n lu = ap (λ k. not (eqb k never)) (stamped u n (omega (arith, lu, self.users))
      ∙ ap (λ t. pick u n (eqb b n && t)) (eq-eqb u u refl)) ∙ by_cases (eqb b n)
      (λ e. ap (λ t. not (eqb (pick u n (t && true)) never)) e
      ∙ ap not (ne_eqb (length self.log.items - 1) never (λ same. let short = self.short in
      absurd (omega (arith, same, short))))
      ∙ sym (ap (λ t. t || has_stamp (stamps_of self.stamps u) n) e))
      (λ e. ap (λ t. not (eqb (pick u n (t && true)) never)) e
      ∙ sym (ap (λ t. t || has_stamp (stamps_of self.stamps u) n) e))

  pub unused-then : (q n : ℕ) → q < length self.windows.items → q ≢ u
      → has_stamp (stamps_of stamps q) n ≡ has_stamp (stamps_of self.stamps q) n
  unused-then q n lq apart = ap (λ k. not (eqb k never))
      (stamped q n (omega (arith, lq, self.users)) ∙ by_cases (eqb b n)
      (λ e. ap (λ t. pick q n (t && eqb u q)) e ∙ ap (pick q n) (differ u q apart))
      (λ e. ap (λ t. pick q n (t && eqb u q)) e))

-- whether the window has the last use of the block
module _ (self : SharedList) (u b : ℕ) (lu : u < length self.windows.items)
    (begun : IsBegun self b) (last : Option ℕ)
    (last-is : last ≡ last_in (seen_by u self.log.items) b) where
  pub window-has : covers (window_of self u).place last
      ≡ is_among b (living (seen_by u self.log.items)) self.size
  window-has = ap (covers (window_of self u).place) last-is
      ∙ mark-covers (seen_by u self.log.items) b (begun-low self b begun)
      (mark_of self.size (window_of self u)) (self.kept u lu).mark

  -- where it does not, that is not the latest use of all
  pub far-before : covers (window_of self u).place last ≡ false
      → last ≢ Some (length self.log.items - 1)
  far-before far e = absurd (true≢false (sym (ap (covers (window_of self u).place) e
      ∙ ap not (le-ltb (length self.log.items - 1) (window_of self u).place
      (omega (arith, (self.kept u lu).inside, length-seen-by u self.log.items)))) ∙ far))

module _ (self : SharedList) (u b : ℕ) (lu : u < length self.windows.items)
    (begun : IsBegun self b) (last : Option ℕ)
    (last-is : last ≡ last_in (seen_by u self.log.items) b)
    (before : last ≢ Some (length self.log.items - 1)) where
  abbrev log : List Use
  log = self.log.items

  abbrev w : Window
  w = get_or self.windows.items u no_window

  abbrev stamps : List ℕ
  stamps = stamps_of self.stamps u

  pub low : b ≢ dead
  low = begun-low self b begun

  pub ne : last_in (seen_by u log) b ≢ Some (length log - 1)
  ne e = before (last-is ∙ e)

  was : IsKept self.size (seen_by u log) stamps w
  was = self.kept u lu

  abbrev pub rest : List ℕ
  rest = kept.rest log u b begun.some begun.block low ne

  pub unseen-latest : seen_by u log ≡ dead ∷ rest
  unseen-latest = unseen log u b begun.some begun.block low ne

  pub living-same : living (seen_by u log) ≡ living rest
  living-same = living-rest log u b begun.some begun.block low ne self.size stamps w was

  pub after : IsUseAfter rest b last w.used
  after = subst (λ l. IsUseAfter rest b l w.used)
      (sym (last-is ∙ last-rest log u b begun.some begun.block low ne self.size stamps w was))
      (after-rest log u b begun.some begun.block low ne self.size stamps w was)

  pub mark : IsMark rest (mark_of self.size w)
  mark = mark-rest log u b begun.some begun.block low ne self.size stamps w was

  -- the last use stands before the latest one
  pub before-latest : (p : ℕ) → last ≡ Some p → p < length log - 1
  before-latest p e = by_cases (ltb p (length log - 1))
      (λ f. ltb-true p (length log - 1) f)
      (λ f. let past = ltb-false p (length log - 1) f in
      let there = (last-there (seen_by u log) b p (sym last-is ∙ e)).0 in
      let here : p ≡ length log - 1 = omega (arith, past, there, length-seen-by u log) in
      absurd (before (e ∙ ap Some here)))

  pub few-used : w.used < 2 ^ 32
  few-used = omega (arith, was.used, living-le (seen_by u log), length-seen-by u log, self.short)

  -- the order then
  pub order-next : (log₂ : List Use) → seen_by u log₂ ≡ used_next b rest
      → living (seen_by u log₂) ≡ brought_front b (living (seen_by u log))
  order-next log₂ seen = ap living seen ∙ living-next b rest low
      ∙ ap (brought_front b) (sym living-same)

  -- what is kept for all users then
  module _ (log₂ : List Use) (stamps₂ : Stamps) (v : Window)
      (seen : seen_by u log₂ ≡ used_next b rest)
      (others : (q : ℕ) → q < 32 → q ≢ u → seen_by q log₂ ≡ seen_by q log)
      (stamped : (q n : ℕ) → q < users_in self.stamps → stamp_at (stamps_of stamps₂ q) n
      ≡ cond (eqb b n && eqb u q) (length log - 1) (stamp_at (stamps_of self.stamps q) n))
      (moved : IsMark (used_next b rest) (mark_of self.size v))
      (used : v.used ≡ counted_with last w.used) where
    abbrev windows : List Window
    windows = set self.windows.items u v

    here : IsKept self.size (seen_by u log₂) (stamps_of stamps₂ u) (get_or windows u no_window)
    here = subst (λ ms. IsKept self.size ms (stamps_of stamps₂ u) (get_or windows u no_window))
        (sym seen) (subst (IsKept self.size (used_next b rest) (stamps_of stamps₂ u))
        (sym (get_or-set_same self.windows.items u v no_window lu))
        (kept-next log u b begun.some begun.block low ne self.size stamps w was
        (stamps_of stamps₂ u) v
        (let all = ap (λ (l : List ℕ). length l) unseen-latest in
        omega (arith, all, self.short, length-seen-by u log))
        (λ n. stamped u n (omega (arith, lu, self.users))
        ∙ by_cases (eqb b n)
        (λ e. ap (λ t. cond (t && eqb u u) (length log - 1) (stamp_at stamps n)) e
        ∙ ap (λ t. cond t (length log - 1) (stamp_at stamps n)) (eq-eqb u u refl)
        ∙ sym (ap (λ t. cond t (length log - 1) (stamp_at stamps n)) e))
        (λ e. ap (λ t. cond (t && eqb u u) (length log - 1) (stamp_at stamps n)) e
        ∙ sym (ap (λ t. cond t (length log - 1) (stamp_at stamps n)) e)))
        moved
        (used ∙ ap (λ o. counted_with o w.used) after.before)))

    there : (q : ℕ) → q < length self.windows.items → q ≢ u → IsKept self.size (seen_by q log₂)
        (stamps_of stamps₂ q) (get_or windows q no_window)
    there q lq apart =
        subst (λ ms. IsKept self.size ms (stamps_of stamps₂ q) (get_or windows q no_window))
        (sym (others q (omega (arith, lq, self.few)) apart))
        (subst (IsKept self.size (seen_by q log) (stamps_of stamps₂ q))
        (sym (get_or-set_other self.windows.items u q v no_window apart))
        (kept-same self.size (seen_by q log) (stamps_of self.stamps q) (stamps_of stamps₂ q)
        (get_or self.windows.items q no_window) (self.kept q lq)
        (λ n. stamped q n (omega (arith, lq, self.users)) ∙ by_cases (eqb b n)
        (λ e. ap (λ t. cond (t && eqb u q) (length log - 1)
        (stamp_at (stamps_of self.stamps q) n)) e
        ∙ ap (λ t. cond t (length log - 1) (stamp_at (stamps_of self.stamps q) n))
        (differ u q apart))
        (λ e. ap (λ t. cond (t && eqb u q) (length log - 1) (stamp_at (stamps_of self.stamps q) n))
        e))))

    -- each user sees as many uses as before, or one more
    pub more-seen : (q : ℕ) → q < length self.windows.items
        → length (living (seen_by q log)) ≤ length (living (seen_by q log₂))
    more-seen q lq = by_cases (eqb q u)
        (λ e. let here : length (living (seen_by u log)) ≤ length (living (seen_by u log₂)) =
        (let next = ap (λ l. length (living l)) seen ∙ count-next rest b low after.once in
        let same = ap (λ (l : List ℕ). length l) living-same in
        let more = counted-more (last_in rest b) (length (living rest)) in
        omega (arith, next, same, more)) in
        subst (λ z. length (living (seen_by z log)) ≤ length (living (seen_by z log₂)))
        (sym (eqb-true q u e)) here)
        (λ e. let same = ap (λ l. length (living l))
        (others q (omega (arith, lq, self.few)) (eqb-false q u e)) in
        omega (arith, same))

    pub kept-all : (q : ℕ) → q < length windows → IsKept self.size (seen_by q log₂)
        (stamps_of stamps₂ q) (get_or windows q no_window)
    kept-all q lq = by_cases (eqb q u)
        (λ e. subst (λ z. IsKept self.size (seen_by z log₂) (stamps_of stamps₂ z)
        (get_or windows z no_window)) (sym (eqb-true q u e)) here)
        (λ e. there q (omega (arith, lq, length-set self.windows.items u v)) (eqb-false q u e))
