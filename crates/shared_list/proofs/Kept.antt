-- What is kept for a user when it uses the block of the latest use of a log.
use Rattle.std.proofs.Common.{◌≡◌, ◌≢◌, ℕ, zero, suc, ◌-◌, ◌<◌, ◌≤◌, Bool, true, false, cond, eqb}
use Rattle.std.proofs.Common.{ltb, List}
use Rattle.std.proofs.Common.{[], ◌∷◌, length, map, drop, take, get_or, Some}
use Rattle.std.proofs.Common.{drop-cons, refl, sym, ap, subst, ◌∙◌, arith}
use Rattle.std.proofs.lemmas.Bool.{eq-eqb, eqb-true, ltb-true, ltb-false}
use Rattle.std.proofs.lemmas.List.{get_or-reverse}
use Rattle.cache_core.specs.Residents.{distinct}
use Rattle.cache_core.proofs.Cases.{by_cases}
use Rattle.marked_list.specs.declared.marks.Mark.{Mark}
use Rattle.marked_list.specs.Marks.{IsMark, IsUseAfter, counted_with}
use Rattle.marked_list.specs.Uses.{AreStamps, dead, forgotten, last_in, living, since, stamp_at}
use Rattle.marked_list.specs.Uses.{stamped_place, used_next}
use Rattle.marked_list.proofs.Counted.{count-next}
use Rattle.marked_list.proofs.LastUse.{last-other, last-same}
use Rattle.marked_list.proofs.Living.{living-next, once-next}
use Rattle.marked_list.proofs.Stamps.{stamps-next}
use Rattle.shared_list.specs.declared.log.Use.{Use}
use Rattle.shared_list.specs.declared.window.Window.{Window}
use Rattle.shared_list.specs.Log.{no_use, seen, seen_by}
use Rattle.shared_list.specs.Users.{has_user}
use Rattle.shared_list.specs.Windows.{IsKept, mark_of}
use Rattle.shared_list.proofs.Seen.{length-seen, length-seen-by, seen-at}

-- the same is kept if the stamps say the same
pub kept-same : (size : ℕ) (ms old new : List ℕ) (w : Window) → IsKept size ms old w
    → ((n : ℕ) → stamp_at new n ≡ stamp_at old n) → IsKept size ms new w
kept-same size ms old new w kept same = record {
  stamped = λ n low. ap stamped_place (same n) ∙ kept.stamped n low;
  once = kept.once;
  used = kept.used;
  mark = kept.mark;
  inside = kept.inside;
  fresh = kept.fresh;
}

-- a use that is dead in front changes nothing
pub last-dead : (b : ℕ) (ms : List ℕ) → b ≢ dead → last_in (dead ∷ ms) b ≡ last_in ms b
last-dead b ms low = last-other dead b ms (by_cases (eqb dead b)
    (λ e. absurd (low (sym (eqb-true dead b e)))) (λ e. e))

some-taken : (m : ℕ) (xs : List ℕ) → 0 < m → 0 < length xs → 0 < length (take m xs)
some-taken zero xs lm lx = absurd (omega arith)
some-taken (suc m) [] lm lx = absurd (omega arith)
some-taken (suc m) (x ∷ xs) lm lx = omega arith

-- a mark does not stand behind the latest use, if any block was used
pub mark-inside : (ms : List ℕ) (k : Mark) → IsMark ms k → 0 < length (living ms)
    → k.place ≤ length ms - 1
mark-inside ms k mark some = by_cases (ltb k.place (length ms))
    (λ e. let lt = ltb-true k.place (length ms) e in omega arith)
    (λ e. let past : length ms ≤ k.place = ltb-false k.place (length ms) e in
    let none : length (living (since k.place ms)) ≡ 0 =
    ap (λ n. length (living (take n ms))) (let z : length ms - k.place ≡ 0 = omega arith in z) in
    let window = ap (λ (l : List ℕ). length l) mark.window in
    absurd (omega (arith, some-taken k.size (living ms) mark.some some, window, none)))

-- what a user sees, where it does not see the latest use
module _ (log : List Use) (q b : ℕ) (some : 0 < length log)
    (block : (get_or log (length log - 1) (no_use 0)).number ≡ b) (low : b ≢ dead)
    (ne : last_in (seen_by q log) b ≢ Some (length log - 1)) where
  abbrev ms : List ℕ
  ms = seen_by q log

  abbrev pub rest : List ℕ
  rest = drop 1 ms

  some-seen : 0 < length ms
  some-seen = omega (arith, some, length-seen-by q log)

  front : ms ≡ get_or ms 0 0 ∷ rest
  front = drop-cons ms 0 0 some-seen

  long : length rest ≡ length log - 1
  long = let all = ap (λ (l : List ℕ). length l) front in
      omega (arith, all, length-seen-by q log)

  at-front : get_or ms 0 0 ≡ get_or (map (seen q) log) (length log - 1) 0
  at-front = get_or-reverse (map (seen q) log) 0 0 (omega (arith, some, length-seen q log))
      ∙ ap (λ i. get_or (map (seen q) log) i 0)
      (let e : length (map (seen q) log) - 1 - 0 ≡ length log - 1 =
      omega (arith, length-seen q log) in e)

  front-is : (t : Bool) → has_user (get_or log (length log - 1) (no_use 0)).users q ≡ t
      → ms ≡ cond t b dead ∷ rest
  front-is t e = front ∙ ap (λ n. n ∷ rest) (at-front
      ∙ seen-at log (length log - 1) q t (omega (arith, some)) (sym e)
      ∙ ap (λ n. cond t n dead) block)

  pub unseen : ms ≡ dead ∷ rest
  unseen = by_cases (has_user (get_or log (length log - 1) (no_use 0)).users q)
      (λ e. absurd (ne (ap (λ l. last_in l b) (front-is true e)
      ∙ last-same b b rest (eq-eqb b b refl) ∙ ap Some long)))
      (λ e. front-is false e)

  -- what was kept for the uses before it
  module _ (size : ℕ) (stamps : List ℕ) (w : Window) (kept : IsKept size ms stamps w) where
    pub last-rest : last_in ms b ≡ last_in rest b
    last-rest = ap (λ l. last_in l b) unseen ∙ last-dead b rest low

    pub living-rest : living ms ≡ living rest
    living-rest = ap living unseen

    once-rest : distinct (living rest) ≡ living rest
    once-rest = subst (λ l. distinct l ≡ l) living-rest kept.once

    stamped-rest : AreStamps rest stamps
    stamped-rest n ln = kept.stamped n ln ∙ ap (λ l. last_in l n) unseen ∙ last-dead n rest ln

    below : w.place ≤ length rest
    below = let all = ap (λ (l : List ℕ). length l) unseen in omega (arith, kept.inside, all)

    since-rest : living (since w.place ms) ≡ living (since w.place rest)
    since-rest = ap (λ l. living (since w.place l)) unseen
        ∙ ap (λ k. living (take k (dead ∷ rest)))
        (let e : suc (length rest) - w.place ≡ suc (length rest - w.place) =
        omega (arith, below) in e)

    pub mark-rest : IsMark rest (mark_of size w)
    mark-rest = record {
      some = kept.mark.some;
      within = below;
      window = ap (take size) (sym living-rest) ∙ kept.mark.window ∙ since-rest;
    }

    pub after-rest : IsUseAfter rest b (last_in rest b) w.used
    after-rest = record {
      low = low;
      before = refl;
      many = kept.used ∙ ap (λ (l : List ℕ). length l) living-rest;
      once = once-rest;
    }

    -- and what is kept then
    module _ (new : List ℕ) (v : Window) (small : length rest < forgotten)
        (is : (n : ℕ) → stamp_at new n ≡ cond (eqb b n) (length log - 1) (stamp_at stamps n))
        (mark : IsMark (used_next b rest) (mark_of size v))
        (used : v.used ≡ counted_with (last_in rest b) w.used) where
      used-is : v.used ≡ length (living (used_next b rest))
      used-is = used ∙ ap (counted_with (last_in rest b)) after-rest.many
          ∙ sym (count-next rest b low once-rest)

      many : 0 < length (living (used_next b rest))
      many = let all = ap (λ (l : List ℕ). length l) (living-next b rest low) in
          omega (arith, all)

      pub kept-next : IsKept size (used_next b rest) new v
      kept-next = record {
        stamped = stamps-next stamps new b (length log - 1) (omega (arith, small, long)) is rest
            stamped-rest (sym long);
        once = once-next b rest low once-rest;
        used = used-is;
        mark = mark;
        inside = mark-inside (used_next b rest) (mark_of size v) mark many;
        fresh = λ e. absurd (omega (arith, e, used-is, many));
      }
