-- A log of which only the uses with users are kept.
use Rattle.std.proofs.Common.{◌≡◌, ◌≢◌, ℕ, ◌-◌, ◌+◌, ◌^◌, ◌<◌, ◌≤◌, true, false, cond, eqb, ltb}
use Rattle.std.proofs.Common.{not, Some}
use Rattle.std.proofs.Common.{List, [], ◌∷◌, ◌++◌, length, map, filter, reverse, drop, take}
use Rattle.std.proofs.Common.{refl, sym, ap, subst, ◌∙◌, arith}
use Rattle.std.specs.Prelude.{unwrap_or}
use Rattle.std.proofs.Math.Seq.{drop-append_seam}
use Rattle.std.proofs.lemmas.Bool.{eqb-true, eq-eqb, false≢true, ltb-true, ltb-false}
use Rattle.std.proofs.lemmas.List.{append-nil, length-append, length-drop}
use Rattle.std.proofs.lemmas.List.{map-append, reverse-append, take-append-drop, take_at}
use Rattle.std.proofs.lemmas.List.Elements.{filter-append}
use Rattle.std.proofs.lemmas.Nat.Bits.{bit_at-zero}
use Rattle.cache_core.specs.Residents.{distinct}
use Rattle.cache_core.proofs.Cases.{by_cases}
use Rattle.cache_core.proofs.Reuse.{has}
use Rattle.marked_list.specs.Marks.{IsMark}
use Rattle.marked_list.specs.Uses.{dead, forgotten, has_stamp, last_in, living, never}
use Rattle.marked_list.specs.Uses.{since, stamp_at}
use Rattle.marked_list.specs.Uses.{stamped_place}
use Rattle.marked_list.proofs.LastUse.{has-last, last-there, none-last, reverse-cons}
use Rattle.marked_list.proofs.Living.{has-living}
use Rattle.marked_list.proofs.Stamps.{place-some, used-stamped}
use Rattle.shared_list.specs.declared.log.Use.{Use}
use Rattle.shared_list.specs.declared.window.Window.{Window}
use Rattle.shared_list.specs.Log.{has_users, seen, seen_by}
use Rattle.shared_list.specs.Windows.{IsKept}
use Rattle.shared_list.proofs.Kept.{mark-inside}
use Rattle.shared_list.proofs.Seen.{length-seen-by}

abbrev pub kept_uses : List Use → List Use
kept_uses log = filter has_users log

-- no more uses are kept than there are
pub few-kept : (log : List Use) → length (kept_uses log) ≤ length log
few-kept [] = omega arith
few-kept (u ∷ log) = by_cases (has_users u)
    (λ e. rw e (let few = few-kept log in omega (arith, few)))
    (λ e. rw e (let few = few-kept log in omega (arith, few)))

pub living-reverse : (l : List ℕ) → living (reverse l) ≡ reverse (living l)
living-reverse [] = refl
living-reverse (x ∷ l) = ap living (reverse-cons x l)
    ∙ filter-append (λ m. not (eqb m dead)) (reverse l) (x ∷ [])
    ∙ ap (λ t. t ++ living (x ∷ [])) (living-reverse l)
    ∙ by_cases (eqb x dead)
    (λ e. rw e (append-nil (reverse (living l))))
    (λ e. rw e (sym (reverse-cons x (living l))))

-- a use without users is dead for each
none-seen : (q : ℕ) (u : Use) → has_users u ≡ false → seen q u ≡ dead
none-seen q u e = ap (λ n. cond (eqb (Rattle.std.specs.Int.bit_at n q) 1) u.number dead)
    (eqb-true u.users 0 (by_cases (eqb u.users 0) (λ f. f)
    (λ f. absurd (false≢true (sym e ∙ ap not f)))))
    ∙ ap (λ t. cond (eqb t 1) u.number dead) (bit_at-zero q)

living-kept : (q : ℕ) (log : List Use)
    → living (map (seen q) (kept_uses log)) ≡ living (map (seen q) log)
living-kept q [] = refl
living-kept q (u ∷ log) = by_cases (has_users u)
    (λ e. rw e (by_cases (eqb (seen q u) dead)
    (λ f. rw f (living-kept q log))
    (λ f. rw f (ap (λ l. seen q u ∷ l) (living-kept q log)))))
    (λ e. rw e (living-kept q log ∙ sym (rw (eq-eqb (seen q u) dead (none-seen q u e)) refl)))

-- the uses from a place on are those of the rest of the log
since-drop : (q p : ℕ) (log : List Use) → p ≤ length log
    → since p (seen_by q log) ≡ seen_by q (drop p log)
since-drop q p log le =
    let front = map (seen q) (take p log) in
    let back = map (seen q) (drop p log) in
    let whole : map (seen q) log ≡ front ++ back = sym (ap (map (seen q)) (take-append-drop p log))
    ∙ map-append (seen q) (take p log) (drop p log) in
    ap (λ (l : List ℕ). take (length (seen_by q log) - p) l) (ap (λ (l : List ℕ). reverse l) whole
    ∙ reverse-append front back)
    ∙ take_at (reverse back) (reverse front) (length (seen_by q log) - p)
    (omega (arith, length-seen-by q log, length-seen-by q (drop p log), length-drop p log))

module _ (q : ℕ) (log : List Use) where
  abbrev ms : List ℕ
  ms = seen_by q log

  abbrev ns : List ℕ
  ns = seen_by q (kept_uses log)

  pub living-shortened : living ns ≡ living ms
  living-shortened = living-reverse (map (seen q) (kept_uses log))
      ∙ ap (λ (l : List ℕ). reverse l) (living-kept q log)
      ∙ sym (living-reverse (map (seen q) log))

  has-shortened : (n : ℕ) → n ≢ dead → has ns n ≡ has ms n
  has-shortened n low = sym (has-living ns n low) ∙ ap (λ l. has l n) living-shortened
      ∙ has-living ms n low

  -- the window begins where as many uses are before it that are kept
  module _ (size : ℕ) (stamps : List ℕ) (w : Window) (kept : IsKept size ms stamps w) where
    abbrev place : ℕ
    place = length (kept_uses (take w.place log))

    below : w.place ≤ length log
    below = let inside = kept.inside in omega (arith, inside, length-seen-by q log)

    parts : kept_uses log ≡ kept_uses (take w.place log) ++ kept_uses (drop w.place log)
    parts = sym (ap kept_uses (take-append-drop w.place log))
        ∙ filter-append has_users (take w.place log) (drop w.place log)

    within-kept : place ≤ length (kept_uses log)
    within-kept = let all = ap (λ (l : List Use). length l) parts in
        omega (
          arith,
          all,
          length-append (kept_uses (take w.place log))
              (kept_uses (drop w.place log)),
        )

    rest-kept : drop place (kept_uses log) ≡ kept_uses (drop w.place log)
    rest-kept = ap (drop place) parts
        ∙ drop-append_seam (kept_uses (take w.place log)) (kept_uses (drop w.place log))

    window-shortened : living (since place ns) ≡ living (since w.place ms)
    window-shortened = ap living (since-drop q place (kept_uses log) within-kept)
        ∙ ap (λ l. living (seen_by q l)) rest-kept
        ∙ living-reverse (map (seen q) (kept_uses (drop w.place log)))
        ∙ ap (λ (l : List ℕ). reverse l) (living-kept q (drop w.place log))
        ∙ sym (living-reverse (map (seen q) (drop w.place log)))
        ∙ sym (ap living (since-drop q w.place log below))

    mark-shortened : IsMark ns (record { size = size; place = place })
    mark-shortened = record {
      some = kept.mark.some;
      within = omega (arith, within-kept, length-seen-by q (kept_uses log));
      window = ap (take size) living-shortened ∙ kept.mark.window ∙ sym window-shortened;
    }

    start-shortened : w.used ≡ 0 → place ≡ 0
    start-shortened e = ap (λ p. length (kept_uses (take p log))) (kept.fresh e)

    inside-shortened : place ≤ length ns - 1
    inside-shortened = by_cases (eqb w.used 0)
        (λ e. let none = start-shortened (eqb-true w.used 0 e) in omega (arith, none))
        (λ e. let some : 0 < w.used = by_cases (ltb 0 w.used) (λ f. ltb-true 0 w.used f)
        (λ f. let none : w.used ≡ 0 = (let low = ltb-false 0 w.used f in omega (arith, low)) in
        absurd (false≢true (sym e ∙ eq-eqb w.used 0 none))) in
        let many = ap (λ (l : List ℕ). length l) living-shortened in
        mark-inside ns (record { size = size; place = place }) mark-shortened
        (omega (arith, some, kept.used, many)))

    -- each stamp is the new place of the last use
    module _ (new : List ℕ) (short : length log + 1 < 2 ^ 32)
        (is : (n : ℕ) → n ≢ dead
        → stamp_at new n ≡ unwrap_or (last_in ns n) (stamp_at stamps n)) where
      place-there : (n p : ℕ) → last_in ns n ≡ Some p → p < forgotten
      place-there n p e = omega (
        arith,
        (last-there ns n p e).0,
        short,
        few-kept log,
        length-seen-by q (kept_uses log),
      )

      pub kept-shortened : IsKept size ns new (record { place = place; used = w.used })
      kept-shortened = record {
        stamped = λ n low. by_cases (has ns n)
            (λ e. let u = has-last ns n e in
            ap stamped_place (is n low ∙ ap (λ o. unwrap_or o (stamp_at stamps n)) u.1)
            ∙ place-some u.0 (place-there n u.0 u.1) ∙ sym u.1)
            (λ e. ap stamped_place (is n low ∙ ap (λ o. unwrap_or o (stamp_at stamps n))
            (none-last ns n e)) ∙ kept.stamped n low
            ∙ none-last ms n (sym (has-shortened n low) ∙ e) ∙ sym (none-last ns n e));
        once = subst (λ l. distinct l ≡ l) (sym living-shortened) kept.once;
        used = kept.used ∙ ap (λ (l : List ℕ). length l) (sym living-shortened);
        mark = mark-shortened;
        inside = inside-shortened;
        fresh = start-shortened;
      }

      stamped-low : (n : ℕ) → n < forgotten → not (eqb n never) ≡ true
      stamped-low n lt = by_cases (eqb n never)
          (λ e. let same = eqb-true n never e in absurd (omega (arith, same, lt)))
          (λ e. ap not e)

      pub known-shortened : stamp_at new dead ≡ stamp_at stamps dead → (n : ℕ)
          → has_stamp new n ≡ has_stamp stamps n
      known-shortened at-dead n = by_cases (eqb n dead)
          (λ e. ap (λ z. has_stamp new z) (eqb-true n dead e)
          ∙ ap (λ z. not (eqb z never)) at-dead
          ∙ sym (ap (λ z. has_stamp stamps z) (eqb-true n dead e)))
          (λ e. let low : n ≢ dead = λ f. false≢true (sym e ∙ eq-eqb n dead f) in
          by_cases (has ns n)
          (λ f. let u = has-last ns n f in
          ap (λ z. not (eqb z never)) (is n low ∙ ap (λ o. unwrap_or o (stamp_at stamps n)) u.1)
          ∙ stamped-low u.0 (place-there n u.0 u.1)
          ∙ sym (used-stamped ms stamps kept.stamped n low (sym (has-shortened n low) ∙ f)))
          (λ f. ap (λ z. not (eqb z never)) (is n low
          ∙ ap (λ o. unwrap_or o (stamp_at stamps n)) (none-last ns n f))))
