-- A log with one more use that is nobody's yet.
use Rattle.std.proofs.Common.{◌≡◌, ℕ, suc, ◌-◌, ◌<◌, ◌≤◌, ◌+◌, ◌^◌, Bool, cond, eqb, List, []}
use Rattle.std.proofs.Common.{◌∷◌, ◌++◌, length, map, subst}
use Rattle.std.proofs.Common.{reverse, take, sym, ap, ◌∙◌, arith}
use Rattle.std.specs.List.{All}
use Rattle.std.proofs.lemmas.List.{length-append, map-append}
use Rattle.std.proofs.lemmas.List.Elements.{All-append, All-cons}
use Rattle.cache_core.proofs.Cases.{by_cases}
use Rattle.std.proofs.lemmas.Nat.Bits.{bit_at-zero}
use Rattle.marked_list.specs.Uses.{dead, living}
use Rattle.marked_list.proofs.LastUse.{reverse-push}
use Rattle.shared_list.specs.declared.log.Use.{Use}
use Rattle.shared_list.specs.declared.window.Window.{Window}
use Rattle.shared_list.specs.Log.{no_use, seen, seen_by}
use Rattle.shared_list.specs.Windows.{IsKept}
use Rattle.shared_list.proofs.Kept.{last-dead}

-- it is dead for each user
pub seen-added : (q n : ℕ) (log : List Use)
    → seen_by q (log ++ no_use n ∷ []) ≡ dead ∷ seen_by q log
seen-added q n log = ap (λ (l : List ℕ). reverse l) (map-append (seen q) log (no_use n ∷ [])
    ∙ ap (λ t. map (seen q) log ++ cond (eqb t 1) n dead ∷ []) (bit_at-zero q))
    ∙ reverse-push (map (seen q) log) dead

-- and changes nothing of what is kept
pub kept-dead : (size : ℕ) (ms stamps : List ℕ) (w : Window) → IsKept size ms stamps w
    → IsKept size (dead ∷ ms) stamps w
kept-dead size ms stamps w kept = record {
  stamped = λ n low. kept.stamped n low ∙ sym (last-dead n ms low);
  once = kept.once;
  used = kept.used;
  mark = record {
    some = kept.mark.some;
    within = (let within = kept.mark.within in omega (arith, within));
    window = kept.mark.window ∙ sym (ap (λ k. living (take k (dead ∷ ms)))
        (let within = kept.mark.within in
        let e : suc (length ms) - w.place ≡ suc (length ms - w.place) =
        omega (arith, within) in e));
  };
  inside = (let inside = kept.inside in omega (arith, inside));
  fresh = kept.fresh;
}

-- so it is whether it was added, or memory was wanting
module _ (t : Bool) (n : ℕ) (log new : List Use) (is : new ≡ cond t (log ++ no_use n ∷ []) log)
  where
    abbrev pick : Bool → List Use
    pick b = cond b (log ++ no_use n ∷ []) log

    pub kept-either : (size q : ℕ) (stamps : List ℕ) (w : Window)
        → IsKept size (seen_by q log) stamps w → IsKept size (seen_by q new) stamps w
    kept-either size q stamps w kept = subst (λ l. IsKept size (seen_by q l) stamps w) (sym is)
        (by_cases t
        (λ e. subst (λ b. IsKept size (seen_by q (pick b)) stamps w) (sym e)
        (subst (λ l. IsKept size l stamps w) (sym (seen-added q n log))
        (kept-dead size (seen_by q log) stamps w kept)))
        (λ e. subst (λ b. IsKept size (seen_by q (pick b)) stamps w) (sym e) kept))

    pub living-either : (q : ℕ) → living (seen_by q new) ≡ living (seen_by q log)
    living-either q = ap (λ l. living (seen_by q l)) is ∙ by_cases t
        (λ e. ap (λ b. living (seen_by q (pick b))) e ∙ ap living (seen-added q n log))
        (λ e. ap (λ b. living (seen_by q (pick b))) e)

    pub below-either : (bound : ℕ) → n < bound → All (λ (u : Use). u.number < bound) log
        → All (λ (u : Use). u.number < bound) new
    below-either bound low all = subst (All (λ (u : Use). u.number < bound)) (sym is) (by_cases t
        (λ e. subst (λ b. All (λ (u : Use). u.number < bound) (pick b)) (sym e)
        (All-append (λ (u : Use). u.number < bound) log (no_use n ∷ []) all
        (All-cons (λ (u : Use). u.number < bound) (no_use n) [] low
        (λ k d lt. absurd (omega (arith, lt))))))
        (λ e. subst (λ b. All (λ (u : Use). u.number < bound) (pick b)) (sym e) all))

    pub fit-either : All (λ (u : Use). u.users < 2 ^ 32) log
        → All (λ (u : Use). u.users < 2 ^ 32) new
    fit-either all = subst (All (λ (u : Use). u.users < 2 ^ 32)) (sym is) (by_cases t
        (λ e. subst (λ b. All (λ (u : Use). u.users < 2 ^ 32) (pick b)) (sym e)
        (All-append (λ (u : Use). u.users < 2 ^ 32) log (no_use n ∷ []) all
        (All-cons (λ (u : Use). u.users < 2 ^ 32) (no_use n) [] (omega arith)
        (λ k d lt. absurd (omega (arith, lt))))))
        (λ e. subst (λ b. All (λ (u : Use). u.users < 2 ^ 32) (pick b)) (sym e) all))

    pub length-either : length new ≤ length log + 1
    length-either = let long = length-append log (no_use n ∷ []) in
        subst (λ l. length l ≤ length log + 1) (sym is) (by_cases t
        (λ e. subst (λ b. length (pick b) ≤ length log + 1) (sym e) (omega (arith, long)))
        (λ e. subst (λ b. length (pick b) ≤ length log + 1) (sym e) (omega arith)))
