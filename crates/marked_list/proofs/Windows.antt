-- The windows of the marks when a block is used.
use Rattle.std.proofs.Common.{◌≡◌, ◌≢◌, ℕ, zero, suc, ◌-◌, ◌<◌, ◌≤◌, true, false, cond, eqb}
use Rattle.std.proofs.Common.{List}
use Rattle.std.proofs.Common.{[], ◌∷◌, take, length, map, get_or, refl, sym}
use Rattle.std.proofs.Common.{ap, subst, ◌∙◌, arith}
use Rattle.std.proofs.lemmas.List.{length-take-le}
use Rattle.std.proofs.lemmas.List.{take_all, take-take, take-map}
use Rattle.cache_core.proofs.MapStep.{suc_pred}
use Rattle.cache_core.proofs.Nothing.{take_none}
use Rattle.cache_core.proofs.Reuse.{has}
use Rattle.cache_core.proofs.Shift.{IsOnce, without, without-absent}
use Rattle.cache_core.proofs.Shift.{has-take_absent}
use Rattle.cache_core.proofs.Shadow.{take-without_there, take-without_absent}
use Rattle.marked_list.specs.declared.marks.Mark.{Mark}
use Rattle.marked_list.specs.Marks.{AreMarks, IsMark, covers, fresh_mark, mark_size, restarted}
use Rattle.marked_list.specs.Uses.{last_in, since, dead, living, buried, used_next}
use Rattle.marked_list.specs.Recency.{is_among, index_of, level_of}
use Rattle.marked_list.proofs.LastUse.{has-since}
use Rattle.marked_list.proofs.Living.{has-living, length-buried, living-next}
use Rattle.std.specs.List.{All}
use Rattle.std.proofs.lemmas.List.Elements.{All-head, All-tail}
use Rattle.std.proofs.Common.{set}

module _ (ms : List ℕ) (b m place : ℕ) (low : b ≢ dead) (once : IsOnce (living ms))
    (within : place ≤ length ms) (window : take (suc m) (living ms) ≡ living (since place ms)) where
  abbrev d : List ℕ
  d = living ms

  among : has (take (suc m) d) b ≡ covers place (last_in ms b)
  among = ap (λ l. has l b) window ∙ has-living (since place ms) b low ∙ has-since ms b place within

  since-next : since place (used_next b ms) ≡ used_next b (since place ms)
  since-next = ap (λ k. take k (used_next b ms))
      (let z : suc (length (buried b ms)) - place ≡ suc (length ms - place) =
      omega (arith, within, length-buried b ms) in z)
      ∙ ap (λ l. b ∷ l) (take-map (λ n. cond (eqb n b) dead n) (length ms - place) ms)

  living-there : living (used_next b ms) ≡ b ∷ without b d
  living-there = living-next b ms low

  window-next : living (since place (used_next b ms)) ≡ b ∷ without b (take (suc m) d)
  window-next = ap living since-next ∙ living-next b (since place ms) low
      ∙ ap (λ l. b ∷ without b l) (sym window)

  -- a use of a block of the window
  pub next-inside : covers place (last_in ms b) ≡ true
      → take (suc m) (living (used_next b ms)) ≡ living (since place (used_next b ms))
  next-inside h = ap (take (suc m)) living-there
      ∙ ap (λ l. b ∷ l) (sym (take-without_there b m d once (among ∙ h)))
      ∙ sym window-next

  module _ (h : covers place (last_in ms b) ≡ false) where
    absent : has (take (suc m) d) b ≡ false
    absent = among ∙ h

    shorter : take m (take (suc m) d) ≡ take m d
    shorter = take-take m (suc m) d (omega arith)

    front-next : take (suc m) (living (used_next b ms)) ≡ b ∷ take m d
    front-next = ap (take (suc m)) living-there
        ∙ ap (λ l. b ∷ l) (take-without_absent b m d
        (subst (λ l. has l b ≡ false) shorter (has-take_absent m b (take (suc m) d) absent)))

    window-new : living (since place (used_next b ms)) ≡ b ∷ take (suc m) d
    window-new = window-next ∙ ap (λ l. b ∷ l) (without-absent (take (suc m) d) b absent)

    -- a use of another block, where there is room
    pub next-room : length d < suc m
        → take (suc m) (living (used_next b ms)) ≡ living (since place (used_next b ms))
    next-room lt = front-next ∙ ap (λ l. b ∷ l) (take_all m d (omega arith)
        ∙ sym (take_all (suc m) d (omega arith))) ∙ sym window-new

    -- where there is none, the window loses its last block
    pub next-full : suc m ≤ length d → (w : List ℕ) → living (since place (used_next b ms)) ≡ w
        → take (suc m) (living (used_next b ms)) ≡ take (length w - 1) w
    next-full le w is = front-next ∙ ap (λ l. b ∷ l) (sym shorter)
        ∙ ap (λ k. take k (b ∷ take (suc m) d)) (let z : suc m ≡ length (b ∷ take (suc m) d) - 1 =
        omega (arith, length-take-le (suc m) d le) in z)
        ∙ ap (λ l. take (length l - 1) l) (sym window-new ∙ is)

-- a size has the block if its mark has the last use
pub mark-covers : (ms : List ℕ) (b : ℕ) → b ≢ dead → (k : Mark) → IsMark ms k
    → covers k.place (last_in ms b) ≡ is_among b (living ms) k.size
mark-covers ms b low k mark = sym (ap (λ l. has l b) mark.window
    ∙ has-living (since k.place ms) b low ∙ has-since ms b k.place mark.within)

-- the first mark that has the last use gives the level
pub level-marks : (ms : List ℕ) (b : ℕ) → b ≢ dead → (ks : List Mark) → AreMarks ms ks
    → index_of (λ k. covers k.place (last_in ms b)) ks ≡ level_of (map mark_size ks) (living ms) b
level-marks ms b low [] are = refl
level-marks ms b low (k ∷ ks) are =
    let here = mark-covers ms b low k (are 0 (omega arith)) in
    let rest = level-marks ms b low ks (λ i lt. are (suc i) (omega arith)) in
    let others = index_of (λ (z : Mark). covers z.place (last_in ms b)) ks in
    ap (λ t. cond t 0 (suc others)) here
    ∙ ap (λ n. cond (is_among b (living ms) k.size) 0 (suc n)) rest

module _ (ms : List ℕ) (b : ℕ) (low : b ≢ dead) (once : IsOnce (living ms)) (k : Mark)
    (mark : IsMark ms k) where
  window-suc : take (suc (k.size - 1)) (living ms) ≡ living (since k.place ms)
  window-suc = subst (λ n. take n (living ms) ≡ living (since k.place ms))
      (suc_pred k.size mark.some) mark.window

  back : (l : List ℕ) → take (suc (k.size - 1)) (living (used_next b ms)) ≡ l
      → take k.size (living (used_next b ms)) ≡ l
  back l e = subst (λ n. take n (living (used_next b ms)) ≡ l) (sym (suc_pred k.size mark.some)) e

  further : k.place ≤ length (used_next b ms)
  further = omega (arith, mark.within, length-buried b ms)

  -- a mark stays where the block was used behind it
  pub stays-inside : covers k.place (last_in ms b) ≡ true → IsMark (used_next b ms) k
  stays-inside h = record {
    some = mark.some;
    within = further;
    window = back (living (since k.place (used_next b ms)))
        (next-inside ms b (k.size - 1) k.place low once mark.within window-suc h);
  }

  -- and where it has room
  pub stays-room : covers k.place (last_in ms b) ≡ false → length (living ms) < k.size
      → IsMark (used_next b ms) k
  stays-room h lt = record {
    some = mark.some;
    within = further;
    window = back (living (since k.place (used_next b ms)))
        (next-room ms b (k.size - 1) k.place low once mark.within window-suc h
        (omega (arith, mark.some)));
  }

  -- and else it moves
  pub moves-on : covers k.place (last_in ms b) ≡ false → k.size ≤ length (living ms) → (p : ℕ)
      → p ≤ length (used_next b ms) → living (since p (used_next b ms))
      ≡ take (length (living (since k.place (used_next b ms))) - 1)
      (living (since k.place (used_next b ms)))
      → IsMark (used_next b ms) (record { size = k.size; place = p })
  moves-on h le p within one_less = record {
    some = mark.some;
    within = within;
    window = back (living (since p (used_next b ms)))
        (next-full ms b (k.size - 1) k.place low once mark.within window-suc h
        (omega (arith, mark.some)) (living (since k.place (used_next b ms))) refl ∙ sym one_less);
  }

-- a mark that is put in the place of one of its size leaves the sizes
pub sizes-set : (ks : List Mark) (i : ℕ) (v d : Mark) → v.size ≡ (get_or ks i d).size
    → map mark_size (set ks i v) ≡ map mark_size ks
sizes-set [] i v d e = refl
sizes-set (k ∷ ks) zero v d e = ap (λ n. n ∷ map mark_size ks) e
sizes-set (k ∷ ks) (suc i) v d e = ap (λ l. k.size ∷ l) (sizes-set ks i v d e)

none-of : (k : Mark) → k.place ≡ 0 → 0 < k.size → IsMark [] k
none-of k start some = record {
  some = some;
  within = omega arith;
  window = take_none k.size ∙ sym (ap living (take_none (0 - k.place)));
}

pub fresh-marks : (sizes : List ℕ) → All (λ n. 0 < n) sizes → AreMarks [] (map fresh_mark sizes)
fresh-marks [] a i lt = absurd (omega arith)
fresh-marks (n ∷ ns) a zero lt = none-of (fresh_mark n) refl (All-head (λ z. 0 < z) n ns a)
fresh-marks (n ∷ ns) a (suc i) lt = fresh-marks ns (All-tail (λ z. 0 < z) n ns a) i (omega arith)

pub restarted-marks : (ms : List ℕ) (ks : List Mark) → AreMarks ms ks
    → AreMarks [] (map restarted ks)
restarted-marks ms [] a i lt = absurd (omega arith)
restarted-marks ms (k ∷ ks) a zero lt = let first = a 0 (omega arith) in
    none-of (restarted k) refl first.some
restarted-marks ms (k ∷ ks) a (suc i) lt =
    restarted-marks ms ks (λ j below. a (suc j) (omega arith)) i (omega arith)

pub sizes-fresh : (sizes : List ℕ) → map mark_size (map fresh_mark sizes) ≡ sizes
sizes-fresh [] = refl
sizes-fresh (n ∷ ns) = ap (λ l. n ∷ l) (sizes-fresh ns)

pub sizes-restarted : (ks : List Mark) → map mark_size (map restarted ks) ≡ map mark_size ks
sizes-restarted [] = refl
sizes-restarted (k ∷ ks) = ap (λ l. k.size ∷ l) (sizes-restarted ks)
