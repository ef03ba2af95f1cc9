-- Loops that change each item of a list in turn.
use Rattle.std.proofs.Common.{◌≡◌, ◌≢◌, ℕ, ◌<◌, ◌≤◌, ◌+◌, ◌++◌, List, set, get_or, length, take}
use Rattle.std.proofs.Common.{drop, map, ap, sym, subst, ◌∙◌, inl, inr, arith, get_or-set_other}
use Rattle.std.proofs.Math.Seq.{take-append_seam, map-set_same}
use Rattle.std.specs.List.{All}
use Rattle.std.proofs.lemmas.Bool.{cases_eq}
use Rattle.std.proofs.lemmas.List.{get_or-map, get_or-set_same, get_or_default, length-map}
use Rattle.std.proofs.lemmas.Simd.{map-map}

-- a loop has changed the items before index k as R says, and none of the others; what f tells of
-- each is the same
pub record HasChanged {X V : Type 0} (R : X → X → Type 0) (f : X → V) (first : List X) (k : ℕ)
    (now : List X) : Type 0 where
  pub told : map f now ≡ map f first
  pub changed : (j : ℕ) (d : X) → j < k → R (get_or first j d) (get_or now j d)
  pub left : (j : ℕ) (d : X) → k ≤ j → get_or now j d ≡ get_or first j d

-- all items have changed so
pub record AreChanged {X V : Type 0} (R : X → X → Type 0) (f : X → V) (old new : List X)
    : Type 0 where
  pub told : map f new ≡ map f old
  pub inside : (j : ℕ) → j < length new → j < length old
  pub changed : (j : ℕ) (d : X) → j < length new → R (get_or old j d) (get_or new j d)

-- a vector whose items were lent as a list, and given back as another of their length, has these
pub given-back : {X : Type 0} (n : ℕ) (xs ys : List X) → length xs ≡ n
    → take n (xs ++ drop (length xs) ys) ≡ xs
given-back n xs ys len = subst (λ m. take m (xs ++ drop (length xs) ys) ≡ xs) len
    (take-append_seam xs (drop (length xs) ys))

-- lists of which the same is told are as long
pub as-long : {X V : Type 0} (f : X → V) (xs ys : List X) → map f xs ≡ map f ys
    → length xs ≡ length ys
as-long f xs ys told = omega (arith, ap length told, length-map xs f, length-map ys f)

-- what holds of what f tells of each holds of what it tells of the one at an index
pub told-at : {X V : Type 0} (f : X → V) (P : V → Type 0) (xs : List X) → All P (map f xs)
    → All (λ x. P (f x)) xs
told-at f P xs all k d lt = subst P (get_or-map f xs k d (f d) lt)
    (all k (f d) (omega (arith, length-map xs f)))

-- the next one was changed
pub changed_more : {X V : Type 0} {R : X → X → Type 0} {f : X → V} {first now : List X} {k : ℕ}
    → HasChanged R f first k now → (d x : X) → k < length now → f x ≡ f (get_or now k d)
    → R (get_or now k d) x → HasChanged R f first (k + 1) (set now k x)
changed_more {R = R} {f = f} {first = first} {now = now} {k = k} was d x lt same one = record {
  told = map-set_same f now k x d same ∙ was.told;
  changed = λ j e below. elim (cases_eq j k) [
    | inl is ↦ subst (λ i. R (get_or first i e) (get_or (set now k x) i e)) (sym is)
        (subst (R (get_or first k e)) (sym (get_or-set_same now k x e lt))
        (subst (λ y. R y x) (get_or_default now k d e lt ∙ was.left k e (omega arith)) one))
    | inr ne ↦ subst (R (get_or first j e)) (sym (get_or-set_other now k j x e ne))
        (was.changed j e (omega arith))
  ];
  left = λ j e behind. let ne : j ≢ k = omega arith in
      get_or-set_other now k j x e ne ∙ was.left j e (omega arith);
}

-- what follows from how the items have changed
pub changed_so : {X V : Type 0} {R S : X → X → Type 0} {f : X → V} {first now : List X} {k : ℕ}
    → HasChanged R f first k now → ((x y : X) → R x y → S x y) → HasChanged S f first k now
changed_so {first = first} {now = now} was so = record {
  told = was.told;
  changed = λ j d below. so (get_or first j d) (get_or now j d) (was.changed j d below);
  left = was.left;
}

-- the loop goes over the items of a vector, which were ys
module _ {X V : Type 0} {R : X → X → Type 0} {f : X → V} {first now ys : List X} {k : ℕ}
    (was : HasChanged R f first k now) (lent : first ≡ ys) where
  -- the next one is as it was
  pub next : (d : X) → get_or now k d ≡ get_or ys k d
  next d = was.left k d (omega arith) ∙ ap (λ l. get_or l k d) lent

  -- so what held of each holds of it still
  pub still : (P : X → Type 0) → k < length ys → All P ys → (d : X) → P (get_or now k d)
  still P lt all d = subst P (sym (next d)) (all k d lt)

  -- and what held of what was told of each
  pub told_still : (P : V → Type 0) → k < length ys → All P (map f ys) → (d : X)
      → P (f (get_or now k d))
  told_still P lt all = still (λ x. P (f x)) lt (told-at f P ys all)

  -- where the change of the next one failed, the same is told of the vector
  pub told_failed : {n : ℕ} → n ≡ length ys → (d x : X) → f x ≡ f (get_or now k d)
      → map f (take n (set now k x ++ drop (length (set now k x)) ys)) ≡ map f ys
  told_failed {n = n} len d x same =
      let told = map-set_same f now k x d same ∙ was.told ∙ ap (map f) lent in
      ap (map f) (given-back n (set now k x) ys (as-long f (set now k x) ys told ∙ sym len)) ∙ told

  -- at the end of the loop all items of the vector have changed
  pub all_changed : {n : ℕ} → n ≡ length ys → length now ≤ k
      → AreChanged R f ys (take n (now ++ drop (length now) ys))
  all_changed {n = n} len end =
      let told = was.told ∙ ap (map f) lent in
      let long = as-long f now ys told in
      subst (AreChanged R f ys) (sym (given-back n now ys (long ∙ sym len))) (record {
        told = told;
        inside = λ j lt. omega arith;
        changed = λ j d lt. subst (λ l. R (get_or l j d) (get_or now j d)) lent
            (was.changed j d (omega arith));
      })

-- what two functions tell
abbrev pub both : {X V W : Type 0} → (X → V) → (X → W) → X → V × W
both f g x = (f x, g x)

-- a part of what is told is the same, too
pub part-told : {X V W : Type 0} (f : X → V) (xs ys : List X) → map f xs ≡ map f ys
    → (part : V → W) → map (λ x. part (f x)) xs ≡ map (λ x. part (f x)) ys
part-told f xs ys told part =
    sym (map-map part f xs) ∙ ap (map part) told ∙ map-map part f ys
