-- What a call does to the slice of a vector.
use Rattle.std.proofs.Common.{◌≡◌, ℕ, ◌≤◌, ◌++◌, List, length, map, take, drop, ap, sym, subst}
use Rattle.std.proofs.Common.{◌∙◌, arith}
use Rattle.std.specs.Global.{Vec}
use Rattle.grid_core.proofs.ListLoops.{AreChanged, HasChanged, as-long, given-back}

-- if what each element does stays, what holds of the slice before and after the call holds of the
-- items of the vector
pub on-items : {X V : Type 0} (task : X → V) (items slice new : List X) (n : ℕ)
    (S : List X → List X → Type 0) → n ≡ length items → slice ≡ items
    → map task new ≡ map task slice → S slice new
    → S items (take n (new ++ drop (length new) items))
on-items task items slice new n S len is same done =
    let long : length new ≡ n = as-long task new slice same ∙ ap length is ∙ sym len in
    subst (S items) (sym (given-back n new items long)) (subst (λ l. S l new) is done)

-- at the end of a loop over a slice all of its items have changed
pub all-turned : {X V : Type 0} {R : X → X → Type 0} {f : X → V} {first now : List X} {k : ℕ}
    → HasChanged R f first k now → length now ≤ k → AreChanged R f first now
all-turned {f = f} {first = first} {now = now} was end = record {
  told = was.told;
  inside = λ j lt. omega (arith, lt, as-long f now first was.told);
  changed = λ j d lt. was.changed j d (omega (arith, lt, end));
}

-- a vector whose items were lent to a call has those that the call gave back
lent-items : {X : Type 0} (v : Vec X) (new : List X) → length new ≡ length v.items
    → take v.len (new ++ drop (length new) v.items) ≡ new
lent-items v new long = given-back v.len new v.items (long ∙ sym v.ok.0)

-- what each element does stays, if it stays in the slice
pub told-items : {X V : Type 0} (task : X → V) (v : Vec X) (slice new : List X) → slice ≡ v.items
    → map task new ≡ map task slice
    → map task (take v.len (new ++ drop (length new) v.items)) ≡ map task v.items
told-items task v slice new is same =
    ap (map task) (lent-items v new (as-long task new slice same ∙ ap length is))
    ∙ same ∙ ap (map task) is
