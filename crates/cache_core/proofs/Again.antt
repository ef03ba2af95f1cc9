-- A block that is used twice in a row.
use Rattle.std.proofs.Common.{◌≡◌, ℕ, ◌-◌, Bool, true, false, cond, ◌||◌, eqb, nat_eq, List, []}
use Rattle.std.proofs.Common.{◌∷◌, take, slice_get, Option, Some, None, is_some, refl, sym, ap}
use Rattle.std.proofs.Common.{subst, ◌∙◌}
use Rattle.std.specs.Map.{lookup, lookup_entry, remove_entry}
use Rattle.std.specs.Option.{option_map_or}
use Rattle.std.proofs.lemmas.Bool.{eqb-true, eq-eqb}
use Rattle.lru.specs.LruCache.{lru_cache, promoted, put_entries}

abbrev Shown : Type 0
Shown = List (ℕ × Unit {0})

-- an option that passes the test for b has b
pub last-is : (o : Option ℕ) (b : ℕ) → option_map_or (λ x. eqb x b) o false ≡ true → o ≡ Some b
last-is None b h = cc
last-is (Some x) b h = ap Some (eqb-true x b h)

self : (b : ℕ) → nat_eq b b ≡ true
self b = eq-eqb b b refl

-- a block that stands first is found
pub first-there : (es : Shown) (b : ℕ) → slice_get es 0 ≡ Some (b, tt)
    → is_some (lookup (nat_eq b) es) ≡ true
first-there [] b h = cc
first-there (e ∷ es) b h = let same : e ≡ (b, tt) = cc in let at : nat_eq b e.0 ≡ true =
    ap (λ z. nat_eq b z.0) same ∙ self b in rw at refl

-- its use changes nothing
pub first-stays : (es : Shown) (b : ℕ) → slice_get es 0 ≡ Some (b, tt) → promoted (nat_eq b) es ≡ es
first-stays [] b h = cc
first-stays (e ∷ es) b h = let same : e ≡ (b, tt) = cc in let at : nat_eq b e.0 ≡ true =
    ap (λ z. nat_eq b z.0) same ∙ self b in rw at refl

-- a block that was accessed before adds nothing to the known blocks
pub referenced-stays : (referenced : ℕ → Bool) (b q : ℕ) → referenced b ≡ true
    → referenced q ≡ (eqb b q || referenced q)
referenced-stays referenced b q h =
    (elim (eqb b q) as (λ t. eqb b q ≡ t → referenced q ≡ (t || referenced q)) [
      | true ↦ λ e. subst (λ z. referenced z ≡ true) (eqb-true b q e) h
      | false ↦ λ e. refl
    ]) refl

-- the entry that is found for b has b
entry-has : (b : ℕ) (es : Shown) (e : ℕ × Unit {0}) → lookup_entry (nat_eq b) es ≡ Some e → e.0 ≡ b
entry-has b [] e h = cc
entry-has b (f ∷ es) e h = (elim (eqb b f.0) as (λ t. eqb b f.0 ≡ t
    → cond t (Some f) (lookup_entry (nat_eq b) es) ≡ Some e → e.0 ≡ b) [
      | true ↦ λ q g. let same : f ≡ e = cc in sym (eqb-true b f.0 q ∙ ap (λ z. z.0) same)
      | false ↦ λ q g. entry-has b es e g
    ]) refl h

-- a block that is there stands first after its use
pub promoted-first : (es : Shown) (b : ℕ) → is_some (lookup (nat_eq b) es) ≡ true
    → slice_get (promoted (nat_eq b) es) 0 ≡ Some (b, tt)
promoted-first es b h = (elim (lookup_entry (nat_eq b) es) as (λ o. lookup_entry (nat_eq b) es ≡ o
    → slice_get (promoted (nat_eq b) es) 0 ≡ Some (b, tt)) [
      | Some e ↦ λ q. rw q (ap (λ z. Some (z, tt)) (entry-has b es e q))
      | None ↦ λ q. let no : true ≡ false = sym h ∙ entry es ∙ ap is_some q in cc
    ]) refl where
      entry : (fs : Shown) → is_some (lookup (nat_eq b) fs) ≡ is_some (lookup_entry (nat_eq b) fs)
      entry [] = refl
      entry (f ∷ fs) = (elim (nat_eq b f.0) as (λ t.
          is_some (cond t (Some f.1) (lookup (nat_eq b) fs))
          ≡ is_some (cond t (Some f) (lookup_entry (nat_eq b) fs)))
          [ true ↦ refl | false ↦ entry fs ])

-- a block that is put in stands first
pub put-first : (es : Shown) (cap b : ℕ)
    → slice_get (put_entries nat_eq (lru_cache es cap) b tt) 0 ≡ Some (b, tt)
put-first es cap b = (elim (lookup_entry (nat_eq b) es) as (λ o. lookup_entry (nat_eq b) es ≡ o
    → slice_get (option_map_or (λ e. (e.0, tt) ∷ remove_entry (nat_eq b) es) o
    ((b, tt) ∷ take (cap - 1) es)) 0 ≡ Some (b, tt)) [
      | Some e ↦ λ q. ap (λ z. Some (z, tt)) (entry-has b es e q)
      | None ↦ λ q. refl
    ]) refl
