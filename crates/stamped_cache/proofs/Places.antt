-- Where what is kept for a block or a set, and for a cache, stands among all of its kind.
use Rattle.std.proofs.Common.{◌≡◌, ◌≢◌, ℕ, ◌+◌, ◌*◌, ◌<◌, ◌&&◌, Bool, true, false, cond, eqb, List}
use Rattle.std.proofs.Common.{length, get_or, set, refl, sym, ap, ◌∙◌}
use Rattle.std.proofs.Common.{get_or-set_same, get_or-set_other}
use Rattle.std.proofs.lemmas.Bool.{eqb-true, eqb-false, eq-eqb, ne_eqb}
use Rattle.cache_core.proofs.Cases.{by_cases}
use Rattle.shared_list.proofs.Columns.{places-apart}
use Rattle.stamped_cache.specs.declared.state.State.{State}
use Rattle.stamped_cache.specs.declared.state.State.TheVariants.{Written}
use Rattle.stamped_cache.proofs.Named.{all, none}

-- a place is told by the block and the user
pub same-place : (n b users q u : ℕ) → q < users → u < users
    → eqb (n * users + q) (b * users + u) ≡ (eqb b n && eqb u q)
same-place n b users q u lq lu = by_cases (eqb b n)
    (λ e. by_cases (eqb u q)
    (λ f. eq-eqb (n * users + q) (b * users + u)
    (ap (λ z. z * users + q) (sym (eqb-true b n e))
    ∙ ap (λ z. b * users + z) (sym (eqb-true u q f)))
    ∙ sym (both true e ∙ f))
    (λ f. ne_eqb (n * users + q) (b * users + u)
    (λ g. eqb-false u q f (sym (places-apart n b users q u lq lu g).1)) ∙ sym (both true e ∙ f)))
    (λ e. ne_eqb (n * users + q) (b * users + u)
    (λ g. eqb-false b n e (sym (places-apart n b users q u lq lu g).0)) ∙ sym (both false e))
  where
    both : (t : Bool) → eqb b n ≡ t → (eqb b n && eqb u q) ≡ (t && eqb u q)
    both t e = ap (λ z. z && eqb u q) e

-- what stands at a place once something was put at one
pub item-put : {X : Type 0} (xs : List X) (p i : ℕ) (v d : X) → p < length xs
    → get_or (set xs p v) i d ≡ cond (eqb i p) v (get_or xs i d)
item-put xs p i v d lt = by_cases (eqb i p)
    (λ e. ap (λ z. get_or (set xs p v) z d) (eqb-true i p e) ∙ get_or-set_same xs p v d lt
    ∙ sym (ap (λ t. cond t v (get_or xs i d)) e))
    (λ e. get_or-set_other xs p i v d (eqb-false i p e)
    ∙ sym (ap (λ t. cond t v (get_or xs i d)) e))

-- what is said of a block and a user is said, for this user, of the block
pub this-user : {X : Type 0} (u : ℕ) (t : Bool) (v w : X) → cond (t && eqb u u) v w ≡ cond t v w
this-user u t v w = ap (λ e. cond (t && e) v w) (eq-eqb u u refl) ∙ ap (λ e. cond e v w) (all t)

-- the states once that of a block in a user's cache may have become written
module _ (old next : ℕ → ℕ → State) (users known number user place : ℕ) (write : Bool)
    (same : known ≡ users) (at : place ≡ number * users + user) (low : user < users)
    (notes : (q n : ℕ) → next q n ≡ cond (eqb (n * known + q) place && write) Written (old q n))
  where
    noted : (q n : ℕ) → q < users
        → next q n ≡ cond ((eqb number n && eqb user q) && write) Written (old q n)
    noted q n lt = notes q n
        ∙ ap (λ k. cond (eqb (n * k + q) place && write) Written (old q n)) same
        ∙ ap (λ p. cond (eqb (n * users + q) p && write) Written (old q n)) at
        ∙ ap (λ t. cond (t && write) Written (old q n)) (same-place n number users q user lt low)

    pub note-here : (n : ℕ) → next user n ≡ cond (eqb number n && write) Written (old user n)
    note-here n = noted user n low
        ∙ ap (λ t. cond ((eqb number n && t) && write) Written (old user n))
        (eq-eqb user user refl)
        ∙ ap (λ t. cond (t && write) Written (old user n)) (all (eqb number n))

    pub note-elsewhere : (q n : ℕ) → q < users → q ≢ user → next q n ≡ old q n
    note-elsewhere q n lt ne = noted q n lt
        ∙ ap (λ t. cond ((eqb number n && t) && write) Written (old q n))
        (ne_eqb user q (λ e. ne (sym e)))
        ∙ ap (λ t. cond (t && write) Written (old q n)) (none (eqb number n))
