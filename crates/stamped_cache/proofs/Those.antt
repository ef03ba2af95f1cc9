-- The caches that served an access, as they serve it one after another.
use Rattle.std.proofs.Common.{◌≡◌, ◌≢◌, ℕ, ◌+◌, ◌<◌, Bool, true, false, cond, not, ◌&&◌, eqb}
use Rattle.std.proofs.Common.{List, ◌∷◌, inl, inr, refl, sym, ap, subst, ◌∙◌}
use Rattle.std.proofs.lemmas.Bool.{cases_eq, and_parts, eq-eqb, ne_eqb}
use Rattle.cache_core.specs.declared.access.Access.{Access}
use Rattle.cache_core.specs.History.{History, Rules, access}
use Rattle.grid_core.specs.Numbers.{IsNumberOf}
use Rattle.stamped_cache.specs.declared.caches.StampedCaches.{StampedCaches}
use Rattle.stamped_cache.specs.Serving.{ServesOne, ServesThose}
use Rattle.stamped_cache.specs.Stamped.{StampedStandsBy, stamped_rules, stamped_served}
use Rattle.stamped_cache.specs.Stamped.{stamped_users}
use Rattle.stamped_cache.proofs.Named.{all, none}
use Rattle.stamped_cache.proofs.SameCaches.{same-served, same-stands}

-- of the users that are named, some are left, and one of these is served next
module _ (named left rest : ℕ → Bool) (user : ℕ) (low : user < 32) (there : left user ≡ true)
    (is : (q : ℕ) → q < 32 → rest q ≡ (not (eqb q user) && left q)) where
  -- it was not served before
  pub not-before : (named user && not (left user)) ≡ false
  not-before = ap (λ t. named user && not t) there ∙ none (named user)

  -- and is now
  pub is-now : named user ≡ true → (named user && not (rest user)) ≡ true
  is-now name = ap (λ t. named user && not t) (is user low
      ∙ ap (λ t. not t && left user) (eq-eqb user user refl)) ∙ all (named user) ∙ name

  -- of the others there are the same ones left
  pub as-left : (q : ℕ) → q < 32 → q ≢ user
      → (named q && not (rest q)) ≡ (named q && not (left q))
  as-left q lt ne = ap (λ t. named q && not t) (is q lt
      ∙ ap (λ t. not t && left q) (ne_eqb q user ne))

  -- those that are left then were left before
  pub left-before : (q : ℕ) → q < 32 → rest q ≡ true → left q ≡ true
  left-before q lt e = (and_parts (not (eqb q user)) (left q) (sym (is q lt) ∙ e)).1

module _ (x : Access) (n : ℕ) (old mid : StampedCaches) (those next : ℕ → Bool)
    (done : ServesThose x n those old mid) where
  -- they served it by whatever name
  pub those-same : ((q : ℕ) → q < stamped_users old → next q ≡ those q)
      → ServesThose x n next old mid
  those-same same = record {
    stands = λ blocks q h lt is st. subst (λ t. StampedStandsBy blocks mid q
        (cond t (access x ∷ h) h)) (sym (same q lt)) (done.stands blocks q h lt is st);
    served = λ q lt. done.served q lt
        ∙ ap (λ t. cond t (stamped_served old q + 1) (stamped_served old q)) (sym (same q lt));
    same = done.same;
  }

  -- one more serves it
  module _ (user : ℕ) (new : StampedCaches) (one : ServesOne x n user mid new)
      (low : user < stamped_users old)
      (before : those user ≡ false) (now : next user ≡ true)
      (same : (q : ℕ) → q < stamped_users old → q ≢ user → next q ≡ those q) where
    stands-one : (blocks : List ℕ) (h : History)
        → IsNumberOf blocks (stamped_rules old).bsize x n → StampedStandsBy blocks old user h
        → StampedStandsBy blocks new user (cond (next user) (access x ∷ h) h)
    stands-one blocks h is st =
        subst (λ t. StampedStandsBy blocks new user (cond t (access x ∷ h) h)) (sym now)
        (one.stands blocks h
        (subst (λ (r : Rules). IsNumberOf blocks r.bsize x n) (sym done.same.rules) is)
        (subst (λ t. StampedStandsBy blocks mid user (cond t (access x ∷ h) h)) before
        (done.stands blocks user h low is st)))

    served-one : stamped_served new user
        ≡ cond (next user) (stamped_served old user + 1) (stamped_served old user)
    served-one = one.served
        ∙ ap (λ k. k + 1) (done.served user low
        ∙ ap (λ t. cond t (stamped_served old user + 1) (stamped_served old user)) before)
        ∙ sym (ap (λ t. cond t (stamped_served old user + 1) (stamped_served old user)) now)

    still : (q : ℕ) → q < stamped_users old → q < stamped_users mid
    still q lt = subst (λ k. q < k) (sym done.same.users) lt

    pub those-next : ServesThose x n next old new
    those-next = record {
      stands = λ blocks q h lt is st. elim (cases_eq q user) [
        | inl e ↦ subst (λ k. StampedStandsBy blocks new k (cond (next k) (access x ∷ h) h)) (sym e)
            (stands-one blocks h is (subst (λ k. StampedStandsBy blocks old k h) e st))
        | inr ne ↦ same-stands q mid new (one.others q (still q lt) ne) one.same blocks
            (cond (next q) (access x ∷ h) h)
            (subst (λ t. StampedStandsBy blocks mid q (cond t (access x ∷ h) h))
            (sym (same q lt ne)) (done.stands blocks q h lt is st))
      ];
      served = λ q lt. elim (cases_eq q user) [
        | inl e ↦ subst (λ k. stamped_served new k
            ≡ cond (next k) (stamped_served old k + 1) (stamped_served old k)) (sym e) served-one
        | inr ne ↦ same-served q mid new (one.others q (still q lt) ne) ∙ done.served q lt
            ∙ ap (λ t. cond t (stamped_served old q + 1) (stamped_served old q))
            (sym (same q lt ne))
      ];
      same = record {
        rules = one.same.rules ∙ done.same.rules;
        users = one.same.users ∙ done.same.users;
        failed = one.same.failed ∙ done.same.failed;
      };
    }
