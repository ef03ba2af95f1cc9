-- Each block that was renewed was accessed.
use Rattle.std.proofs.Common.{◌≡◌, ℕ, true, false, cond, ◌||◌, eqb, [], ◌∷◌, refl}
use Rattle.std.proofs.lemmas.Bool.{or_right}
use Rattle.cache_core.specs.History.{Rules, History, access, flush, block_of}
use Rattle.cache_core.specs.Residents.{renews, renewals}
use Rattle.cache_core.specs.Kinds.{referenced_blocks}
use Rattle.cache_core.proofs.Reuse.{has}

-- a block that was renewed is known
pub renewals-referenced : (r : Rules) (h : History) (b : ℕ) → has (renewals r h) b ≡ true
    → has (referenced_blocks r h) b ≡ true
unfolding renewals referenced_blocks
renewals-referenced r [] b e = cc
renewals-referenced r (flush ∷ h) b e = cc
renewals-referenced r (access x ∷ h) b e =
    (elim (renews r (renewals r h) x) as (λ t.
    has (cond t (block_of r x ∷ renewals r h) (renewals r h)) b ≡ true
    → (eqb (block_of r x) b || has (referenced_blocks r h) b) ≡ true) [
      | true ↦ λ g. (elim (eqb (block_of r x) b) as (λ t. (t || has (renewals r h) b) ≡ true
          → (t || has (referenced_blocks r h) b) ≡ true) [
            | true ↦ λ k. refl
            | false ↦ λ k. renewals-referenced r h b k
          ]) g
      | false ↦ λ g. or_right (eqb (block_of r x) b) (has (referenced_blocks r h) b)
          (renewals-referenced r h b g)
    ]) e
