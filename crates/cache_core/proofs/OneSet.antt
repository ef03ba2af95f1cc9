-- A fully associative LRU cache is its own shadow, so it has no conflict miss.
use Rattle.std.proofs.Common.{◌≡◌, ℕ, ◌+◌, Bool, true, false, cond, ◌&&◌, ◌==◌, [], ◌∷◌, Some, None}
use Rattle.std.proofs.Common.{refl, sym, ap, ◌∙◌, arith}
use Rattle.std.specs.List.{list_any}
use Rattle.cache_core.specs.declared.access.Access.{Access}
use Rattle.cache_core.specs.declared.access.MissKind.TheVariants.{Compulsory, Capacity, Conflict}
use Rattle.cache_core.specs.History.{Rules, History, access, flush, block_of, is_instr, is_read}
use Rattle.cache_core.specs.History.{is_write, is_misc}
use Rattle.cache_core.specs.Residents.{hits, renewals}
use Rattle.cache_core.specs.Kinds.{referenced_blocks, shadow_of, kind_of_miss, is_kind}
use Rattle.cache_core.specs.Parts.{one_if, outcome_of}
use Rattle.cache_core.specs.Counts.{tally, none_by_class, counts_of}
use Rattle.cache_core.specs.Laws.{IsOneLruSet}

module _ (r : Rules) (one : IsOneLruSet r) where
  shadow-same : shadow_of r ≡ r
  shadow-same =
      ap (λ k. record r { sets = k; assoc = r.blocks; fifo = false }) (sym one.one_set)
      ∙ ap (λ k. record r { assoc = k; fifo = false }) (sym one.all_blocks)
      ∙ ap (λ k. record r { fifo = k }) (sym one.lru)

  hits-same : (h : History) (x : Access)
      → hits (shadow_of r) (renewals (shadow_of r) h) x ≡ hits r (renewals r h) x
  hits-same h x = ap (λ q. hits q (renewals q h) x) shadow-same

  kinds : (referenced in_shadow hit : Bool) → in_shadow ≡ hit
      → is_kind Conflict (cond hit None
      (Some (cond referenced (cond in_shadow Conflict Capacity) Compulsory))) ≡ false
  kinds referenced in_shadow true e = refl
  kinds true true false e = cc
  kinds true false false e = refl
  kinds false in_shadow false e = refl

  never : (h : History) (x : Access) → is_kind Conflict (outcome_of r h x).kind ≡ false
  unfolding outcome_of kind_of_miss
  never h x = kinds (list_any (λ b. b == block_of r x) (referenced_blocks r h))
      (hits (shadow_of r) (renewals (shadow_of r) h) x) (hits r (renewals r h) x) (hits-same h x)

  -- no miss is a conflict
  pub no-conflict : (h : History) (x : Access) → (outcome_of r h x).kind ≡ Some Conflict → ⊥
  no-conflict h x e = let no : false ≡ true = sym (never h x) ∙ ap (is_kind Conflict) e in cc

  abbrev conflicts : (Access → Bool) → History → ℕ
  conflicts test h = tally (λ g x. test x && is_kind Conflict (outcome_of r g x).kind) h

  none-tallied : (test : Access → Bool) (h : History) → conflicts test h ≡ 0
  unfolding tally
  none-tallied test [] = refl
  none-tallied test (flush ∷ h) = none-tallied test h
  none-tallied test (access x ∷ h) = let rest = none-tallied test h in
      ap (λ t. one_if (test x && t) + conflicts test h) (never h x)
      ∙ (elim (test x) as (λ t. one_if (t && false) + conflicts test h ≡ 0)
      [ true ↦ omega arith | false ↦ omega arith ])

  -- and none is counted
  pub none-counted : (h : History) → (counts_of r h).conflict ≡ none_by_class
  unfolding counts_of
  none-counted h =
      ap (λ k. record none_by_class {
        instr = k;
        read = conflicts is_read h;
        write =
            conflicts is_write h;
        misc = conflicts is_misc h;
      }) (none-tallied is_instr h)
      ∙ ap (λ k. record none_by_class {
        read = k;
        write = conflicts is_write h;
        misc =
            conflicts is_misc h;
      }) (none-tallied is_read h)
      ∙ ap (λ k. record none_by_class { write = k; misc = conflicts is_misc h })
      (none-tallied is_write h)
      ∙ ap (λ k. record none_by_class { misc = k }) (none-tallied is_misc h)
