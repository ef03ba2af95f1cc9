-- The entries of a map, shown as a row: what a search finds, and what a change makes of them.
use Rattle.std.proofs.Common.{◌≡◌, ℕ, zero, suc, ◌≤◌, Bool, true, false, cond, eqb, nat_eq}
use Rattle.std.proofs.Common.{List, [], ◌∷◌, ◌++◌, length, take, map, replicate, slice_get, Option}
use Rattle.std.proofs.Common.{Some, None, is_some, refl, sym, ap, ◌∙◌, arith}
use Rattle.std.specs.List.{find, list_any}
use Rattle.std.specs.Map.{lookup, lookup_entry, remove_entry, set_value}
use Rattle.std.specs.Option.{option_map, option_map_or}
use Rattle.std.proofs.lemmas.Bool.{eqb-true}
use Rattle.std.proofs.lemmas.List.{length-replicate}
use Rattle.cache_core.specs.declared.ways.Way.{Way}
use Rattle.cache_core.specs.Row.{holds_block, shifted, leaving, changed, dirtied, empty_way}
use Rattle.cache_core.specs.Row.{dirty_block}
use Rattle.cache_core.specs.Mapped.{way_of, dirty_entry}
use Rattle.cache_core.proofs.Shift.{shifted-none, changed-none}
use Rattle.cache_core.proofs.Shadow.{eqb-comm}
use Rattle.cache_core.proofs.Cases.{by_cases}

-- a set's blocks in order, each with its dirty bit
abbrev pub Entries : Type 0
Entries = List (ℕ × Bool)

module _ (b k : ℕ) where
  abbrev test : ℕ → Bool
  test = nat_eq b

  abbrev p : Way → Bool
  p = holds_block b

  abbrev padded : Entries → List Way
  padded es = map way_of es ++ replicate k empty_way

  any-empty : (n j : ℕ) → list_any p (take n (replicate j empty_way)) ≡ false
  any-empty zero j = refl
  any-empty (suc n) zero = refl
  any-empty (suc n) (suc j) = any-empty n j

  find-empty : (n j : ℕ) → find p (take n (replicate j empty_way)) ≡ None
  find-empty zero j = refl
  find-empty (suc n) zero = refl
  find-empty (suc n) (suc j) = find-empty n j

  -- a search of the row finds what a look-up of the map finds
  pub find-shown : (n : ℕ) (es : Entries) → length es ≤ n
      → find p (take n (padded es)) ≡ option_map way_of (lookup_entry test es)
  find-shown n [] l = find-empty n k
  find-shown zero (e ∷ es) l = absurd (omega arith)
  find-shown (suc n) (e ∷ es) l =
      by_cases (eqb e.0 b)
      (λ q. rw (eqb-comm b e.0, q) refl)
      (λ q. rw (eqb-comm b e.0, q) (find-shown n es (omega arith)))

  -- a pass that brings b to the front shows the entries without b behind it
  pub shifted-shown : (n : ℕ) (es : Entries) (c : Way) → n ≤ k
      → shifted p c (take n (padded es)) ≡ take n (c ∷ padded (remove_entry test es))
  shifted-shown zero es c l = refl
  shifted-shown (suc n) [] c l =
      shifted-none p (suc n) (replicate k empty_way) c (any-empty (suc n) k)
      (omega (arith, length-replicate k empty_way))
  shifted-shown (suc n) (e ∷ es) c l =
      by_cases (eqb e.0 b)
      (λ q. rw (eqb-comm b e.0, q) refl)
      (λ q. rw (eqb-comm b e.0, q)
      (ap (λ l. c ∷ l) (shifted-shown n es (way_of e) (omega arith))))

  -- a pass that marks b's way shows the entries with b marked
  pub changed-shown : (n : ℕ) (es : Entries)
      → changed p dirtied (take n (padded es)) ≡ take n (padded (set_value test es true))
  changed-shown zero es = refl
  changed-shown (suc n) [] = changed-none p dirtied (take (suc n) (replicate k empty_way))
      (any-empty (suc n) k)
  changed-shown (suc n) (e ∷ es) =
      by_cases (eqb e.0 b)
      (λ q. rw (eqb-comm b e.0, q) refl)
      (λ q. rw (eqb-comm b e.0, q) (ap (λ l. way_of e ∷ l) (changed-shown n es)))

  abbrev dirty_of : Option (ℕ × Bool) → Option ℕ
  dirty_of o = option_map_or dirty_entry o None

  leaving-empty : (n j : ℕ) (c : Way) → suc n ≤ j
      → leaving p c (take (suc n) (replicate j empty_way)) ≡ empty_way
  leaving-empty n zero c l = absurd (omega arith)
  leaving-empty zero (suc j) c l = refl
  leaving-empty (suc n) (suc j) c l = leaving-empty n j empty_way (omega arith)

  -- where b is not there, the last way leaves: its dirty block is that of the entry there
  pub leaving-shown : (n : ℕ) (es : Entries) (c : Way) → suc n ≤ k → lookup_entry test es ≡ None
      → dirty_block (leaving p c (take (suc n) (padded es))) ≡ dirty_of (slice_get es n)
  leaving-shown n [] c l h = ap dirty_block (leaving-empty n k c l)
  leaving-shown n (e ∷ es) c l h =
      by_cases (eqb e.0 b)
      (λ q. let h' : Some e ≡ None = sym (rw (eqb-comm b e.0, q) refl) ∙ h in cc)
      (λ q. let h' : lookup_entry test es ≡ None = sym (rw (eqb-comm b e.0, q) refl)
      ∙ h in rw q (further n l (λ m g. leaving-shown m es (way_of e) g h'))) where
        further : (n : ℕ) → suc n ≤ k → ((m : ℕ) → suc m ≤ k
            → dirty_block (leaving p (way_of e) (take (suc m) (padded es)))
            ≡ dirty_of (slice_get es m))
            → dirty_block (leaving p (way_of e) (take n (padded es)))
            ≡ dirty_of (slice_get (e ∷ es) n)
        further zero g again = refl
        further (suc m) g again = again m (omega arith)

  -- to remove a block that is not there changes nothing
  pub removed-absent : (es : Entries) → lookup_entry test es ≡ None → remove_entry test es ≡ es
  removed-absent [] h = refl
  removed-absent (e ∷ es) h = by_cases (eqb e.0 b)
      (λ q. let h' : Some e ≡ None = sym (rw (eqb-comm b e.0, q) refl) ∙ h in cc)
      (λ q. let h' : lookup_entry test es ≡ None = sym (rw (eqb-comm b e.0, q) refl)
      ∙ h in rw (eqb-comm b e.0, q) (ap (λ l. e ∷ l) (removed-absent es h')))

  -- nor does to mark it
  pub set-absent : (v : Bool) (es : Entries) → lookup_entry test es ≡ None
      → set_value test es v ≡ es
  set-absent v [] h = refl
  set-absent v (e ∷ es) h = by_cases (eqb e.0 b)
      (λ q. let h' : Some e ≡ None = sym (rw (eqb-comm b e.0, q) refl) ∙ h in cc)
      (λ q. let h' : lookup_entry test es ≡ None = sym (rw (eqb-comm b e.0, q) refl)
      ∙ h in rw (eqb-comm b e.0, q) (ap (λ l. e ∷ l) (set-absent v es h')))

  -- an entry that was found is of the block that was looked up
  pub found-first : (es : Entries) (e : ℕ × Bool) → lookup_entry test es ≡ Some e → e.0 ≡ b
  found-first [] e h = cc
  found-first (f ∷ es) e h = by_cases (eqb f.0 b)
      (λ q. let h' : Some f ≡ Some e = sym (rw (eqb-comm b f.0, q) refl)
      ∙ h in let same : f ≡ e = cc in sym (ap (λ z. z.0) same) ∙ eqb-true f.0 b q)
      (λ q. let h' : lookup_entry test es ≡ Some e = sym (rw (eqb-comm b f.0, q) refl)
      ∙ h in found-first es e h')

  -- a block has a mark just where it has an entry
  pub lookup-is : (es : Entries) → is_some (lookup test es) ≡ is_some (lookup_entry test es)
  lookup-is [] = refl
  lookup-is (e ∷ es) = (elim (test e.0) as (λ t. is_some (cond t (Some e.1) (lookup test es))
      ≡ is_some (cond t (Some e) (lookup_entry test es))) [ true ↦ refl | false ↦ lookup-is es ])

  -- without an entry it has no mark
  pub lookup-none : (es : Entries) → lookup_entry test es ≡ None → lookup test es ≡ None
  lookup-none [] h = refl
  lookup-none (e ∷ es) h = (elim (test e.0) as (λ t. cond t (Some e) (lookup_entry test es) ≡ None
      → cond t (Some e.1) (lookup test es) ≡ None) [
        | true ↦ λ g. cc
        | false ↦ λ g.
            lookup-none es g
      ]) h

  -- the first n ways show the first n entries alone
  pub take-shown : (n : ℕ) (es : Entries) (r : List Way)
      → take n (map way_of (take n es) ++ r) ≡ take n (map way_of es ++ r)
  take-shown zero es r = refl
  take-shown (suc n) [] r = refl
  take-shown (suc n) (e ∷ es) r = ap (λ l. way_of e ∷ l) (take-shown n es r)
