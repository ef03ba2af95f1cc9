use Rattle.std.proofs.Common.{◌≡◌, ℕ, ◌<◌, ◌≤◌, ◌+◌, ◌∷◌, [], ◌++◌, List, length, get_or, map}
use Rattle.std.proofs.Common.{take, inl, inr, sym, ap, subst, ◌∙◌, arith}
use Rattle.std.proofs.lemmas.Bool.{cases_lt}
use Rattle.std.proofs.lemmas.List.{map-append, map_more}
use Rattle.std.proofs.lemmas.List.{length-append, get_or_append_left, length-map}
use Rattle.std.proofs.lemmas.List.{get_or-map}
use Rattle.std.proofs.Math.Seq.{get_or-append_seam}
use Rattle.std.specs.Global.{Vec}
use Rattle.grid_core.specs.declared.single.Single.{Single}
use Rattle.grid_core.specs.Cells.{items_of}
use Rattle.grid_core.specs.Singles.{SingleStandsFor, single_rules, single_dirty}
use Rattle.grid_core.specs.Written.{written_by}
use Rattle.grid_core.proofs.singles.lists_all.Goals as goal

-- one list more, which is short enough, leaves all short enough
few-more : (old new : List (Vec ℕ)) (v : Vec ℕ) (xs : List Single) (i k : ℕ)
    → new ≡ old ++ v ∷ [] → length old ≡ i → k < i + 1
    → (k < i → get_or (map (λ w. length w.items) old) k 0 ≤ get_or (map single_dirty xs) k 0)
    → length v.items ≤ get_or (map single_dirty xs) i 0
    → get_or (map (λ w. length w.items) new) k 0 ≤ get_or (map single_dirty xs) k 0
few-more old new v xs i k is len lt before last =
    let f : Vec ℕ → ℕ = λ w. length w.items in
    let ns = map f old in
    let long : length ns ≡ i = length-map old f ∙ len in
    let grown : map f new ≡ ns ++ f v ∷ [] = ap (map f) is ∙ map-append f old (v ∷ []) in
    elim (cases_lt k i) as (λ _. get_or (map f new) k 0 ≤ get_or (map single_dirty xs) k 0) [
      | inl below ↦ subst (λ n. n ≤ get_or (map single_dirty xs) k 0)
          (sym (ap (λ l. get_or l k 0) grown
          ∙ get_or_append_left ns (f v ∷ []) 0 k (omega arith))) (before below)
      | inr above ↦
          let here : i ≡ k = omega arith in
          subst (λ n. get_or (map f new) n 0 ≤ get_or (map single_dirty xs) n 0) here
          (subst (λ n. n ≤ get_or (map single_dirty xs) i 0)
          (sym (ap (λ l. get_or l i 0) grown ∙ ap (λ n. get_or (ns ++ f v ∷ []) n 0) (sym long)
          ∙ get_or-append_seam ns (f v) [] 0)) last)
    ]

pub loop-single-preserved : goal.loop-single-preserved
loop-single-preserved c =
    let i = c.loop-single.single-index in
    let xs = c.args.singles.now.items in
    let e = c.single-item.result in
    let inside : i < length xs = omega arith in
    let old = c.loop-single.lists.items in
    let v = c.in_ok-list.list in
    let new = c.push.new.self.items in
    let is : new ≡ old ++ v ∷ [] = c.in_ok-push.ensures.items in
    let len = c.loop-single.invariant.len in
    let here : e ≡ get_or xs i e = c.single-item.is
    ∙ ap (λ (l : List Single). get_or l i e) c.deref-single-items.ensures.value in
    record {
      lists = λ h all. ap (map items_of) is
          ∙ map-append items_of old (v ∷ [])
          ∙ ap (λ l. l ++ v.items ∷ []) (c.loop-single.invariant.lists h all)
          ∙ ap (λ l. map (written_by h) (map single_rules (take i xs)) ++ l ∷ [])
          (c.in_ok-list.ensures.list h (subst (SingleStandsFor h) (sym here)
          (all i e inside)) ∙ ap (λ s. written_by h (single_rules s)) here)
          ∙ sym (map-append (written_by h) (map single_rules (take i xs))
          (single_rules (get_or xs i e) ∷ []))
          ∙ ap (map (written_by h)) (sym (map_more single_rules xs i e inside));
      few = λ k lt. few-more old new v xs i k is len lt (c.loop-single.invariant.few k)
          (subst (λ n. length v.items ≤ n) (ap single_dirty here
          ∙ sym (get_or-map single_dirty xs i e 0 inside)) c.in_ok-list.ensures.few);
      len = ap length is ∙ length-append old (v ∷ []) ∙ ap (λ n. n + 1) len;
    }
