use Rattle.std.proofs.Common.{◌≡◌, ℕ, ◌<◌, ◌≤◌, [], List, length, get_or, map, sym, ap, subst}
use Rattle.std.proofs.Common.{◌∙◌, arith}
use Rattle.std.specs.Global.{Vec}
use Rattle.std.proofs.lemmas.List.{get_or-map, length-map}
use Rattle.cache_core.specs.History.{History}
use Rattle.grid_core.specs.declared.single.Single.{Single}
use Rattle.grid_core.specs.Cells.{items_of}
use Rattle.grid_core.specs.Singles.{single_rules, single_dirty}
use Rattle.grid_core.specs.Written.{no_rules, written_by}
use Rattle.grid_core.proofs.ListLoops.{all_changed, changed_more, next, part-told}
use Rattle.grid_core.proofs.singles.clear_all.Goals as goal

-- the length of a list at an index, in the lengths of all
long-at : (lists : List (Vec ℕ)) (i : ℕ) (v : Vec ℕ) → i < length lists → v ≡ get_or lists i v
    → length v.items ≡ get_or (map (λ w. length w.items) lists) i 0
long-at lists i v lt is = ap (λ w. length w.items) is
    ∙ sym (get_or-map (λ w. length w.items) lists i v 0 lt)

-- as many blocks are written back as the definitions say
written-at : (h : History) (lists : List (Vec ℕ)) (first : List Single) (i : ℕ) (v : Vec ℕ)
    (e : Single) → i < length lists → i < length first → v ≡ get_or lists i v
    → map items_of lists ≡ map (written_by h) (map single_rules first)
    → length v.items ≡ length (written_by h (single_rules (get_or first i e)))
written-at h lists first i v e lt lt' is same =
    let rs = map single_rules first in
    let long : i < length rs = subst (λ n. i < n) (sym (length-map first single_rules)) lt' in
    ap (λ w. length (items_of w)) is
    ∙ ap length (sym (get_or-map items_of lists i v [] lt) ∙ ap (λ l. get_or l i []) same
    ∙ get_or-map (written_by h) rs i no_rules [] long
    ∙ ap (written_by h) (get_or-map single_rules first i e no_rules lt'))

pub clear-requires-clause-few : goal.clear-requires-clause-few
clear-requires-clause-few c =
    let i = c.loop-index.index in
    let e = c.single-item.result in
    let v = c.index.result.now in
    let singles = c.args.singles.now.items in
    let lists = c.args.lists.now.items in
    let inside : i < length singles = omega arith in
    let listed : i < length lists = (let len = c.requires.len in omega arith) in
    let here = sym (next c.loop-index.invariant c.deref_mut-single-items.ensures.value e) in
    subst (λ n. n ≤ single_dirty (get_or c.loop-index.single-items i e))
    (sym (c.len.ensures ∙ v.ok.0 ∙ long-at lists i v listed c.index.ensures))
    (subst (λ n. get_or (map (λ w. length w.items) lists) i 0 ≤ n)
    (get_or-map single_dirty singles i e 0 inside ∙ ap single_dirty here)
    (c.requires.few i inside))

pub loop-index-preserved : goal.loop-index-preserved
loop-index-preserved c =
    let i = c.loop-index.index in
    let e = c.single-item.result in
    let v = c.index.result.now in
    let singles = c.args.singles.now.items in
    let lists = c.args.lists.now.items in
    let inside : i < length singles = omega arith in
    let listed : i < length lists = (let len = c.requires.len in omega arith) in
    let here = sym (next c.loop-index.invariant c.deref_mut-single-items.ensures.value e) in
    changed_more c.loop-index.invariant e c.clear.new.self (omega arith) (cc) (record {
      stands = λ h was same. c.clear.ensures.stands h was (c.len.ensures ∙ v.ok.0
          ∙ written-at h lists singles i v e listed inside c.index.ensures same
          ∙ ap (λ s. length (written_by h (single_rules s))) here);
      settled = c.clear.ensures.settled;
    })

pub returns : goal.returns
returns c =
    let all = all_changed c.loop-index.invariant c.deref_mut-single-items.ensures.value
    c.args.singles.now.ok.0 (omega arith) in
    record {
      stands = λ h were same j d lt.
          (all.changed j d lt).stands h (were j d (all.inside j lt)) same;
      settled = λ n were j d lt. (all.changed j d lt).settled n (were j d (all.inside j lt));
      rules = part-told _ _ _ all.told (λ t. t.1);
      shading = all.told;
    }
