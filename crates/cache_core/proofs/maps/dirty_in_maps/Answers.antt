use Rattle.std.proofs.Common.{◌≡◌, ℕ, List, [], ◌∷◌, ◌+◌, ◌++◌, ◌<◌, ◌≤◌, length, drop, map, filter}
use Rattle.std.proofs.Common.{ap, sym, subst, ◌∙◌, arith, append_assoc}
use Rattle.std.proofs.lemmas.List.{append-nil}
use Rattle.std.proofs.lemmas.List.{drop_more, drop_all}
use Rattle.cache_core.specs.Row.{is_dirty_way, block_addr_of}
use Rattle.cache_core.specs.Mapped.{Entered, flat, dirty_keys_of}
use Rattle.cache_core.proofs.Flat.{cap-at, dirty-flat_cons}
use Rattle.cache_core.proofs.maps.dirty_in_maps.Goals as goal

abbrev dirty_of : ℕ → List Entered → List ℕ
dirty_of n ms = map block_addr_of (filter is_dirty_way (flat n ms))

pub loop-set-preserved : goal.loop-set-preserved
loop-set-preserved c =
    let m = c.set-item.result in
    let i = c.loop-set.set-index in
    let xs = c.args.sets.now in
    let n = c.args.assoc in
    let block_addrs = c.loop-set.block_addrs.items in
    let inside : i < length xs = omega arith in
    let cap : m.cap ≡ n = ap (λ z. z.cap) c.set-item.is
    ∙ cap-at n xs i (length xs) m c.requires inside in
    let fits : length m.entries ≤ n =
    subst (λ k. length m.entries ≤ k) cap c.in_ok-more.ensures.room in
    let split : drop i xs ≡ m ∷ drop (i + 1) xs = drop_more xs i m inside
    ∙ ap (λ z. z ∷ drop (i + 1) xs) (sym c.set-item.is) in
    let next : dirty_of n (drop i xs) ≡ dirty_keys_of m ++ dirty_of n (drop (i + 1) xs) =
    ap (dirty_of n) split ∙ dirty-flat_cons n m (drop (i + 1) xs) fits in
    let more : c.extend_from_slice.new.self.items ≡ block_addrs ++ dirty_keys_of m =
    c.in_ok-extend_from_slice.ensures.items
    ∙ ap (λ l. block_addrs ++ l) (c.deref.ensures.value ∙ c.in_ok-more.ensures.keys) in
    ap (λ l. l ++ dirty_of n (drop (i + 1) xs)) more
    ∙ append_assoc block_addrs (dirty_keys_of m) (dirty_of n (drop (i + 1) xs))
    ∙ ap (λ l. block_addrs ++ l) (sym next) ∙ c.loop-set.invariant

pub returns : goal.returns
returns c =
    let xs = c.args.sets.now in
    let n = c.args.assoc in
    let none : drop c.loop-set.set-index xs ≡ [] = drop_all c.loop-set.set-index xs (omega arith) in
    sym (ap (λ l. c.loop-set.block_addrs.items ++ dirty_of n l) none
    ∙ append-nil c.loop-set.block_addrs.items) ∙ c.loop-set.invariant
