use Rattle.std.proofs.Common.{◌≡◌, ◌≤◌, ◌-◌, ◌+◌, ◌*◌, ◌++◌, ℕ, List, get_or, length, ltb}
use Rattle.std.proofs.Common.{replicate, refl, sym, ◌∙◌, ap, arith}
use Rattle.std.specs.Vec.{vec_len}
use Rattle.std.proofs.Math.Nat.{mul-le-mul_right}
use Rattle.std.proofs.lemmas.Bool.{ltb-true, ltb-false}
use Rattle.std.proofs.lemmas.List.{get_or-replicate, get_or_append_left, get_or-append_right}
use Rattle.std.proofs.lemmas.List.{get_or_past, length-append, length-replicate, take_all}
use Rattle.cache_core.proofs.Cases.{by_cases}
use Rattle.marked_list.specs.Uses.{never}
use Rattle.shared_list.specs.Stamps.{blocks_in, stamps_of, users_in}
use Rattle.shared_list.proofs.Columns.{column-at}
use Rattle.shared_list.proofs.stamps.Stamps.grow_to.Goals as goal

-- what is behind the items of a list are stamps of blocks that were never used
lengthened : (items : List ℕ) (m i : ℕ)
    → get_or (items ++ replicate m never) i never ≡ get_or items i never
lengthened items m i = by_cases (ltb i (length items))
    (λ e. get_or_append_left items (replicate m never) never i (ltb-true i (length items) e))
    (λ e. let past : length items ≤ i = ltb-false i (length items) e in
    let j = i - length items in
    get_or-append_right items (replicate m never) (length items) i never refl past
    ∙ by_cases (ltb j m)
    (λ f. get_or-replicate m j never never (ltb-true j m f))
    (λ f. get_or_past (replicate m never) j never
    (let low : m ≤ j = ltb-false j m f in omega (arith, low, length-replicate m never)))
    ∙ sym (get_or_past items i never past))

pub returns-clause-kept : goal.returns-clause-kept
unfolding stamps_of users_in blocks_in
returns-clause-kept c = λ q n low.
    let s = c.args.self.now in
    let K = s.users in
    let more : s.blocks * K ≤ c.args.blocks * K = mul-le-mul_right K c.requires.more in
    let all = take_all (c.args.blocks * K) s.stamps.items (omega (arith, more, s.wide)) in
    let is = c.in_ok-resize.ensures.items
    ∙ ap (λ l. l ++ replicate (c.args.blocks * K - vec_len s.stamps) never) all in
    column-at K c.args.blocks c.resize.new.self.items
    (ap (λ (l : List ℕ). length l) is ∙ length-append s.stamps.items _
    ∙ (let long = length-replicate (c.args.blocks * K - vec_len s.stamps) never in
    omega (arith, long, more, s.wide, s.stamps.ok.0))) q n low
    ∙ ap (λ (l : List ℕ). get_or l (n * K + q) never) is
    ∙ lengthened s.stamps.items (c.args.blocks * K - vec_len s.stamps) (n * K + q)
    ∙ sym (column-at K s.blocks s.stamps.items s.wide q n low)
