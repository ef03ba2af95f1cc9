use Rattle.std.proofs.Common.{◌≡◌, ◌||◌, true, cond, eqb, get_or, map, set, ap, sym, ◌∙◌}
use Rattle.cache_core.proofs.Cases.{by_cases}
use Rattle.shared_list.specs.declared.log.Use.{Use}
use Rattle.shared_list.specs.Log.{no_use, seen}
use Rattle.shared_list.specs.Users.{has_user}
use Rattle.shared_list.proofs.Seen.{numbers-same, seen-changed, seen-same, use-is}
use Rattle.shared_list.proofs.log.give.Goals as goal

pub returns-clause-seen : goal.returns-clause-seen
returns-clause-seen c = λ q lt.
    let log = c.args.log.now.items in
    let p = c.args.place in
    let u = c.index_mut.result.now in
    let is = c.index_mut.ensures.value in
    let users = c.with.result in
    let n = (get_or log p (no_use 0)).number in
    let old : has_user users q ≡ (eqb q c.args.user || has_user u.users q) =
    c.with.ensures q lt ∙ ap (λ (v : Use). eqb q c.args.user || has_user v.users q)
    (c.index.ensures ∙ use-is log p u is c.requires.inside c.index.result.now) in
    by_cases (eqb q c.args.user)
    (λ e. seen-changed log p u is users q true (old ∙ ap (λ t. t || has_user u.users q) e)
    ∙ ap (λ (v : Use). set (map (seen q) log) p v.number)
    (sym (use-is log p u is c.requires.inside (no_use 0)))
    ∙ sym (ap (λ t. cond t (set (map (seen q) log) p n) (map (seen q) log)) e))
    (λ e. seen-same log p u is users q (old ∙ ap (λ t. t || has_user u.users q) e)
    ∙ sym (ap (λ t. cond t (set (map (seen q) log) p n) (map (seen q) log)) e))

pub returns-clause-numbers : goal.returns-clause-numbers
returns-clause-numbers c = numbers-same c.args.log.now.items c.args.place
    c.index_mut.result.now c.index_mut.ensures.value c.with.result
