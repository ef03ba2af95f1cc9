use Rattle.std.proofs.Common.{◌<◌, sym, subst}
use Rattle.cache_core.specs.History.{Rules}
use Rattle.grid_core.specs.Numbers.{IsNumberOf}
use Rattle.stamped_cache.proofs.SameCaches.{same-stands}
use Rattle.stamped_cache.proofs.caches.StampedCaches.access.Goals as goal

pub returns-clause-stands : goal.returns-clause-stands
returns-clause-stands c = λ blocks q h lt is st.
    let same = c.begin.ensures.same in
    c.serve.ensures.stands blocks q h (subst (λ n. q < n) (sym same.users) lt)
    (subst (λ (r : Rules). IsNumberOf blocks r.bsize c.args.access c.args.number) (sym same.rules)
    is)
    (same-stands q c.args.self.now c.begin.new.self (c.begin.ensures.alike q lt) same blocks h st)
