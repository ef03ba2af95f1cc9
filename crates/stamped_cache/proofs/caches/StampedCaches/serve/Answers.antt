use Rattle.std.proofs.Common.{ℕ, ◌<◌, ◌+◌, ◌&&◌, not, cond, sym, ap, subst, ◌∙◌, arith}
use Rattle.shared_list.specs.Users.{is_user}
use Rattle.stamped_cache.specs.Stamped.{stamped_served, stamped_users}
use Rattle.stamped_cache.proofs.Named.{all}
use Rattle.stamped_cache.proofs.Those.{as-left, is-now, left-before, not-before, those-next}
use Rattle.stamped_cache.proofs.Those.{those-same}
use Rattle.stamped_cache.proofs.caches.StampedCaches.serve.Goals as goal

pub without-rest-requires : goal.without-rest-requires
without-rest-requires c = (c.first.ensures.some c.in-Some.user c.in-Some.is).0

pub serve_one-requires-clause-user : goal.serve_one-requires-clause-user
unfolding stamped_users
serve_one-requires-clause-user c =
    let u = c.in-Some.user in
    let first = c.first.ensures.some u c.in-Some.is in
    let inv = c.loop-user.invariant in
    subst (λ n. u < n) (sym inv.done.same.users) (inv.low u first.0 first.1)

pub serve_one-requires-clause-few : goal.serve_one-requires-clause-few
unfolding stamped_users
serve_one-requires-clause-few c =
    let u = c.in-Some.user in
    let first = c.first.ensures.some u c.in-Some.is in
    let done = c.loop-user.invariant.done in
    let before = c.args.self.now in
    let low = c.loop-user.invariant.low u first.0 first.1 in
    let named = is_user c.args.users in
    let left = is_user c.loop-user.rest in
    let rest = is_user c.without-rest.result in
    let served = done.served u low ∙ ap (λ t. cond t (stamped_served before u + 1)
    (stamped_served before u))
    (not-before named left rest u first.0 first.1 c.without-rest.ensures.is) in
    let few = c.requires.few u low (c.loop-user.invariant.some u first.0 first.1) in
    omega arith

pub loop-user-smaller : goal.loop-user-smaller
loop-user-smaller c =
    let first = c.first.ensures.some c.in-Some.user c.in-Some.is in
    c.without-rest.ensures.less first.1

pub loop-user-preserved : goal.loop-user-preserved
unfolding stamped_users
loop-user-preserved c =
    let u = c.in-Some.user in
    let first = c.first.ensures.some u c.in-Some.is in
    let inv = c.loop-user.invariant in
    let old = c.args.self.now in
    let low = inv.low u first.0 first.1 in
    let named = is_user c.args.users in
    let left = is_user c.loop-user.rest in
    let rest = is_user c.without-rest.result in
    let is = c.without-rest.ensures.is in
    record {
      some = λ q lt e. inv.some q lt (left-before named left rest u first.0 first.1 is q lt e);
      low = λ q lt e. inv.low q lt (left-before named left rest u first.0 first.1 is q lt e);
      done = those-next c.args.access c.args.number old c.loop-user.self
          (λ q. named q && not (left q)) (λ q. named q && not (rest q)) inv.done u
          c.serve_one.new.self c.serve_one.ensures low
          (not-before named left rest u first.0 first.1 is)
          (is-now named left rest u first.0 first.1 is (inv.some u first.0 first.1))
          (λ q lt. as-left named left rest u first.0 first.1 is q (few q lt));
      ready = c.serve_one.ensures.ready;
    }
  where
    few : (q : ℕ) → q < c.args.self.now.users → q < 32
    few q lt = let le = c.args.self.now.few in omega arith

pub returns : goal.returns
returns c = those-same c.args.access c.args.number c.args.self.now c.loop-user.self
    (λ q. is_user c.args.users q && not (is_user c.loop-user.rest q)) (is_user c.args.users)
    c.loop-user.invariant.done
    (λ q lt. sym (ap (λ t. is_user c.args.users q && not t) (c.first.ensures.none c.in_default.is q)
    ∙ all (is_user c.args.users q)))
