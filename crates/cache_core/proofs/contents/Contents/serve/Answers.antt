use Rattle.std.proofs.Common.{◌≡◌, ℕ, ◌/◌, ◌%◌, ap, ◌∙◌}
use Rattle.std.proofs.Math.Nat.{mod-lt}
use Rattle.cache_core.specs.Geometry.{bsize_of, sets_of}
use Rattle.cache_core.specs.Sets.{ways_in}
use Rattle.cache_core.specs.Standing.{rules_held, ways_held}
use Rattle.cache_core.proofs.Lawful.{sane_of}
use Rattle.cache_core.proofs.AccessStep.{served-is, rows-after}
use Rattle.cache_core.proofs.Refusals.{ok-or}
use Rattle.cache_core.proofs.contents.Contents.serve.Goals as goal

pub serve_set-answer-requires : goal.serve_set-answer-requires
serve_set-answer-requires c =
    let g = c.args.self.now.geometry in (
      sets_of g,
      rw c.assoc-assoc.ensures c.args.self.now.room,
      rw c.set-set.ensures (mod-lt c.block-block.result (sane_of g).sets_pos),
    )

pub invariant_of-self : goal.invariant_of-self
invariant_of-self c =
    let old = c.args.self.now in
    record {
      room = rw c.assoc-assoc.ensures at c.serve_set-answer.ensures.shape (sets_of old.geometry)
          old.room;
    }

pub returns-clause-served : goal.returns-clause-served
unfolding rules_held ways_held
returns-clause-served c =
    let old = c.args.self.now in
    let served = rw (
      c.assoc-assoc.ensures,
      c.set-set.ensures,
      c.first_byte-block_addr.ensures,
      c.block-block.ensures,
      c.writes.ensures,
    ) at c.serve_set-answer.ensures.served in
    ok-or _ c.serve_set-answer.result _ c.or.ensures served (λ answer done h st.
    served-is old.geometry old.policy h c.args.access (ways_in old.sets) st.rows answer done.hit
    done.back)

pub returns-clause-holds : goal.returns-clause-holds
unfolding rules_held ways_held
returns-clause-holds c =
    let old = c.args.self.now in
    let g = old.geometry in
    let x = c.args.access in
    let set-is : c.set-set.result ≡ x.addr / bsize_of g % sets_of g = c.set-set.ensures
    ∙ ap (λ z. z % sets_of g) c.block-block.ensures in
    let served = rw (
      c.assoc-assoc.ensures,
      c.set-set.ensures,
      c.first_byte-block_addr.ensures,
      c.block-block.ensures,
      c.writes.ensures,
    ) at c.serve_set-answer.ensures.served in
    let others = λ (t : ℕ) (apart : t ≡ x.addr / bsize_of g % sets_of g → ⊥).
    rw c.assoc-assoc.ensures at (c.serve_set-answer.ensures.others t (λ e. apart (e ∙ set-is))) in
    ok-or _ c.serve_set-answer.result _ c.or.ensures served (λ answer done h st. record {
      rows = λ t below. rows-after g old.policy h x (ways_in old.sets) st.rows
          (ways_in c.serve_set-answer.new.sets) done.row others t below;
    })
