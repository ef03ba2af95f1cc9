use Rattle.std.proofs.Common.{◌&&◌}
use Rattle.std.proofs.Common.{◌<◌, ◌^◌, sym, subst, ◌∙◌}
use Rattle.std.proofs.lemmas.List.{get_or_default}
use Rattle.std.proofs.lemmas.List.Elements.{All-set}
use Rattle.stamped_cache.specs.declared.tally.Tally.{Tally}
use Rattle.stamped_cache.specs.Counted.{IsTally, no_tally}
use Rattle.stamped_cache.specs.Tallies.{tallies_in, tally_of}
use Rattle.stamped_cache.proofs.Tallied.{any_back, any_back-is, tally-more}
use Rattle.stamped_cache.proofs.tallies.Tallies.load.Goals as goal

pub invariant_of-self : goal.invariant_of-self
unfolding tally_of tallies_in
invariant_of-self c =
    let back = c.args.back && c.args.wback in
    let old = c.args.self.now in
    record {
      within = All-set IsTally old.tallies.items c.args.user c.load.new.self
          (tally-more c.args.access _ _ _ c.index_mut.result.now c.load.new.self
          (subst IsTally (sym c.index_mut.ensures.value)
          (old.within c.args.user c.index_mut.result.now c.requires.user))
          (subst (λ (t : Tally). t.served < 2 ^ 44)
          (sym (c.index_mut.ensures.value ∙ get_or_default old.tallies.items c.args.user
          c.index_mut.result.now no_tally c.requires.user)) c.requires.few)
          (c.load.ensures (any_back back) (any_back-is back)))
          old.within;
    }
