use Rattle.std.proofs.Common.{◌≡◌, Some, slice_get, sym, ap, subst, ◌∙◌}
use Rattle.cache_core.proofs.Again.{last-is, first-there, first-stays, promoted-first, put-first}
use Rattle.cache_core.proofs.kinds.MissClassifier.classify.Goals as goal
use Rattle.cache_core.proofs.kinds.MissClassifier.classify.Goals.{Then-is_last}

-- the block that was used last stands first in the shadow
first : (c : Then-is_last)
    → slice_get c.args.self.now.shadow.entries 0 ≡ Some (c.args.block, tt)
first c =
    let s = c.args.self.now in
    s.recent c.args.block
    (last-is s.last c.args.block (sym c.is_last.ensures ∙ c.if-is_last.true))

pub returns-then-is_last-clause-in_shadow : goal.returns-then-is_last-clause-in_shadow
returns-then-is_last-clause-in_shadow c =
    sym (first-there c.args.self.now.shadow.entries c.args.block
    (first (goal.at.returns-then-is_last-clause-in_shadow c).Then-is_last))

pub returns-then-is_last-clause-promotes : goal.returns-then-is_last-clause-promotes
returns-then-is_last-clause-promotes c =
    sym (first-stays c.args.self.now.shadow.entries c.args.block
    (first (goal.at.returns-then-is_last-clause-promotes c).Then-is_last))

pub invariant_of-self-then-in_shadow : goal.invariant_of-self-then-in_shadow
invariant_of-self-then-in_shadow c = record {
  recent = λ x e. let same : c.args.block ≡ x = cc in
      subst (λ z. slice_get c.promote-in_shadow.new.self.entries 0 ≡ Some (z, tt)) same
      (ap (λ m. slice_get m.entries 0) c.promote-in_shadow.ensures.entries
      ∙ promoted-first c.args.self.now.shadow.entries c.args.block
      (sym c.promote-in_shadow.ensures.value ∙ c.if-in_shadow.true));
}

pub invariant_of-self-2 : goal.invariant_of-self-2
invariant_of-self-2 c = record {
  recent = λ x e. let same : c.args.block ≡ x = cc in
      subst (λ z. slice_get c.put.new.self.entries 0 ≡ Some (z, tt)) same
      (ap (λ m. slice_get m.entries 0) c.in-Ok.ensures.entries
      ∙ put-first c.promote-in_shadow.new.self.entries c.promote-in_shadow.new.self.cap
      c.args.block);
}
