use Rattle.std.proofs.Common.{◌≡◌, ℕ, List, Some, ap, sym, subst, unwrap_or, ◌∙◌}
use Rattle.grid_core.specs.Numbered.{blocks_in}
use Rattle.grid_core.specs.Numbers.{number_at}
use Rattle.grid_run.specs.Numbering.{KnowsNumber}
use Rattle.grid_run.specs.declared.numbered.Known.{Known}
use Rattle.grid_run.proofs.MoreNumbers.{family-more}
use Rattle.grid_run.proofs.Sent.{was-access}
use Rattle.grid_run.proofs.front.Front.serve_access.Goals as goal

-- a block that has this number is right
right-some : (blocks : List ℕ) (k : Known) → number_at blocks k.block ≡ Some k.number
    → KnowsNumber blocks (Some k)
right-some blocks k is j same =
    subst (λ (l : Known). number_at blocks l.block ≡ Some l.number)
    (ap (λ o. unwrap_or o k) same) is

pub returns-clause-stands : goal.returns-clause-stands
returns-clause-stands c = λ h at.
    let old = c.args.self.now in
    let blocks = blocks_in c.number_of.new.numbers in
    let is = c.in_ok-number.ensures.number in
    record {
      stands = c.in_ok-access.ensures.stands blocks h
          (ap (number_at blocks) (sym c.block-block.ensures) ∙ is)
          (family-more _ blocks c.number_of.ensures.grows old.family h at.stands);
      last = record { known = right-some blocks _ is };
    }

pub returns-clause-last : goal.returns-clause-last
returns-clause-last c = λ h at.
    let old = c.args.self.now in
    let blocks = blocks_in c.number_of.new.numbers in
    let served = c.in_ok-access.ensures.last blocks h
    (ap (number_at blocks) (sym c.block-block.ensures) ∙ c.in_ok-number.ensures.number)
    (family-more _ blocks c.number_of.ensures.grows old.family h at.stands) in
    record {
      last = was-access c.access.new.self h old.lists.items c.args.access c.sent_nothing.result
          c.last_of-self.result c.last_of-self.ensures
          (λ none. c.sent_nothing.ensures none h c.args.access served) served;
    }
