use Rattle.std.proofs.Common.{◌≡◌, ◌∷◌, refl, sym, ap, ◌∙◌}
use Rattle.cache_core.specs.History.{History, Rules, flush}
use Rattle.cache_core.specs.Counts.{counts_of, tally}
use Rattle.grid_core.proofs.shade.Shade.clear.Goals as goal

-- a flush misses nothing
misses-stay : (r : Rules) (h : History) → (counts_of r h).misses ≡ (counts_of r (flush ∷ h)).misses
unfolding counts_of tally
misses-stay r h = refl

pub returns-clause-stands : goal.returns-clause-stands
returns-clause-stands c = λ h e. record {
  holds = c.clear.ensures.holds h;
  counted = e.counted ∙ misses-stay _ h
      ∙ ap (λ r. (counts_of r (flush ∷ h)).misses) (sym c.clear.ensures.rules);
}
