-- A cache stands for a history in the words of the rules that it had before.
use Rattle.std.proofs.Common.{◌≡◌, ℕ, false, length, map, nat_eq, sym, ap, ◌∙◌}
use Rattle.std.specs.HashSet.{contains}
use Rattle.std.specs.List.{list_any}
use Rattle.cache_core.specs.declared.cache.Cache.{Cache}
use Rattle.cache_core.specs.History.{Rules, History}
use Rattle.cache_core.specs.Order.{residents_of}
use Rattle.cache_core.specs.Kinds.{shadow_of, referenced_blocks}
use Rattle.cache_core.specs.Counts.{counts_of}
use Rattle.cache_core.specs.Standing.{Holds, StandsFor, rules_of, served_of, counts_kept}
use Rattle.cache_core.specs.Standing.{has_failed}
use Rattle.cache_core.proofs.Shadow.{pair}

pub stands-by : (c : Cache) (h : History) (r : Rules) → rules_of c ≡ r → has_failed c ≡ false
    → Holds c.contents h
    → c.classifier.shadow.entries ≡ map pair (residents_of (shadow_of r) h 0)
    → ((b : ℕ) → contains nat_eq c.classifier.referenced b
    ≡ list_any (λ t. nat_eq t b) (referenced_blocks r h))
    → counts_kept c ≡ counts_of r h → served_of c ≡ length h → StandsFor c h
stands-by c h r same works holds shadow referenced counts served = record {
  working = works;
  holds = holds;
  shadow = shadow ∙ ap (λ q. map pair (residents_of (shadow_of q) h 0)) (sym same);
  referenced = λ b. referenced b
      ∙ ap (λ q. list_any (λ t. nat_eq t b) (referenced_blocks q h)) (sym same);
  counts = counts ∙ ap (λ q. counts_of q h) (sym same);
  served = served;
}
