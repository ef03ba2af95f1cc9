use Rattle.std.proofs.Common.{List, arith, subst, sym}
use Rattle.std.specs.List.{All}
use Rattle.cache_core.specs.History.{Rules}
use Rattle.cache_core.specs.Parts.{SendsNothing, outcome_of}
use Rattle.grid_core.specs.declared.single.Single.{Single}
use Rattle.grid_core.specs.Caches.{together_rules, apart_rules}
use Rattle.grid_core.specs.Singles.{single_rules, SingleHasAnswered}
use Rattle.grid_core.proofs.Silence.{at-rules, at-place}
use Rattle.grid_core.proofs.caches.Caches.sent_nothing.Goals as goal

pub returns : goal.returns
returns c = λ none h x answered place there.
    let caches = c.args.self.now in
    let P : Rules → Type 0 = λ r. SendsNothing (outcome_of r h x) in
    at-place P (together_rules caches) (apart_rules caches)
    (λ i lt. c.sent_nothing.ensures.told c.if-not-sent_nothing.false h x
    (answered.stacked (omega arith)) i lt)
    (at-rules single_rules P caches.singles.items
    (subst (λ (l : List Single). All (λ s. P (single_rules s)) l) c.deref.ensures.value
    (c.none_sent.ensures none h x (subst (λ (l : List Single). All (SingleHasAnswered h x) l)
    (sym c.deref.ensures.value) answered.singles)))) place there
