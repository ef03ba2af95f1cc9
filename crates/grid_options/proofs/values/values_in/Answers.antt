use Rattle.std.proofs.Common.{◌≡◌, ◌∙◌, IfOk, map, subst, sym}
use Rattle.grid_options.proofs.ValuesLemmas.{values_alone, values_listed}
use Rattle.grid_options.proofs.values.values_in.Goals as goal

pub returns-then-takes_list : goal.returns-then-takes_list
returns-then-takes_list c =
    subst (λ vs. IfOk c.pieces.result (λ v. map (λ t. t.now) v.items ≡ vs))
    (values_listed _ _ _ (sym c.takes_list.ensures ∙ c.if-takes_list.true) c.grid_text-text.ensures)
    c.pieces.ensures

pub returns-else-takes_list : goal.returns-else-takes_list
returns-else-takes_list c =
    subst (λ vs. IfOk c.alone.result (λ v. map (λ t. t.now) v.items ≡ vs))
    (values_alone _ _ _ (sym c.takes_list.ensures ∙ c.if-takes_list.false) c.grid_text-text.ensures)
    c.alone.ensures
