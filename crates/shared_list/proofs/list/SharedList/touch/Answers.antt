use Rattle.std.proofs.Common.{sym, ap, ◌∙◌}
use Rattle.std.proofs.lemmas.List.{get_or_default}
use Rattle.marked_list.specs.Marks.{covers}
use Rattle.shared_list.specs.declared.window.Window.{Window}
use Rattle.shared_list.specs.Shared.{order_by, size_of_list, users_of}
use Rattle.shared_list.specs.Windows.{no_window}
use Rattle.shared_list.proofs.Touching.{window-has}
use Rattle.shared_list.proofs.list.SharedList.touch.Goals as goal

pub returns-in-Some-clause-near : goal.returns-in-Some-clause-near
unfolding order_by size_of_list users_of
returns-in-Some-clause-near c =
    let self = c.args.self.now in
    let u = c.args.user in
    let last = c.last_use-last.result in
    sym (c.near_use.ensures.near c.in-Some.place c.in-Some.is).1
    ∙ ap (λ (w : Window). covers w.place last) (c.index.ensures
    ∙ get_or_default self.windows.items u c.index.result.now no_window c.requires.user)
    ∙ window-has self u c.args.number c.requires.user c.requires.begun last c.last_use-last.ensures

pub returns-in-None-clause-near : goal.returns-in-None-clause-near
unfolding order_by size_of_list users_of
returns-in-None-clause-near c =
    let self = c.args.self.now in
    let u = c.args.user in
    let last = c.last_use-last.result in
    sym (c.near_use.ensures.far c.in-None.is)
    ∙ ap (λ (w : Window). covers w.place last) (c.index.ensures
    ∙ get_or_default self.windows.items u c.index.result.now no_window c.requires.user)
    ∙ window-has self u c.args.number c.requires.user c.requires.begun last c.last_use-last.ensures
