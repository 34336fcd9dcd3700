use Rattle.std.proofs.Common.{◌∙◌, ap, sym, subst, Some, List, ℕ, refl}
use Rattle.graph_classes.specs.Shown.{lists_in}
use Rattle.graph_classes.specs.Lists.{with_list}
use Rattle.graph_classes.specs.Rising.{Enters}
use Rattle.graph_classes.proofs.ListsLemmas.{lists_after, entered}
use Rattle.graph_classes.proofs.lists.Lists.enter_new.Goals as goal

pub returns-clause-ok : goal.returns-clause-ok
returns-clause-ok c =
    let P : List ℕ → Type 0 = λ xs. Enters xs c.enter.new.self c.args.term c.in_ok-at.at in
    entered (lists_in c.args.self.now) _ c.args.place c.args.term (lists_in c.args.self.now c.args.place) c.enter.new.self c.in_ok-at.at refl
    (lists_after c.self.inside.lists.entries c.insert.new.self.entries c.args.place (Some c.enter.new.self) c.in_ok-insert.ensures.updates.0 ∙ ap (λ es. with_list (lists_in es) c.args.place c.enter.new.self) c.self.view_is)
    (subst P (c.new-list.ensures ∙ sym c.requires) c.in_ok-at.ensures.ok)
