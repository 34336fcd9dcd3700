use Rattle.std.proofs.Common.{◌∙◌, ap, None, []}
use Rattle.graph_classes.specs.Shown.{lists_in}
use Rattle.graph_classes.specs.Lists.{with_list}
use Rattle.graph_classes.proofs.ListsLemmas.{lists_after}
use Rattle.graph_classes.proofs.lists.Lists.forget.Goals as goal

pub returns : goal.returns
returns c = lists_after c.self.inside.lists.entries c.remove.new.self.entries c.args.place None c.remove.ensures.updates.0 ∙ ap (λ es. with_list (lists_in es) c.args.place []) c.self.view_is
