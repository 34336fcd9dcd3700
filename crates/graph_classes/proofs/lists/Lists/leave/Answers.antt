use Rattle.std.proofs.Common.{◌∙◌, ap, sym, [], remove}
use Rattle.graph_classes.specs.Shown.{lists_in}
use Rattle.graph_classes.specs.Lists.{with_list}
use Rattle.graph_classes.proofs.ListsLemmas.{with_list-twice}
use Rattle.graph_classes.proofs.lists.Lists.leave.Goals as goal

pub returns-then-leave_list : goal.returns-then-leave_list
returns-then-leave_list c =
    let left = remove (lists_in c.args.self.now c.args.place) c.args.at in
    c.forget.ensures ∙ ap (λ ls. with_list ls c.args.place []) c.leave_list.ensures.left ∙ with_list-twice (lists_in c.args.self.now) c.args.place left []
    ∙ ap (with_list (lists_in c.args.self.now) c.args.place) (sym (c.leave_list.ensures.empty c.if-leave_list.true))
