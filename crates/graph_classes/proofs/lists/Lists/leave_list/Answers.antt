use Rattle.std.proofs.Common.{◌∙◌, ap, sym, subst, Some, None, Option, List, ℕ, remove, IsSome, refl}
use Rattle.std.specs.Option.{option_copied_mut}
use Rattle.graph_classes.specs.Shown.{lists_in}
use Rattle.graph_classes.specs.Lists.{with_list}
use Rattle.graph_classes.proofs.ListsLemmas.{lists_after, list_at_some, with_list-same, remove_none}
use Rattle.graph_classes.proofs.lists.Lists.leave_list.Goals as goal

pub returns-in_default-clause-left : goal.returns-in_default-clause-left
returns-in_default-clause-left c =
    let es = c.self.inside.lists.entries in
    let none = list_at_some es c.args.place None (sym c.get_mut.ensures.value ∙ ap option_copied_mut c.in_default.is) in
    let same = ap (λ xs. remove xs c.args.at) none ∙ remove_none c.args.at ∙ sym none in
    ap (λ m. lists_in m.entries) c.get_mut.follows.holds-at-none ∙ sym (with_list-same (lists_in es) c.args.place (remove (lists_in es c.args.place) c.args.at) same)
    ∙ ap (λ fs. with_list (lists_in fs) c.args.place (remove (lists_in fs c.args.place) c.args.at)) c.self.view_is

pub returns-clause-left : goal.returns-clause-left
returns-clause-left c =
    let es = c.self.inside.lists.entries in
    let found = sym c.get_mut.ensures.value ∙ ap option_copied_mut c.in-Some.is in
    let P : Option (List ℕ) → Type 0 = λ o. IsSome o in
    lists_after es _ c.args.place (Some c.leave.new.self) ((c.get_mut.follows.holds c.leave.new.self).3 (subst P (sym found) refl)).0
    ∙ ap (with_list (lists_in es) c.args.place) (c.leave.ensures ∙ ap (λ xs. remove xs c.args.at) (sym (list_at_some es c.args.place _ found)))
    ∙ ap (λ fs. with_list (lists_in fs) c.args.place (remove (lists_in fs c.args.place) c.args.at)) c.self.view_is
