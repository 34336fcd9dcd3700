use Rattle.std.proofs.Common.{◌≡◌, ◌∙◌, ap, sym, subst, Some, Option, List, ℕ, IsSome, refl}
use Rattle.std.specs.Option.{option_copied_mut}
use Rattle.graph_classes.specs.Shown.{lists_in}
use Rattle.graph_classes.specs.Lists.{with_list}
use Rattle.graph_classes.proofs.ListsLemmas.{lists_after, list_at_some, entered_if, kept_if, is_equal}
use Rattle.std.specs.Map.{lookup}
use Rattle.graph_classes.proofs.lists.Lists.enter_known.Goals as goal

found : (c : goal.After-self-2-1) → lookup (is_equal c.args.place) c.self.inside.lists.entries ≡ Some c.in_ok-list.list.now
found c = sym c.get_mut.ensures.value ∙ ap option_copied_mut c.in_ok-list.was

there : (c : goal.After-self-2-1) → lists_in c.args.self.now c.args.place ≡ c.in_ok-list.list.now
there c = ap (λ es. lists_in es c.args.place) (sym c.self.view_is) ∙ list_at_some c.self.inside.lists.entries c.args.place (Some c.in_ok-list.list.now) (found c)

after : (c : goal.After-self-2-1) → lists_in (c.get_mut.follows.lender c.enter-entered.new.self).entries ≡ with_list (lists_in c.args.self.now) c.args.place c.enter-entered.new.self
after c =
    let P : Option (List ℕ) → Type 0 = λ o. IsSome o in
    lists_after c.self.inside.lists.entries (c.get_mut.follows.lender c.enter-entered.new.self).entries c.args.place (Some c.enter-entered.new.self) ((c.get_mut.follows.holds c.enter-entered.new.self).3 (subst P (sym (found c)) refl)).0
    ∙ ap (λ es. with_list (lists_in es) c.args.place c.enter-entered.new.self) c.self.view_is

pub returns-clause-ok : goal.returns-clause-ok
returns-clause-ok c = entered_if c.enter-entered.result _ _ c.args.place c.args.term c.in_ok-list.list.now c.enter-entered.new.self (there c) (after c) c.enter-entered.ensures.ok

pub returns-clause-err : goal.returns-clause-err
returns-clause-err c = kept_if c.enter-entered.result _ _ c.args.place c.in_ok-list.list.now c.enter-entered.new.self (there c) (after c) c.enter-entered.ensures.err
