use Rattle.std.proofs.Common.{ℕ, List, reverse, Option, Some, None, get_or, sym, ap, ◌∙◌}
use Rattle.std.proofs.lemmas.List.{reverse-reverse}
use Rattle.smt_names.specs.declared.bound.Bound.{Bound}
use Rattle.smt_names.specs.declared.linked.Linked.{Linked}
use Rattle.smt_names.specs.Names.{bound_as}
use Rattle.smt_names.specs.BoundInside.{bound_in, bound_at}
use Rattle.smt_names.proofs.BoundLemmas.{unbound, bound_by}
use Rattle.smt_names.proofs.bound_names.BoundNames.find.Goals as goal

pub returns-in-None : goal.returns-in-None
returns-in-None c = sym (ap (λ (items : List Linked). bound_as (bound_in items) c.args.name.now) (sym (reverse-reverse c.self.inside.items.items))
    ∙ unbound c.self.inside.names c.args.name.now (reverse c.self.inside.items.items) (sym c.in-None.ensures) c.self.invariant.linked)
    ∙ ap (λ (bound : List Bound). bound_as bound c.args.name.now) c.self.view_is

pub returns-in-None-last_of : goal.returns-in-None-last_of
returns-in-None-last_of c = sym (bound_by c.self.inside.names c.args.name.now c.self.inside.items.items c.self.inside.last.items c.in-Some.number None c.self.invariant.linked c.self.invariant.last (sym c.in-Some.ensures)
    (c.in-None-last_of.ensures ∙ ap (λ (last : List (Option ℕ)). get_or last c.in-Some.number None) c.as_slice.ensures.value))
    ∙ ap (λ (bound : List Bound). bound_as bound c.args.name.now) c.self.view_is

pub returns-in-Some-last_of : goal.returns-in-Some-last_of
returns-in-Some-last_of c = c.bound_at.ensures ∙ ap (λ (items : List Linked). bound_at items c.in-Some-last_of.place) c.as_slice-in-Some-last_of.ensures.value
    ∙ sym (bound_by c.self.inside.names c.args.name.now c.self.inside.items.items c.self.inside.last.items c.in-Some.number (Some c.in-Some-last_of.place) c.self.invariant.linked c.self.invariant.last (sym c.in-Some.ensures)
    (c.in-Some-last_of.ensures ∙ ap (λ (last : List (Option ℕ)). get_or last c.in-Some.number None) c.as_slice.ensures.value))
    ∙ ap (λ (bound : List Bound). bound_as bound c.args.name.now) c.self.view_is
