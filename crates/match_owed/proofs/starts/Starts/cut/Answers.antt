use Rattle.std.proofs.Common.{◌≤◌, List, take, subst, sym}
use Rattle.graph_trigger.specs.declared.trigger.Trigger.{Trigger}
use Rattle.match_trees.specs.EntryList.{EntryList}
use Rattle.match_owed.specs.Starts.{StartList, Serves, AreInOrder}
use Rattle.match_owed.proofs.StartLemmas.{order_cut, serves_cut}
use Rattle.match_owed.proofs.starts.Starts.cut.Goals as goal

pub invariant_of-self : goal.invariant_of-self
invariant_of-self c = subst (λ (l : EntryList). AreInOrder l c.args.triggers) (sym c.cut.ensures) (order_cut c.self.inside.entries c.args.triggers c.entries_of-count.result c.entries_of-count.ensures.splits c.self.invariant)

pub returns : goal.returns
returns c =
    let le = subst (λ (s : StartList). c.args.triggers ≤ s.triggers) (sym c.self.view_is) c.requires in
    subst (λ (s : StartList). (all : List Trigger) → Serves s all → Serves (record { list = c.cut.new.self; triggers = c.args.triggers }) (take c.args.triggers all)) c.self.view_is
    (λ all serves. subst (λ (l : EntryList). Serves (record { list = l; triggers = c.args.triggers }) (take c.args.triggers all)) (sym c.cut.ensures)
    (serves_cut c.self.inside.entries c.args.triggers c.entries_of-count.result c.entries_of-count.ensures.splits c.self.inside.triggers all le serves))
