use Rattle.std.proofs.Common.{[], ◌<◌, length, List, ap, sym, subst, ◌∙◌, append-nil, true≢false}
use Rattle.std.proofs.lemmas.List.Elements.{All-contains}
use Rattle.formula_draft.specs.DraftNode.{parts_of}
use Rattle.formula_draft.specs.Reach.ReachesNode.{part_of_it}
use Rattle.formula_table.specs.declared.node.Node.{Node}
use Rattle.formula_table.proofs.BecomesLaws.{over_none, forall_stands}
use Rattle.formula_table.proofs.StandLaws.{fits_entered}
use Rattle.formula_table.specs.Formulas.{FitsTable}
use Rattle.formula_table.specs.InOrder.PutsNext.{nothing}
use Rattle.formula_table.specs.Entry.{BecomesNode}
use Rattle.formula_table.specs.EntryInside.{StopsNode}
use Rattle.formula_table.proofs.EntryLemmas.{err_map}
use Rattle.formula_table.proofs.NodeLemmas.{node_grows, stops_node}
use Rattle.formula_table.proofs.enter_nodes.enter_node.Goals as goal

pub returns-then-not-reached-clause-ok : goal.returns-then-not-reached-clause-ok
returns-then-not-reached-clause-ok c =
    let table = c.args.table.now in
    ([], ap (λ (nodes : List Node). record table { nodes = nodes }) (sym (append-nil table.nodes)), nothing (λ node becomes. true≢false (sym (c.requires.reached.1 becomes.reached) ∙ c.if-not-reached.true)))

pub put_node-requires : goal.put_node-requires
put_node-requires c =
    let node = c.node_at-node.result.now in
    let fits = c.requires.formula.lawful.nodes_fit (length c.args.numbers.now) node c.node_at-node.ensures in
    subst (FitsTable c.args.table.now) (sym c.in_ok-node.ensures)
    (fits_entered c.args.formula.now c.args.terms.now c.args.foralls.now c.args.numbers.now c.args.table.now (length c.args.numbers.now) node c.node_at-node.ensures (c.requires.reached.0 c.if-not-reached.false)
    (λ part named. c.requires.stand part (All-contains (λ p. p < length c.args.numbers.now) (parts_of node) part fits.parts_stand named) (part_of_it (c.requires.reached.0 c.if-not-reached.false) c.node_at-node.ensures named))
    (λ index reach. c.requires.foralls_stand index (forall_stands c.args.formula.now 0 (over_none c.args.formula.now c.requires.formula) index reach) reach))

pub returns-in_err-number-clause-fault : goal.returns-in_err-number-clause-fault
returns-in_err-number-clause-fault c =
    let becomes : BecomesNode c.args.formula.now c.args.terms.now c.args.foralls.now c.args.numbers.now (length c.args.numbers.now) c.in_ok-node.node = record { draft_node = c.node_at-node.result.now; reached = c.requires.reached.0 c.if-not-reached.false; stands = c.node_at-node.ensures; node_is = c.in_ok-node.ensures } in
    err_map _ _ c.from_residual-in_err-number.result
    (λ fault is. subst (StopsNode c.args.formula.now c.args.terms.now c.args.foralls.now c.args.numbers.now c.args.table.now) (sym is)
    (stops_node c.args.formula.now c.args.terms.now c.args.foralls.now c.args.numbers.now c.args.table.now c.in_ok-node.node becomes c.in_err-number.field-0.0 c.in_err-number.ensures.fault))
    c.from_residual-in_err-number.ensures.1

pub returns-clause-ok : goal.returns-clause-ok
returns-clause-ok c =
    node_grows c.args.formula.now c.args.terms.now c.args.foralls.now c.args.numbers.now c.args.table.now c.put_node.new.self c.in_ok-number.number c.in_ok-node.node
    (record { draft_node = c.node_at-node.result.now; reached = c.requires.reached.0 c.if-not-reached.false; stands = c.node_at-node.ensures; node_is = c.in_ok-node.ensures })
    c.in_ok-number.ensures.ok
