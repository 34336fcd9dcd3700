use Rattle.std.proofs.Common.{◌<◌, [], ℕ, length, All, sym, subst}
use Rattle.formula_draft.specs.DraftNode.{rows_of}
use Rattle.formula_table.specs.Formulas.{FitsTable}
use Rattle.formula_table.specs.EntryInside.{StopsNode}
use Rattle.formula_table.proofs.EntryLemmas.{err_map}
use Rattle.formula_table.proofs.NodeLemmas.{node_grows, stops_node}
use Rattle.formula_table.proofs.InstanceLemmas.{some_body, node_in_body, names_none, body_node_fits, body_node_becomes}
use Rattle.formula_table.proofs.enter_body.enter_body_node.Goals as goal

pub next_node-requires-clause-rows : goal.next_node-requires-clause-rows
next_node-requires-clause-rows g c =
    let node = c.node_at-node.result.now in
    let numbers = c.args.numbers.now in
    let is = some_body c.args.table.now c.len-nodes.ensures.table c.args.forall g.body c.requires.0 in
    let at = node_in_body c.args.table.now c.args.forall g.body c.body_of.result.now c.requires.0 c.body_of.ensures (length numbers) node c.node_at-node.ensures in
    subst (λ (count : ℕ). All (λ row. row < count) (rows_of node)) (sym c.requires.1.1.0) (is.1.over.lawful.nodes_fit (length numbers) node at).rows_stand

pub next_node-requires-clause-parts : goal.next_node-requires-clause-parts
next_node-requires-clause-parts g c =
    let node = c.node_at-node.result.now in
    let numbers = c.args.numbers.now in
    let is = some_body c.args.table.now c.len-nodes.ensures.table c.args.forall g.body c.requires.0 in
    let at = node_in_body c.args.table.now c.args.forall g.body c.body_of.result.now c.requires.0 c.body_of.ensures (length numbers) node c.node_at-node.ensures in
    (is.1.over.lawful.nodes_fit (length numbers) node at).parts_stand

pub next_node-requires-clause-foralls : goal.next_node-requires-clause-foralls
next_node-requires-clause-foralls g c =
    let node = c.node_at-node.result.now in
    let numbers = c.args.numbers.now in
    let is = some_body c.args.table.now c.len-nodes.ensures.table c.args.forall g.body c.requires.0 in
    let at = node_in_body c.args.table.now c.args.forall g.body c.body_of.result.now c.requires.0 c.body_of.ensures (length numbers) node c.node_at-node.ensures in
    names_none is.0 g.body is.1 (length numbers) node at

pub put_node-requires : goal.put_node-requires
put_node-requires g c =
    let node = c.node_at-node.result.now in
    let numbers = c.args.numbers.now in
    let is = some_body c.args.table.now c.len-nodes.ensures.table c.args.forall g.body c.requires.0 in
    let at = node_in_body c.args.table.now c.args.forall g.body c.body_of.result.now c.requires.0 c.body_of.ensures (length numbers) node c.node_at-node.ensures in
    subst (FitsTable c.args.table.now) (sym c.in_ok-node.ensures)
    (body_node_fits is.0 g.body is.1 c.args.terms.now numbers c.args.table.now node at c.requires.1.1.1)

pub returns-in_err-number-clause-fault : goal.returns-in_err-number-clause-fault
returns-in_err-number-clause-fault g c =
    let node = c.node_at-node.result.now in
    let numbers = c.args.numbers.now in
    let is = some_body c.args.table.now c.len-nodes.ensures.table c.args.forall g.body c.requires.0 in
    let at = node_in_body c.args.table.now c.args.forall g.body c.body_of.result.now c.requires.0 c.body_of.ensures (length numbers) node c.node_at-node.ensures in
    let becomes = body_node_becomes is.0 g.body is.1 c.args.terms.now numbers node c.in_ok-node.node at c.in_ok-node.ensures in
    err_map _ _ c.from_residual-in_err-number.result
    (λ fault same. subst (StopsNode g.body c.args.terms.now [] numbers c.args.table.now) (sym same)
    (stops_node g.body c.args.terms.now [] numbers c.args.table.now c.in_ok-node.node becomes c.in_err-number.field-0.0 c.in_err-number.ensures.fault))
    c.from_residual-in_err-number.ensures.1

pub returns-clause-ok : goal.returns-clause-ok
returns-clause-ok g c =
    let node = c.node_at-node.result.now in
    let numbers = c.args.numbers.now in
    let is = some_body c.args.table.now c.len-nodes.ensures.table c.args.forall g.body c.requires.0 in
    let at = node_in_body c.args.table.now c.args.forall g.body c.body_of.result.now c.requires.0 c.body_of.ensures (length numbers) node c.node_at-node.ensures in
    let becomes = body_node_becomes is.0 g.body is.1 c.args.terms.now numbers node c.in_ok-node.node at c.in_ok-node.ensures in
    node_grows g.body c.args.terms.now [] numbers c.args.table.now c.put_node.new.self c.in_ok-number.number c.in_ok-node.node becomes c.in_ok-number.ensures.ok
