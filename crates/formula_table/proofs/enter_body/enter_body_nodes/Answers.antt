use Rattle.std.proofs.Common.{◌≡◌, ◌<◌, ◌+◌, [], ℕ, List, length, slice_get, Some, sym, ap, subst, ◌∙◌, arith}
use Rattle.std.proofs.lemmas.Option.{slice_get-get_or}
use Rattle.formula_draft.specs.Draft.{Formula}
use Rattle.formula_table.specs.EntryInside.{NodeGrows, StopsNode, StopsNodes}
use Rattle.formula_table.proofs.EntryLemmas.{err_map}
use Rattle.formula_table.proofs.NodeLemmas.{NodesSoFar, nodes_none, nodes_next, nodes_stopped}
use Rattle.formula_table.proofs.InstanceLemmas.{one_body, some_body}
use Rattle.formula_table.proofs.enter_body.enter_body_nodes.Goals as goal

pub loop-n-init : goal.loop-n-init
loop-n-init g c = subst (λ (numbers : List ℕ). NodesSoFar g.body c.args.terms.now [] c.args.table.now c.args.table.now numbers 0) (sym c.new-numbers.ensures.items) (nodes_none g.body c.args.terms.now [] c.args.table.now)

pub returns-in_err-number-clause-fault : goal.returns-in_err-number-clause-fault
returns-in_err-number-clause-fault g c =
    let stops = subst (λ (numbers : List ℕ). StopsNode g.body c.args.terms.now [] numbers c.loop-n.table c.in_err-number.field-0.0) c.deref.ensures.value c.in_err-number.ensures.fault in
    err_map _ _ c.from_residual.result
    (λ fault is. subst (StopsNodes g.body c.args.terms.now [] c.args.table.now) (sym is)
    (nodes_stopped g.body c.args.terms.now [] c.args.table.now c.loop-n.table c.loop-n.numbers.items c.loop-n._n c.loop-n.invariant c.in_err-number.field-0.0 stops))
    c.from_residual.ensures.1

pub loop-n-preserved : goal.loop-n-preserved
loop-n-preserved g c =
    let is = some_body c.args.table.now c.len-nodes.ensures.table c.args.forall g.body c.requires.0 in
    let step = subst (λ (numbers : List ℕ). NodeGrows g.body c.args.terms.now [] numbers c.loop-n.table c.enter_body_node.new.table c.in_ok-number.number) c.deref.ensures.value c.in_ok-number.ensures.ok in
    subst (λ (numbers : List ℕ). NodesSoFar g.body c.args.terms.now [] c.args.table.now c.enter_body_node.new.table numbers (c.loop-n._n + 1)) (sym c.in_ok-push_number.ensures)
    (nodes_next g.body is.0 is.1.over c.args.terms.now [] c.args.table.now c.loop-n.table c.enter_body_node.new.table c.loop-n.numbers.items c.in_ok-number.number c.loop-n._n c.loop-n.invariant step)

pub index-requires : goal.index-requires
index-requires g c =
    let is = some_body c.args.table.now c.len-nodes.ensures.table c.args.forall g.body c.requires.0 in
    let count = ap (λ (body : Formula). length body.nodes) (one_body c.args.table.now c.args.forall c.body_of.result.now g.body c.body_of.ensures c.requires.0) in
    let root = ap (λ (body : Formula). body.root) (one_body c.args.table.now c.args.forall c.body_of-2.result.now g.body c.body_of-2.ensures c.requires.0) in
    let here : c.root-root.result < length c.loop-n.numbers.items = omega (arith, c.root-root.ensures, root, is.1.over.root_stands, count, c.node_count-count.ensures, c.loop-n-test.false, c.loop-n.invariant.count) in
    omega (arith, here, c.loop-n.numbers.ok.0)

pub returns-clause-ok : goal.returns-clause-ok
returns-clause-ok g c =
    let is = some_body c.args.table.now c.len-nodes.ensures.table c.args.forall g.body c.requires.0 in
    let count = ap (λ (body : Formula). length body.nodes) (one_body c.args.table.now c.args.forall c.body_of.result.now g.body c.body_of.ensures c.requires.0) in
    let same_root = ap (λ (body : Formula). body.root) (one_body c.args.table.now c.args.forall c.body_of-2.result.now g.body c.body_of-2.ensures c.requires.0) in
    let all : length c.loop-n.numbers.items ≡ length g.body.nodes = omega (arith, c.loop-n.invariant.count, count, c.node_count-count.ensures, c.loop-n-test.false, c.loop-n.auto._n-end) in
    let root : c.root-root.result ≡ g.body.root = c.root-root.ensures ∙ same_root in
    let within : c.root-root.result < length c.loop-n.numbers.items = omega (arith, all, root, is.1.over.root_stands) in
    record {
      added = c.loop-n.invariant.added;
      grow = record {
        numbers = c.loop-n.numbers.items;
        enters = c.loop-n.invariant.enters;
        all = all;
        root = ap (slice_get c.loop-n.numbers.items) (sym root) ∙ slice_get-get_or c.loop-n.numbers.items c.root-root.result c.index.result.now within ∙ ap Some (sym c.index.ensures);
      };
      new_is = c.loop-n.invariant.now_is;
    }
