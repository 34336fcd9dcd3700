use Rattle.std.proofs.Common.{◌≡◌, ◌<◌, ◌+◌, ℕ, List, length, slice_get, Some, false, sym, ap, subst, ◌∙◌, arith}
use Rattle.std.proofs.lemmas.Option.{slice_get-get_or, same_Some}
use Rattle.formula_draft.specs.Reach.{ReachesNode}
use Rattle.formula_table.specs.EntryInside.{NodeGrows, StopsNode, StopsNodes}
use Rattle.formula_table.proofs.EntryLemmas.{err_map}
use Rattle.formula_table.proofs.BecomesLaws.{over_none}
use Rattle.formula_table.proofs.NodeLemmas.{NodesSoFar, nodes_none, nodes_next, nodes_stopped}
use Rattle.formula_table.proofs.enter_nodes.enter_nodes.Goals as goal

pub loop-n-init : goal.loop-n-init
loop-n-init c = subst (λ (numbers : List ℕ). NodesSoFar c.args.formula.now c.args.terms.now c.args.foralls.now c.args.table.now c.args.table.now numbers 0) (sym c.new-numbers.ensures.items) (nodes_none c.args.formula.now c.args.terms.now c.args.foralls.now c.args.table.now)

pub enter_node-requires-clause-reached : goal.enter_node-requires-clause-reached
enter_node-requires-clause-reached c =
    let formula = c.args.formula.now in
    let marks = c.args.reached.now in
    let n = c.loop-n.n in
    let within : n < length marks = omega (arith, c.requires.reached.len, c.nodes-n-end.ensures, c.loop-n-test.true) in
    let known = slice_get-get_or marks n false within in
    let place : length c.deref.result.now ≡ n = ap length c.deref.ensures.value ∙ c.loop-n.invariant.count in (
      λ is. subst (ReachesNode formula.nodes formula.root) (sym place) (c.requires.reached.only n (known ∙ ap Some is)),
      λ reach. same_Some _ _ (sym known ∙ c.requires.reached.each n (subst (ReachesNode formula.nodes formula.root) place reach)),
    )

pub returns-in_err-number-clause-fault : goal.returns-in_err-number-clause-fault
returns-in_err-number-clause-fault c =
    let stops = subst (λ (numbers : List ℕ). StopsNode c.args.formula.now c.args.terms.now c.args.foralls.now numbers c.loop-n.table c.in_err-number.field-0.0) c.deref.ensures.value c.in_err-number.ensures.fault in
    err_map _ _ c.from_residual.result
    (λ fault is. subst (StopsNodes c.args.formula.now c.args.terms.now c.args.foralls.now c.args.table.now) (sym is)
    (nodes_stopped c.args.formula.now c.args.terms.now c.args.foralls.now c.args.table.now c.loop-n.table c.loop-n.numbers.items c.loop-n.n c.loop-n.invariant c.in_err-number.field-0.0 stops))
    c.from_residual.ensures.1

pub loop-n-preserved : goal.loop-n-preserved
loop-n-preserved c =
    let step = subst (λ (numbers : List ℕ). NodeGrows c.args.formula.now c.args.terms.now c.args.foralls.now numbers c.loop-n.table c.enter_node.new.table c.in_ok-number.number) c.deref.ensures.value c.in_ok-number.ensures.ok in
    subst (λ (numbers : List ℕ). NodesSoFar c.args.formula.now c.args.terms.now c.args.foralls.now c.args.table.now c.enter_node.new.table numbers (c.loop-n.n + 1)) (sym c.in_ok-push_number.ensures)
    (nodes_next c.args.formula.now 0 (over_none c.args.formula.now c.requires.formula) c.args.terms.now c.args.foralls.now c.args.table.now c.loop-n.table c.enter_node.new.table c.loop-n.numbers.items c.in_ok-number.number c.loop-n.n c.loop-n.invariant step)

pub returns-clause-ok : goal.returns-clause-ok
returns-clause-ok c =
    let all : length c.loop-n.numbers.items ≡ length c.args.formula.now.nodes = omega (arith, c.loop-n.invariant.count, c.nodes-n-end.ensures, c.loop-n-test.false, c.loop-n.auto.n-end) in
    let within : c.root.result < length c.loop-n.numbers.items = omega (arith, all, c.root.ensures.value, c.requires.formula.root_stands) in
    record {
      added = c.loop-n.invariant.added;
      grow = record {
        numbers = c.loop-n.numbers.items;
        enters = c.loop-n.invariant.enters;
        all = all;
        root = ap (slice_get c.loop-n.numbers.items) (sym c.root.ensures.value) ∙ slice_get-get_or c.loop-n.numbers.items c.root.result c.index.result.now within ∙ ap Some (sym c.index.ensures);
      };
      new_is = c.loop-n.invariant.now_is;
    }
