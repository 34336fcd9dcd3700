use Rattle.std.proofs.Common.{length, take, ap, subst, arith}
use Rattle.graph_meaning.specs.State.{GraphState}
use Rattle.formula_table.specs.Formulas.{Formulas}
use Rattle.formula_value.specs.Holds.{HasNode}
use Rattle.search_branch.specs.Given.{ends_of}
use Rattle.search_branch.proofs.StartLemmas.{serves_up_to, watch_more}
use Rattle.search_branch.proofs.build.add_literals.Goals as goal

pub loop-n-init : goal.loop-n-init
loop-n-init c = record {
  serves = serves_up_to c.args.stack.now.graph.standing (ends_of 0 (take c.args.first c.args.stack.now.formulas.nodes))
      c.args.first (length c.args.stack.now.formulas.nodes) c.args.watch.now c.requires.first c.requires.serves;
  back = c.can_go_back_further.ensures.itself c.args.watch.now;
}

pub loop-n-preserved : goal.loop-n-preserved
loop-n-preserved c =
    let now = c.args.stack.now in
    let n = c.loop-n.n in
    let node = c.node.result.now in
    let same = ap (λ (graph : GraphState). graph.standing) c.graph-graph.ensures in
    let has = subst (λ (table : Formulas). HasNode table.nodes n node) c.formulas-formulas.ensures c.node.ensures in
    let within = c.loop-n-test.true in
    let count = c.len-n-end.ensures.value in
    let table = ap (λ (formulas : Formulas). length formulas.nodes) c.formulas-formulas.ensures in
    record {
      serves = watch_more now.graph.standing c.graph-graph.result.now.standing now.formulas.nodes n node c.loop-n.watch
          c.add_ends.new.watch same has (omega (arith, within, count, table)) c.in_ok-add_ends.ensures.serves
          c.loop-n.invariant.serves;
      back = c.can_go_back_further.ensures.further c.args.watch.now c.loop-n.watch c.add_ends.new.watch
          c.loop-n.invariant.back c.in_ok-add_ends.ensures.back;
    }
