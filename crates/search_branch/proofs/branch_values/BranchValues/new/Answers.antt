use Rattle.std.proofs.Common.{◌↔◌, IsTrue, subst, ◌∙◌}
use Rattle.graph_meaning.specs.State.{GraphState}
use Rattle.formula_table.specs.Formulas.{Formulas}
use Rattle.search_values.specs.Kept.{given_of}
use Rattle.search_watch.specs.Service.{HasClash}
use Rattle.search_branch.specs.Grown.{ComesBehind}
use Rattle.search_branch.proofs.StruckLemmas.{has_places}
use Rattle.search_branch.proofs.BranchLemmas.{right_start}
use Rattle.search_branch.proofs.branch_values.BranchValues.new.Goals as goal

pub strike_each-requires : goal.strike_each-requires
strike_each-requires c =
    let now = c.args.stack.now in
    let nodes = now.formulas.nodes in
    let behind = subst (λ (formulas : Formulas). ComesBehind formulas.nodes 0 (given_of c.in_ok-values.values)
    (given_of c.enter_nodes.new.values)) c.formulas-2.ensures c.in_ok-enter_nodes.ensures.behind in
    record {
      places = has_places nodes (given_of c.tell_start.new.values) c.args.struck.now
          (c.in_ok-tell_start.ensures.tells.parts ∙ behind.parts) c.requires.places;
    }

pub returns : goal.returns
returns c =
    let now = c.args.stack.now in
    let none = given_of c.in_ok-values.values in
    let fresh = given_of c.enter_nodes.new.values in
    let lost = subst (λ (graph : GraphState). IsTrue c.is_lost-lost.result ↔ HasClash graph.standing) c.graph.ensures
    c.is_lost-lost.ensures in
    let behind = subst (λ (formulas : Formulas). ComesBehind formulas.nodes 0 none fresh) c.formulas-2.ensures
    c.in_ok-enter_nodes.ensures.behind in
    right_start now c.args.struck.now none fresh (given_of c.tell_start.new.values)
    (record {
      values = c.strike_each.new.values;
      watch = c.in_ok-watch.watch;
      marks = c.new-2.result;
      lost = c.is_lost-lost.result;
    })
    c.depth-rules.ensures.rules.formulas.table lost behind c.in_ok-tell_start.ensures.tells
    c.in_ok-strike_each.ensures.strikes c.in_ok-watch.ensures
