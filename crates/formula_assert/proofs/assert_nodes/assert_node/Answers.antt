use Rattle.std.proofs.Common.{◌≡◌, ℕ, ◌+◌, ◌<◌, [], ◌∷◌, ◌++◌, List, length, refl, sym, ap, ◌∙◌, arith}
use Rattle.std.proofs.lemmas.List.{length-append, nil_from_length}
use Rattle.graph_meaning.specs.Standing.{terms_of}
use Rattle.formula_assert.specs.Held.{held}
use Rattle.formula_assert.proofs.Growth.{NodesStand-more}
use Rattle.formula_assert.proofs.Growth.{terms_longer, holds_both}
use Rattle.formula_assert.proofs.NewsLemmas.{lists_same, lists_both, next_terms}
use Rattle.formula_assert.proofs.WorkLemmas.{way_begins, way_goes_on, way_ends, work_less, owed}
use Rattle.formula_assert.proofs.assert_nodes.assert_node.Goals as goal

pub loop-n-init : goal.loop-n-init
loop-n-init g c = record {
  way = way_begins c.args.formulas.now c.args.root (held (g.G.AssertionGraph.state c.args.graph.now) c.args.asserted.now) c.push_number.new.numbers.items c.requires.stands
      (c.in_ok-push_number.ensures ∙ ap (λ (list : List ℕ). list ++ c.args.root ∷ []) c.new-work.ensures.items);
  keeps = g.met.G.AssertionGraph.kept_none c.args.graph.now;
  unions = lists_same (g.G.AssertionGraph.state c.args.graph.now).standing c.args.unions.now.items;
  terms = refl;
}

pub assert_next-requires-clause-terms : goal.assert_next-requires-clause-terms
assert_next-requires-clause-terms g c =
    let state = g.G.AssertionGraph.state in
    NodesStand-more (length (terms_of (state c.args.graph.now).standing)) (length (terms_of (state c.loop-n.graph).standing)) c.args.formulas.now.nodes
    (terms_longer (state c.args.graph.now) (state c.loop-n.graph) c.loop-n.invariant.way.more_held.grows) c.requires.terms

pub loop-n-smaller : goal.loop-n-smaller
loop-n-smaller g c =
    let state = g.G.AssertionGraph.state in
    let nodes = c.args.formulas.now.nodes in
    let less = work_less c.args.formulas.now c.in-Some.n (held (state c.loop-n.graph) c.loop-n.asserted) (held (state c.assert_next.new.graph) c.assert_next.new.asserted) c.pop.new.self.items c.assert_next.new.work.items c.in_ok-assert_next.ensures.ok in
    let len : length c.loop-n.work.items ≡ length c.pop.new.self.items + 1 = ap length c.in-Some.ensures.items ∙ length-append c.pop.new.self.items (c.in-Some.n ∷ []) in
    let smaller : owed c.assert_next.new.asserted 0 nodes + length c.assert_next.new.work.items < owed c.loop-n.asserted 0 nodes + length c.loop-n.work.items = omega (arith, less, len) in
    smaller

pub loop-n-preserved : goal.loop-n-preserved
loop-n-preserved g c =
    let state = g.G.AssertionGraph.state in
    let same = next_terms c.args.formulas.now c.in-Some.n (held (state c.loop-n.graph) c.loop-n.asserted) (held (state c.assert_next.new.graph) c.assert_next.new.asserted) c.pop.new.self.items c.assert_next.new.work.items c.in_ok-assert_next.ensures.ok in
    record {
      way = way_goes_on c.args.formulas.now c.args.root c.in-Some.n (held (state c.args.graph.now) c.args.asserted.now) (held (state c.loop-n.graph) c.loop-n.asserted) c.loop-n.work.items c.pop.new.self.items c.in-Some.ensures.items c.loop-n.invariant.way
          c.len-count.ensures.table (held (state c.assert_next.new.graph) c.assert_next.new.asserted) c.assert_next.new.work.items c.in_ok-assert_next.ensures.ok c.in_ok-assert_next.ensures.grows;
      keeps = g.met.G.AssertionGraph.kept_both c.args.graph.now c.loop-n.graph c.assert_next.new.graph c.loop-n.invariant.keeps c.assert_next.ensures.keeps;
      unions = lists_both (state c.args.graph.now).standing (state c.loop-n.graph).standing (state c.assert_next.new.graph).standing c.args.unions.now.items c.loop-n.unions.items c.assert_next.new.unions.items c.loop-n.invariant.unions c.in_ok-assert_next.ensures.unions (sym (ap length same));
      terms = same ∙ c.loop-n.invariant.terms;
    }

pub returns-in_err-push_number-clause-keeps : goal.returns-in_err-push_number-clause-keeps
returns-in_err-push_number-clause-keeps g c = g.met.G.AssertionGraph.kept_none c.args.graph.now

pub returns-in_err-assert_next-clause-grows : goal.returns-in_err-assert_next-clause-grows
returns-in_err-assert_next-clause-grows g c =
    let state = g.G.AssertionGraph.state in
    holds_both (held (state c.args.graph.now) c.args.asserted.now) (held (state c.loop-n.graph) c.loop-n.asserted) (held (state c.assert_next.new.graph) c.assert_next.new.asserted) c.loop-n.invariant.way.more_held c.in_err-assert_next.ensures.grows

pub returns-in_err-assert_next-clause-keeps : goal.returns-in_err-assert_next-clause-keeps
returns-in_err-assert_next-clause-keeps g c = g.met.G.AssertionGraph.kept_both c.args.graph.now c.loop-n.graph c.assert_next.new.graph c.loop-n.invariant.keeps c.assert_next.ensures.keeps

pub returns-clause-ok : goal.returns-clause-ok
returns-clause-ok g c =
    let state = g.G.AssertionGraph.state in
    way_ends c.args.formulas.now c.args.root (held (state c.args.graph.now) c.args.asserted.now) (held (state c.loop-n.graph) c.loop-n.asserted) c.loop-n.work.items (nil_from_length c.loop-n.work.items (sym c.loop-n.work.ok.0 ∙ c.in_default.ensures.cases.0)) c.loop-n.invariant.way
