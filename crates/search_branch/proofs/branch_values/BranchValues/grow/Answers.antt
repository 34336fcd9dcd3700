use Rattle.std.proofs.Common.{refl, ap, subst, ◌∙◌}
use Rattle.graph_meaning.specs.State.{GraphState}
use Rattle.formula_table.specs.Formulas.{Formulas}
use Rattle.search_values.specs.Kept.{given_of}
use Rattle.search_branch.specs.Grown.{ComesBehind}
use Rattle.search_branch.proofs.GrowLemmas.{parts_before, serves_before, told_later, right_grown, level_grows}
use Rattle.search_branch.proofs.branch_values.BranchValues.grow.Goals as goal

pub add_literals-requires-clause-serves : goal.add_literals-requires-clause-serves
add_literals-requires-clause-serves c =
    serves_before c.requires.grown.0 c.args.stack.now c.args.first c.requires.grown.2 c.requires.grown.1
    c.args.self.now c.requires.calm c.requires.grown.3 c.graph.result.now.standing
    (ap (λ (graph : GraphState). graph.standing) c.graph.ensures) c.follow_terms.new.self
    c.in_ok-follow_terms.ensures.serves

pub set_from-requires-clause-told : goal.set_from-requires-clause-told
set_from-requires-clause-told c =
    told_later c.requires.grown.0 c.args.stack.now c.args.first c.requires.grown.2 c.requires.grown.1
    c.args.self.now c.requires.calm c.requires.grown.3 c.terms_law.ensures.same (given_of c.enter_nodes.new.values)
    (subst (λ (formulas : Formulas). ComesBehind formulas.nodes c.args.first (given_of c.args.self.now.values)
    (given_of c.enter_nodes.new.values)) c.formulas.ensures c.in_ok-enter_nodes.ensures.behind)

pub returns-clause-values : goal.returns-clause-values
returns-clause-values c was struck grown stand right =
    right_grown was c.args.stack.now c.args.first grown struck c.args.self.now c.requires.calm right
    c.terms_law.ensures.same (given_of c.enter_nodes.new.values)
    (subst (λ (formulas : Formulas). ComesBehind formulas.nodes c.args.first (given_of c.args.self.now.values)
    (given_of c.enter_nodes.new.values)) c.formulas.ensures c.in_ok-enter_nodes.ensures.behind)
    stand
    (record {
      values = c.set_from.new.values;
      watch = c.add_literals.new.watch;
      marks = c.args.self.now.marks;
      lost = c.args.self.now.lost;
    })
    refl c.depth-rules.ensures.rules.formulas.table c.in_ok-add_literals.ensures.serves
    c.in_ok-set_from.ensures.told c.in_ok-set_from.ensures.keeps

pub returns-clause-level : goal.returns-clause-level
returns-clause-level c before over =
    level_grows c.args.stack.now.formulas.nodes c.args.first before c.args.self.now
    (record {
      values = c.set_from.new.values;
      watch = c.add_literals.new.watch;
      marks = c.args.self.now.marks;
      lost = c.args.self.now.lost;
    })
    (given_of c.enter_nodes.new.values)
    (parts_before c.requires.grown.0 c.args.stack.now c.args.first c.requires.grown.2 c.requires.grown.1
    c.args.self.now c.requires.calm c.requires.grown.3)
    (subst (λ (formulas : Formulas). ComesBehind formulas.nodes c.args.first (given_of c.args.self.now.values)
    (given_of c.enter_nodes.new.values)) c.formulas.ensures c.in_ok-enter_nodes.ensures.behind)
    c.in_ok-set_from.ensures.keeps over
    (c.in_ok-set_from.ensures.saved ∙ c.in_ok-enter_nodes.ensures.saved) refl
    (c.can_go_back_further.ensures.further before.watch c.args.self.now.watch c.add_literals.new.watch over.back
    (c.can_go_back_further.ensures.further c.args.self.now.watch c.follow_terms.new.self c.add_literals.new.watch
    c.follow_terms.ensures.back c.in_ok-add_literals.ensures.back))
