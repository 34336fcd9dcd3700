use Rattle.std.proofs.Common.{ℕ, ◌<◌, List, All, Contains, length, refl, sym, ap, subst}
use Rattle.graph_meaning.specs.State.{GraphState}
use Rattle.search_values.specs.Kept.{given_of}
use Rattle.search_branch.specs.Told.{AreToldBut}
use Rattle.search_branch.proofs.ComeLemmas.{served, level_stays, behind, asserted_before, found_stands, told_but}
use Rattle.search_branch.proofs.ComeLemmas.{foralls_before, serves_still, right_lost, right_now}
use Rattle.search_branch.proofs.branch_values.BranchValues.follow.Goals as goal

pub returns-then-clash-clause-values : goal.returns-then-clash-clause-values
returns-then-clash-clause-values c was struck come right =
    right_lost was c.args.stack.now c.args.unions.now c.args.asserted c.args.differs come struck c.args.self.now
    c.requires.calm right c.graph-graph.result.now.standing
    (ap (λ (graph : GraphState). graph.standing) c.graph-graph.ensures)
    (record {
      values = c.args.self.now.values;
      watch = c.follow.new.self;
      marks = c.args.self.now.marks;
      lost = c.in_ok-clash.clash;
    })
    c.in_ok-clash.ensures.clash c.if-clash.true

pub returns-then-clash-clause-level : goal.returns-then-clash-clause-level
returns-then-clash-clause-level c before over =
    level_stays before c.args.self.now
    (record {
      values = c.args.self.now.values;
      watch = c.follow.new.self;
      marks = c.args.self.now.marks;
      lost = c.in_ok-clash.clash;
    })
    over refl refl refl
    (c.can_go_back_further.ensures.further before.watch c.args.self.now.watch c.follow.new.self over.back
    c.in_ok-clash.ensures.back)

pub tell_all-requires-clause-before : goal.tell_all-requires-clause-before
tell_all-requires-clause-before c =
    asserted_before c.requires.come.0 c.args.stack.now c.args.unions.now c.args.asserted c.args.differs
    c.requires.come.2 c.requires.come.1 c.args.self.now c.requires.calm c.requires.come.3
    c.graph-graph.result.now.standing (ap (λ (graph : GraphState). graph.standing) c.graph-graph.ensures)

pub tell_all-requires-clause-foralls : goal.tell_all-requires-clause-foralls
tell_all-requires-clause-foralls c =
    foralls_before c.requires.come.0 c.args.stack.now c.args.unions.now c.args.asserted c.args.differs
    c.requires.come.2 c.requires.come.1 c.args.self.now c.requires.calm c.requires.come.3
    c.graph-graph.result.now.standing (ap (λ (graph : GraphState). graph.standing) c.graph-graph.ensures)

pub tell_all-requires-clause-serves : goal.tell_all-requires-clause-serves
tell_all-requires-clause-serves c =
    let same = ap (λ (graph : GraphState). graph.standing) c.graph-graph.ensures in
    let late = behind c.requires.come.0 c.args.stack.now c.args.unions.now c.args.asserted c.args.differs
    c.requires.come.2 c.requires.come.1 c.args.self.now c.requires.calm c.requires.come.3
    c.graph-graph.result.now.standing same in
    serves_still c.requires.come.0 c.args.stack.now c.args.unions.now c.args.asserted c.args.differs
    c.requires.come.2 c.requires.come.1 c.args.self.now c.requires.calm c.requires.come.3
    c.graph-graph.result.now.standing same c.follow.new.self
    (c.in_ok-clash.ensures.serves c.if-clash.false (served c.requires.come.0) late)

pub tell_all-requires-clause-stand : goal.tell_all-requires-clause-stand
tell_all-requires-clause-stand c =
    let same = ap (λ (graph : GraphState). graph.standing) c.graph-graph.ensures in
    let late = behind c.requires.come.0 c.args.stack.now c.args.unions.now c.args.asserted c.args.differs
    c.requires.come.2 c.requires.come.1 c.args.self.now c.requires.calm c.requires.come.3
    c.graph-graph.result.now.standing same in
    subst (λ (found : List ℕ). All (λ (n : ℕ). n < length c.args.stack.now.formulas.nodes) found)
    (sym c.deref.ensures.value)
    (found_stands c.requires.come.0 c.args.stack.now c.args.unions.now c.args.asserted c.args.differs
    c.requires.come.2 c.requires.come.1 c.args.self.now c.requires.calm c.requires.come.3
    c.graph-graph.result.now.standing same c.new-found.result.items c.follow.new.literals.items
    c.new-found.ensures.items (c.in_ok-clash.ensures.within (served c.requires.come.0) late))

pub tell_all-requires-clause-told : goal.tell_all-requires-clause-told
tell_all-requires-clause-told c =
    let same = ap (λ (graph : GraphState). graph.standing) c.graph-graph.ensures in
    let late = behind c.requires.come.0 c.args.stack.now c.args.unions.now c.args.asserted c.args.differs
    c.requires.come.2 c.requires.come.1 c.args.self.now c.requires.calm c.requires.come.3
    c.graph-graph.result.now.standing same in
    subst (λ (found : List ℕ). AreToldBut (Contains found) c.args.stack.now.graph.standing
    c.args.stack.now.formulas.nodes (given_of c.args.self.now.values))
    (sym c.deref.ensures.value)
    (told_but c.requires.come.0 c.args.stack.now c.args.unions.now c.args.asserted c.args.differs
    c.requires.come.2 c.requires.come.1 c.args.self.now c.requires.calm c.requires.come.3
    c.graph-graph.result.now.standing same c.follow.new.literals.items
    (c.in_ok-clash.ensures.finds c.if-clash.false (served c.requires.come.0) late))

pub returns-clause-values : goal.returns-clause-values
returns-clause-values c was struck come right =
    let same = ap (λ (graph : GraphState). graph.standing) c.graph-graph.ensures in
    let late = behind was c.args.stack.now c.args.unions.now c.args.asserted c.args.differs come struck
    c.args.self.now c.requires.calm right c.graph-graph.result.now.standing same in
    right_now was c.args.stack.now c.args.unions.now c.args.asserted c.args.differs come struck c.args.self.now
    c.requires.calm right c.graph-graph.result.now.standing same
    (record {
      values = c.tell_all.new.values;
      watch = c.follow.new.self;
      marks = c.args.self.now.marks;
      lost = c.in_ok-clash.clash;
    })
    c.in_ok-clash.ensures.clash (c.in_ok-clash.ensures.serves c.if-clash.false (served was) late)
    c.in_ok-tell_all.ensures.tells

pub returns-clause-level : goal.returns-clause-level
returns-clause-level c before over =
    level_stays before c.args.self.now
    (record {
      values = c.tell_all.new.values;
      watch = c.follow.new.self;
      marks = c.args.self.now.marks;
      lost = c.in_ok-clash.clash;
    })
    over c.in_ok-tell_all.ensures.tells.parts c.in_ok-tell_all.ensures.saved refl
    (c.can_go_back_further.ensures.further before.watch c.args.self.now.watch c.follow.new.self over.back
    c.in_ok-clash.ensures.back)
