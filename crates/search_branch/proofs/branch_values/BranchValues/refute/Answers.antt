use Rattle.std.proofs.Common.{List, length, refl, sym, ap, subst, ◌∙◌}
use Rattle.graph_meaning.specs.declared.union.Union.{Union}
use Rattle.graph_meaning.specs.State.{GraphState}
use Rattle.graph_meaning.specs.Standing.{differs_of}
use Rattle.formula_assert.specs.News.{ListsMore}
use Rattle.search_branch.proofs.ComeLemmas.{has_come, part_stands_at, has_place_at, right_struck}
use Rattle.search_branch.proofs.branch_values.BranchValues.refute.Goals as goal

pub refute-requires : goal.refute-requires
refute-requires c =
    part_stands_at c.args.stack.now.formulas c.requires.values.1.table c.args.node c.args.place c.args.part
    c.requires.place.0 c.requires.place.1 c.requires.place.2

pub strike-requires : goal.strike-requires
strike-requires c =
    has_place_at c.args.stack.now c.requires.values.0 c.args.self.now c.follow.new.self c.requires.calm
    c.requires.values.1 c.in_ok-follow.ensures.parts c.args.node c.args.place c.args.part c.requires.place.0
    c.requires.place.1 c.requires.place.2

pub returns-clause-values : goal.returns-clause-values
returns-clause-values c struck right =
    let lists = subst (λ (unions : List Union). ListsMore c.args.stack.now.graph.standing
    c.refute.new.self.graph.standing c.new-unions.result.items unions) (sym c.deref.ensures.value)
    c.in_ok-refute.ensures.unions in
    let come = has_come c.args.stack.now c.refute.new.self c.in_ok-refute.ensures.more c.new-unions.result.items
    c.deref.result.now (length c.asserted-asserted.result.now) (length c.differences-differs.result.now)
    c.new-unions.ensures.items lists c.in_ok-refute.ensures.terms c.in_ok-refute.ensures.differs
    (ap length c.asserted-asserted.ensures)
    (ap length c.differences-differs.ensures
    ∙ ap (λ (graph : GraphState). length (differs_of graph.standing)) c.graph.ensures) in
    right_struck c.refute.new.self struck c.follow.new.self
    (record {
      values = c.strike.new.self;
      watch = c.follow.new.self.watch;
      marks = c.follow.new.self.marks;
      lost = c.follow.new.self.lost;
    })
    c.args.node c.args.place refl refl c.in_ok-strike.ensures.ok
    (c.in_ok-follow.ensures.values c.args.stack.now struck come right)
