use Rattle.std.proofs.Common.{false, refl}
use Rattle.search_branch.proofs.LevelLemmas.{its_mark, right_back, outer_level}
use Rattle.search_branch.proofs.branch_values.BranchValues.close.Goals as goal

pub back_to-requires : goal.back_to-requires
back_to-requires c = (
  c.requires.0.watch,
  its_mark c.requires.0 c.args.self.now c.requires.1 c.pop.new.self.items c.in-Some.mark c.in-Some.ensures.items,
  c.requires.1.back,
)

pub returns-in-Some-clause-values : goal.returns-in-Some-clause-values
returns-in-Some-clause-values c before over calm now struck right =
    let mark = its_mark before c.args.self.now over c.pop.new.self.items c.in-Some.mark c.in-Some.ensures.items in
    right_back before c.args.self.now over c.pop.new.self.items c.in-Some.mark c.in-Some.ensures.items
    (record { values = c.pop-in-Some.new.self; watch = c.back_to.new.self; marks = c.pop.new.self; lost = false })
    c.pop-in-Some.ensures refl (c.back_to.ensures before.watch mark over.back) refl calm now struck right

pub returns-in-Some-clause-levels : goal.returns-in-Some-clause-levels
returns-in-Some-clause-levels c before outer over around =
    let mark = its_mark before c.args.self.now over c.pop.new.self.items c.in-Some.mark c.in-Some.ensures.items in
    outer_level before c.args.self.now over c.pop.new.self.items c.in-Some.mark c.in-Some.ensures.items
    (record { values = c.pop-in-Some.new.self; watch = c.back_to.new.self; marks = c.pop.new.self; lost = false })
    c.pop-in-Some.ensures refl (c.back_to.ensures before.watch mark over.back) refl outer around
