use Rattle.std.proofs.Common.{true, false, sym, ap, ◌∙◌, arith}
use Rattle.std.specs.List.{before_last}
use Rattle.graph_meaning.specs.Standing.{is_push}
use Rattle.graph_terms.proofs.ListLaws.{before_last-miss}
use Rattle.graph_plain.proofs.ApplyLemmas.{length-terms_of-push, levels_of-push, levels_opened-push}
use Rattle.graph_plain.proofs.graph.pop_level.Goals as goal

pub returns-then-opens-clause-terms : goal.returns-then-opens-clause-terms
returns-then-opens-clause-terms c = omega (arith, c.loop-done.invariant.1, length-terms_of-push c.pop.new.self.items c.loop-done.standing.items c.in-Some.done c.in-Some.ensures.items, c.take_apart-added.ensures.terms)

pub loop-done-preserved : goal.loop-done-preserved
loop-done-preserved c = (
  sym (before_last-miss is_push c.pop.new.self.items c.in-Some.done (sym c.take_apart-added.ensures.opens ∙ c.if-opens.false)) ∙ ap (before_last is_push) (sym c.in-Some.ensures.items) ∙ c.loop-done.invariant.0,
  omega (arith, c.loop-done.invariant.1, length-terms_of-push c.pop.new.self.items c.loop-done.standing.items c.in-Some.done c.in-Some.ensures.items, c.take_apart-added.ensures.terms),
  omega (arith, c.loop-done.invariant.2, levels_of-push c.pop.new.self.items c.loop-done.standing.items c.in-Some.done c.in-Some.ensures.items, levels_opened-push c.in-Some.done false (sym c.take_apart-added.ensures.opens ∙ c.if-opens.false)),
)

pub returns-then-opens-clause-level : goal.returns-then-opens-clause-level
returns-then-opens-clause-level c = omega (arith, c.loop-done.invariant.2, levels_of-push c.pop.new.self.items c.loop-done.standing.items c.in-Some.done c.in-Some.ensures.items, levels_opened-push c.in-Some.done true (sym c.take_apart-added.ensures.opens ∙ c.if-opens.true))
