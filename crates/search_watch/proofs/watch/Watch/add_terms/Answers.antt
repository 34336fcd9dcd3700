use Rattle.std.proofs.Common.{sym, subst, arith}
use Rattle.search_watch.specs.declared.watch.Watch.{Watch}
use Rattle.search_watch.proofs.FreshLemmas.{IsFresh, fresh_none, fresh_more}
use Rattle.search_watch.proofs.watch.Watch.add_terms.Goals as goal

pub loop-k-init : goal.loop-k-init
loop-k-init c = record {
  literals = subst (λ (w : Watch). IsFresh 0 w.literals.chains) (sym c.requires) fresh_none;
  differs = subst (λ (w : Watch). IsFresh 0 w.differs.chains) (sym c.requires) fresh_none;
}

pub loop-k-preserved : goal.loop-k-preserved
loop-k-preserved c = record {
  literals = fresh_more c.loop-k._k c.loop-k.self.literals.chains c.add_term.new.self.literals.chains c.in_ok-add_term.ensures.literals c.loop-k.invariant.literals;
  differs = fresh_more c.loop-k._k c.loop-k.self.differs.chains c.add_term.new.self.differs.chains c.in_ok-add_term.ensures.differs c.loop-k.invariant.differs;
}

pub returns-clause-literals : goal.returns-clause-literals
returns-clause-literals c = (λ term lt. c.loop-k.invariant.literals.have term (omega arith), c.loop-k.invariant.literals.none)

pub returns-clause-differs : goal.returns-clause-differs
returns-clause-differs c = (λ term lt. c.loop-k.invariant.differs.have term (omega arith), c.loop-k.invariant.differs.none)

pub returns-clause-terms : goal.returns-clause-terms
returns-clause-terms c = record { literals = omega (arith, c.loop-k.invariant.literals.slots); differs = omega (arith, c.loop-k.invariant.differs.slots) }
