use Rattle.std.proofs.Common.{◌≡◌, ◌+◌, ◌-◌, ℕ, length, sym, subst, arith}
use Rattle.search_watch.specs.Chains.{AddsTerms}
use Rattle.search_watch.proofs.NotedLemmas.{back_none, back_trans}
use Rattle.search_watch.proofs.TermsLemmas.{adds_none, adds_more}
use Rattle.search_watch.proofs.watch.Watch.try_terms.Goals as goal

pub loop-k-init : goal.loop-k-init
loop-k-init c =
    let none : 0 ≡ c.terms-terms.result - length c.args.self.now.literals.chains.slots = omega (arith, c.terms-terms.ensures.terms) in
    record {
      within = omega (arith, c.terms-terms.ensures.terms);
      literals = subst (λ (n : ℕ). AddsTerms n c.args.self.now.literals.chains c.args.self.now.literals.chains) none (adds_none c.args.self.now.literals.chains c.terms-terms.ensures.aligned);
      differs = subst (λ (n : ℕ). AddsTerms n c.args.self.now.differs.chains c.args.self.now.differs.chains) none (adds_none c.args.self.now.differs.chains c.terms-aligned.ensures.aligned);
      back = back_none c.args.self.now;
    }

pub loop-k-preserved : goal.loop-k-preserved
loop-k-preserved c =
    let old = c.args.self.now in
    let mid = c.loop-k.self in
    let new = c.add_term.new.self in
    let one : (c.loop-k._k - length old.literals.chains.slots) + 1 ≡ (c.loop-k._k + 1) - length old.literals.chains.slots = omega (arith, c.terms-terms.ensures.terms) in
    record {
      within = omega (arith, c.terms-terms.ensures.terms);
      literals = subst (λ (n : ℕ). AddsTerms n old.literals.chains new.literals.chains) one (adds_more _ old.literals.chains mid.literals.chains new.literals.chains c.in_ok-add_term.ensures.literals c.loop-k.invariant.literals);
      differs = subst (λ (n : ℕ). AddsTerms n old.differs.chains new.differs.chains) one (adds_more _ old.differs.chains mid.differs.chains new.differs.chains c.in_ok-add_term.ensures.differs c.loop-k.invariant.differs);
      back = back_trans old mid new c.loop-k.invariant.back c.in_ok-add_term.ensures.back;
    }

pub returns-clause-literals : goal.returns-clause-literals
returns-clause-literals c =
    let old = c.args.self.now in
    let all : c.loop-k._k - length old.literals.chains.slots ≡ c.args.count - length old.literals.chains.slots = omega (arith, c.terms-terms.ensures.terms, c.loop-k.invariant.within) in
    subst (λ (n : ℕ). AddsTerms n old.literals.chains c.loop-k.self.literals.chains) all c.loop-k.invariant.literals

pub returns-clause-differs : goal.returns-clause-differs
returns-clause-differs c =
    let old = c.args.self.now in
    let all : c.loop-k._k - length old.literals.chains.slots ≡ c.args.count - length old.literals.chains.slots = omega (arith, c.terms-terms.ensures.terms, c.loop-k.invariant.within) in
    subst (λ (n : ℕ). AddsTerms n old.differs.chains c.loop-k.self.differs.chains) all c.loop-k.invariant.differs
