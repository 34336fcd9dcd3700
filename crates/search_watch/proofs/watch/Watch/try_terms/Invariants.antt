use Rattle.std.proofs.Common.{◌-◌, ◌≤◌, length}
use Rattle.search_watch.specs.Chains.{AddsTerms}
use Rattle.search_watch.specs.Back.{CanGoBack}
use Rattle.search_watch.proofs.watch.Watch.try_terms.Given as goal

abbrev pub invariant-loop-k : goal.invariant-loop-k
invariant-loop-k l = record {
  within : l._k - length l.fn.self.literals.chains.slots ≤ l.count - length l.fn.self.literals.chains.slots;
  literals : AddsTerms (l._k - length l.fn.self.literals.chains.slots) l.fn.self.literals.chains l.self.literals.chains;
  differs : AddsTerms (l._k - length l.fn.self.literals.chains.slots) l.fn.self.differs.chains l.self.differs.chains;
  back : CanGoBack l.fn.self l.self;
}
