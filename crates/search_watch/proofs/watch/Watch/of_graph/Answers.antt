use Rattle.std.proofs.Common.{ℕ, [], subst}
use Rattle.search_watch.specs.Watched.{HaveChains, HasTerms}
use Rattle.search_watch.specs.Service.{service}
use Rattle.search_watch.proofs.OverLemmas.{over_none, over_serves}
use Rattle.search_watch.proofs.watch.Watch.of_graph.Goals as goal

pub add_differences-requires-clause-serves : goal.add_differences-requires-clause-serves
add_differences-requires-clause-serves g c =
    let watch = c.add_terms.new.self in
    let have = subst (λ (n : ℕ). HaveChains n watch.literals.chains) c.len.ensures.value c.in_ok-add_terms.ensures.literals.0 in
    let terms = subst (λ (n : ℕ). HasTerms n watch) c.len.ensures.value c.in_ok-add_terms.ensures.terms in
    let have' = subst (λ (n : ℕ). HaveChains n watch.differs.chains) c.len.ensures.value c.in_ok-add_terms.ensures.differs.0 in
    ([], 0, over_none (g.G.ClassGraph.standing c.args.graph.now) 0 c.args.differs.now watch terms have c.in_ok-add_terms.ensures.literals.1 have' c.in_ok-add_terms.ensures.differs.1)

pub returns : goal.returns
returns g c = λ bound.
    let standing = g.G.ClassGraph.standing c.args.graph.now in
    let watch = c.add_terms.new.self in
    let have = subst (λ (n : ℕ). HaveChains n watch.literals.chains) c.len.ensures.value c.in_ok-add_terms.ensures.literals.0 in
    let terms = subst (λ (n : ℕ). HasTerms n watch) c.len.ensures.value c.in_ok-add_terms.ensures.terms in
    let have' = subst (λ (n : ℕ). HaveChains n watch.differs.chains) c.len.ensures.value c.in_ok-add_terms.ensures.differs.0 in
    let over = over_none standing bound c.args.differs.now watch terms have c.in_ok-add_terms.ensures.literals.1 have' c.in_ok-add_terms.ensures.differs.1 in
    over_serves (service standing [] bound) c.args.differs.now c.add_differences.new.self c.requires (c.in_ok-add_differences.ensures.serves [] bound over)
