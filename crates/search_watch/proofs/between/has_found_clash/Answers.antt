use Rattle.std.proofs.Common.{arith}
use Rattle.search_watch.specs.Found.{IsFoundClash}
use Rattle.search_watch.proofs.BetweenLemmas.{no_clash, not_so}
use Rattle.search_watch.proofs.between.has_found_clash.Goals as goal

pub returns : goal.returns
returns g c =
    let standing = g.G.ClassGraph.standing c.args.graph.now in
    not_so (IsFoundClash standing c.args.differs.now c.args.found.now)
    (no_clash standing c.args.differs.now c.args.found.now (λ k lt same. c.loop-i.invariant k (omega arith) same))
