use Rattle.std.proofs.Common.{arith}
use Rattle.search_watch.specs.Chains.{chain_at}
use Rattle.search_watch.proofs.WatchLemmas.{found_below, gathers}
use Rattle.search_watch.proofs.BetweenLemmas.{between_none, between_more, between_all}
use Rattle.search_watch.proofs.between.gather_between.Goals as goal

pub loop-i-init : goal.loop-i-init
loop-i-init g c = record {
  between = λ ends covers. between_none (g.G.ClassGraph.standing c.args.graph.now) c.args.differs.now ends c.args.found.now c.args.literals.now.items;
  gathers = λ item on. on;
  below = λ count below all. all;
}

pub loop-i-preserved : goal.loop-i-preserved
loop-i-preserved g c =
    let standing = g.G.ClassGraph.standing c.args.graph.now in
    let near = c.in_ok-gather_at.ensures.0 in
    let is = c.in_ok-gather_at.ensures.2 in
    let old = c.loop-i.literals.items in
    let new = c.gather_at.new.literals.items in
    record {
      between = λ ends covers. between_more standing ends c.args.chains.now covers c.args.differs.now c.args.found.now old new c.loop-i.i near (omega arith) (c.loop-i.invariant.between ends covers) c.in_ok-gather_at.ensures.1 is;
      gathers = λ item on. gathers old new (chain_at c.args.chains.now near) is item (c.loop-i.invariant.gathers item on);
      below = λ count below all. found_below c.args.chains.now near count old new is below (c.loop-i.invariant.below count below all);
    }

pub returns-clause-between : goal.returns-clause-between
returns-clause-between g c = λ ends covers. between_all (g.G.ClassGraph.standing c.args.graph.now) c.args.differs.now ends c.args.found.now c.loop-i.literals.items c.loop-i.i (omega arith) (c.loop-i.invariant.between ends covers)

pub returns-clause-gathers : goal.returns-clause-gathers
returns-clause-gathers g c = c.loop-i.invariant.gathers

pub returns-clause-below : goal.returns-clause-below
returns-clause-below g c = c.loop-i.invariant.below
