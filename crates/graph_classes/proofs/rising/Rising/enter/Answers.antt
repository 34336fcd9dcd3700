use Rattle.graph_classes.proofs.RisingLemmas.{AllPairs-entered, unchanged}
use Rattle.graph_classes.proofs.rising.Rising.enter.Goals as goal

pub invariant_of-self-in-Err : goal.invariant_of-self-in-Err
invariant_of-self-in-Err c = AllPairs-entered c.self.inside.items.items c.insert.new.self.items c.as_slice.result.now c.in-Err.at c.args.item c.insert.result c.binary_search.result c.as_slice.ensures c.binary_search.ensures.position c.in-Err.is c.self.invariant c.insert.ensures.ok (unchanged c.insert.result c.self.inside.items c.insert.new.self c.insert.ensures.err)
