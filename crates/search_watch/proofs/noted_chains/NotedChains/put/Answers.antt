use Rattle.std.proofs.Common.{refl}
use Rattle.search_watch.proofs.NotedLemmas.{item_noted}
use Rattle.search_watch.proofs.noted_chains.NotedChains.put.Goals as goal

pub returns-clause-noted : goal.returns-clause-noted
returns-clause-noted c =
    item_noted c.grow.result c.args.self.now c.keep.new.self _ c.args.leader c.args.item c.slot-slot.result c.len-len.result c.requires
    c.slot-slot.ensures c.len-len.ensures c.in_ok-keep.ensures.chains c.in_ok-keep.ensures.ok refl c.grow.ensures.ok c.grow.ensures.err
