use Rattle.search_watch.proofs.NotedLemmas.{join_noted_before}
use Rattle.search_watch.proofs.noted_chains.NotedChains.note_join.Goals as goal

pub returns-clause-noted : goal.returns-clause-noted
returns-clause-noted c =
    join_noted_before c.keep-2.result c.args.self.now c.keep.new.self c.keep-2.new.self c.args.kept c.min-least.result c.slot-into.result c.len-len.result c.slot-slot.result
    c.slot-into.ensures c.len-len.ensures c.slot-slot.ensures
    c.in_ok-keep.ensures.chains c.in_ok-keep.ensures.ok c.keep-2.ensures.chains c.keep-2.ensures.ok c.keep-2.ensures.err
