use Rattle.std.proofs.Common.{refl}
use Rattle.search_watch.proofs.NotedLemmas.{join_noted}
use Rattle.search_watch.proofs.noted_chains.NotedChains.join.Goals as goal

pub returns-clause-noted : goal.returns-clause-noted
returns-clause-noted c =
    join_noted c.join.result c.args.self.now c.note_join.new.self _ c.args.moved c.args.kept c.requires.kept
    c.in_ok-note_join.ensures.chains c.in_ok-note_join.ensures.ok c.in_ok-note_join.ensures.noted refl c.join.ensures.ok c.join.ensures.err
