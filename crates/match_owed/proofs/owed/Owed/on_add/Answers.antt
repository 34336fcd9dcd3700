use Rattle.match_owed.proofs.DueLemmas.{term_all, term_some}
use Rattle.match_owed.proofs.owed.Owed.on_add.Goals as goal

pub give_entries-requires : goal.give_entries-requires
give_entries-requires g c number has = (c.row.result.now.symbol, (c.with_symbol-numbers.ensures.exact number).0 has)

pub returns-clause-ok : goal.returns-clause-ok
returns-clause-ok g c serves = term_all (g.G.ClassGraph.standing c.args.graph.now) c.args.starts.now serves c.args.term c.row.result.now c.row.ensures c.with_symbol-numbers.result.now c.with_symbol-numbers.ensures c.in_ok-give_entries.ensures.ok

pub returns-clause-some : goal.returns-clause-some
returns-clause-some g c serves = term_some (g.G.ClassGraph.standing c.args.graph.now) c.args.starts.now serves c.args.term c.row.result.now c.row.ensures c.with_symbol-numbers.result.now c.with_symbol-numbers.ensures c.in_ok-give_entries.ensures.some

pub returns-in_err-give_entries-clause-some : goal.returns-in_err-give_entries-clause-some
returns-in_err-give_entries-clause-some g c serves = term_some (g.G.ClassGraph.standing c.args.graph.now) c.args.starts.now serves c.args.term c.row.result.now c.row.ensures c.with_symbol-numbers.result.now c.with_symbol-numbers.ensures c.in_err-give_entries.ensures.some
