use Rattle.std.proofs.Common.{sym, ◌∙◌}
use Rattle.search_check.specs.Round.{path_at}
use Rattle.search_check.proofs.UnderWayLemmas.{ends_here}
use Rattle.search_check.proofs.search.Search.way_out.Goals as goal

pub returns : goal.returns
returns c rounds start searching = (
  path_at c.args.stack.now c.args.self.now.struck.items c.args.self.now.done c.args.self.now.spent.items,
  ends_here rounds start c.args.stack.now c.args.self.now.asides.items c.args.self.now.struck.items
      c.args.self.now.done c.args.self.now.spent.items c.args.self.now.values searching
      c.requires.step c.requires.none_live,
  (c.in_ok-kept.ensures.0, c.in_ok-kept.ensures.1, sym c.deref.ensures.value ∙ c.in_ok-kept.ensures.2),
)
