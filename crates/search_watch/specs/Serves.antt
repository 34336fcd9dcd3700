-- The chains after the unions serve the graph after them.
use Rattle.std.specs.Prelude.{ℕ, ◌<◌, List, length, slice_index}
use Rattle.graph_meaning.specs.declared.union.Union.{Union}
use Rattle.graph_meaning.specs.declared.done.Done.{Done}
use Rattle.graph_meaning.specs.Same.{Same}
use Rattle.search_watch.specs.Laws.{Joins}
use Rattle.search_watch.specs.Chains.{Chained, chain_at}
use Rattle.search_watch.specs.Covers.{Covers}
use Rattle.search_watch.specs.Watched.{World, classes, HaveChains}
use Rattle.search_watch.specs.Found.{TellsDiffers}
use Rattle.search_watch.specs.Evaluate.{AreDifferChains}

-- chains that hold what the classes' terms end, where each item is the number of a difference, are those that
-- evaluation reads
pub record CoveringServes : Type 0 where
  pub serves : (world : World) (new : List Done) (unions : List Union) (differs : List (ℕ × ℕ)) (chains : Chained)
      → Joins world.standing new world.terms unions → ((s t : ℕ) → Same new s t → s < world.terms)
      → HaveChains world.terms chains → Covers (classes world unions) world.differ_ends chains
      → TellsDiffers world differs
      → ((leader i : ℕ) → leader < world.terms → i < length (chain_at chains leader)
      → slice_index (chain_at chains leader) i < length differs)
      → AreDifferChains new differs chains
