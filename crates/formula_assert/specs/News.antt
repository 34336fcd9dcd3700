-- Unions that came of what was asserted.
use Rattle.std.specs.Prelude.{◌≡◌, List, ◌++◌}
use Rattle.graph_meaning.specs.declared.done.Done.{Done}
use Rattle.graph_meaning.specs.declared.union.Union.{Union}
use Rattle.graph_meaning.specs.Unions.{ListsUnions}

-- further unions were put last, and they make the classes that stand now of those that stood before
pub record ListsMore (before now : List Done) (old new : List Union) : Type 0 where
  pub more : List Union
  pub put : new ≡ old ++ more
  pub lists : ListsUnions before now more
