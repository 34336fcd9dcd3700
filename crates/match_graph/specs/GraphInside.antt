-- What a `MatchingGraph` keeps true of its fields.
use Rattle.graph_meaning.specs.Standing.{triggers_of}
use Rattle.match_forest.specs.Forest.{Serves}
use Rattle.match_graph.specs.declared.graph.MatchingGraph.TheInside.{Inside}

-- the forest is that of the live triggers, in order
abbrev pub IsInStep : Inside → Type 0
IsInStep matching = Serves matching.forest (triggers_of matching.graph.standing)
