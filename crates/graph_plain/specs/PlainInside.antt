-- What a `PlainGraph` keeps true of its fields.
use Rattle.std.specs.Prelude.{ℕ, ◌+◌, List, ◌≡◌, ◌<◌, ◌^◌, length}
use Rattle.graph_terms.specs.declared.term_row.TermRow.{TermRow}
use Rattle.graph_meaning.specs.declared.done.Done.{Done}
use Rattle.graph_meaning.specs.Standing.{terms_of, merges_of, levels_of}
use Rattle.graph_plain.specs.Labels.{AreSound, AreMerged, AreCongruent}
use Rattle.graph_meaning.specs.State.{GraphState}
use Rattle.graph_meaning.specs.Lawful.{IsLawful}
use Rattle.graph_plain.specs.declared.graph.PlainGraph.TheInside.{Inside}

-- the graph that the fields hold
abbrev pub state_of : Inside → GraphState
state_of inside = record { standing = inside.standing.items; done = inside.done; limit = inside.table.limit }

-- the rows are the standing terms, and the labels tell their classes
pub record AreKept (rows : List TermRow) (standing : List Done) (labels : List ℕ) : Type 0 where
  pub lawful : IsLawful standing
  pub terms : rows ≡ terms_of standing
  pub sound : AreSound (terms_of standing) (merges_of standing) labels
  pub merged : AreMerged (merges_of standing) labels
  pub congruent : AreCongruent (terms_of standing) labels
  pub few : length standing < 2 ^ 32

-- what the fields keep true; each open level keeps a serial free for its Pop
pub record IsSoundGraph (inside : Inside) : Type 0 where
  pub kept : AreKept inside.table.rows inside.standing.items inside.labels.items
  pub levels : inside.levels ≡ levels_of inside.standing.items
  pub room : inside.done + inside.levels < 2 ^ 64
