-- A graph that gains terms one after another.
use Rattle.std.specs.Prelude.{List, map}
use Rattle.graph_terms.specs.declared.term_row.TermRow.{TermRow}
use Rattle.graph_meaning.specs.declared.op.Op.{Op}
use Rattle.graph_meaning.specs.declared.op.Op.TheVariants.{Add}
use Rattle.graph_meaning.specs.State.{GraphState, replay}

-- the operation that adds a row
abbrev pub adding : TermRow → Op
adding row = Add row.symbol row.args

-- the graph after these rows were added as terms, one after another
abbrev pub with_terms : GraphState → List TermRow → GraphState
with_terms graph rows = replay graph (map adding rows)
