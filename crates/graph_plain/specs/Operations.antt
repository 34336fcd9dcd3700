-- What a graph asks of an operation, part by part.
use Rattle.std.specs.Prelude.{ℕ, List}
use Rattle.graph_terms.specs.declared.term_row.TermRow.{TermRow}
use Rattle.graph_meaning.specs.declared.op.Op.{Op}
use Rattle.graph_meaning.specs.declared.op.Op.TheVariants.{Add, Push}
use Rattle.graph_meaning.specs.Lawful.{AllowsRow}

-- the row that the operation adds is new, and its few arguments are terms
abbrev pub AllowsOpRow : List TermRow → Op → Type 0
AllowsOpRow rows (Add symbol args) = AllowsRow rows symbol args
AllowsOpRow rows op = Unit {0}

-- how many levels an operation opens
abbrev pub levels_opened : Op → ℕ
levels_opened op = elim op [ Push ↦ 1 | _ ↦ 0 ]
