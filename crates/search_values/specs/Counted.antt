-- Values by counts.
use Rattle.std.specs.Prelude.{ℕ, ◌==◌, nat_lt, if◌then◌else◌}
use Rattle.formula_truth.specs.declared.truth.Truth.{Truth}
use Rattle.formula_truth.specs.declared.truth.Truth.TheVariants.{Yes, No, Unset}
use Rattle.search_board.specs.declared.kind.Kind.{Kind}
use Rattle.search_board.specs.declared.kind.Kind.TheVariants.{Leaf, And, Or}
use Rattle.search_board.specs.declared.counts.Counts.{Counts}

-- the value of a node with so many places and these counts
abbrev pub value_by : Kind → Truth → ℕ → Counts → Truth
value_by Leaf truth len counts = truth
value_by And truth len counts = if nat_lt 0 counts.no then No else (if counts.yes == len then Yes else Unset)
value_by Or truth len counts = if nat_lt 0 counts.yes then Yes else (if counts.no == len then No else Unset)
