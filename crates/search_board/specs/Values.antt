-- The value of a node by the values of its parts.
use Rattle.std.specs.Prelude.{List}
use Rattle.formula_truth.specs.declared.truth.Truth.{Truth}
use Rattle.formula_truth.specs.Truths.{all_of, some_of}
use Rattle.search_board.specs.declared.kind.Kind.{Kind}
use Rattle.search_board.specs.declared.kind.Kind.TheVariants.{Leaf, And, Or}

-- the value of a node with parts of these values; that of a leaf is told
abbrev pub value_of : Kind → List Truth → Truth → Truth
value_of Leaf parts told = told
value_of And parts told = all_of parts
value_of Or parts told = some_of parts
