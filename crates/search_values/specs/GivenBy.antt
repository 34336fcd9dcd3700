-- What a board and the parts of its nodes give.
use Rattle.std.specs.Prelude.{ℕ, List}
use Rattle.formula_truth.specs.declared.truth.Truth.{Truth}
use Rattle.formula_truth.specs.declared.truth.Truth.TheVariants.{Unset}
use Rattle.search_board.specs.declared.kind.Kind.{Kind}
use Rattle.search_board.specs.declared.kind.Kind.TheVariants.{Leaf, And, Or}
use Rattle.search_board.specs.Board.{Shown, kind_at, truth_at, asserted_at, place_at}
use Rattle.search_values.specs.Given.{Given}

-- the value of a leaf
abbrev pub leaf_only : Kind → Truth → Truth
leaf_only Leaf truth = truth
leaf_only And truth = Unset
leaf_only Or truth = Unset

-- the values of leaves, and what is asserted and struck
abbrev pub given_by : List (List ℕ) → Shown → Given
given_by parts shown = record {
  kinds = shown.kinds;
  parts = parts;
  leaf = λ n. leaf_only (kind_at shown n) (truth_at shown n);
  asserted = asserted_at shown;
  struck = λ n i. (place_at shown n i).struck;
}
