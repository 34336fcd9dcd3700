-- What is kept of nodes, with what was saved for each open level.
use Rattle.std.specs.Prelude.{◌≡◌, ◌≤◌, ◌<◌, ◌-◌, ℕ, List, [], ◌∷◌, ◌++◌, length, take, slice_index_or}
use Rattle.search_board.specs.Board.{Shown, no_nodes}
use Rattle.search_values.specs.Given.{Given}
use Rattle.search_values.specs.GivenBy.{given_by}

-- the parts of the nodes, how the nodes stand, and how they stood when each level that is open was opened, the
-- innermost last
pub record Kept : Type 0 where
  pub parts : List (List ℕ)
  pub shown : Shown
  pub saved : List Shown

-- what the values of leaves, and what is asserted and struck, are now
abbrev pub given_of : Kept → Given
given_of kept = given_by kept.parts kept.shown

-- no nodes and no levels
abbrev pub no_values : Kept
no_values = record { parts = []; shown = no_nodes; saved = [] }

-- a level is opened
abbrev pub pushed : Kept → Kept
pushed kept = record kept { saved = kept.saved ++ kept.shown ∷ [] }

-- how the nodes stood when the innermost level was opened, or how they stand where none is open
abbrev pub last_saved : Kept → Shown
last_saved kept = slice_index_or kept.saved (length kept.saved - 1) kept.shown

-- the innermost level ends, and the nodes that were entered in it go
abbrev pub popped : Kept → Kept
popped kept = record {
  parts = take (length (last_saved kept).kinds) kept.parts;
  shown = last_saved kept;
  saved = take (length kept.saved - 1) kept.saved;
}

-- how many nodes there were when a level was opened, the outermost first
abbrev pub nodes_saved : Kept → ℕ → ℕ
nodes_saved kept k = length (slice_index_or kept.saved k no_nodes).kinds

-- each node has its parts, and at each level there were no more nodes than at a later one, and than there are
pub record IsStacked (kept : Kept) : Type 0 where
  pub nodes : length kept.parts ≡ length kept.shown.kinds
  pub rising : (j k : ℕ) → j ≤ k → k < length kept.saved → nodes_saved kept j ≤ nodes_saved kept k
  pub within : (k : ℕ) → k < length kept.saved → nodes_saved kept k ≤ length kept.shown.kinds
