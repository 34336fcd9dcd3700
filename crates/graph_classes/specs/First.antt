-- The parts of a graph of true and false alone, before the terms are listed.
use Rattle.std.specs.Prelude.{ℕ, [], ◌∷◌}
use Rattle.graph_terms.specs.Terms.{first_rows}
use Rattle.graph_classes.specs.State.{State}

-- each of the two terms is alone in its class, and no operation stands
abbrev pub first_parts : ℕ → State
first_parts limit = record {
  rows = first_rows;
  limit = limit;
  labels = 0 ∷ 1 ∷ [];
  members = (0 ∷ []) ∷ (1 ∷ []) ∷ [];
  uses = [] ∷ [] ∷ [];
  table = (0 ∷ [], 0) ∷ (1 ∷ [], 1) ∷ [];
  leaders = 0 ∷ 1 ∷ [];
  lists = λ _. [];
  log = [];
}
