-- What a standing list says, without its serials and the marks of levels.
use Rattle.std.specs.Prelude.{ℕ, List}
use Rattle.graph_terms.specs.declared.term_row.TermRow.{TermRow}
use Rattle.graph_trigger.specs.declared.trigger.Trigger.{Trigger}
use Rattle.graph_meaning.specs.declared.done.Done.{Done}
use Rattle.graph_meaning.specs.Standing.{terms_of, merges_of, differs_of, triggers_of}

-- the rows of the terms, the equations, the disequations, and the live triggers
pub record Known : Type 0 where
  pub rows : List TermRow
  pub merges : List (ℕ × ℕ)
  pub differs : List (ℕ × ℕ)
  pub triggers : List Trigger

-- read off a standing list
abbrev pub known_of : List Done → Known
known_of standing = record {
  rows = terms_of standing;
  merges = merges_of standing;
  differs = differs_of standing;
  triggers = triggers_of standing;
}
