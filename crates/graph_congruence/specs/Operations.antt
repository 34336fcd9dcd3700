-- What an operation is told by.
use Rattle.std.specs.Prelude.{◌≡◌, ◌+◌, ◌-◌, ℕ, Bool, true, false, List, [], length, take, Some, slice_get}
use Rattle.graph_meaning.specs.declared.done.Done.{Done}
use Rattle.graph_meaning.specs.declared.op.Op.TheVariants.{Add}
use Rattle.graph_terms.specs.declared.term_row.TermRow.{TermRow}
use Rattle.graph_meaning.specs.declared.union.Union.{Union}
use Rattle.graph_meaning.specs.Standing.{is_push, terms_of}
use Rattle.graph_meaning.specs.State.{GraphState, state_after}
use Rattle.graph_terms.specs.Terms.{HasRow, IsAbsent}
use Rattle.graph_meaning.specs.Unions.{ListsUnions}

-- the row is new and the Add was done, or the row stood and nothing was done
pub data Adds (old new : GraphState) (row : TermRow) (term : ℕ) (unions : List Union) : Bool → Type 0 where
  new_row : IsAbsent (terms_of old.standing) row → term ≡ length (terms_of old.standing) →
      new ≡ state_after old (Add row.symbol row.args) → ListsUnions old.standing new.standing unions →
      Adds old new row term unions true
  old_row : HasRow (terms_of old.standing) term row → new ≡ old → unions ≡ [] → Adds old new row term unions false

-- the operation that was done last stands last, and opens no level
abbrev pub CanTakeBack : GraphState → Type 0
CanTakeBack state = (last : Done) × (slice_get state.standing (length state.standing - 1) ≡ Some last) ×
    (last.serial + 1 ≡ state.done) × (is_push last ≡ false)

-- the graph before the operation that was done last
abbrev pub taken_back : GraphState → GraphState
taken_back state = record {
  standing = take (length state.standing - 1) state.standing;
  done = state.done - 1;
  limit = state.limit;
}
