-- A graph as its operations make it.
use Rattle.std.specs.Prelude.{ℕ, ◌+◌, List, [], ◌∷◌}
use Rattle.graph_meaning.specs.declared.op.Op.{Op}
use Rattle.graph_meaning.specs.declared.op.Op.TheVariants.{Add}
use Rattle.graph_meaning.specs.declared.done.Done.{Done}
use Rattle.graph_terms.specs.Terms.{term_row, IsFull, Table}
use Rattle.graph_meaning.specs.Standing.{terms_of, standing_after}

-- a graph: what stands, how many operations were done, and how many terms it may have
pub record GraphState : Type 0 where
  pub standing : List Done
  pub done : ℕ
  pub limit : ℕ

-- a graph of true and false alone
abbrev pub first_state : ℕ → GraphState
first_state limit = record { standing = []; done = 0; limit = limit }

-- the graph after one operation more
abbrev pub state_after : GraphState → Op → GraphState
state_after state op = record {
  standing = standing_after state.standing state.done op;
  done = state.done + 1;
  limit = state.limit;
}

-- the graph after further operations, one after another
abbrev pub replay : GraphState → List Op → GraphState
replay state [] = state
replay state (op ∷ ops) = replay (state_after state op) ops

-- the table of a graph's terms
abbrev pub table_of : GraphState → Table
table_of state = record { rows = terms_of state.standing; limit = state.limit }

-- the operation adds a row, which is new, and as many terms stand as may
abbrev pub IsFullFor : Table → Op → Type 0
IsFullFor table (Add symbol args) = IsFull table (term_row symbol args)
IsFullFor table op = ⊥
