-- What the parts of a graph hold, and what undoes a change of it.
use Rattle.std.specs.Prelude.{◌≡◌, ◌-◌, ℕ, List, [], ◌∷◌, ◌++◌}
use Rattle.std.specs.Prelude.{length, take, slice_index_or, slice_set, remove, nat_lt, if◌then◌else◌}
use Rattle.graph_terms.specs.declared.term_row.TermRow.{TermRow}
use Rattle.graph_meaning.specs.declared.done.Done.{Done}
use Rattle.graph_classes.specs.declared.place.Place.{Place}
use Rattle.graph_classes.specs.declared.parts.Parts.{Parts}
use Rattle.graph_classes.specs.declared.change.Change.{Change}
use Rattle.graph_classes.specs.declared.change.Change.TheVariants.{Added, Labelled, Joined, Used}
use Rattle.graph_classes.specs.declared.change.Change.TheVariants.{Signed, Led, Listed, Logged}
use Rattle.graph_classes.specs.Lists.{with_list}
use Rattle.graph_classes.specs.Shown.{lists_in}

-- what the parts of a graph hold: the rows and how many there may be, each term's label, the terms of each label, the
-- terms over each label, the signatures, the least term of each label, the lists that questions read, and the
-- operations that stand
pub record State : Type 0 where
  pub rows : List TermRow
  pub limit : ℕ
  pub labels : List ℕ
  pub members : List (List ℕ)
  pub uses : List (List ℕ)
  pub table : List (List ℕ × ℕ)
  pub leaders : List ℕ
  pub lists : Place → List ℕ
  pub log : List Done

abbrev pub state : Parts → State
state parts = record {
  rows = parts.rows.rows;
  limit = parts.rows.limit;
  labels = parts.labels.items;
  members = parts.members.items;
  uses = parts.uses.items;
  table = parts.table;
  leaders = parts.leaders.items;
  lists = lists_in parts.lists;
  log = parts.log;
}

-- a list without its last item
abbrev pub shorter : {A : Type 0} → List A → List A
shorter xs = take (length xs - 1) xs

-- rows without the last, but for the first two
abbrev pub fewer_rows : List TermRow → List TermRow
fewer_rows rows = if nat_lt 2 (length rows) then shorter rows else rows

-- the list that a label has
abbrev pub list_at : List (List ℕ) → ℕ → List ℕ
list_at lists label = slice_index_or lists label []

-- the state before a change, from the state after it
abbrev pub before_change : State → Change → State
before_change s Added = record s {
  rows = fewer_rows s.rows;
  labels = shorter s.labels;
  members = shorter s.members;
  uses = shorter s.uses;
  leaders = shorter s.leaders;
}
before_change s (Labelled term old) = record s { labels = slice_set s.labels term old }
before_change s (Joined label) = record s { members = slice_set s.members label (shorter (list_at s.members label)) }
before_change s (Used label) = record s { uses = slice_set s.uses label (shorter (list_at s.uses label)) }
before_change s Signed = record s { table = shorter s.table }
before_change s (Led label old) = record s { leaders = slice_set s.leaders label old }
before_change s (Listed place at) = record s { lists = with_list s.lists place (remove (s.lists place) at) }
before_change s Logged = record s { log = shorter s.log }

abbrev pub UndoLeaves : Parts → Change → Parts → Type 0
UndoLeaves old change new = state new ≡ before_change (state old) change

pub undo_gives_before : (old : Parts) (change : Change) (new : Parts) → UndoLeaves old change new →
    state new ≡ before_change (state old) change
undo_gives_before old change new h = h

-- the state with one more row, which is alone in its class and is used nowhere
abbrev pub with_row : State → TermRow → ℕ → State
with_row s row term = record s {
  rows = s.rows ++ row ∷ [];
  labels = s.labels ++ term ∷ [];
  members = s.members ++ (term ∷ []) ∷ [];
  uses = s.uses ++ [] ∷ [];
  leaders = s.leaders ++ term ∷ [];
}
