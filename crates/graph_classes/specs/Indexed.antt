-- How the labels, the lists of members and uses, and the table of signatures stand to each other.
use Rattle.std.specs.Prelude.{◌≡◌, ◌<◌, ◌⊎◌, ◌+◌, ◌++◌, ℕ, List, [], ◌∷◌}
use Rattle.std.specs.Prelude.{length, Some, nat_eq, slice_get, slice_index, slice_set, Contains, if◌then◌else◌}
use Rattle.graph_terms.specs.declared.term_row.TermRow.{TermRow}
use Rattle.graph_classes.specs.Closure.{IsSound, IsComplete}
use Rattle.graph_classes.specs.State.{State, list_at}

-- what signing needs: each term has a label, arguments and entries are terms
pub record IsSignable (s : State) : Type 0 where
  pub labels_len : length s.labels ≡ length s.rows
  pub args_in : (u : ℕ) (row : TermRow) (x : ℕ) → slice_get s.rows u ≡ Some row → Contains row.args x →
      x < length s.rows
  pub entry_in : (key : List ℕ) (term : ℕ) → Contains s.table (key, term) → term < length s.rows

-- a label got more uses, and the table may have grown
pub record HasUsesMoved (old new : State) (terms : List ℕ) (into : ℕ) : Type 0 where
  pub rows : new.rows ≡ old.rows
  pub labels : new.labels ≡ old.labels
  pub members : new.members ≡ old.members
  pub limit : new.limit ≡ old.limit
  pub leaders : new.leaders ≡ old.leaders
  pub lists : new.lists ≡ old.lists
  pub log : new.log ≡ old.log
  pub uses : new.uses ≡ slice_set old.uses into (list_at old.uses into ++ terms)
  pub signable : IsSignable new

-- the lists say where the labels stand, for each label that is its own
pub record IsIndexed (s : State) : Type 0 where
  pub labels_len : length s.labels ≡ length s.rows
  pub members_len : length s.members ≡ length s.rows
  pub uses_len : length s.uses ≡ length s.rows
  pub args_in : (u : ℕ) (row : TermRow) (x : ℕ) → slice_get s.rows u ≡ Some row → Contains row.args x →
      x < length s.rows
  pub label_in : (t : ℕ) → t < length s.rows → slice_index s.labels t < length s.rows
  pub label_fixed : (t : ℕ) → t < length s.rows → slice_index s.labels (slice_index s.labels t)
      ≡ slice_index s.labels t
  pub member_in : (l t : ℕ) → l < length s.rows → slice_index s.labels l ≡ l → Contains (list_at s.members l) t →
      (t < length s.rows) × (slice_index s.labels t ≡ l)
  pub is_member : (t : ℕ) → t < length s.rows → Contains (list_at s.members (slice_index s.labels t)) t
  pub use_in : (l u : ℕ) → l < length s.rows → slice_index s.labels l ≡ l → Contains (list_at s.uses l) u →
      u < length s.rows
  pub is_use : (u : ℕ) (row : TermRow) (x : ℕ) → slice_get s.rows u ≡ Some row → Contains row.args x →
      Contains (list_at s.uses (slice_index s.labels x)) u
  pub entry_in : (key : List ℕ) (term : ℕ) → Contains s.table (key, term) → term < length s.rows

-- the closure of the merges is reached but for the pending pairs and the terms that are still to sign
pub record IsClosing (merges : List (ℕ × ℕ)) (s : State) (pending : List (ℕ × ℕ)) (to_sign : List ℕ) : Type 0 where
  pub sound : IsSound s.rows merges s.labels s.table pending
  pub complete : IsComplete s.rows merges s.labels s.table pending to_sign

-- two terms have the two labels, one each
abbrev pub Between : List ℕ → ℕ → ℕ → ℕ → ℕ → Type 0
Between labels a b from into = ((slice_index labels a ≡ from) ×
    (slice_index labels b ≡ into)) ⊎ ((slice_index labels a ≡ into) × (slice_index labels b ≡ from))

-- each term of the one label has the other, and no label else is another
pub record IsRelabelled (old new : List ℕ) (from into : ℕ) : Type 0 where
  pub len : length new ≡ length old
  pub each : (t : ℕ) → t < length old → slice_index new t
      ≡ (if nat_eq (slice_index old t) from then into else slice_index old t)

-- a label written at each of the terms
abbrev pub written : List ℕ → List ℕ → ℕ → List ℕ
written labels [] label = labels
written labels (t ∷ ts) label = written (slice_set labels t label) ts label

-- the terms went from one label to another
abbrev pub moved : State → List ℕ → ℕ → State
moved s terms into = record s {
  labels = written s.labels terms into;
  members = slice_set s.members into (list_at s.members into ++ terms);
}

-- how many labels are their own, from place k on
abbrev pub own_from : ℕ → List ℕ → ℕ
own_from k [] = 0
own_from k (label ∷ labels) = (if nat_eq label k then 1 else 0) + own_from (k + 1) labels

-- the uses of labels, with a term added at the label of each of its arguments
abbrev pub used : List (List ℕ) → List ℕ → List ℕ → ℕ → List (List ℕ)
used uses labels [] term = uses
used uses labels (x ∷ xs) term = used (slice_set uses (slice_index labels x) (list_at uses (slice_index labels x)
    ++ term ∷ [])) labels xs term

-- both are among the first terms, and have one label
abbrev pub HaveOneLabel : ℕ → List ℕ → ℕ → ℕ → Type 0
HaveOneLabel n labels s t = (s < n) × (t < n) × (slice_index labels s ≡ slice_index labels t)
