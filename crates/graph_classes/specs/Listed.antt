-- The lists that questions read, against the rows and the labels.
use Rattle.std.specs.Prelude.{◌≡◌, ◌≢◌, ◌<◌, ◌≤◌, ◌⊎◌, ◌↔◌, ℕ, List, length, Some, slice_get, slice_index, Contains}
use Rattle.graph_terms.specs.declared.term_row.TermRow.{TermRow}
use Rattle.graph_terms.specs.Terms.{term_row, HasRow}
use Rattle.graph_classes.specs.declared.place.Place.{Place}
use Rattle.graph_classes.specs.declared.place.Place.TheVariants.{Symbol, Member, Parent}
use Rattle.graph_classes.specs.State.{State}

-- the term is to be listed at the place
abbrev pub Belongs : List TermRow → List ℕ → Place → ℕ → Type 0
Belongs rows labels (Symbol symbol) term = (args : List ℕ) × HasRow rows term (term_row symbol args)
Belongs rows labels (Member label symbol) term = (args : List ℕ) × HasRow rows term (term_row symbol args) ×
    (slice_index labels term ≡ label)
Belongs rows labels (Parent label symbol argument) term = (args : List ℕ) × (arg : ℕ) ×
    HasRow rows term (term_row symbol args) × (slice_get args argument ≡ Some arg) × (slice_index labels arg ≡ label)

-- the label is its own
abbrev pub IsOwn : List ℕ → ℕ → Type 0
IsOwn labels label = (label < length labels) × (slice_index labels label ≡ label)

-- the place is read: its label is its own
abbrev pub IsRead : List ℕ → Place → Type 0
IsRead labels (Symbol symbol) = Unit {0}
IsRead labels (Member label symbol) = IsOwn labels label
IsRead labels (Parent label symbol argument) = IsOwn labels label

-- the place is of no label that there is
abbrev pub IsBeyond : List ℕ → Place → Type 0
IsBeyond labels (Symbol symbol) = ⊥
IsBeyond labels (Member label symbol) = length labels ≤ label
IsBeyond labels (Parent label symbol argument) = length labels ≤ label

-- each list that is read has exactly the terms that belong there, and there are none of labels to come
pub record AreListed (rows : List TermRow) (labels : List ℕ) (lists : Place → List ℕ) : Type 0 where
  pub exact : (place : Place) → IsRead labels place → (t : ℕ) → Contains (lists place) t ↔ Belongs rows labels place t
  pub none_beyond : (place : Place) → IsBeyond labels place → (t : ℕ) → Contains (lists place) t → ⊥

-- each label that is its own has the least of its terms as its leader
pub record AreLed (labels leaders : List ℕ) : Type 0 where
  pub each : length leaders ≡ length labels
  pub is_term : (label : ℕ) → IsOwn labels label → slice_index leaders label < length labels
  pub own : (label : ℕ) → IsOwn labels label → slice_index labels (slice_index leaders label) ≡ label
  pub least : (t : ℕ) → t < length labels → slice_index leaders (slice_index labels t) ≤ t

-- lists and leaders are right
pub record IsListed (s : State) : Type 0 where
  pub lists : AreListed s.rows s.labels s.lists
  pub leaders : AreLed s.labels s.leaders

-- the term was put into the list at the place, and nothing else changed
pub record IsListing (old new : State) (place : Place) (term : ℕ) : Type 0 where
  pub alone : new ≡ record old { lists = new.lists }
  pub keeps : (other : Place) (t : ℕ) → Contains (old.lists other) t → Contains (new.lists other) t
  pub sound : (other : Place) (t : ℕ) → Contains (new.lists other) t →
      Contains (old.lists other) t ⊎ ((other ≡ place) × (t ≡ term))
  pub listed : Contains (new.lists place) term

-- the lists got terms that belong there, and nothing else changed
pub record ListsMore (old new : State) : Type 0 where
  pub alone : new ≡ record old { lists = new.lists }
  pub keeps : (place : Place) (t : ℕ) → Contains (old.lists place) t → Contains (new.lists place) t
  pub sound : (place : Place) (t : ℕ) → Contains (new.lists place) t →
      Contains (old.lists place) t ⊎ Belongs old.rows old.labels place t

-- one label got the lesser of its leader and another label's
pub record IsLed (old new : List ℕ) (from into : ℕ) : Type 0 where
  pub each : length new ≡ length old
  pub others : (label : ℕ) → label ≢ into → slice_index new label ≡ slice_index old label
  pub below_from : slice_index new into ≤ slice_index old from
  pub below_into : slice_index new into ≤ slice_index old into
  pub one_of_two : (slice_index new into ≡ slice_index old from) ⊎ (slice_index new into ≡ slice_index old into)

-- all of them are terms
abbrev pub AreTerms : State → List ℕ → Type 0
AreTerms s terms = (t : ℕ) → Contains terms t → t < length s.rows

-- the term is listed among those of its symbol in its class
abbrev pub IsMemberListed : State → ℕ → Type 0
IsMemberListed s term = (symbol : ℕ) (args : List ℕ) → HasRow s.rows term (term_row symbol args) →
    Contains (s.lists (Member (slice_index s.labels term) symbol)) term

-- the term is listed among the parents of the class of each argument
abbrev pub AreParentsListed : State → ℕ → Type 0
AreParentsListed s term = (symbol : ℕ) (args : List ℕ) (argument arg : ℕ) →
    HasRow s.rows term (term_row symbol args) → slice_get args argument ≡ Some arg →
    Contains (s.lists (Parent (slice_index s.labels arg) symbol argument)) term
