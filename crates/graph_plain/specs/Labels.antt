-- Labels on terms, one to each class.
use Rattle.std.specs.Prelude.{◌≡◌, ◌≢◌, ℕ, ◌<◌, ◌≤◌, List, [], ◌∷◌}
use Rattle.std.specs.Prelude.{length, map, slice_index, Contains, ◌==◌, if◌then◌else◌, min, max}
use Rattle.graph_terms.specs.declared.term_row.TermRow.{TermRow}
use Rattle.graph_terms.specs.Terms.{term_row, HasRow}
use Rattle.graph_meaning.specs.declared.op.Op.{Op}
use Rattle.graph_meaning.specs.declared.op.Op.TheVariants.{Add}
use Rattle.graph_meaning.specs.Same.{Derives}

-- the label of a term
abbrev pub label_of : List ℕ → ℕ → ℕ
label_of labels term = slice_index labels term

-- each label is a term of the class that is no later, and has itself as its label
pub record AreSound (rows : List TermRow) (merges : List (ℕ × ℕ)) (labels : List ℕ) : Type 0 where
  pub each_term : length labels ≡ length rows
  pub derived : (term : ℕ) → term < length rows → Derives rows merges (label_of labels term) term
  pub no_later : (term : ℕ) → term < length rows → label_of labels term ≤ term
  pub own : (term : ℕ) → term < length rows → label_of labels (label_of labels term) ≡ label_of labels term

-- the ends of each equation have one label
abbrev pub AreMerged : List (ℕ × ℕ) → List ℕ → Type 0
AreMerged merges labels = (s t : ℕ) → Contains merges (s, t) → label_of labels s ≡ label_of labels t

-- two terms with one symbol and arguments of one label each
abbrev pub IsCongruentPair : List TermRow → List ℕ → ℕ → ℕ → Type 0
IsCongruentPair rows labels s t = (symbol : ℕ) × (ss : List ℕ) × (ts : List ℕ) × HasRow rows s (term_row symbol ss) ×
    HasRow rows t (term_row symbol ts) × (map (label_of labels) ss ≡ map (label_of labels) ts)

-- each term that is congruent to this one has its label
abbrev pub IsCongruentToAll : List TermRow → List ℕ → ℕ → Type 0
IsCongruentToAll rows labels s = (t : ℕ) → IsCongruentPair rows labels s t → label_of labels s ≡ label_of labels t

-- congruent terms have one label
abbrev pub AreCongruent : List TermRow → List ℕ → Type 0
AreCongruent rows labels = (s : ℕ) → IsCongruentToAll rows labels s

-- two terms of different labels that an equation or congruence joins
pub record AreToJoin (rows : List TermRow) (merges : List (ℕ × ℕ)) (labels : List ℕ) (s t : ℕ) : Type 0 where
  pub left : s < length rows
  pub right : t < length rows
  pub derived : Derives rows merges s t
  pub apart : label_of labels s ≢ label_of labels t

-- the label in place of this one, where one of two is gone
abbrev pub renamed_label : ℕ → ℕ → ℕ → ℕ
renamed_label gone kept label = if label == gone then kept else label

-- each label that was the one is now the other
abbrev pub relabelled : ℕ → ℕ → List ℕ → List ℕ
relabelled gone kept labels = map (renamed_label gone kept) labels

-- two labels made one, the earlier
abbrev pub joined_labels : ℕ → ℕ → List ℕ → List ℕ
joined_labels left right labels = relabelled (max left right) (min left right) labels

-- each term has itself as its label
abbrev pub AreOwn : List ℕ → Type 0
AreOwn labels = (term : ℕ) → term < length labels → label_of labels term ≡ term

-- the labels that come with the terms that an operation adds: a new term is its own class
abbrev pub labels_added : ℕ → Op → List ℕ
labels_added terms op = elim op [ Add symbol args ↦ terms ∷ [] | _ ↦ [] ]
