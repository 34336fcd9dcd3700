-- What the questions of a graph ask, over its standing list.
use Rattle.std.specs.Prelude.{◌≡◌, ℕ, ◌<◌, ◌↔◌, List, slice_get, Some, Option, AllPairs, Contains}
use Rattle.graph_meaning.specs.declared.done.Done.{Done}
use Rattle.graph_terms.specs.Terms.{term_row, HasRow}
use Rattle.graph_meaning.specs.Standing.{terms_of}
use Rattle.graph_meaning.specs.Same.{Same}

-- exactly the numbers with the property, rising
pub record AreAll (P : ℕ → Type 0) (numbers : List ℕ) : Type 0 where
  pub rising : AllPairs (λ a b. a < b) numbers
  pub exact : (n : ℕ) → Contains numbers n ↔ P n

-- the k-th number with the property, counted from 0, or none where there are at most k
abbrev pub IsNth : (ℕ → Type 0) → ℕ → Option ℕ → Type 0
IsNth P k answer = (numbers : List ℕ) × AreAll P numbers × (answer ≡ slice_get numbers k)

-- the term has this symbol
abbrev pub HasSymbol : List Done → ℕ → ℕ → Type 0
HasSymbol standing symbol term = (args : List ℕ) × HasRow (terms_of standing) term (term_row symbol args)

-- a member of the term's class with this symbol
abbrev pub InClass : List Done → ℕ → ℕ → ℕ → Type 0
InClass standing term symbol member = HasSymbol standing symbol member × Same standing member term

-- a term with this symbol whose argument at the place is in the term's class
abbrev pub IsParent : List Done → ℕ → ℕ → ℕ → ℕ → Type 0
IsParent standing term symbol place parent = (args : List ℕ) × (arg : ℕ) ×
    HasRow (terms_of standing) parent (term_row symbol args) × (slice_get args place ≡ Some arg) ×
    Same standing arg term
