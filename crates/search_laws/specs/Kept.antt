-- The assignment of a branch that is a way out.
use Rattle.std.specs.Prelude.{◌≡◌, ℕ, ◌==◌, if◌then◌else◌, Bool, true, false, List, [], ◌∷◌, length, slice_get, Some}
use Rattle.std.specs.Prelude.{All}
use Rattle.std.specs.Option.{option_map_or}
use Rattle.graph_terms.specs.declared.term_row.TermRow.{TermRow}
use Rattle.graph_terms.specs.Terms.{HasRow}
use Rattle.graph_meaning.specs.declared.done.Done.{Done}
use Rattle.graph_meaning.specs.Same.{IsLeader}
use Rattle.graph_meaning.specs.Standing.{terms_of}
use Rattle.formula_table.specs.declared.node.Node.{Node}
use Rattle.formula_table.specs.declared.node.Node.TheVariants.{Equal, Atom}
use Rattle.formula_value.specs.Holds.{HasNode}
use Rattle.search_laws.specs.Assignment.{Assignment}

-- each term's leader, by number
pub record AreLeaders (standing : List Done) (leaders : List ℕ) : Type 0 where
  pub each : length leaders ≡ length (terms_of standing)
  pub are : (term leader : ℕ) → slice_get leaders term ≡ Some leader → IsLeader standing term leader

-- whether the term's symbol is among the predicates
abbrev pub is_truth : (ℕ → Bool) → List TermRow → ℕ → Bool
is_truth predicates rows term = option_map_or (λ row. predicates row.symbol) (slice_get rows term) false

-- The sorts are kept to, where these symbols are the predicates, true and false among them: no argument is a truth,
-- and no side of an equation, and each atom is one.
pub record KeepsSorts (predicates : ℕ → Bool) (rows : List TermRow) (nodes : List Node) : Type 0 where
  pub true_is : predicates 0 ≡ true
  pub false_is : predicates 1 ≡ true
  pub args : (term : ℕ) (row : TermRow) → HasRow rows term row →
      All (λ arg. is_truth predicates rows arg ≡ false) row.args
  pub left : (n s t : ℕ) (positive : Bool) → HasNode nodes n (Equal positive s t) → is_truth predicates rows s ≡ false
  pub right : (n s t : ℕ) (positive : Bool) → HasNode nodes n (Equal positive s t) → is_truth predicates rows t ≡ false
  pub atom : (n term : ℕ) (positive : Bool) → HasNode nodes n (Atom positive term) →
      is_truth predicates rows term ≡ true

-- the number of a term: its leader, but 1 for a truth whose leader is not 0
abbrev pub kept_number : Bool → ℕ → ℕ
kept_number false leader = leader
kept_number true leader = if leader == 0 then 0 else 1

-- the numbers of these rows with these leaders
abbrev pub kept_numbers : (ℕ → Bool) → List TermRow → List ℕ → List ℕ
kept_numbers predicates [] leaders = []
kept_numbers predicates (row ∷ rows) [] = []
kept_numbers predicates (row ∷ rows) (leader ∷ leaders) =
    kept_number (predicates row.symbol) leader ∷ kept_numbers predicates rows leaders

-- each term has its number, and each forall is false
abbrev pub kept_assignment : (ℕ → Bool) → List TermRow → List ℕ → Assignment
kept_assignment predicates rows leaders = record {
  rows = rows;
  numbers = kept_numbers predicates rows leaders;
  foralls = λ forall. false;
}
