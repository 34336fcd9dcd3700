-- Laws of the search.
use Rattle.std.specs.Prelude.{◌≡◌, ◌≢◌, ℕ, ◌≤◌, Bool, List, [], ◌∷◌, length, All, Contains}
use Rattle.graph_terms.specs.Terms.{IsTable}
use Rattle.graph_meaning.specs.Standing.{terms_of}
use Rattle.match_store.specs.declared.instance.Instance.{Instance}
use Rattle.formula_table.specs.Formulas.{Formulas, IsFormulaTable, NodesStand}
use Rattle.formula_assert.specs.Held.{Held}
use Rattle.formula_assert.specs.Exactly.{HoldsExactly}
use Rattle.search_laws.specs.Branch.{Branch, live_in}
use Rattle.search_laws.specs.Closing.{Conflict, HasNoOpen}
use Rattle.search_laws.specs.Path.{Path, first_path}
use Rattle.search_laws.specs.Rounds.{AreNewIn}
use Rattle.search_laws.specs.Verdict.{Ending, unsat, sat, settled, rounds_spent, Verdict}
use Rattle.search_laws.specs.Assignment.{IsAssignment, Satisfies}
use Rattle.search_laws.specs.Pairs.{AreRefutedByInstances}
use Rattle.search_laws.specs.Kept.{AreLeaders, KeepsSorts, kept_assignment}

-- terms and formulas are tables, and what is held is exactly what the asserted formulas stand for
pub record IsInOrder (formulas : Formulas) (now : Held) : Type 0 where
  pub terms : IsTable (terms_of now.graph.standing)
  pub table : IsFormulaTable formulas
  pub stand : NodesStand (length (terms_of now.graph.standing)) formulas.nodes
  pub exactly : HoldsExactly formulas now

-- a search ends in one way
abbrev pub HasOneVerdict : Type 0
HasOneVerdict = (rounds : ℕ) (formulas : Formulas) (now : Held) (one other : Ending) → IsInOrder formulas now →
    Verdict rounds (first_path formulas now) one → Verdict rounds (first_path formulas now) other → one ≡ other

-- where there is no way out, finitely many instances refute what is asserted
abbrev pub UnsatRefutes : Type 0
UnsatRefutes = (rounds : ℕ) (formulas : Formulas) (now : Held) → IsInOrder formulas now →
    Verdict rounds (first_path formulas now) unsat →
    AreRefutedByInstances formulas (terms_of now.graph.standing) now.asserted

-- The assignment of a way out is one, and it satisfies what is asserted there, whichever symbols are the predicates,
-- if the sorts are kept to; what was asserted at the start is among it.
pub record IsWayOut (predicates : ℕ → Bool) (leaders : List ℕ) (formulas : Formulas) (now : Held) (last : Branch)
    : Type 0 where
  pub assigns : IsAssignment (kept_assignment predicates (terms_of now.graph.standing) leaders)
  pub satisfies : (n : ℕ) → Contains last.held.asserted n →
      Satisfies (kept_assignment predicates (terms_of now.graph.standing) leaders) (terms_of now.graph.standing)
      formulas.nodes n
  pub among : (n : ℕ) → Contains now.asserted n → Contains last.held.asserted n

-- where the search ends with a way out, it is one
abbrev pub SatSatisfies : Type 0
SatSatisfies = (rounds : ℕ) (formulas : Formulas) (now : Held) (last : Path) (leaders : List ℕ)
    (predicates : ℕ → Bool) → IsInOrder formulas now → Verdict rounds (first_path formulas now) (sat last) →
    AreLeaders last.branch.held.graph.standing leaders →
    KeepsSorts predicates (terms_of now.graph.standing) formulas.nodes →
    IsWayOut predicates leaders formulas now last.branch

-- a search that ends open: no conflict stands, no disjunction is open, and some forall is live
pub record IsLeftOpen (last : Path) : Type 0 where
  pub no_conflict : Conflict last.formulas last.branch → ⊥
  pub no_open : HasNoOpen last.formulas last.branch
  pub some_live : live_in last.formulas last.branch ≢ []

-- where it is open as nothing is new, nothing is; and where it is open as the rounds are spent, some instance is new, and
-- each of so many rounds entered one or more
pub record OpensForACause : Type 0 where
  pub settles : (rounds : ℕ) (path last : Path) → Verdict rounds path (settled last) →
      IsLeftOpen last × AreNewIn last []
  pub spends : (rounds : ℕ) (formulas : Formulas) (now : Held) (last : Path) →
      Verdict rounds (first_path formulas now) (rounds_spent last) → IsLeftOpen last ×
      ((instance : Instance) × (instances : List Instance) × AreNewIn last (instance ∷ instances)) ×
      (length last.spent ≡ rounds) × All (λ count. 1 ≤ count) last.spent
