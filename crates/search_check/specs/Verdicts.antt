-- What the answer of a search says.
use Rattle.std.specs.Prelude.{◌≡◌, ◌≢◌, ℕ, Bool, List, Option, Some, Contains}
use Rattle.graph_meaning.specs.Standing.{terms_of}
use Rattle.formula_table.specs.declared.enter_fault.EnterFault.{EnterFault}
use Rattle.formula_table.specs.declared.enter_fault.EnterFault.TheVariants.{Memory}
use Rattle.formula_table.specs.Formulas.{Formulas}
use Rattle.formula_assert.specs.Held.{Held}
use Rattle.search_laws.specs.Path.{Path, first_path}
use Rattle.search_laws.specs.Verdict.{Ending, unsat, sat, settled, rounds_spent, refused, Verdict}
use Rattle.search_laws.specs.Assignment.{Assignment, IsAssignment, Satisfies}
use Rattle.search_laws.specs.Pairs.{AreRefutedByInstances}
use Rattle.search_laws.specs.Kept.{AreLeaders, KeepsSorts, kept_assignment}
use Rattle.search_check.specs.declared.outcome.Kept.{Kept}
use Rattle.search_check.specs.declared.outcome.Outcome.{Outcome}
use Rattle.search_check.specs.declared.outcome.Outcome.TheVariants.{Unsat, Sat, Unknown}
use Rattle.search_check.specs.declared.why.Why.{Why}
use Rattle.search_check.specs.declared.why.Why.TheVariants.{Settled, RoundsSpent}

-- of what is held, each term's leader and the asserted nodes in order, and how many instances each round entered
abbrev pub IsKept : Held → List ℕ → Kept → Type 0
IsKept now spent kept = AreLeaders now.graph.standing kept.leaders × (now.asserted ≡ kept.asserted) ×
    (spent ≡ kept.rounds)

-- the search is over, as it is open for this cause, and this was kept of what is held
abbrev pub IsOpenWith : Why → Held → List ℕ → Option Outcome → Type 0
IsOpenWith why now spent outcome = (kept : Kept) × (outcome ≡ Some (Unknown why kept)) × IsKept now spent kept

-- the search ends here, which is what was kept
abbrev pub EndsAt : ℕ → Formulas → Held → (Path → Ending) → Kept → Type 0
EndsAt rounds formulas now ending kept = (last : Path) × Verdict rounds (first_path formulas now) (ending last) ×
    IsKept last.branch.held last.spent kept

-- The search of what is held, with so many rounds, ends so. Of where it ends the leaders and the asserted nodes are kept,
-- and how many instances each round on the way entered.
abbrev pub IsVerdictOf : ℕ → Formulas → Held → Outcome → Type 0
IsVerdictOf rounds formulas now Unsat = Verdict rounds (first_path formulas now) unsat
IsVerdictOf rounds formulas now (Sat kept) = EndsAt rounds formulas now sat kept
IsVerdictOf rounds formulas now (Unknown Settled kept) = EndsAt rounds formulas now settled kept
IsVerdictOf rounds formulas now (Unknown RoundsSpent kept) = EndsAt rounds formulas now rounds_spent kept

-- an instance is past a limit
abbrev pub IsPastLimit : ℕ → Formulas → Held → EnterFault → Type 0
IsPastLimit rounds formulas now fault = fault ≢ Memory → Verdict rounds (first_path formulas now) (refused fault)

-- the assignment that gives each term its leader, and each truth but that of true the number of false
abbrev pub kept_of_terms : Held → (ℕ → Bool) → Kept → Assignment
kept_of_terms now predicates kept = kept_assignment predicates (terms_of now.graph.standing) kept.leaders

-- What the answer tells: finitely many instances of foralls refute what is asserted; or, whichever symbols are the
-- predicates, if the sorts are kept to, the leaders that were kept make an assignment that satisfies it. Of a search
-- that ends open nothing is told.
abbrev pub TellsOfAssignments : Formulas → Held → Outcome → Type 0
TellsOfAssignments formulas now Unsat = AreRefutedByInstances formulas (terms_of now.graph.standing) now.asserted
TellsOfAssignments formulas now (Sat kept) = (predicates : ℕ → Bool) →
    KeepsSorts predicates (terms_of now.graph.standing) formulas.nodes →
    IsAssignment (kept_of_terms now predicates kept) × ((n : ℕ) → Contains now.asserted n →
    Satisfies (kept_of_terms now predicates kept) (terms_of now.graph.standing) formulas.nodes n)
TellsOfAssignments formulas now (Unknown why kept) = Unit {0}
