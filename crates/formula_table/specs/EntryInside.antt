-- What the steps of an entry keep and say.
use Rattle.std.specs.Prelude.{◌≡◌, ℕ, ◌<◌, ◌⊎◌, Bool, true, false, List}
use Rattle.std.specs.Prelude.{[], ◌∷◌, ◌++◌, length, slice_get, slice_index, Some}
use Rattle.graph_terms.specs.declared.term_row.TermRow.{TermRow}
use Rattle.graph_terms.specs.Terms.{IsAbsent}
use Rattle.formula_draft.specs.declared.draft_forall.DraftForall.{DraftForall}
use Rattle.formula_draft.specs.Reach.{ReachesNode, ReachesRow}
use Rattle.formula_draft.specs.Draft.{Formula}
use Rattle.formula_table.specs.declared.node.Node.{Node}
use Rattle.formula_table.specs.declared.table_forall.TableForall.{TableForall}
use Rattle.formula_table.specs.declared.enter_fault.EnterFault.{EnterFault}
use Rattle.formula_table.specs.declared.enter_fault.EnterFault.TheVariants.{TermsFull, NodesFull, Memory}
use Rattle.formula_table.specs.Formulas.{Formulas, with_foralls}
use Rattle.formula_table.specs.InOrder.{IsFullFor, PutsNext}
use Rattle.formula_table.specs.Entry.{BecomesRow, BecomesNode, ReachesForall, FillsTerms, LacksMemory}
use Rattle.formula_table.specs.Entry.{FillsNodes, ForallsGrow, NodesGrow, BecomesForall}

-- each number of a reached row is that of a term
abbrev pub NumbersStand : Formula → ℕ → List ℕ → Type 0
NumbersStand formula count terms = (n : ℕ) → n < length terms → ReachesRow formula.rows formula.nodes formula.root n →
    slice_index terms n < count

-- the row is new, and as many terms stand as may; or memory was refused, before the row was added or by adding it
abbrev pub StopsTerm : List TermRow → ℕ → Type 0 → Type 0 → TermRow → EnterFault → Type 0
StopsTerm rows limit unchanged refused row TermsFull = unchanged × IsAbsent rows row × (length rows ≡ limit)
StopsTerm rows limit unchanged refused row NodesFull = ⊥
StopsTerm rows limit unchanged refused row Memory = unchanged ⊎ refused

-- the next row was entered, and the terms grew by what it adds
abbrev pub RowGrows : (List TermRow → Type 0) → Formula → List ℕ → List TermRow → ℕ → List ℕ → ℕ → Type 0
RowGrows grown formula tuple rows limit terms term = (more : List TermRow) × grown more ×
    PutsNext (BecomesRow formula tuple rows terms (length terms)) rows limit more term

-- the next row was not entered
abbrev pub StopsRow : Type 0 → Type 0 → Formula → List ℕ → List TermRow → ℕ → List ℕ → EnterFault → Type 0
StopsRow unchanged refused formula tuple rows limit terms TermsFull = unchanged ×
    IsFullFor (BecomesRow formula tuple rows terms (length terms)) rows limit
StopsRow unchanged refused formula tuple rows limit terms NodesFull = ⊥
StopsRow unchanged refused formula tuple rows limit terms Memory = unchanged ⊎ refused

-- not all rows were entered
abbrev pub StopsRows : (List TermRow → Type 0) → (List TermRow → Type 0) → Formula → List ℕ → List TermRow → ℕ →
    EnterFault → Type 0
StopsRows grown refused formula tuple rows limit TermsFull = FillsTerms grown formula tuple rows limit
StopsRows grown refused formula tuple rows limit NodesFull = ⊥
StopsRows grown refused formula tuple rows limit Memory = LacksMemory grown refused formula tuple rows limit

-- a reached forall was put last under its number, and another left the table
abbrev pub ForallGrows : Formula → ℕ → Bool → Formulas → Formulas → ℕ → Type 0
ForallGrows formula index false old new number = new ≡ old
ForallGrows formula index true old new number = (drafted : DraftForall) × (forall : TableForall) ×
    (slice_get formula.foralls index ≡ Some drafted) × BecomesForall formula (length old.foralls) drafted forall ×
    (new ≡ with_foralls (forall ∷ []) old) × (number ≡ length old.foralls)

-- the table grew by the foralls of the formula, with these numbers
pub record ForallsEntered (formula : Formula) (old new : Formulas) (numbers : List ℕ) : Type 0 where
  pub added : List TableForall
  pub grow : ForallsGrow formula old.foralls added numbers
  pub new_is : new ≡ with_foralls added old

-- each number of a reached forall is that of a forall of the table
abbrev pub ForallNumbersStand : Formula → Formulas → List ℕ → Type 0
ForallNumbersStand formula table foralls = (index : ℕ) → index < length formula.foralls →
    ReachesForall formula index → slice_index foralls index < length table.foralls

-- each number of a reached node is that of a node
abbrev pub NodeNumbersStand : Formula → Formulas → List ℕ → Type 0
NodeNumbersStand formula table numbers = (n : ℕ) → n < length numbers → ReachesNode formula.nodes formula.root n →
    slice_index numbers n < length table.nodes

-- the next node was entered, and the table grew by what it adds
abbrev pub NodeGrows : Formula → List ℕ → List ℕ → List ℕ → Formulas → Formulas → ℕ → Type 0
NodeGrows formula terms foralls numbers old new number = (more : List Node) ×
    (new ≡ record old { nodes = old.nodes ++ more }) × PutsNext
    (BecomesNode formula terms foralls numbers (length numbers)) old.nodes old.limit more number

-- the next node was not entered
abbrev pub StopsNode : Formula → List ℕ → List ℕ → List ℕ → Formulas → EnterFault → Type 0
StopsNode formula terms foralls numbers table TermsFull = ⊥
StopsNode formula terms foralls numbers table NodesFull = IsFullFor
    (BecomesNode formula terms foralls numbers (length numbers)) table.nodes table.limit
StopsNode formula terms foralls numbers table Memory = Unit {0}

-- not all nodes were entered
abbrev pub StopsNodes : Formula → List ℕ → List ℕ → Formulas → EnterFault → Type 0
StopsNodes formula terms foralls old TermsFull = ⊥
StopsNodes formula terms foralls old NodesFull = FillsNodes formula terms foralls old
StopsNodes formula terms foralls old Memory = Unit {0}

-- the table grew by the nodes of the formula, of which the root has this number
pub record NodesEntered (formula : Formula) (terms foralls : List ℕ) (old new : Formulas) (number : ℕ) : Type 0 where
  pub added : List Node
  pub grow : NodesGrow formula terms foralls old added number
  pub new_is : new ≡ record old { nodes = old.nodes ++ added }
