-- The definitions on single forms.
use Rattle.std.proofs.Common.{◌≡◌, ℕ, true, false, List, [], ◌∷◌, ◌++◌, Option, Some, None, Result, Ok, Err, refl, codes}
use Rattle.smt_text.specs.declared.token.Place.{Place}
use Rattle.formula_draft.specs.declared.draft_row.DraftRow.{DraftRow}
use Rattle.formula_draft.specs.declared.draft_row.DraftRow.TheVariants.{Var, App}
use Rattle.formula_draft.specs.declared.draft_node.DraftNode.{DraftNode}
use Rattle.formula_draft.specs.declared.draft_node.DraftNode.TheVariants.{Equal, Atom, And, Or}
use Rattle.formula_draft.specs.Draft.{Draft, empty_draft}
use Rattle.smt_names.specs.declared.value.Value.{Value}
use Rattle.smt_names.specs.declared.value.Value.TheVariants.{Term, Formula}
use Rattle.smt_names.specs.declared.arg.Arg.{Arg}
use Rattle.smt_names.specs.declared.connective.Connective.TheVariants as core
use Rattle.smt_names.specs.declared.refusal.Refusal.{Refusal}
use Rattle.smt_names.specs.declared.refusal.Refusal.TheVariants as refusal
use Rattle.smt_names.specs.declared.syntax_fault.SyntaxFault.{SyntaxFault}
use Rattle.smt_names.specs.Making.{fault_of, node}
use Rattle.smt_names.specs.Names.{Core, Function, Definition, Unknown, Declared, Defined}
use Rattle.smt_forms.specs.Nodes.{connected, application}
use Rattle.smt_forms.specs.Moved.{unfolded}
use Rattle.smt_forms.specs.Applied.{checked, applied}

abbrev column : ℕ → Place
column n = record { line = 1; column = n }

abbrev at : Place
at = column 1

abbrev none : Draft
none = empty_draft 100 100

abbrev nodes : List DraftNode → Draft
nodes ns = record none { nodes = ns }

abbrev a : Value
a = Formula 3 (Some 4)

abbrev b : Value
b = Formula 5 (Some 6)

abbrev c : Value
c = Formula 7 (Some 8)

-- a forall: it has no complement
abbrev alone : Value
alone = Formula 9 None

abbrev s : Value
s = Term 3 1

abbrev t : Value
t = Term 4 1

abbrev u : Value
u = Term 5 1

abbrev two : ℕ → ℕ → List ℕ
two m n = m ∷ n ∷ []

abbrev done : Value → List DraftNode → Result (Value × Draft) SyntaxFault
done value ns = Ok (value, nodes ns)

truth : connected at core.True [] none ≡ done (Formula 0 (Some 1)) (And [] ∷ Or [] ∷ [])
unfolding connected
truth = refl

falsehood : connected at core.False [] none ≡ done (Formula 1 (Some 0)) (And [] ∷ Or [] ∷ [])
unfolding connected
falsehood = refl

negation : connected at core.Not (a ∷ []) none ≡ done (Formula 4 (Some 3)) []
unfolding connected
negation = refl

conjunction : connected at core.And (a ∷ b ∷ []) none ≡ done (Formula 0 (Some 1)) (And (two 3 5) ∷ Or (two 4 6) ∷ [])
unfolding connected
conjunction = refl

conjunction_alone : connected at core.And (a ∷ alone ∷ []) none ≡ done (Formula 0 None) (And (two 3 9) ∷ [])
unfolding connected
conjunction_alone = refl

disjunction : connected at core.Or (a ∷ b ∷ []) none ≡ done (Formula 0 (Some 1)) (Or (two 3 5) ∷ And (two 4 6) ∷ [])
unfolding connected
disjunction = refl

implication : connected at core.Implies (a ∷ b ∷ c ∷ []) none ≡ done (Formula 0 (Some 1)) (Or (4 ∷ 6 ∷ 7 ∷ []) ∷ And (3 ∷ 5 ∷ 8 ∷ []) ∷ [])
unfolding connected
implication = refl

implication_alone : connected at core.Implies (a ∷ alone ∷ []) none ≡ done (Formula 0 None) (Or (two 4 9) ∷ [])
unfolding connected
implication_alone = refl

abbrev four : List DraftNode
four = Or (two 3 5) ∷ Or (two 4 6) ∷ Or (two 3 6) ∷ Or (two 4 5) ∷ []

either : connected at core.Xor (a ∷ b ∷ []) none ≡ done (Formula 4 (Some 5)) (four ++ And (two 0 1) ∷ And (two 2 3) ∷ [])
unfolding connected
either = refl

either_of_three : connected at core.Xor (a ∷ b ∷ c ∷ []) none ≡ done (Formula 10 (Some 11)) ((four ++ And (two 0 1) ∷ And (two 2 3) ∷ [])
    ++ Or (two 4 7) ∷ Or (two 5 8) ∷ Or (two 4 8) ∷ Or (two 5 7) ∷ And (two 6 7) ∷ And (two 8 9) ∷ [])
unfolding connected
either_of_three = refl

same_formulas : connected at core.Equals (a ∷ b ∷ []) none ≡ done (Formula 4 (Some 5)) (four ++ And (two 2 3) ∷ And (two 0 1) ∷ [])
unfolding connected
same_formulas = refl

equation : connected at core.Equals (s ∷ t ∷ []) none ≡ done (Formula 0 (Some 1)) (Equal true 3 4 ∷ Equal false 3 4 ∷ [])
unfolding connected
equation = refl

equations : connected at core.Equals (s ∷ t ∷ u ∷ []) none ≡ done (Formula 4 (Some 5)) (Equal true 3 4 ∷ Equal false 3 4 ∷ Equal true 4 5 ∷ Equal false 4 5 ∷ And (two 0 2) ∷ Or (two 1 3) ∷ [])
unfolding connected
equations = refl

difference : connected at core.Distinct (s ∷ t ∷ []) none ≡ done (Formula 1 (Some 0)) (Equal true 3 4 ∷ Equal false 3 4 ∷ [])
unfolding connected
difference = refl

differences : connected at core.Distinct (s ∷ t ∷ u ∷ []) none ≡ done (Formula 6 (Some 7)) (Equal true 3 4 ∷ Equal false 3 4 ∷ Equal true 3 5 ∷ Equal false 3 5 ∷ Equal true 4 5 ∷ Equal false 4 5
    ∷ And (1 ∷ 3 ∷ 5 ∷ []) ∷ Or (0 ∷ 2 ∷ 4 ∷ []) ∷ [])
unfolding connected
differences = refl

three_formulas : connected at core.Distinct (a ∷ b ∷ c ∷ []) none ≡ done (Formula 0 (Some 1)) (Or [] ∷ And [] ∷ [])
unfolding connected
three_formulas = refl

three_formulas_alone : connected at core.Distinct (a ∷ b ∷ alone ∷ []) none ≡ done (Formula 0 None) (Or [] ∷ [])
unfolding connected
three_formulas_alone = refl

choice : connected at core.Ite (a ∷ b ∷ c ∷ []) none ≡ done (Formula 4 (Some 5)) (Or (two 4 5) ∷ Or (two 3 7) ∷ Or (two 4 6) ∷ Or (two 3 8) ∷ And (two 0 1) ∷ And (two 2 3) ∷ [])
unfolding connected
choice = refl

choice_alone : connected at core.Ite (a ∷ b ∷ alone ∷ []) none ≡ done (Formula 2 None) (Or (two 4 5) ∷ Or (two 3 9) ∷ And (two 0 1) ∷ [])
unfolding connected
choice_alone = refl

atom : application at 5 0 (s ∷ []) none ≡ Ok (Formula 0 (Some 1), record none { rows = App 5 (3 ∷ []) ∷ []; nodes = Atom true 0 ∷ Atom false 0 ∷ [] })
atom = refl

term : application at 5 1 (s ∷ t ∷ []) none ≡ Ok (Term 0 1, record none { rows = App 5 (two 3 4) ∷ [] })
term = refl

-- a node that stands is not put again, and one past the limit is refused where it is put
stands : node at (And (two 3 5)) (nodes (Or [] ∷ And (two 3 5) ∷ [])) ≡ Ok (1, nodes (Or [] ∷ And (two 3 5) ∷ []))
stands = refl

full : connected (column 7) core.And (a ∷ b ∷ []) (empty_draft 100 1) ≡ Err (fault_of refusal.NodesFull (column 7) [])
unfolding connected
full = refl

rows_full : application (column 7) 5 1 (s ∷ []) (empty_draft 0 100) ≡ Err (fault_of refusal.TermsFull (column 7) [])
rows_full = refl

-- Checks, in their order.
abbrev arg : ℕ → Value → Arg
arg n value = record { place = column n; value = value }

abbrev p : Declared
p = record { name = codes "p"; arguments = 1 ∷ 1 ∷ []; sort = 0 }

number_first : checked (column 2) (codes "p") (Function 5 p) (arg 4 a ∷ []) none ≡ Err (fault_of refusal.WrongArity (column 2) (codes "p"))
number_first = refl

first_wrong_sort : checked (column 2) (codes "p") (Function 5 p) (arg 4 s ∷ arg 6 a ∷ []) none ≡ Err (fault_of refusal.WrongSort (column 6) [])
first_wrong_sort = refl

sorts_before_complements : checked (column 2) (codes "=>") (Core core.Implies) (arg 5 alone ∷ arg 7 s ∷ []) none ≡ Err (fault_of refusal.WrongSort (column 7) [])
sorts_before_complements = refl

sorts_of_the_first : checked (column 2) (codes "=") (Core core.Equals) (arg 4 s ∷ arg 6 t ∷ arg 8 a ∷ []) none ≡ Err (fault_of refusal.WrongSort (column 8) [])
sorts_of_the_first = refl

branches : checked (column 2) (codes "ite") (Core core.Ite) (arg 6 alone ∷ arg 8 s ∷ arg 9 t ∷ []) none ≡ Err (fault_of refusal.NotInProfile (column 2) [])
branches = refl

first_without_complement : checked (column 2) (codes "xor") (Core core.Xor) (arg 6 a ∷ arg 8 alone ∷ arg 9 alone ∷ []) none ≡ Err (fault_of refusal.NotInProfile (column 8) [])
first_without_complement = refl

last_needs_none : checked (column 2) (codes "=>") (Core core.Implies) (arg 5 a ∷ arg 7 alone ∷ []) none ≡ Ok (tt, none)
last_needs_none = refl

many_need_none : checked (column 2) (codes "distinct") (Core core.Distinct) (arg 5 alone ∷ arg 7 alone ∷ arg 9 a ∷ []) none ≡ Ok (tt, none)
many_need_none = refl

-- (define-fun g ((x U)) Bool (not (p (f x)))), where f is symbol 3 and p is symbol 4
abbrev g : Defined
g = record { name = codes "g"; parameters = 1 ∷ []; sort = 0; rows = Var 0 ∷ App 3 (0 ∷ []) ∷ App 4 (1 ∷ []) ∷ []; nodes = Atom true 2 ∷ Atom false 2 ∷ []; value = Formula 1 (Some 0) }

abbrev with_constant : Draft
with_constant = record none { rows = App 2 [] ∷ [] }

definition : applied at (column 2) (codes "g") (Definition g) (arg 4 (Term 0 1) ∷ []) with_constant
    ≡ Ok (Formula 1 (Some 0), record none { rows = App 2 [] ∷ App 3 (0 ∷ []) ∷ App 4 (1 ∷ []) ∷ []; nodes = Atom true 2 ∷ Atom false 2 ∷ [] })
unfolding applied
definition = refl

nothing : applied at (column 2) (codes "h") Unknown [] none ≡ Err (fault_of refusal.WrongArity (column 2) (codes "h"))
unfolding applied
nothing = refl
