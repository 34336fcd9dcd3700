-- The law on a forall: its declarations are right, and what it makes is a formula.
use Rattle.std.proofs.Common.{◌≡◌, ℕ, true, false, zero, suc, ◌≤◌, List, [], ◌∷◌, slice_get, Some, None, Ok, refl, subst, codes, arith}
use Rattle.std.proofs.lemmas.Option.{none-some, same_Some}
use Rattle.std.proofs.lemmas.List.Elements.{All-nil, All-cons}
use Rattle.smt_text.specs.declared.token.Kind.TheVariants.{Left, Symbol, Keyword}
use Rattle.smt_text.specs.declared.token.Place.{Place}
use Rattle.smt_text.specs.Trees.{Trees, End, Token, Group}
use Rattle.em_outside.specs.declared.limits.Limits.{Limits}
use Rattle.graph_trigger.specs.declared.pattern_row.PatternRow.TheVariants as pattern
use Rattle.formula_draft.specs.declared.draft_row.DraftRow.TheVariants.{Var, App}
use Rattle.formula_draft.specs.declared.draft_node.DraftNode.TheVariants.{Atom, Forall}
use Rattle.formula_draft.specs.Draft.{Draft, IsFormula, empty_draft, finished}
use Rattle.smt_names.specs.declared.value.Value.TheVariants.{Formula}
use Rattle.smt_names.specs.Names.{State, Declared, at_start, word_of, connective, is_reserved}
use Rattle.smt_forms.specs.Nodes.{connected}
use Rattle.smt_forms.specs.Applied.{applied}
use Rattle.smt_terms.specs.Terms.{value, reading, list_value, form_of, token_value}
use Rattle.smt_laws.specs.Sound.{IsFunction, AreDeclared}
use Rattle.smt_terms.specs.Scopes.{outside}
use Rattle.smt_laws.proofs.Formulas.{makes_formulas}

abbrev here : Place
here = record { line = 1; column = 1 }

abbrev few : Limits
few = record { terms = 100; nodes = 100; bytes = 100; depth = 100; levels = 2 }

abbrev f : Declared
f = record { name = codes "f"; arguments = 1 ∷ []; sort = 1 }

abbrev p : Declared
p = record { name = codes "p"; arguments = 1 ∷ []; sort = 0 }

-- a sort, a function and a predicate
abbrev uf : State
uf = record (at_start few) { sorts = codes "U" ∷ []; functions = f ∷ p ∷ [] }

abbrev name : List ℕ → Trees → Trees
name text after = Token (word_of Symbol here text) after

abbrev list : Trees → Trees → Trees
list inner after = Group (word_of Left here []) inner after

-- ( f x )
abbrev f_of_x : Trees → Trees
f_of_x after = list (name (codes "f") (name (codes "x") End)) after

-- ( forall ( ( x U ) ) ( ! ( p ( f x ) ) :pattern ( ( f x ) ) ) )
abbrev universal : Trees
universal = list (name (codes "forall") (list (list (name (codes "x") (name (codes "U") End)) End)
    (list (name (codes "!") (list (name (codes "p") (f_of_x End)) (Token (word_of Keyword here (codes ":pattern")) (list (f_of_x End) End)))) End))) End

-- what it makes
abbrev later : Draft
later = record {
  rows = Var 0 ∷ App 2 (0 ∷ []) ∷ App 3 (1 ∷ []) ∷ [];
  nodes = Atom true 2 ∷ Atom false 2 ∷ Forall 0 ∷ [];
  foralls = record { variables = 1; body = 0; triggers = record { forall = 0; place = 0; variables = 1; rows = pattern.Var 0 ∷ pattern.App 2 (0 ∷ []) ∷ []; roots = 1 ∷ [] } ∷ [] } ∷ [];
  most_rows = 100;
  most_nodes = 100;
}

makes_later : value here (outside uf) (reading universal) (empty_draft 100 100) ≡ Ok (Formula 2 None, later)
unfolding reading list_value form_of token_value is_reserved connective applied connected
makes_later = refl

one_argument : (sort : ℕ) (called : List ℕ) → IsFunction (record { name = called; arguments = 1 ∷ []; sort = sort })
one_argument sort called = record { few = omega arith; others = All-cons (λ k. 1 ≤ k) 1 [] (omega arith) (All-nil (λ k. 1 ≤ k)) }

uf_is : AreDeclared uf.functions uf.definitions
uf_is = record {
  functions_are = functions_are;
  definitions_are = λ n d at. absurd (none-some d at);
}
  where
    functions_are : (n : ℕ) (g : Declared) → slice_get (f ∷ p ∷ []) n ≡ Some g → IsFunction g
    functions_are zero g at = subst IsFunction (same_Some f g at) (one_argument 1 (codes "f"))
    functions_are (suc zero) g at = subst IsFunction (same_Some p g at) (one_argument 0 (codes "p"))
    functions_are (suc (suc n)) g at = absurd (none-some g at)

-- so it is a formula
later_is : IsFormula (finished later 2)
later_is = (makes_formulas uf here universal 100 100 (Formula 2 None) later uf_is makes_later refl).0
