-- A value of a given sort, and the command that takes it.
use Rattle.std.proofs.Common.{◌≡◌, ℕ, ◌==◌, Bool, true, false, drop, List, Result, Ok, Err, refl, sym, ap, ◌∙◌, arith}
use Rattle.std.proofs.lemmas.Grind.{common_steps}
use Rattle.em_outside.specs.declared.limits.Limits.{Limits}
use Rattle.smt_text.specs.Word.{Word}
use Rattle.smt_text.specs.Trees.{ahead, outermost}
use Rattle.smt_text.specs.declared.token.Place.{Place}
use Rattle.formula_draft.specs.Draft.{Draft, Formula, IsFormula, empty_draft, finished}
use Rattle.smt_names.specs.declared.value.Value.{Value}
use Rattle.smt_names.specs.declared.bound.Bound.{Bound}
use Rattle.smt_names.specs.declared.refusal.Refusal.TheVariants.{WrongSort}
use Rattle.smt_names.specs.declared.syntax_fault.SyntaxFault.{SyntaxFault}
use Rattle.smt_names.specs.Value.{sort_of, self}
use Rattle.smt_names.specs.Making.{gives, then_from, must_hold, ◌>>◌}
use Rattle.smt_names.specs.Names.{State, Scope}
use Rattle.smt_terms.specs.declared.inside.Inside.{Inside}
use Rattle.smt_terms.specs.Machine.{scope_of}
use Rattle.smt_terms.specs.Reading.{Reading, first_place}
use Rattle.smt_terms.specs.Terms.{value}
use Rattle.smt_terms.specs.Cursor.{trees_from}
use Rattle.smt_laws.specs.Laws.{MakesFormulas}
use Rattle.smt_commands.specs.declared.command.Command.TheVariants.{Assert}
use Rattle.smt_commands.specs.Commands.{begun, sorted_value, asserted, asserted_term, without_draft}
use Rattle.smt_terms.specs.Scopes.{outside}
use Rattle.smt_commands.specs.SessionLaws.{IsSound}
use Rattle.smt_commands.proofs.Steps.{answered, draft_of}

same_number : (a b : ℕ) → (a == b) ≡ true → a ≡ b
same_number a b is = grind (arith, common_steps)

abbrev ready : Value → Draft → Result (Value × Draft) SyntaxFault
ready v draft = Ok (v, draft)

-- the sort of what was made
abbrev made_sort : Result (Value × Draft) SyntaxFault → ℕ
made_sort (Ok r) = sort_of r.0
made_sort (Err fault) = 0

-- a value of this sort is a value, and has this sort
pub value_of_sorted : (head : Place) (scope : Scope) (sort : ℕ) (trees : Reading) (old new : Draft) (v : Value) → sorted_value head scope sort trees old ≡ Ok (v, new)
    → (value head scope trees old ≡ Ok (v, new)) × (sort_of v ≡ sort)
value_of_sorted head scope sort trees old new v is = by (value head scope trees old) is
  where
    wanted_so : (test : Bool) (u : Value) (later : Draft) → then_from (λ (_ : Unit {0}). gives u) (must_hold test WrongSort (first_place head trees) later) ≡ ready v new → (test ≡ true) × (ready u later ≡ ready v new)
    wanted_so true u later same = (refl, same)
    wanted_so false u later same = absurd (cc)

    by : (r : Result (Value × Draft) SyntaxFault) → then_from (λ (u : Value). must_hold (sort_of u == sort) WrongSort (first_place head trees) >> gives u) r ≡ ready v new → (r ≡ ready v new) × (sort_of v ≡ sort)
    by (Ok r) same =
        let both = wanted_so (sort_of r.0 == sort) r.0 r.1 same in
        (both.1, sym (ap made_sort both.1) ∙ same_number (sort_of r.0) sort both.0)
    by (Err fault) same = absurd (cc)

-- what begins with these limits and these bound names, begins as every command does
pub from_start : (state : State) (inside : Inside) (bound all : List Bound) (limits : Limits) (old : Draft) (head : Place) (sort : ℕ) (trees : Reading) → limits ≡ state.limits → bound ≡ all → old ≡ empty_draft limits.terms limits.nodes
    → sorted_value head (scope_of state inside bound) sort trees old ≡ sorted_value head (scope_of state inside all) sort trees (draft_of state)
from_start state inside bound all limits old head sort trees limits_are bound_are nothing = ap (λ (b : List Bound). sorted_value head (scope_of state inside b) sort trees old) bound_are
    ∙ ap (λ (d : Draft). sorted_value head (scope_of state inside all) sort trees d) (nothing ∙ ap (λ (l : Limits). empty_draft l.terms l.nodes) limits_are)

-- a truth that was read of nothing, outside foralls and definitions, is a formula
pub reads_formula : MakesFormulas → (state : State) (words : List Word) (i : ℕ) (head : Place) (new : Draft) (v : Value) → IsSound state
    → sorted_value head (outside state) 0 (trees_from words i) (draft_of state) ≡ Ok (v, new) → IsFormula (finished new (self v))
unfolding trees_from
reads_formula law state words i head new v sound is =
    let both = value_of_sorted head (outside state) 0 (trees_from words i) (draft_of state) new v is in
    (law state head (outermost (ahead (drop i words))) state.limits.terms state.limits.nodes v new sound.declared both.0 both.1).0

-- and it is asserted
pub asserts_formula : (state : State) (head : Place) (trees : Reading) (new : Draft) (v : Value) (formula : Formula) → sorted_value head (outside state) 0 trees (draft_of state) ≡ Ok (v, new) → formula ≡ finished new (self v)
    → begun state (asserted_term state head trees) ≡ answered (Assert formula) state
asserts_formula state head trees new v formula is same = ap (λ (r : Result (Value × Draft) SyntaxFault). without_draft (then_from (asserted state) r)) is ∙ ap (λ (f : Formula). answered (Assert f) state) (sym same)
