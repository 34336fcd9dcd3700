-- What a term makes of nothing.
use Rattle.std.proofs.Common.{◌≡◌, ℕ, suc, ◌+◌, ◌<◌, ◌≤◌, ◌==◌, not, Bool, true, false, List, [], ◌++◌, length, slice_get, Some, None, Result, Ok, Err, All, refl, sym, subst, true≢false, arith}
use Rattle.std.proofs.lemmas.Option.{none-some}
use Rattle.std.proofs.lemmas.List.{map-append}
use Rattle.std.proofs.lemmas.List.Elements.{All-nil}
use Rattle.smt_text.specs.declared.token.Place.{Place}
use Rattle.formula_draft.specs.declared.draft_node.DraftNode.{DraftNode}
use Rattle.formula_draft.specs.declared.draft_node.DraftNode.TheVariants.{Equal, Atom, And, Or, Forall}
use Rattle.formula_draft.specs.DraftNode.{foralls_of}
use Rattle.formula_draft.specs.Draft.{Draft, AreLawful, IsDraft, empty_draft}
use Rattle.smt_names.specs.declared.value.Value.{Value}
use Rattle.smt_names.specs.declared.value.Value.TheVariants.{Term, Formula}
use Rattle.smt_names.specs.declared.bound.Bound.{Bound}
use Rattle.smt_names.specs.declared.syntax_fault.SyntaxFault.{SyntaxFault}
use Rattle.smt_names.specs.declared.refusal.Refusal.{Refusal}
use Rattle.smt_names.specs.declared.refusal.Refusal.TheVariants as refusal
use Rattle.smt_names.specs.Value.{self}
use Rattle.smt_names.specs.Making.{Making, then_from, must_hold}
use Rattle.smt_terms.specs.Reading.{Reading, Token, Group, first_place, sort_first}
use Rattle.smt_names.specs.Names.{State}
use Rattle.smt_terms.specs.Terms.{reading, variables_from}
use Rattle.formula_draft.specs.Sorted.{Signature, IsPlain}
use Rattle.smt_laws.specs.Sorted.{as_signature, signatures_of}
use Rattle.smt_laws.specs.Sound.{Fits, IsWhole, IsDefinition, inside, AreDeclared}
use Rattle.smt_laws.proofs.Standing.{Stood, IsScope}
use Rattle.smt_terms.specs.Scopes.{outside, sorts_of, inside_definition}
use Rattle.smt_laws.specs.Laws.{MakesFormulas, MakesDefinitions, KeepsDefinitions}
use Rattle.smt_laws.proofs.Growing.{Keeps, keeps_all, keeps_front, sort_kept, plain_kept, truth_stands}
use Rattle.smt_laws.proofs.Making.{Setting, Sound, Good, makes}
use Rattle.smt_laws.proofs.Values.{FitsIn, formula_of}
use Rattle.smt_laws.proofs.Moving.{variable_of}
use Rattle.smt_laws.proofs.Reaching.{rows_sorted_from, foralls_none}
use Rattle.smt_laws.proofs.Scopes.{setting, good_value}
use Rattle.smt_laws.proofs.Foralls.{AreVariables, no_more_variables, variable_first, some_sort, others_of, stand_of}
use Rattle.smt_laws.proofs.Valid.{makes_valid}
use Rattle.smt_laws.proofs.Terms.{all_mean}

-- what was made, taken apart
record Done {A : Type 0} (s : Setting) (P : Draft → A → Type 0) (v : A) (new : Draft) : Type 0 where
  sound : Sound s new
  fits : P new v

done_of : {A : Type 0} (s : Setting) (old : Draft) (P : Draft → A → Type 0) (v : A) (new : Draft) → Good s old P (Ok (v, new)) → Done s P v new
done_of s old P v new (makes sound extends fits) = record { sound = sound; fits = fits }

module _ (terms nodes : ℕ) where
  -- nothing is lawful
  empty_is : IsDraft (empty_draft terms nodes)
  empty_is = record {
    lawful = record {
      rows_fit = λ n row at. absurd (none-some row at);
      rows_once = λ m n row at. absurd (none-some row at);
      nodes_fit = λ n x at. absurd (none-some x at);
      nodes_once = λ m n x at. absurd (none-some x at);
      foralls_fit = λ n f at. absurd (none-some f at);
    };
    rows_within = omega arith;
    nodes_within = omega arith;
  }

  empty_sound : (s : Setting) → Sound s (empty_draft terms nodes)
  empty_sound s = record { draft_is = empty_is; whole = λ w. record { rows_sorted = λ n row at. absurd (none-some row at); nodes_plain = λ n x at. absurd (none-some x at) } }

outside_is : (state : State) (draft : Draft) → AreDeclared state.functions state.definitions → IsScope [] draft (outside state)
outside_is state draft is = record {
  declared = is;
  others = All-nil (λ sort. 1 ≤ sort);
  outside = λ may. refl;
  bound = All-nil (λ (b : Bound). Stood (signatures_of state.functions) [] true draft b.stands);
}

pub makes_formulas : MakesFormulas
makes_formulas state missing trees terms nodes v draft is made_so bool =
    let s = setting (outside state) [] in
    let old = empty_draft terms nodes in
    let good = good_value (outside state) [] old (empty_sound terms nodes s) (outside_is state old is) missing (reading trees) (all_mean makes_valid trees) in
    let done = done_of s old (λ d x. FitsIn s d x) v draft (subst (Good s old (λ d x. FitsIn s d x)) made_so good) in
    let truth = (formula_of s draft v bool done.fits).itself in (
      record {
        lawful = done.sound.draft_is.lawful;
        root_stands = truth_stands truth;
        closed = λ row index reach at.
            let had = rows_sorted_from (signatures_of state.functions) [] draft.rows draft.nodes draft.foralls (self v) truth reach in
            none-some had.0 (variable_of row index had.0 at had.1);
      },
      truth,
    )

definition_scope : (state : State) (parameters : List Bound) (draft : Draft) → AreDeclared state.functions state.definitions → AreVariables 0 parameters → IsScope (sorts_of parameters) draft (inside_definition state parameters)
definition_scope state parameters draft is are = record {
  declared = is;
  others = others_of are;
  outside = λ may. absurd (true≢false (sym may));
  bound = stand_of (signatures_of state.functions) false draft [] refl are;
}

-- a lawful draft of plain nodes needs no foralls
lawful_alone : (functions : List Signature) (variables : List ℕ) (draft : Draft) → IsDraft draft → IsWhole functions variables draft.rows draft.nodes → AreLawful draft.rows draft.nodes []
lawful_alone functions variables draft is whole = record {
  rows_fit = is.lawful.rows_fit;
  rows_once = is.lawful.rows_once;
  nodes_fit = λ n x at. let old = is.lawful.nodes_fit n x at in record { rows_stand = old.rows_stand; parts_stand = old.parts_stand; foralls_stand = none_named n x at (whole.nodes_plain n x at) };
  nodes_once = is.lawful.nodes_once;
  foralls_fit = λ n f at. absurd (none-some f at);
}
  where
    none_named : (n : ℕ) (x : DraftNode) → slice_get draft.nodes n ≡ Some x → IsPlain functions variables draft.rows draft.nodes n → All (λ k. k < 0) (foralls_of x)
    none_named n (Equal p a b) at plain = All-nil (λ k. k < 0)
    none_named n (Atom p a) at plain = All-nil (λ k. k < 0)
    none_named n (And parts) at plain = All-nil (λ k. k < 0)
    none_named n (Or parts) at plain = All-nil (λ k. k < 0)
    none_named n (Forall index) at plain = absurd (foralls_none functions variables draft.rows draft.nodes n index at plain)

-- what was given, of any draft
data Gives {A : Type 0} (P : A → Type 0) : Result (A × Draft) SyntaxFault → Type 0 where
  gives : {v : A} {draft : Draft} → P v → Gives P (Ok (v, draft))
  gives_none : {fault : SyntaxFault} → Gives P (Err fault)

gives_any : {A : Type 0} (r : Result (A × Draft) SyntaxFault) → Gives (λ (_ : A). Unit {0}) r
gives_any (Ok done) = gives (tt {0})
gives_any (Err fault) = gives_none

gives_then : {A B : Type 0} {P : A → Type 0} {Q : B → Type 0} (rest : A → Making B) {r : Result (A × Draft) SyntaxFault} → Gives P r → ((v : A) (draft : Draft) → P v → Gives Q (rest v draft)) → Gives Q (then_from rest r)
gives_then rest (gives {v = v} {draft = draft} is) goes = goes v draft is
gives_then rest gives_none goes = gives_none

gives_want : (test : Bool) (refusal : Refusal) (place : Place) (draft : Draft) → Gives (λ _. test ≡ true) (must_hold test refusal place draft)
gives_want true refusal place draft = gives refl
gives_want false refusal place draft = gives_none

given_so : {A : Type 0} (P : A → Type 0) (v : A) (draft : Draft) → Gives P (Ok (v, draft)) → P v
given_so P v draft (gives is) = is

gives_variables : (state : State) (index : ℕ) (trees : Reading) (draft : Draft) → Gives (AreVariables index) (variables_from state index trees draft)
gives_variables state index (Group paren meaning (Token name term) after) draft =
    gives_then {P = λ sort. 1 ≤ sort} _ (gives_then _ (gives_any (sort_first state name.place term draft)) λ sort d1 _. gives_then _ (gives_want (not (sort == 0)) refusal.NotInProfile (first_place name.place term) d1) λ _ d2 other. gives (some_sort sort other)) λ sort d3 some.
    gives_then _ (gives_variables state (index + 1) after d3) λ bound d4 rest. gives (variable_first some (subst (λ k. AreVariables k bound) next rest))
  where
    next : index + 1 ≡ suc index
    next = omega arith
gives_variables state index trees draft = gives no_more_variables

pub makes_definitions : MakesDefinitions
makes_definitions state missing bindings before after parameters trees most_rows most_nodes v later name sort sorts is bound_so made_so sorts_are =
    let variables_are = given_so (AreVariables 0) parameters after (subst (Gives (AreVariables 0)) bound_so (gives_variables state 0 bindings before)) in
    let scope = inside_definition state parameters in
    let variables = sorts_of parameters in
    let s = setting scope variables in
    let old = empty_draft most_rows most_nodes in
    let good = good_value scope variables old (empty_sound most_rows most_nodes s) (definition_scope state parameters old is variables_are) missing (reading trees) (all_mean makes_valid trees) in
    let done = done_of s old (λ d x. FitsIn s d x) v later (subst (Good s old (λ d x. FitsIn s d x)) made_so good) in
    let whole = done.sound.whole refl in
    subst (λ all. IsDefinition state.functions (record { name = name; parameters = all; sort = sort; rows = later.rows; nodes = later.nodes; value = v })) (sym sorts_are) (record {
      others = others_of variables_are;
      lawful = lawful_alone (signatures_of state.functions) variables later done.sound.draft_is whole;
      whole = whole;
      fits = value_fits variables later v done.fits;
    })
  where
    value_fits : (variables : List ℕ) (draft : Draft) (v : Value) → Fits (signatures_of state.functions) variables false draft v → Fits (signatures_of state.functions) variables false (record { rows = draft.rows; nodes = draft.nodes; foralls = []; most_rows = length draft.rows; most_nodes = length draft.nodes }) v
    value_fits variables draft (Term row sort) fits = fits
    value_fits variables draft (Formula n None) fits = absurd (true≢false (sym fits.1))
    value_fits variables draft (Formula n (Some c)) fits = fits

-- a definition stays right when functions are declared
pub keeps_definitions : KeepsDefinitions
keeps_definitions functions more d is = record {
  others = is.others;
  lawful = is.lawful;
  whole = record {
    rows_sorted = λ n row at. let had = is.whole.rows_sorted n row at in (had.0, sort_kept old new keep d.rows d.rows (keeps_all d.rows) d.parameters d.parameters (keeps_all d.parameters) had.1);
    nodes_plain = λ n x at. plain_up (is.whole.nodes_plain n x at);
  };
  fits = value_up d.value is.fits;
}
  where
    old : List Signature
    old = signatures_of functions

    new : List Signature
    new = signatures_of (functions ++ more)

    keep : Keeps old new
    keep = keeps_front old (signatures_of more) new (map-append as_signature functions more)

    plain_up : {n : ℕ} → IsPlain old d.parameters d.rows d.nodes n → IsPlain new d.parameters d.rows d.nodes n
    plain_up plain = plain_kept old new keep d.rows d.rows (keeps_all d.rows) d.nodes d.nodes (keeps_all d.nodes) d.parameters d.parameters (keeps_all d.parameters) plain

    value_up : (v : Value) → Fits old d.parameters false (inside d) v → Fits new d.parameters false (inside d) v
    value_up (Term row sort) fits = (sort_kept old new keep d.rows d.rows (keeps_all d.rows) d.parameters d.parameters (keeps_all d.parameters) fits.0, fits.1)
    value_up (Formula n None) fits = absurd (true≢false (sym fits.1))
    value_up (Formula n (Some c)) fits = (plain_up fits.0, plain_up fits.1)
