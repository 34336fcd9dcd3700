-- The forms of commands put nothing, and what their checks say of what they give.
use Rattle.std.proofs.Common.{◌≡◌, ℕ, zero, suc, ◌+◌, ◌<◌, ◌≤◌, ◌==◌, Bool, true, false, cond, not, ◌&&◌, List, [], ◌∷◌, ◌++◌, length, Option, Some, None, bytes_eq, codes, Result, Ok, Err, All, refl, arith}
use Rattle.std.specs.List.{list_any, position_from}
use Rattle.std.proofs.lemmas.Option.{none-some, same_Some}
use Rattle.std.proofs.lemmas.List.Elements.{All-nil, All-cons}
use Rattle.smt_text.specs.Word.{Word}
use Rattle.smt_text.specs.declared.token.Place.{Place}
use Rattle.graph_terms.specs.Terms.{most_args}
use Rattle.formula_draft.specs.Draft.{Draft}
use Rattle.smt_names.specs.declared.bound.Bound.{Bound}
use Rattle.smt_names.specs.declared.signature.Signature.{Signature}
use Rattle.smt_names.specs.declared.syntax_fault.SyntaxFault.{SyntaxFault}
use Rattle.smt_names.specs.declared.refusal.Refusal.{Refusal}
use Rattle.smt_names.specs.declared.refusal.Refusal.TheVariants as refusal
use Rattle.smt_names.specs.Making.{Making, gives, then_from, ◌>>=◌, must_hold, must_hold_named, bad_form}
use Rattle.smt_names.specs.Names.{State, is_symbol, is_known, named, is_solver_name, is_reserved, known_sort, sort_number, sort_at_place, lawful_name, new_name, new_function_name}
use Rattle.smt_terms.specs.Reading.{Meaning, Reading, End, Token, Group, from, first_place, no_more, at_least, exactly, token_first, Listed, list_first, sort_first, other_sort, head_place, binding_name, bindings_after, no_binding}
use Rattle.smt_terms.specs.Terms.{variables_from}
use Rattle.smt_terms.specs.Scopes.{sorts_of}
use Rattle.smt_commands.specs.Commands.{other_sorts, new_function, named_form, argument_sorts, arguments_first, signature_first, constant_first, few_bindings, parameters_first}

-- a step that puts nothing, and of whose value this holds
pub data Checked {A : Type 0} (P : A → Type 0) (draft : Draft) : Result (A × Draft) SyntaxFault → Type 0 where
  checked : {given : A} → P given → Checked P draft (Ok (given, draft))
  stopped : {fault : SyntaxFault} → Checked P draft (Err fault)

abbrev pub Anything : {A : Type 0} → A → Type 0
Anything given = Unit {0}

checked_then : {A B : Type 0} {P : A → Type 0} {Q : B → Type 0} (draft : Draft) (rest : A → Making B) {r : Result (A × Draft) SyntaxFault} → Checked P draft r → ((given : A) → P given → Checked Q draft (rest given draft)) → Checked Q draft (then_from rest r)
checked_then draft rest (checked {given = given} is) goes = goes given is
checked_then draft rest stopped goes = stopped

-- nothing is said of the value
any : {A : Type 0} {P : A → Type 0} (draft : Draft) {r : Result (A × Draft) SyntaxFault} → Checked P draft r → Checked Anything draft r
any draft (checked is) = checked (tt {0})
any draft stopped = stopped

-- the value is what the step gave
gave : {A : Type 0} {P : A → Type 0} (draft : Draft) {r : Result (A × Draft) SyntaxFault} → Checked P draft r → Checked (λ given. P given × (r ≡ Ok (given, draft))) draft r
gave draft (checked is) = checked (is, refl)
gave draft stopped = stopped

-- the number of what is found is that of an item
place_within : {X : Type 0} (test : X → Bool) (xs : List X) (j n : ℕ) → position_from test j xs ≡ Some n → n < j + length xs
place_within test [] j n e = absurd (none-some n e)
place_within test (x ∷ xs) j n e = by (test x) (place_within test xs (j + 1) n) e
  where
    by : (b : Bool) → (position_from test (j + 1) xs ≡ Some n → n < j + 1 + length xs) → cond b (Some j) (position_from test (j + 1) xs) ≡ Some n → n < j + length (x ∷ xs)
    by true later e = omega (arith, same_Some j n e)
    by false later e = omega (arith, later e)

-- the number of a sort is 0 or that of a sort that stands
sort_stands : (state : State) (name : List ℕ) (sort : ℕ) → sort_number state name ≡ Some sort → sort ≤ length state.sorts
sort_stands state name sort e = by (bytes_eq name (codes "Bool")) (position_from (bytes_eq name) 0 state.sorts) refl e
  where
    by : (b : Bool) (place : Option ℕ) → position_from (bytes_eq name) 0 state.sorts ≡ place → cond b (Some 0) (sort_at_place place) ≡ Some sort → sort ≤ length state.sorts
    by true place is e = omega (arith, same_Some 0 sort e)
    by false None is e = absurd (none-some sort e)
    by false (Some n) is e = omega (arith, same_Some (n + 1) sort e, place_within (bytes_eq name) state.sorts 0 n is)

module _ (draft : Draft) where
  checks_want : (test : Bool) (refusal : Refusal) (place : Place) → Checked (λ _. test ≡ true) draft (must_hold test refusal place draft)
  checks_want true refusal place = checked refl
  checks_want false refusal place = stopped

  checks_want_named : (test : Bool) (refusal : Refusal) (place : Place) (name : List ℕ) → Checked Anything draft (must_hold_named test refusal place name draft)
  checks_want_named true refusal place name = checked (tt {0})
  checks_want_named false refusal place name = stopped

  checks_no_more : (refusal : Refusal) (trees : Reading) → Checked (λ _. trees ≡ End) draft (no_more refusal trees draft)
  checks_no_more refusal End = checked refl
  checks_no_more refusal (Token word trees) = stopped
  checks_no_more refusal (Group paren meaning inner trees) = stopped

  checks_at_least : (n : ℕ) (missing : Place) (trees : Reading) → Checked Anything draft (at_least n missing trees draft)
  checks_at_least zero missing trees = checked (tt {0})
  checks_at_least (suc n) missing End = stopped
  checks_at_least (suc n) missing (Token word trees) = checks_at_least n missing trees
  checks_at_least (suc n) missing (Group paren meaning inner trees) = checks_at_least n missing trees

  pub checks_exactly : (n : ℕ) (missing : Place) (trees : Reading) → Checked (λ _. from n trees ≡ End) draft (exactly n missing trees draft)
  checks_exactly n missing trees = checked_then draft _ (checks_at_least n missing trees) λ _ _. checks_no_more refusal.BadForm (from n trees)

  checks_token : (missing : Place) (trees : Reading) → Checked Anything draft (token_first missing trees draft)
  checks_token missing End = stopped
  checks_token missing (Token word trees) = checked (tt {0})
  checks_token missing (Group paren meaning inner trees) = stopped

  checks_list : (missing : Place) (trees : Reading) → Checked Anything draft (list_first missing trees draft)
  checks_list missing End = stopped
  checks_list missing (Token word trees) = stopped
  checks_list missing (Group paren meaning inner trees) = checked (tt {0})

  -- Names.
  checks_lawful_name : (word : Word) → Checked Anything draft (lawful_name word draft)
  checks_lawful_name word = any draft (checks_want (is_symbol word.kind && not (is_reserved word.text)) refusal.BadForm word.place)

  checks_new_name : (word : Word) → Checked Anything draft (new_name word draft)
  checks_new_name word = checked_then draft _ (checks_lawful_name word) λ _ _. any draft (checks_want (not (is_solver_name word.text)) refusal.BadForm word.place)

  checks_function_name : (state : State) (word : Word) → Checked Anything draft (new_function_name state word draft)
  checks_function_name state word = checked_then draft _ (checks_new_name word) λ _ _. checks_want_named (not (is_known (named state word.text))) refusal.AlreadyDeclared word.place word.text

  checks_new_function : (state : State) (head : Place) (parts : Reading) → Checked Anything draft (new_function state head parts draft)
  checks_new_function state head parts = checked_then draft _ (checks_token head parts) λ name _. checked_then draft _ (checks_function_name state name) λ _ _. checked (tt {0})

  pub checks_named_form : (n : ℕ) (state : State) (head : Place) (parts : Reading) → Checked Anything draft (named_form n state head parts draft)
  checks_named_form n state head parts = checked_then draft _ (checks_exactly n head parts) λ _ _. checks_new_function state head parts

  -- Sorts.
  -- the number of a sort that stands
  pub checks_sort : (state : State) (missing : Place) (trees : Reading) → Checked (λ sort. sort ≤ length state.sorts) draft (sort_first state missing trees draft)
  checks_sort state missing End = stopped
  checks_sort state missing (Token word trees) = by (is_symbol word.kind) (sort_number state word.text) refl
    where
      by : (b : Bool) (o : Option ℕ) → sort_number state word.text ≡ o → Checked (λ sort. sort ≤ length state.sorts) draft (cond b (known_sort word o) (bad_form word.place) draft)
      by true None is = stopped
      by true (Some sort) is = checked (sort_stands state word.text sort is)
      by false o is = stopped
  checks_sort state missing (Group paren meaning inner trees) = stopped

  other_from : (sort : ℕ) → not (sort == 0) ≡ true → 1 ≤ sort
  other_from sort other = grind arith

  checks_other_sort : (state : State) (missing : Place) (trees : Reading) → Checked (λ sort. (1 ≤ sort) × (sort ≤ length state.sorts)) draft (other_sort state missing trees draft)
  checks_other_sort state missing trees = checked_then draft _ (checks_sort state missing trees) λ sort known. checked_then draft _ (checks_want (not (sort == 0)) refusal.NotInProfile (first_place missing trees)) λ _ other. checked (other_from sort other, known)

-- sorts of arguments: none is Bool, they are among so many, and they are no more than the trees
pub record AreOthers (most : ℕ) (trees : Reading) (sorts : List ℕ) : Type 0 where
  pub others : All (λ sort. 1 ≤ sort) sorts
  pub known : All (λ sort. sort ≤ most) sorts
  pub few : (n : ℕ) → from n trees ≡ End → length sorts ≤ n

others_token : (most : ℕ) (word : Word) (trees : Reading) (sort : ℕ) (sorts : List ℕ) → (1 ≤ sort) × (sort ≤ most) → AreOthers most trees sorts → AreOthers most (Token word trees) (sort ∷ sorts)
others_token most word trees sort sorts some are = record { others = All-cons (λ sort. 1 ≤ sort) sort sorts some.0 are.others; known = All-cons (λ sort. sort ≤ most) sort sorts some.1 are.known; few = few }
  where
    few : (n : ℕ) → from n (Token word trees) ≡ End → length (sort ∷ sorts) ≤ n
    few zero ends = cc
    few (suc n) ends = omega (arith, are.few n ends)

others_list : (most : ℕ) (paren : Word) (meaning : Meaning) (inner trees : Reading) (sort : ℕ) (sorts : List ℕ) → (1 ≤ sort) × (sort ≤ most) → AreOthers most trees sorts → AreOthers most (Group paren meaning inner trees) (sort ∷ sorts)
others_list most paren meaning inner trees sort sorts some are = record { others = All-cons (λ sort. 1 ≤ sort) sort sorts some.0 are.others; known = All-cons (λ sort. sort ≤ most) sort sorts some.1 are.known; few = few }
  where
    few : (n : ℕ) → from n (Group paren meaning inner trees) ≡ End → length (sort ∷ sorts) ≤ n
    few zero ends = cc
    few (suc n) ends = omega (arith, are.few n ends)

-- sorts of arguments: at most most_args, of which none is Bool, among so many
pub record AreFew (most : ℕ) (sorts : List ℕ) : Type 0 where
  pub few : length sorts ≤ most_args
  pub others : All (λ sort. 1 ≤ sort) sorts
  pub known : All (λ sort. sort ≤ most) sorts

-- sorts of a signature, among so many
pub record AreFewSorts (most : ℕ) (sorts : Signature) : Type 0 where
  pub arguments : AreFew most sorts.arguments
  pub value : sorts.sort ≤ most

module _ (draft : Draft) (state : State) where
  checks_other_sorts : (missing : Place) (trees : Reading) → Checked (AreOthers (length state.sorts) trees) draft (other_sorts state missing trees draft)
  checks_other_sorts missing End = checked (record { others = All-nil (λ sort. 1 ≤ sort); known = All-nil (λ sort. sort ≤ length state.sorts); few = λ n _. omega arith })
  checks_other_sorts missing (Token word trees) =
      checked_then draft _ (checks_other_sort draft state missing (Token word trees)) λ sort some.
      checked_then draft _ (checks_other_sorts missing trees) λ sorts are. checked (others_token (length state.sorts) word trees sort sorts some are)
  checks_other_sorts missing (Group paren meaning inner trees) =
      checked_then draft (λ (sort : ℕ). other_sorts state missing trees >>= λ (sorts : List ℕ). gives (sort ∷ sorts)) (checks_other_sort draft state missing (Group paren meaning inner trees)) λ sort some.
      checked_then draft (λ (sorts : List ℕ). gives (sort ∷ sorts)) (checks_other_sorts missing trees) λ sorts are. checked (others_list (length state.sorts) paren meaning inner trees sort sorts some are)

  checks_argument_sorts : (listed : Listed) → Checked (AreFew (length state.sorts)) draft (argument_sorts state listed draft)
  checks_argument_sorts listed =
      checked_then draft _ (checks_no_more draft refusal.TooManyArguments (from most_args listed.inner)) λ _ ends.
      few_of (checks_other_sorts listed.paren.place listed.inner) ends
    where
      few_of : {r : Result (List ℕ × Draft) SyntaxFault} → Checked (AreOthers (length state.sorts) listed.inner) draft r → from most_args listed.inner ≡ End → Checked (AreFew (length state.sorts)) draft r
      few_of (checked are) ends = checked (record { few = are.few most_args ends; others = are.others; known = are.known })
      few_of stopped ends = stopped

  checks_arguments : (head : Place) (parts : Reading) → Checked (AreFew (length state.sorts)) draft (arguments_first state head parts draft)
  checks_arguments head parts = checked_then draft _ (checks_list draft head parts) λ listed _. checks_argument_sorts listed

  pub checks_signature : (head : Place) (parts : Reading) → Checked (AreFewSorts (length state.sorts)) draft (signature_first state head parts draft)
  checks_signature head parts = checked_then draft _ (checks_arguments head parts) λ arguments few. checked_then draft _ (checks_sort draft state head (from 1 parts)) λ sort known. checked (record { arguments = few; value = known })

  pub checks_constant : (head : Place) (parts : Reading) → Checked (AreFewSorts (length state.sorts)) draft (constant_first state head parts draft)
  checks_constant head parts = checked_then draft _ (checks_sort draft state head parts) λ sort known. checked (record { arguments = record { few = omega arith; others = All-nil (λ sort. 1 ≤ sort); known = All-nil (λ sort. sort ≤ length state.sorts) }; value = known })

-- Parameters.
module _ (draft : Draft) where
  checks_binding_name : (names : List (List ℕ)) (paren : Word) (inner : Reading) → Checked Anything draft (binding_name names paren inner draft)
  checks_binding_name names paren inner =
      checked_then draft _ (checks_exactly draft 2 (head_place paren.place inner) inner) λ _ _.
      checked_then draft _ (checks_token draft paren.place inner) λ name _.
      checked_then draft _ (checks_lawful_name draft name) λ _ _.
      checked_then draft _ (checks_want draft (not (list_any (bytes_eq name.text) names)) refusal.BadForm name.place) λ _ _. checked (tt {0})

  checks_bindings : (names : List (List ℕ)) (trees : Reading) → Checked Anything draft (bindings_after names trees draft)
  checks_bindings names End = checked (tt {0})
  checks_bindings names (Token word trees) = stopped
  checks_bindings names (Group paren meaning inner trees) = checked_then draft _ (checks_binding_name names paren inner) λ name _. checks_bindings (names ++ name.text ∷ []) trees

  checks_no_binding : (refusal : Refusal) (trees : Reading) → Checked Anything draft (no_binding refusal trees draft)
  checks_no_binding refusal (Group paren meaning (Token name given) trees) = stopped
  checks_no_binding refusal trees = checked (tt {0})

  checks_few_bindings : (trees : Reading) → Checked Anything draft (few_bindings trees draft)
  checks_few_bindings trees = checked_then draft _ (checks_bindings [] trees) λ _ _. checks_no_binding refusal.TooManyArguments (from most_args trees)

  checks_variables : (state : State) (index : ℕ) (trees : Reading) → Checked (λ variables. All (λ sort. sort ≤ length state.sorts) (sorts_of variables)) draft (variables_from state index trees draft)
  checks_variables state index (Group paren meaning (Token name given) after) =
      checked_then draft _ (checks_other_sort draft state name.place given) λ sort known.
      checked_then draft _ (checks_variables state (index + 1) after) λ variables are. checked (All-cons (λ sort. sort ≤ length state.sorts) sort (sorts_of variables) known.1 are)
  checks_variables state index trees = checked (All-nil (λ sort. sort ≤ length state.sorts))

-- the parameters are the variables of some bindings, of sorts that stand
pub record AreParameters (state : State) (draft : Draft) (parameters : List Bound) : Type 0 where
  pub bindings : Reading
  pub given : variables_from state 0 bindings draft ≡ Ok (parameters, draft)
  pub known : All (λ sort. sort ≤ length state.sorts) (sorts_of parameters)

pub checks_parameters : (draft : Draft) (state : State) (head : Place) (parts : Reading) → Checked (AreParameters state draft) draft (parameters_first state head parts draft)
checks_parameters draft state head parts =
    checked_then draft _ (checks_list draft head parts) λ listed _.
    checked_then draft _ (checks_few_bindings draft listed.inner) λ _ _.
    given_by listed.inner (gave draft (checks_variables draft state 0 listed.inner))
  where
    given_by : (inner : Reading) {r : Result (List Bound × Draft) SyntaxFault} → Checked (λ parameters. All (λ sort. sort ≤ length state.sorts) (sorts_of parameters) × (variables_from state 0 inner draft ≡ Ok (parameters, draft))) draft r → Checked (AreParameters state draft) draft r
    given_by inner (checked is) = checked (record { bindings = inner; given = is.1; known = is.0 })
    given_by inner stopped = stopped
