-- What names, tokens and the forms that bind make, fits.
use Rattle.std.proofs.Common.{◌≡◌, ℕ, ◌+◌, ◌<◌, ◌≤◌, bytes_eq, Bool, true, false, cond, not, ◌||◌, ◌==◌, List, [], ◌∷◌, ◌++◌, length, slice_get, Option, Some, None, All, refl, sym, subst, ◌∙◌, true≢false, arith}
use Rattle.std.proofs.lemmas.Option.{none-some, same_Some}
use Rattle.std.proofs.lemmas.List.Elements.{All-nil, All-cons, All-head, All-tail, All-append, All-weaker}
use Rattle.graph_terms.proofs.ListLaws.{All-slice_get}
use Rattle.smt_text.specs.Word.{Word}
use Rattle.smt_text.specs.declared.token.Kind.{Kind}
use Rattle.smt_text.specs.declared.token.Kind.TheVariants.{Left, Right, Symbol, Keyword, Numeral, Decimal, Hex, Binary, Text}
use Rattle.smt_text.specs.declared.token.Place.{Place}
use Rattle.formula_draft.specs.declared.draft_row.DraftRow.TheVariants.{Var}
use Rattle.formula_draft.specs.Draft.{Draft}
use Rattle.smt_names.specs.declared.value.Value.{Value}
use Rattle.smt_names.specs.declared.value.Value.TheVariants.{Term, Formula}
use Rattle.smt_names.specs.declared.arg.Arg.{Arg}
use Rattle.smt_names.specs.declared.bound.Bound.{Bound}
use Rattle.smt_names.specs.declared.stands.Stands.{Stands}
use Rattle.smt_names.specs.declared.stands.Stands.TheVariants.{Given, Variable}
use Rattle.smt_names.specs.declared.head.Head.{Head}
use Rattle.smt_names.specs.declared.head.Head.TheVariants as head
use Rattle.smt_names.specs.declared.refusal.Refusal.TheVariants as refusal
use Rattle.smt_names.specs.Value.{sort_of}
use Rattle.smt_names.specs.Making.{Making, row, bad_form, not_in_profile, refuse_named}
use Rattle.smt_names.specs.Names.{Scope, Declared, Defined, Named, named_by, function_of, definition_of, head_of, keep_last, last_with, bound_as, is_reserved}
use Rattle.smt_terms.specs.Reading.{Meaning, Reading, End, Token, Group, from, first_place}
use Rattle.smt_terms.specs.Terms.{stood_for, free_value, name_value, token_value, value, add_value, values, truth, bind, bound_values, let_value, annotated_value}
use Rattle.formula_draft.specs.Sorted.HasSort.{variable}
use Rattle.smt_laws.specs.Sorted.{signatures_of}
use Rattle.smt_laws.proofs.Signatures.{signature_stands, signatures_are}
use Rattle.smt_laws.proofs.Standing.{Stood, may_hold, IsScope}
use Rattle.smt_laws.proofs.Growing.{Extends}
use Rattle.smt_laws.proofs.Making.{Setting, Sound, Good, refuses, good_then, good_made, good_want, good_row}
use Rattle.smt_laws.proofs.Values.{FitsIn, fits_later, Each, none, more}
use Rattle.smt_laws.proofs.Applying.{eq_from, IsNamed, of_core, of_function, of_definition, of_none, FitsArg, good_applied}
use Rattle.smt_laws.proofs.Checks.{AllMean, token, group, from_mean, passes_exactly, passes_attributes_of, good_some_bindings}

-- in a definition no formula may hold a forall
pub definitions_hold_none : (a b : Bool) → b ≡ true → not (a || b) ≡ true → ⊥
definitions_hold_none true b is may = true≢false (sym may)
definitions_hold_none false true is may = true≢false (sym may)
definitions_hold_none false false is may = true≢false (sym is)

-- where formulas may hold foralls, they do outside definitions
pub no_definition : (a b : Bool) → not (a || b) ≡ true → not b ≡ true
no_definition true b may = absurd (true≢false (sym may))
no_definition false b may = may

-- the setting of a scope whose variables have these sorts
abbrev pub setting : Scope → List ℕ → Setting
setting scope variables = record { functions = signatures_of scope.state.functions; variables = variables; universal = may_hold scope; whole = scope.in_definition; apart = definitions_hold_none scope.in_forall scope.in_definition }

-- what the term means fits in each scope that is right
abbrev pub GoodMeaning : Meaning → Type 0
GoodMeaning meaning = (scope : Scope) (variables : List ℕ) (draft : Draft) → Sound (setting scope variables) draft → IsScope variables draft scope → Good (setting scope variables) draft (λ d v. FitsIn (setting scope variables) d v) (meaning scope draft)

-- what is found among all passes
last_is : {A : Type 0} (P : A → Type 0) (test : A → Bool) (xs : List A) (x : A) → All P xs → last_with test xs ≡ Some x → P x
last_is P test [] x all found = absurd (none-some x found)
last_is {A} P test (y ∷ ys) x all found = by (λ h. last_is P test ys x (All-tail P y ys all) h) (last_with test ys) refl found
  where
    by : (last_with test ys ≡ Some x → P x) → (o : Option A) → last_with test ys ≡ o → keep_last (test y) y o ≡ Some x → P x
    by rest (Some z) is h = rest (is ∙ h)
    by rest None is h = here (test y) h
      where
        here : (b : Bool) → cond b (Some y) None ≡ Some x → P x
        here true h = subst P (same_Some y x h) (All-head P y ys all)
        here false h = absurd (none-some x h)

module _ (scope : Scope) (variables : List ℕ) where
  abbrev s : Setting
  s = setting scope variables

  pub stood_later : (old new : Draft) → Extends old new → (stands : Stands) → Stood (signatures_of scope.state.functions) variables (not scope.in_definition) old stands → Stood (signatures_of scope.state.functions) variables (not scope.in_definition) new stands
  stood_later old new extends (Given v) fits = fits_later (record s { universal = not scope.in_definition; apart = λ w may. apart_of scope.in_definition w may }) old new extends v fits
    where
      apart_of : (b : Bool) → b ≡ true → not b ≡ true → ⊥
      apart_of true w may = true≢false (sym may)
      apart_of false w may = true≢false (sym w)
  stood_later old new extends (Variable index sort) is = is

  pub scope_later : (old new : Draft) → Extends old new → IsScope variables old scope → IsScope variables new scope
  scope_later old new extends is = record {
    declared = is.declared;
    others = is.others;
    outside = is.outside;
    bound = All-weaker (λ (b : Bound). Stood (signatures_of scope.state.functions) variables (not scope.in_definition) old b.stands) (λ (b : Bound). Stood (signatures_of scope.state.functions) variables (not scope.in_definition) new b.stands) (λ b. stood_later old new extends b.stands) scope.bound is.bound;
  }

  -- a value that was made may be bound
  pub may_stand : (draft : Draft) (v : Value) → FitsIn s draft v → Stood (signatures_of scope.state.functions) variables (not scope.in_definition) draft (Given v)
  may_stand draft (Term row sort) fits = fits
  may_stand draft (Formula n None) fits = (fits.0, no_definition scope.in_forall scope.in_definition fits.1)
  may_stand draft (Formula n (Some c)) fits = fits

  module _ (draft : Draft) (sound : Sound s draft) (is : IsScope variables draft scope) where
    good_stood : (at : Place) (stands : Stands) → Stood (signatures_of scope.state.functions) variables (not scope.in_definition) draft stands → Good s draft (λ d v. FitsIn s d v) (stood_for scope at stands draft)
    good_stood at (Given (Term r sort)) fits = good_made s draft (Term r sort) sound fits
    good_stood at (Given (Formula n (Some c))) fits = good_then s draft _ (good_want s draft (not scope.in_forall || true) refusal.NotInProfile at sound) λ _ d keeps extends _. good_made s d (Formula n (Some c)) keeps (fits_later s draft d extends (Formula n (Some c)) fits)
    good_stood at (Given (Formula n None)) fits = good_then s draft _ (good_want s draft (not scope.in_forall || false) refusal.NotInProfile at sound) λ _ d keeps extends free.
        good_made s d (Formula n None) keeps (fits_later s draft d extends (Formula n None) (fits.0, may_here scope.in_forall scope.in_definition free fits.1))
      where
        may_here : (a b : Bool) → (not a || false) ≡ true → not b ≡ true → not (a || b) ≡ true
        may_here true b free other = absurd (true≢false (sym free))
        may_here false b free other = other
    good_stood at (Variable index sort) stands = good_then s draft _ (good_row s at draft sound (Var index) sort (record { args = All-nil (λ arg. arg < length draft.rows); few = omega arith }) (λ later n extends stands_at. variable stands_at stands)) λ r d keeps extends has.
        good_made s d (Term r sort) keeps (has, All-slice_get (λ k. 1 ≤ k) variables index sort is.others stands)

    pub named_is : (h : Head) → IsNamed s (named_by scope.state h)
    named_is (head.Core c) = of_core
    named_is (head.Function n) = by (slice_get scope.state.functions n) refl
      where
        by : (o : Option Declared) → slice_get scope.state.functions n ≡ o → IsNamed s (function_of (n + 2) o)
        by None at = of_none
        by (Some f) at = of_function n (signature_stands scope.state.functions n f at) (is.declared.functions_are n f at)
    named_is (head.Definition n) = by (slice_get scope.state.definitions n) refl
      where
        by : (o : Option Defined) → slice_get scope.state.definitions n ≡ o → IsNamed s (definition_of o)
        by None at = of_none
        by (Some d) at = of_definition (is.declared.definitions_are n d at)
    named_is head.Unknown = of_none

    good_free : (word : Word) {name : Named} → IsNamed s name → Good s draft (λ d v. FitsIn s d v) (free_value word name draft)
    good_free word (of_core {c = c}) = good_applied s (signatures_are scope.state.functions is.declared.functions_are) word.place word.place word.text draft sound of_core [] none
    good_free word (of_function {f = f} place at function) = good_applied s (signatures_are scope.state.functions is.declared.functions_are) word.place word.place word.text draft sound (of_function {f = f} place at function) [] none
    good_free word (of_definition {d = d} definition) = good_applied s (signatures_are scope.state.functions is.declared.functions_are) word.place word.place word.text draft sound (of_definition definition) [] none
    good_free word of_none = by (is_reserved word.text)
      where
        by : (b : Bool) → Good s draft (λ d v. FitsIn s d v) (cond b (bad_form word.place) (refuse_named refusal.UnknownName word.place word.text) draft)
        by true = refuses
        by false = refuses

    good_name : (word : Word) (o : Option Bound) → bound_as scope.bound word.text ≡ o → Good s draft (λ d v. FitsIn s d v) (name_value scope word o draft)
    good_name word (Some b) found = good_stood word.place b.stands (last_is (λ (x : Bound). Stood (signatures_of scope.state.functions) variables (not scope.in_definition) draft x.stands) (λ x. bytes_eq word.text x.name) scope.bound b is.bound found)
    good_name word None found = good_free word (named_is (head_of scope.state word.text))

    -- what a kind of token makes
    abbrev token_by : Word → Kind → Making Value
    token_by word kind = elim kind [
      | Symbol ↦ name_value scope word (bound_as scope.bound word.text)
      | Keyword ↦ bad_form word.place
      | Left ↦ bad_form word.place
      | Right ↦ bad_form word.place
      | _ ↦ not_in_profile word.place
    ]

    good_token_by : (word : Word) (kind : Kind) → Good s draft (λ d v. FitsIn s d v) (token_by word kind draft)
    good_token_by word Symbol = good_name word (bound_as scope.bound word.text) refl
    good_token_by word Keyword = refuses
    good_token_by word Left = refuses
    good_token_by word Right = refuses
    good_token_by word Numeral = refuses
    good_token_by word Decimal = refuses
    good_token_by word Hex = refuses
    good_token_by word Binary = refuses
    good_token_by word Text = refuses

    pub good_token : (word : Word) → Good s draft (λ d v. FitsIn s d v) (token_value scope word draft)
    unfolding token_value
    good_token word = good_token_by word word.kind

    pub good_value : (missing : Place) (trees : Reading) → AllMean GoodMeaning trees → Good s draft (λ d v. FitsIn s d v) (value missing scope trees draft)
    good_value missing End all = refuses
    good_value missing (Token word trees) all = good_token word
    good_value missing (Group paren meaning inner trees) (group means within rest) = means scope variables draft sound is

    -- a formula
    pub good_formula : (missing : Place) (trees : Reading) → AllMean GoodMeaning trees → Good s draft (λ d v. FitsIn s d v × (sort_of v ≡ 0)) (truth missing scope trees draft)
    good_formula missing trees all = good_then s draft _ (good_value missing trees all) λ v d1 k1 e1 fits.
        good_then s d1 _ (good_want s d1 (sort_of v == 0) refusal.WrongSort (first_place missing trees) k1) λ _ d2 k2 e2 bool.
        good_made s d2 v k2 (fits_later s d1 d2 e2 v fits, eq_from (sort_of v) 0 bool)

  good_add_value : (draft : Draft) (at : Place) (first : Making Value) (others : Making (List Arg)) → Good s draft (λ d v. FitsIn s d v) (first draft)
      → ((d : Draft) → Sound s d → Extends draft d → Good s d (λ e args. Each (FitsArg s e) args) (others d)) → Good s draft (λ d args. Each (FitsArg s d) args) (add_value at first others draft)
  good_add_value draft at first others one rest = good_then s draft _ one λ v d1 k1 e1 fits.
      good_then s d1 _ (rest d1 k1 e1) λ args d2 k2 e2 fit.
      good_made s d2 (record { place = at; value = v } ∷ args) k2 (more (fits_later s d1 d2 e2 v fits) fit)

  pub good_values : (draft : Draft) → Sound s draft → IsScope variables draft scope → (trees : Reading) → AllMean GoodMeaning trees → Good s draft (λ d args. Each (FitsArg s d) args) (values scope trees draft)
  good_values draft sound is End all = good_made s draft [] sound none
  good_values draft sound is (Token word trees) (token rest) = good_add_value draft word.place (token_value scope word) (values scope trees) (good_token draft sound is word) (λ d keeps extends. good_values d keeps (scope_later draft d extends is) trees rest)
  good_values draft sound is (Group paren meaning inner trees) (group means within rest) = good_add_value draft paren.place (meaning scope) (values scope trees) (means scope variables draft sound is) (λ d keeps extends. good_values d keeps (scope_later draft d extends is) trees rest)

  -- bound names stand in the draft
  abbrev pub AllStand : Draft → List Bound → Type 0
  AllStand draft bound = All (λ (b : Bound). Stood (signatures_of scope.state.functions) variables (not scope.in_definition) draft b.stands) bound

  pub good_bound_values : (draft : Draft) → Sound s draft → IsScope variables draft scope → (trees : Reading) → AllMean GoodMeaning trees → Good s draft (λ d bound. AllStand d bound) (bound_values scope trees draft)
  good_bound_values draft sound is (Group paren meaning (Token name term) after) (group means (token within) rest) =
      good_then s draft _ (good_value draft sound is name.place term within) λ v d1 k1 e1 fits.
      good_then s d1 _ (good_bound_values d1 k1 (scope_later draft d1 e1 is) after rest) λ bound d2 k2 e2 stand.
      good_made s d2 (bind name.text v ∷ bound) k2 (All-cons (λ (b : Bound). Stood (signatures_of scope.state.functions) variables (not scope.in_definition) d2 b.stands) (bind name.text v) bound (stood_later d1 d2 e2 (Given v) (may_stand d1 v fits)) stand)
  good_bound_values draft sound is trees all = good_made s draft [] sound (All-nil (λ (b : Bound). Stood (signatures_of scope.state.functions) variables (not scope.in_definition) draft b.stands))

  -- a scope with more names
  pub bound_more : (draft : Draft) (bound : List Bound) → IsScope variables draft scope → AllStand draft bound → IsScope variables draft (record scope { bound = scope.bound ++ bound })
  bound_more draft bound is stand = record {
    declared = is.declared;
    others = is.others;
    outside = is.outside;
    bound = All-append (λ (b : Bound). Stood (signatures_of scope.state.functions) variables (not scope.in_definition) draft b.stands) scope.bound bound is.bound stand;
  }

-- let and !
pub good_let : (head : Place) (parts : Reading) → AllMean GoodMeaning parts → GoodMeaning (let_value head parts)
good_let head parts all scope variables draft sound is =
    let s = setting scope variables in
    good_then s draft _ (passes_exactly s draft 2 head parts sound) λ _ d1 k1 e1 _.
    good_then s d1 _ (good_some_bindings s GoodMeaning d1 head parts all k1) λ listed d2 k2 e2 within.
    let is2 = scope_later scope variables d1 d2 e2 (scope_later scope variables draft d1 e1 is) in
    good_then s d2 _ (good_bound_values scope variables d2 k2 is2 listed.inner within) λ bound d3 k3 e3 stand.
    let is3 = scope_later scope variables d2 d3 e3 is2 in
    good_value (record scope { bound = scope.bound ++ bound }) variables d3 k3 (bound_more scope variables d3 bound is3 stand) head (from 1 parts) (from_mean 1 all)

pub good_annotated : (head : Place) (parts : Reading) → AllMean GoodMeaning parts → GoodMeaning (annotated_value head parts)
good_annotated head parts all scope variables draft sound is =
    let s = setting scope variables in
    good_then s draft _ (passes_attributes_of s draft head parts sound) λ _ d1 k1 e1 _.
    good_value scope variables d1 k1 (scope_later scope variables draft d1 e1 is) head parts all
