-- What each tree of a command means, fits.
use Rattle.std.proofs.Common.{ℕ, Bool, true, false, cond, List, Option, Some, None}
use Rattle.smt_text.specs.Word.{Word}
use Rattle.smt_text.specs.Trees as trees
use Rattle.smt_text.specs.declared.token.Place.{Place}
use Rattle.formula_draft.specs.Draft.{Draft}
use Rattle.smt_names.specs.declared.bound.Bound.{Bound}
use Rattle.smt_names.specs.Making.{bad_form}
use Rattle.smt_names.specs.Names.{Scope, Named, head_of, bound_as, is_symbol}
use Rattle.smt_terms.specs.declared.form.Form.{Form}
use Rattle.smt_terms.specs.declared.form.Form.TheVariants.{Let, Annotated, Universal, Foreign, Application}
use Rattle.smt_terms.specs.Reading.{Reading, End, Token, Group}
use Rattle.smt_terms.specs.Terms.{named_value, unbound_value, form_of, form_value, list_value, reading}
use Rattle.smt_laws.proofs.Standing.{IsScope}
use Rattle.smt_laws.proofs.Making.{Sound, Good, refuses, good_then}
use Rattle.smt_laws.proofs.Values.{FitsIn}
use Rattle.smt_laws.proofs.Signatures.{signatures_are}
use Rattle.smt_laws.proofs.Applying.{IsNamed, of_core, of_function, of_definition, of_none, good_applied}
use Rattle.smt_laws.proofs.Checks.{AllMean, end, token, group}
use Rattle.smt_laws.proofs.Scopes.{setting, GoodMeaning, named_is, good_values, good_let, good_annotated}
use Rattle.smt_laws.proofs.Foralls.{good_forall}
use Rattle.smt_laws.proofs.Rooted.{MakesValid}

-- an application of a name that is not bound
good_named : (paren : Place) (head : Word) (parts : Reading) → AllMean GoodMeaning parts → (scope : Scope) (variables : List ℕ) (draft : Draft) → Sound (setting scope variables) draft → IsScope variables draft scope
    → {name : Named} → IsNamed (setting scope variables) name → Good (setting scope variables) draft (λ d v. FitsIn (setting scope variables) d v) (named_value paren head name parts scope draft)
good_named paren head parts all scope variables draft sound is of_core = good_then (setting scope variables) draft _ (good_values scope variables draft sound is parts all) λ args d keeps extends fit.
    good_applied (setting scope variables) (signatures_are scope.state.functions is.declared.functions_are) paren head.place head.text d keeps of_core args fit
good_named paren head parts all scope variables draft sound is (of_function {f = f} place at function) = good_then (setting scope variables) draft _ (good_values scope variables draft sound is parts all) λ args d keeps extends fit.
    good_applied (setting scope variables) (signatures_are scope.state.functions is.declared.functions_are) paren head.place head.text d keeps (of_function {f = f} place at function) args fit
good_named paren head parts all scope variables draft sound is (of_definition definition) = good_then (setting scope variables) draft _ (good_values scope variables draft sound is parts all) λ args d keeps extends fit.
    good_applied (setting scope variables) (signatures_are scope.state.functions is.declared.functions_are) paren head.place head.text d keeps (of_definition definition) args fit
good_named paren head parts all scope variables draft sound is of_none = refuses

good_unbound : (paren : Place) (head : Word) (parts : Reading) → AllMean GoodMeaning parts → (scope : Scope) (variables : List ℕ) (draft : Draft) → Sound (setting scope variables) draft → IsScope variables draft scope
    → (o : Option Bound) → Good (setting scope variables) draft (λ d v. FitsIn (setting scope variables) d v) (unbound_value paren head parts o scope draft)
good_unbound paren head parts all scope variables draft sound is (Some b) = refuses
good_unbound paren head parts all scope variables draft sound is None = good_named paren head parts all scope variables draft sound is (named_is scope variables draft sound is (head_of scope.state head.text))

module _ (valid : MakesValid) where
  good_form : (paren : Place) (head : Word) (parts : Reading) → AllMean GoodMeaning parts → (form : Form) → GoodMeaning (form_value paren head parts form)
  good_form paren head parts all Let scope variables draft sound is = good_let head.place parts all scope variables draft sound is
  good_form paren head parts all Annotated scope variables draft sound is = good_annotated head.place parts all scope variables draft sound is
  good_form paren head parts all Universal scope variables draft sound is = good_forall valid paren head.place parts all scope variables draft sound is
  good_form paren head parts all Foreign scope variables draft sound is = refuses
  good_form paren head parts all Application scope variables draft sound is = good_unbound paren head parts all scope variables draft sound is (bound_as scope.bound head.text)

  good_list : (paren : Word) (inner : Reading) → AllMean GoodMeaning inner → GoodMeaning (list_value paren inner)
  unfolding list_value
  good_list paren End all scope variables draft sound is = refuses
  good_list paren (Group inner meaning parts trees) all scope variables draft sound is = refuses
  good_list paren (Token head parts) (token all) scope variables draft sound is = by (is_symbol head.kind)
    where
      by : (b : Bool) → Good (setting scope variables) draft (λ d v. FitsIn (setting scope variables) d v) (cond b (form_value paren.place head parts (form_of head.text) scope) (bad_form head.place) draft)
      by true = good_form paren.place head parts all (form_of head.text) scope variables draft sound is
      by false = refuses

  -- each list of a command means what fits
  pub all_mean : (t : trees.Trees) → AllMean GoodMeaning (reading t)
  unfolding reading
  all_mean trees.End = end
  all_mean (trees.Token word after) = token (all_mean after)
  all_mean (trees.Group paren inner after) = group (good_list paren (reading inner) (all_mean inner)) (all_mean inner) (all_mean after)
