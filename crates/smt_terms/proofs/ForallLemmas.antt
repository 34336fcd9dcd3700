-- The parts of a forall.
use Rattle.std.proofs.Common.{◌≡◌, ℕ, ◌+◌, ◌<◌, Bool, true, false, cond, List, [], ◌∷◌, ◌++◌, Result, Ok, Err, refl, sym, ap, subst, ◌∙◌, append_assoc, arith}
use Rattle.std.proofs.lemmas.List.{append-nil, map-append}
use Rattle.smt_text.specs.Word.{Word}
use Rattle.smt_text.specs.declared.token.Place.{Place}
use Rattle.formula_draft.specs.Draft.{Draft}
use Rattle.smt_names.specs.declared.value.Value.{Value}
use Rattle.smt_names.specs.declared.bound.Bound.{Bound}
use Rattle.smt_names.specs.declared.stands.Stands.TheVariants.{Variable}
use Rattle.smt_names.specs.declared.stop.Stop.{Stop}
use Rattle.smt_names.specs.declared.syntax_fault.SyntaxFault.{SyntaxFault}
use Rattle.smt_names.specs.declared.refusal.Refusal.{Refusal}
use Rattle.smt_names.specs.declared.refusal.Refusal.TheVariants as refusal
use Rattle.smt_names.specs.Making.{Making, gives, then_from, ◌>>◌, ◌>>=◌}
use Rattle.smt_names.specs.Makes.{Refuses}
use Rattle.smt_names.specs.Names.{State, Scope, bound_of}
use Rattle.smt_terms.specs.Reading.{Reading, End, Token, Group, from, Listed, exactly, some_bindings, no_binding as refused_binding, other_sort, attributes_of}
use Rattle.smt_terms.specs.Terms.{variables_from, Attribute, attribute_if, patterns_in, body_of, Body, is_annotation, is_pattern_key, list_value, bound_forall, body_forall, checked_forall}
use Rattle.smt_terms.specs.Cursor.{word_at, trees_from, is_binding, SeesBinding}
use Rattle.smt_terms.specs.Bodies.{attribute_at, attributes_at, is_annotated, IsAnnotated, SeesAnnotated}
use Rattle.smt_terms.specs.Machine.{weight}
use Rattle.smt_terms.proofs.CheckLemmas.{refuses_all}

pub no_binding_none : (refusal : Refusal) (trees : Reading) (draft : Draft) → is_binding trees ≡ false → refused_binding refusal trees draft ≡ Ok (tt {0}, draft)
no_binding_none refusal End draft none = refl
no_binding_none refusal (Token w trees) draft none = refl
no_binding_none refusal (Group p meaning End trees) draft none = refl
no_binding_none refusal (Group p meaning (Token w inner) trees) draft none = absurd (cc)
no_binding_none refusal (Group p meaning (Group q reading inner more) trees) draft none = refl

variables_none : (state : State) (index : ℕ) (trees : Reading) (draft : Draft) → is_binding trees ≡ false → variables_from state index trees draft ≡ Ok ([], draft)
variables_none state index End draft none = refl
variables_none state index (Token w trees) draft none = refl
variables_none state index (Group p meaning End trees) draft none = refl
variables_none state index (Group p meaning (Token w inner) trees) draft none = absurd (cc)
variables_none state index (Group p meaning (Group q reading inner more) trees) draft none = refl

-- the variables behind some
abbrev pub behind_variables : List Bound → Result (List Bound × Draft) SyntaxFault → Result (List Bound × Draft) SyntaxFault
behind_variables so_far more = then_from (λ (vs : List Bound). gives (so_far ++ vs)) more

pub behind_none : (more : Result (List Bound × Draft) SyntaxFault) → behind_variables [] more ≡ more
behind_none (Ok found) = refl
behind_none (Err fault) = refl

pub variables_end : (state : State) (index : ℕ) (trees : Reading) (so_far : List Bound) (draft : Draft) → is_binding trees ≡ false → behind_variables so_far (variables_from state index trees draft) ≡ Ok (so_far, draft)
variables_end state index trees so_far draft none = ap (behind_variables so_far) (variables_none state index trees draft none) ∙ ap (λ (vs : List Bound). Ok (vs, draft)) (append-nil so_far)

module _ (words : List Word) (state : State) (at name behind index : ℕ) (sees : SeesBinding words at name behind) where
  variables_here : (draft : Draft) → variables_from state index (trees_from words at) draft
      ≡ then_from (λ (sort : ℕ). variables_from state (index + 1) (trees_from words behind) >>= λ (vs : List Bound). gives (record { name = (word_at words name).text; stands = Variable index sort } ∷ vs)) (other_sort state (word_at words name).place (trees_from words (name + 1)) draft)
  variables_here draft = ap (λ (t : Reading). variables_from state index t draft) sees.is

  pub variables_next : (so_far more : List Bound) (text : List ℕ) (sort : ℕ) (draft : Draft) → other_sort state (word_at words name).place (trees_from words (name + 1)) draft ≡ Ok (sort, draft)
      → text ≡ (word_at words name).text → more ≡ so_far ++ bound_of text (Variable index sort) ∷ []
      → behind_variables more (variables_from state (index + 1) (trees_from words behind) draft) ≡ behind_variables so_far (variables_from state index (trees_from words at) draft)
  variables_next so_far more text sort draft makes called all = sym
      (ap (behind_variables so_far) (variables_here draft ∙ ap (then_from (λ (s : ℕ). variables_from state (index + 1) (trees_from words behind) >>= λ (vs : List Bound). gives (record { name = (word_at words name).text; stands = Variable index s } ∷ vs))) makes)
      ∙ by (variables_from state (index + 1) (trees_from words behind) draft))
    where
      named : more ≡ so_far ++ record { name = (word_at words name).text; stands = Variable index sort } ∷ []
      named = all ∙ ap (λ (t : List ℕ). so_far ++ bound_of t (Variable index sort) ∷ []) called

      by : (r : Result (List Bound × Draft) SyntaxFault)
          → behind_variables so_far (then_from (λ (vs : List Bound). gives (record { name = (word_at words name).text; stands = Variable index sort } ∷ vs)) r) ≡ behind_variables more r
      by (Ok r) = ap (λ (vs : List Bound). Ok (vs, r.1)) (sym (append_assoc so_far (record { name = (word_at words name).text; stands = Variable index sort } ∷ []) r.0) ∙ ap (λ (xs : List Bound). xs ++ r.0) (sym named))
      by (Err fault) = refl

  pub variables_refused : (stopped : Stop) (so_far : List Bound) (whole : Making (List Bound)) → ((draft : Draft) → behind_variables so_far (variables_from state index (trees_from words at) draft) ≡ whole draft)
      → ((draft : Draft) → Refuses stopped (other_sort state (word_at words name).place (trees_from words (name + 1)) draft)) → (draft : Draft) → Refuses stopped (whole draft)
  variables_refused stopped so_far whole same refused draft = refuses_all stopped _ (whole draft)
      (λ fault e. sym (same draft) ∙ ap (behind_variables so_far) (variables_here draft ∙ ap (then_from (λ (s : ℕ). variables_from state (index + 1) (trees_from words behind) >>= λ (vs : List Bound). gives (record { name = (word_at words name).text; stands = Variable index s } ∷ vs))) e)) (refused draft)

-- a keyword of a trigger is gathered
pub gathered : (words : List Word) (keys more : List ℕ) (w : Word) (at : ℕ) → w ≡ word_at words at → attributes_at words more ≡ attributes_at words keys ++ attribute_if (is_pattern_key w) (attribute_at words at)
    → trees_from words at ≡ Token w (trees_from words (at + 1)) → attributes_at words more ++ patterns_in (trees_from words (at + 1)) ≡ attributes_at words keys ++ patterns_in (trees_from words at)
gathered words keys more w at same more_is is =
    ap (λ (xs : List Attribute). xs ++ patterns_in (trees_from words (at + 1))) more_is
    ∙ append_assoc (attributes_at words keys) (attribute_if (is_pattern_key w) (attribute_at words at)) (patterns_in (trees_from words (at + 1)))
    ∙ ap (λ (x : Word). attributes_at words keys ++ (attribute_if (is_pattern_key w) (record { key = x; behind = trees_from words (at + 1) }) ++ patterns_in (trees_from words (at + 1)))) (sym same)
    ∙ ap (λ (t : Reading). attributes_at words keys ++ patterns_in t) (sym is)

pub pushed_key : (words : List Word) (keys more : List ℕ) (at : ℕ) (b : Bool) → b ≡ true → more ≡ keys ++ at ∷ [] → attributes_at words more ≡ attributes_at words keys ++ attribute_if b (attribute_at words at)
pushed_key words keys more at b is all = rw (is, all) (map-append (attribute_at words) keys (at ∷ []))

pub no_key : (words : List Word) (keys : List ℕ) (at : ℕ) (b : Bool) → b ≡ false → attributes_at words keys ≡ attributes_at words keys ++ attribute_if b (attribute_at words at)
no_key words keys at b is = rw is (sym (append-nil (attributes_at words keys)))

-- a list with attributes is passed
pub passes_annotation : (words : List Word) (keys more : List ℕ) (i next : ℕ) (p : Place) (draft : Draft) → IsAnnotated words i → p ≡ (word_at words (i + 1)).place → attributes_of p (trees_from words (i + 2)) draft ≡ Ok (tt {0}, draft)
    → trees_from words next ≡ from 1 (trees_from words (i + 2)) → attributes_at words more ≡ attributes_at words keys ++ patterns_in (trees_from words next)
    → body_of (attributes_at words keys) (trees_from words i) draft ≡ body_of (attributes_at words more) (trees_from words (i + 2)) draft
passes_annotation words keys more i next p draft annotated at holds behind all =
    ap (λ (t : Reading). body_of (attributes_at words keys) t draft) annotated.sees.is
    ∙ ap (λ (b : Bool). cond b (attributes_of (word_at words (i + 1)).place (trees_from words (i + 1 + 1)) >> body_of (attributes_at words keys ++ patterns_in (from 1 (trees_from words (i + 1 + 1)))) (trees_from words (i + 1 + 1))) (gives (plain annotated.behind)) draft) annotated.head
    ∙ ap (then_from (λ (_ : Unit {0}). body_of (attributes_at words keys ++ patterns_in (from 1 (trees_from words (i + 1 + 1)))) (trees_from words (i + 1 + 1))))
    (ap (λ (q : Place). attributes_of q (trees_from words (i + 1 + 1)) draft) (sym at) ∙ ap (λ (n : ℕ). attributes_of p (trees_from words n) draft) two ∙ holds)
    ∙ ap (λ (n : ℕ). body_of (attributes_at words keys ++ patterns_in (from 1 (trees_from words n))) (trees_from words n) draft) two
    ∙ ap (λ (t : Reading). body_of (attributes_at words keys ++ patterns_in t) (trees_from words (i + 2)) draft) (sym behind)
    ∙ ap (λ (so_far : List Attribute). body_of so_far (trees_from words (i + 2)) draft) (sym all)
  where
    two : i + 1 + 1 ≡ i + 2
    two = omega arith

    plain : ℕ → Body
    plain behind = record { patterns = attributes_at words keys; tree = Group (word_at words i) (list_value (word_at words i) (Token (word_at words (i + 1)) (trees_from words (i + 1 + 1)))) (Token (word_at words (i + 1)) (trees_from words (i + 1 + 1))) (trees_from words behind) }

pub annotation_refused : (words : List Word) (keys : List ℕ) (i : ℕ) (p : Place) (stopped : Stop) → IsAnnotated words i → p ≡ (word_at words (i + 1)).place → ((draft : Draft) → Refuses stopped (attributes_of p (trees_from words (i + 2)) draft))
    → (draft : Draft) → Refuses stopped (body_of (attributes_at words keys) (trees_from words i) draft)
annotation_refused words keys i p stopped annotated at refused draft = refuses_all stopped _ _
    (λ fault e. ap (λ (t : Reading). body_of (attributes_at words keys) t draft) annotated.sees.is
    ∙ ap (λ (b : Bool). cond b (attributes_of (word_at words (i + 1)).place (trees_from words (i + 1 + 1)) >> body_of (attributes_at words keys ++ patterns_in (from 1 (trees_from words (i + 1 + 1)))) (trees_from words (i + 1 + 1))) (gives (plain annotated.behind)) draft) annotated.head
    ∙ ap (then_from (λ (_ : Unit {0}). body_of (attributes_at words keys ++ patterns_in (from 1 (trees_from words (i + 1 + 1)))) (trees_from words (i + 1 + 1))))
    (ap (λ (q : Place). attributes_of q (trees_from words (i + 1 + 1)) draft) (sym at) ∙ ap (λ (n : ℕ). attributes_of p (trees_from words n) draft) two ∙ e)) (refused draft)
  where
    two : i + 1 + 1 ≡ i + 2
    two = omega arith

    plain : ℕ → Body
    plain behind = record { patterns = attributes_at words keys; tree = Group (word_at words i) (list_value (word_at words i) (Token (word_at words (i + 1)) (trees_from words (i + 1 + 1)))) (Token (word_at words (i + 1)) (trees_from words (i + 1 + 1))) (trees_from words behind) }

-- what is no list with attributes is the body
pub body_here : (so_far : List Attribute) (trees : Reading) (draft : Draft) → is_annotated trees ≡ false → body_of so_far trees draft ≡ Ok (record { patterns = so_far; tree = trees }, draft)
body_here so_far End draft none = refl
body_here so_far (Token w trees) draft none = refl
body_here so_far (Group p meaning End trees) draft none = refl
body_here so_far (Group p meaning (Token w inner) trees) draft none = rw none refl
body_here so_far (Group p meaning (Group q reading inner more) trees) draft none = refl

pub not_annotated : (trees : Reading) → is_binding trees ≡ false → is_annotated trees ≡ false
not_annotated End none = refl
not_annotated (Token w trees) none = refl
not_annotated (Group p meaning End trees) none = refl
not_annotated (Group p meaning (Token w inner) trees) none = absurd (cc)
not_annotated (Group p meaning (Group q reading inner more) trees) none = refl

pub sees_annotated : (words : List Word) (i name behind : ℕ) (b : Bool) → b ≡ is_annotation (word_at words name) → SeesBinding words i name behind → SeesAnnotated words i b
sees_annotated words i name behind true is sees = record {
  behind = behind;
  sees = subst (λ (n : ℕ). SeesBinding words i n behind) sees.named sees;
  head = ap (λ (n : ℕ). is_annotation (word_at words n)) (sym sees.named) ∙ sym is;
}
sees_annotated words i name behind false is sees = ap is_annotated sees.is ∙ sym is

pub weighs_annotated : (words : List Word) (i : ℕ) → IsAnnotated words i → weight words (trees_from words (i + 2)) < weight words (trees_from words i)
unfolding weight
weighs_annotated words i annotated = omega (arith, ap (weight words) annotated.sees.is, ap (λ (n : ℕ). weight words (trees_from words n)) two)
  where
    two : i + 1 + 1 ≡ i + 2
    two = omega arith

pub weighs_binding : (words : List Word) (i name behind : ℕ) → SeesBinding words i name behind → weight words (trees_from words behind) < weight words (trees_from words i)
unfolding weight
weighs_binding words i name behind sees = omega (arith, ap (weight words) sees.is)

-- a forall whose form is checked
module _ (paren head : Place) (parts : Reading) (scope : Scope) where
  after_bindings : Listed → Making Value
  after_bindings listed = bound_forall paren head scope listed.inner (from 1 parts)

  pub forall_number_refused : (stopped : Stop) → ((draft : Draft) → Refuses stopped (exactly 2 head parts draft)) → (draft : Draft) → Refuses stopped (checked_forall paren head parts scope draft)
  unfolding after_bindings
  forall_number_refused stopped refused draft = refuses_all stopped (exactly 2 head parts draft) (checked_forall paren head parts scope draft)
      (λ fault e. ap (then_from (λ (_ : Unit {0}). some_bindings head parts >>= after_bindings)) e) (refused draft)

  pub forall_bindings_refused : (stopped : Stop) → ((draft : Draft) → exactly 2 head parts draft ≡ Ok (tt {0}, draft)) → ((draft : Draft) → Refuses stopped (some_bindings head parts draft)) → (draft : Draft) → Refuses stopped (checked_forall paren head parts scope draft)
  unfolding after_bindings
  forall_bindings_refused stopped two refused draft = refuses_all stopped (some_bindings head parts draft) (checked_forall paren head parts scope draft)
      (λ fault e. ap (then_from (λ (_ : Unit {0}). some_bindings head parts >>= after_bindings)) (two draft) ∙ ap (then_from after_bindings) e) (refused draft)

  pub forall_means : (listed : Listed) (rest : Reading) (draft : Draft) → exactly 2 head parts draft ≡ Ok (tt {0}, draft) → some_bindings head parts draft ≡ Ok (listed, draft) → from 1 parts ≡ rest
      → checked_forall paren head parts scope draft ≡ bound_forall paren head scope listed.inner rest draft
  unfolding after_bindings
  forall_means listed rest draft two found behind =
      ap (then_from (λ (_ : Unit {0}). some_bindings head parts >>= after_bindings)) two ∙ ap (then_from after_bindings) found
      ∙ ap (λ (t : Reading). bound_forall paren head scope listed.inner t draft) behind

-- a forall whose bindings are read
module _ (paren head : Place) (scope : Scope) (bindings trees : Reading) where
  abbrev few : Making (Unit {0})
  few = refused_binding refusal.TooManyVariables (from 32 bindings)

  abbrev ends : List Bound → Making Value
  ends variables = body_forall paren head scope variables trees

  pub too_many : (stopped : Stop) → ((draft : Draft) → Refuses stopped (refused_binding refusal.TooManyVariables (from 32 bindings) draft)) → (draft : Draft) → Refuses stopped (bound_forall paren head scope bindings trees draft)
  too_many stopped refused draft = refuses_all stopped (few draft) (bound_forall paren head scope bindings trees draft)
      (λ fault e. ap (then_from (λ (_ : Unit {0}). variables_from scope.state 0 bindings >>= ends)) e) (refused draft)

  pub variables_unread : (stopped : Stop) → ((draft : Draft) → refused_binding refusal.TooManyVariables (from 32 bindings) draft ≡ Ok (tt {0}, draft)) → ((draft : Draft) → Refuses stopped (variables_from scope.state 0 bindings draft))
      → (draft : Draft) → Refuses stopped (bound_forall paren head scope bindings trees draft)
  variables_unread stopped fits refused draft = refuses_all stopped (variables_from scope.state 0 bindings draft) (bound_forall paren head scope bindings trees draft)
      (λ fault e. ap (then_from (λ (_ : Unit {0}). variables_from scope.state 0 bindings >>= ends)) (fits draft) ∙ ap (then_from ends) e) (refused draft)

  pub variables_read : (variables : List Bound) (draft : Draft) → refused_binding refusal.TooManyVariables (from 32 bindings) draft ≡ Ok (tt {0}, draft) → variables_from scope.state 0 bindings draft ≡ Ok (variables, draft)
      → bound_forall paren head scope bindings trees draft ≡ body_forall paren head scope variables trees draft
  variables_read variables draft fits read = ap (then_from (λ (_ : Unit {0}). variables_from scope.state 0 bindings >>= ends)) fits ∙ ap (then_from ends) read
