-- What the parts of a forall answer.
use Rattle.std.specs.Prelude.{◌≡◌, ℕ, ◌+◌, Bool, true, false, List, map, Result, Ok, Err}
use Rattle.smt_text.specs.Word.{Word}
use Rattle.formula_draft.specs.Draft.{Draft}
use Rattle.smt_names.specs.declared.stop.Stop.{Stop}
use Rattle.smt_names.specs.Making.{Making}
use Rattle.smt_names.specs.Makes.{Refuses}
use Rattle.smt_terms.specs.declared.bodies.Body.{Body}
use Rattle.smt_terms.specs.Reading.{Reading, Token, Group}
use Rattle.smt_terms.specs.Terms.{Attribute, is_annotation}
use Rattle.smt_terms.specs.Terms as terms
use Rattle.smt_terms.specs.Cursor.{word_at, trees_from, SeesBinding}

-- the :pattern attributes whose keywords stand at these places
abbrev pub attribute_at : List Word → ℕ → Attribute
attribute_at words key = record { key = word_at words key; behind = trees_from words (key + 1) }

abbrev pub attributes_at : List Word → List ℕ → List Attribute
attributes_at words keys = map (attribute_at words) keys

abbrev pub body_at : List Word → Body → terms.Body
body_at words body = record { patterns = attributes_at words body.patterns.items; tree = trees_from words body.at }

-- a body is found
abbrev pub IsBody : List Word → Result Body Stop → Making terms.Body → Type 0
IsBody words (Ok body) making = (draft : Draft) → making draft ≡ Ok (body_at words body, draft)
IsBody words (Err stop) making = (draft : Draft) → Refuses stop (making draft)

-- whether a list with attributes comes next
abbrev pub is_annotated : Reading → Bool
is_annotated (Group paren meaning (Token head parts) trees) = is_annotation head
is_annotated trees = false

pub record IsAnnotated (words : List Word) (i : ℕ) : Type 0 where
  pub behind : ℕ
  pub sees : SeesBinding words i (i + 1) behind
  pub head : is_annotation (word_at words (i + 1)) ≡ true

abbrev pub SeesAnnotated : List Word → ℕ → Bool → Type 0
SeesAnnotated words i true = IsAnnotated words i
SeesAnnotated words i false = is_annotated (trees_from words i) ≡ false

-- what passing a list with attributes did
abbrev pub PassesAnnotation : List Word → List ℕ → List ℕ → ℕ → Result (Unit {0}) Stop → Type 0
PassesAnnotation words keys new_keys i (Ok done) = (draft : Draft) →
    terms.body_of (attributes_at words keys) (trees_from words i) draft
    ≡ terms.body_of (attributes_at words new_keys) (trees_from words (i + 2)) draft
PassesAnnotation words keys new_keys i (Err stop) = (draft : Draft) →
    Refuses stop (terms.body_of (attributes_at words keys) (trees_from words i) draft)
