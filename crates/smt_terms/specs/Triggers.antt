-- What the parts of triggers answer.
use Rattle.std.specs.Prelude.{◌≡◌, ℕ, ◌+◌, ◌<◌, List, length, Option, Some, None, Result, Ok, Err}
use Rattle.smt_text.specs.Word.{Word}
use Rattle.smt_text.specs.declared.token.Place.{Place}
use Rattle.graph_trigger.specs.declared.trigger.Trigger.{Trigger}
use Rattle.formula_draft.specs.declared.draft_node.DraftNode.TheVariants.{Forall}
use Rattle.formula_draft.specs.Draft.{Draft, draft_forall}
use Rattle.smt_names.specs.declared.bound.Bound.{Bound}
use Rattle.smt_names.specs.declared.value.Value.{Value}
use Rattle.smt_names.specs.declared.value.Value.TheVariants.{Formula}
use Rattle.smt_names.specs.declared.stop.Stop.{Stop}
use Rattle.smt_names.specs.declared.refusal.Refusal.TheVariants.{NotInProfile, TooManyPatterns}
use Rattle.smt_names.specs.Value.{self}
use Rattle.smt_names.specs.Making.{Making, gives, ◌>>=◌, ◌>>◌, must_hold, node, put_forall}
use Rattle.smt_names.specs.Makes.{Refuses}
use Rattle.smt_names.specs.Names.{Scope}
use Rattle.smt_patterns.specs.Triggers.{rooted_trigger}
use Rattle.smt_terms.specs.Reading.{Reading, End, from, at_least, no_more}
use Rattle.smt_terms.specs.Terms.{Attribute, value, truth, trigger, triggers}
use Rattle.smt_terms.specs.Terms.{pattern_root, pattern_roots, add_root, some_trigger}
use Rattle.smt_terms.specs.Cursor.{word_at, trees_from}
use Rattle.smt_terms.specs.Bodies.{attribute_at}
use Rattle.smt_terms.specs.Machine.{weight}

-- a tree comes next, a pattern among patterns, and this is the place behind it
pub record SeesTree (words : List Word) (i after : ℕ) : Type 0 where
  pub roots : (scope : Scope) (draft : Draft) → pattern_roots scope (trees_from words i) draft
      ≡ add_root (pattern_root (word_at words i).place (value (word_at words i).place scope (trees_from words i)))
      (pattern_roots scope (trees_from words after)) draft
  pub less : weight words (trees_from words after) < weight words (trees_from words i)

abbrev pub MaySeeTree : List Word → ℕ → Option ℕ → Type 0
MaySeeTree words i None = trees_from words i ≡ End
MaySeeTree words i (Some after) = SeesTree words i after

-- the trigger of these patterns
abbrev pub listed_trigger : Scope → List Bound → Place → Reading → Making Trigger
listed_trigger scope variables paren inner = do
  roots ← pattern_roots scope inner
  rooted_trigger variables paren roots

-- one to sixteen patterns, and then their trigger
abbrev pub numbered_trigger : Scope → List Bound → Place → Reading → Making Trigger
numbered_trigger scope variables paren inner = do
  at_least 1 paren inner
  no_more TooManyPatterns (from 16 inner)
  listed_trigger scope variables paren inner

-- the number of patterns is right, and their trigger is left
abbrev pub HasNumber : List Word → ℕ → Place → Result (Unit {0}) Stop → Type 0
HasNumber words i paren (Ok done) = (scope : Scope) (variables : List Bound) (draft : Draft) →
    numbered_trigger scope variables paren (trees_from words i) draft
    ≡ listed_trigger scope variables paren (trees_from words i) draft
HasNumber words i paren (Err stop) = (scope : Scope) (variables : List Bound) (draft : Draft) →
    Refuses stop (numbered_trigger scope variables paren (trees_from words i) draft)

-- the form of a trigger is right, and its patterns are left
abbrev pub HasPatterns : List Word → ℕ → Result (Unit {0}) Stop → Type 0
HasPatterns words key (Ok done) = (scope : Scope) (variables : List Bound) (draft : Draft) →
    trigger scope variables (attribute_at words key) draft
    ≡ listed_trigger scope variables (word_at words (key + 1)).place (trees_from words (key + 2)) draft
HasPatterns words key (Err stop) = (scope : Scope) (variables : List Bound) (draft : Draft) →
    Refuses stop (trigger scope variables (attribute_at words key) draft)

-- the forall of these variables, this body and these triggers
abbrev pub forall_of : (paren head : Place) → ℕ → Value → List Trigger → Making Value
forall_of paren head variables v patterns = do
  must_hold (some_trigger patterns) NotInProfile head
  index ← put_forall (draft_forall variables (self v) patterns)
  n ← node paren (Forall index)
  gives (Formula n None)

-- the forall of these variables and this body, and the triggers with these keywords
abbrev pub triggered : (paren head : Place) → Scope → List Bound → List Attribute → Value → Making Value
triggered paren head scope variables attributes v = do
  patterns ← triggers scope variables attributes
  forall_of paren head (length variables) v patterns

-- a forall, in a scope where its variables are bound
abbrev pub quantified_inside : (paren head : Place) → Scope → List Bound → Reading → List Attribute → Making Value
quantified_inside paren head scope variables body attributes = do
  v ← truth head scope body
  triggered paren head scope variables attributes v
