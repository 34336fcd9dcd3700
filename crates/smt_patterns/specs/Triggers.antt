-- The trigger of some roots, in which each variable must occur.
use Rattle.std.specs.Prelude.{ℕ, ◌+◌, List, [], ◌∷◌, length}
use Rattle.smt_text.specs.declared.token.Place.{Place}
use Rattle.graph_trigger.specs.declared.trigger.Trigger.{Trigger}
use Rattle.smt_names.specs.declared.bound.Bound.{Bound}
use Rattle.smt_names.specs.declared.refusal.Refusal.TheVariants.{PatternWithoutVariable}
use Rattle.smt_names.specs.Making.{Making, gives, ◌>>=◌, ◌>>◌, must_hold_named}
use Rattle.smt_patterns.specs.Patterns.{trigger_of, occurs}

-- each variable, from this index on, occurs in the trigger
abbrev pub each_occurs : Place → Trigger → ℕ → List Bound → Making (Unit {0})
each_occurs at trigger index [] = gives tt
each_occurs at trigger index (b ∷ variables) = do
  must_hold_named (occurs trigger index) PatternWithoutVariable at b.name
  each_occurs at trigger (index + 1) variables

-- the trigger of these roots among the rows that stand, with so many variables
abbrev pub trigger_made : ℕ → List ℕ → Making Trigger
trigger_made variables roots draft = gives (trigger_of variables draft.rows roots) draft

-- the trigger of these roots for these variables, which is refused at the place of its list
abbrev pub rooted_trigger : List Bound → Place → List ℕ → Making Trigger
rooted_trigger variables at roots = do
  made_so ← trigger_made (length variables) roots
  each_occurs at made_so 0 variables
  gives made_so
