-- The variables that occur in a trigger.
use Rattle.std.proofs.Common.{◌≡◌, ℕ, ◌+◌, Bool, true, false, List, drop, slice_get, Some, Err, sym, ap, ◌∙◌}
use Rattle.smt_text.specs.declared.token.Place.{Place}
use Rattle.graph_trigger.specs.declared.trigger.Trigger.{Trigger}
use Rattle.formula_draft.specs.Draft.{Draft}
use Rattle.smt_names.specs.declared.bound.Bound.{Bound}
use Rattle.smt_names.specs.declared.refusal.Refusal.TheVariants.{PatternWithoutVariable}
use Rattle.smt_names.specs.Making.{then_from, must_hold_named}
use Rattle.smt_patterns.specs.Patterns.{occurs}
use Rattle.smt_patterns.specs.Triggers.{each_occurs}
use Rattle.smt_patterns.proofs.PatternLemmas.{drop_at}

-- variables that occur
pub occurs_next : (at : Place) (t : Trigger) (variables : List Bound) (i : ℕ) (b : Bound) (draft : Draft) → slice_get variables i ≡ Some b → occurs t i ≡ true
    → each_occurs at t (i + 1) (drop (i + 1) variables) draft ≡ each_occurs at t i (drop i variables) draft
occurs_next at t variables i b draft stands some = sym (ap (λ (bs : List Bound). each_occurs at t i bs draft) (drop_at variables i b stands)
    ∙ ap (λ (o : Bool). then_from (λ (_ : Unit {0}). each_occurs at t (i + 1) (drop (i + 1) variables)) (must_hold_named o PatternWithoutVariable at b.name draft)) some)

pub occurs_not : (at : Place) (t : Trigger) (variables : List Bound) (i : ℕ) (b : Bound) (draft : Draft) → slice_get variables i ≡ Some b → occurs t i ≡ false
    → each_occurs at t i (drop i variables) draft ≡ Err (record { refusal = PatternWithoutVariable; place = at; name = b.name })
occurs_not at t variables i b draft stands none = ap (λ (bs : List Bound). each_occurs at t i bs draft) (drop_at variables i b stands)
    ∙ ap (λ (o : Bool). then_from (λ (_ : Unit {0}). each_occurs at t (i + 1) (drop (i + 1) variables)) (must_hold_named o PatternWithoutVariable at b.name draft)) none
