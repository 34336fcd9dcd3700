-- A forall of a formula becomes a forall of the table.
use Rattle.std.proofs.Common.{◌≡◌, ℕ, zero, suc, ◌+◌, List, [], ◌∷◌}
use Rattle.std.proofs.Common.{slice_get, Some, refl, sym, ap, subst, ◌∙◌, arith}
use Rattle.std.proofs.lemmas.Option.{none-some, same_Some}
use Rattle.graph_trigger.specs.declared.trigger.Trigger.{Trigger}
use Rattle.graph_trigger.specs.Trigger.{IsValid, Occurs}
use Rattle.graph_trigger.specs.Trigger.Occurs.{at_root, below}
use Rattle.graph_terms.proofs.ListLaws.{All-slice_get}
use Rattle.formula_draft.specs.declared.draft_forall.DraftForall.{DraftForall}
use Rattle.formula_draft.specs.Draft.{Formula, AreLawful, FitsForall, FitsTrigger}
use Rattle.formula_table.specs.declared.table_forall.TableForall.{TableForall}
use Rattle.formula_table.specs.Body.{IsFormulaOver}
use Rattle.formula_table.proofs.BodyLaws.{body_over, body_compact, one_body}
use Rattle.formula_table.specs.Formulas.{IsForallOf, IsTriggerOf}
use Rattle.formula_table.specs.Entry.{placed, numbered, BecomesForall}

-- a trigger among the numbered ones
numbered_at : (forall place : ℕ) (triggers : List Trigger) (n : ℕ) (trigger : Trigger) →
    slice_get (numbered forall place triggers) n ≡ Some trigger → (old : Trigger) ×
    (slice_get triggers n ≡ Some old) × (trigger ≡ placed forall (place + n) old)
numbered_at forall place [] n trigger at = absurd (none-some trigger at)
numbered_at forall place (t ∷ triggers) zero trigger at = let same : place ≡ place + 0 = omega arith in
    (t, refl, sym (same_Some (placed forall place t) trigger at) ∙ ap (λ (k : ℕ). placed forall k t) same)
numbered_at forall place (t ∷ triggers) (suc n) trigger at =
    let rest = numbered_at forall (place + 1) triggers n trigger at in
    let same : (place + 1) + n ≡ place + suc n = omega arith in
    (rest.0, rest.1, rest.2 ∙ ap (λ (k : ℕ). placed forall k rest.0) same)

occurs_placed : (forall place : ℕ) (trigger : Trigger) {start row : ℕ} {path : List ℕ} →
    Occurs trigger start path row → Occurs (placed forall place trigger) start path row
occurs_placed forall place trigger (at_root at) = at_root at
occurs_placed forall place trigger (below above at part) = below (occurs_placed forall place trigger above) at part

valid_placed : (forall place : ℕ) (trigger : Trigger) → IsValid trigger → IsValid (placed forall place trigger)
valid_placed forall place trigger valid = record {
  earlier = valid.earlier;
  few_parts = valid.few_parts;
  once = valid.once;
  roots = valid.roots;
  some_root = valid.some_root;
  few_roots = valid.few_roots;
  reached = λ row stands. let r = valid.reached row stands in (r.0, r.1, occurs_placed forall place trigger r.2);
  small = valid.small;
  few_variables = valid.few_variables;
  below = valid.below;
  occur = valid.occur;
}

-- a forall of a formula is one of the table
pub becomes_forall : (formula : Formula) → AreLawful formula.rows formula.nodes formula.foralls → (number : ℕ)
    (drafted : DraftForall) (forall : TableForall) → FitsForall formula.rows formula.nodes drafted →
    BecomesForall formula number drafted forall → IsForallOf number forall
becomes_forall formula lawful number drafted forall fits becomes = record {
  few_variables = omega (arith, fits.few_variables, becomes.variables_are);
  triggers = λ place trigger at.
      let old = numbered_at number 0 drafted.triggers place trigger
      (ap (λ (triggers : List Trigger). slice_get triggers place) (sym becomes.triggers_are) ∙ at) in
      let fit = All-slice_get (FitsTrigger drafted.variables) drafted.triggers place old.0 fits.triggers_fit old.1 in
      let here : 0 + place ≡ place = omega arith in
      subst (IsTriggerOf number place forall.variables) (sym old.2)
      (record {
        valid = valid_placed number (0 + place) old.0 fit.valid;
        forall_is = refl;
        place_is = here;
        variables_are = fit.variables_are ∙ sym becomes.variables_are;
      });
  body_over = subst (λ (n : ℕ). IsFormulaOver n forall.body) (sym becomes.variables_are)
      (body_over formula.rows formula.nodes drafted.body formula.foralls lawful drafted.variables fits.no_forall
      fits.below forall.body becomes.body_is);
  no_foralls = becomes.body_is.no_foralls;
  compact = body_compact formula.rows formula.nodes drafted.body forall.body becomes.body_is;
}

-- and in one way
pub one_forall : (formula : Formula) (number : ℕ) (drafted : DraftForall) (forall other : TableForall) →
    BecomesForall formula number drafted forall → BecomesForall formula number drafted other → forall ≡ other
one_forall formula number drafted forall other one two =
    let body = one_body formula.rows formula.nodes drafted.body forall.body other.body one.body_is two.body_is in
    ap (λ (n : ℕ). made n forall.triggers forall.body) (one.variables_are ∙ sym two.variables_are)
    ∙ ap (λ (triggers : List Trigger). made other.variables triggers forall.body) (one.triggers_are
    ∙ sym two.triggers_are)
    ∙ ap (made other.variables other.triggers) body
  where
    made : ℕ → List Trigger → Formula → TableForall
    made variables triggers body = record { variables = variables; triggers = triggers; body = body }
