-- An instance of a forall that was entered, and its root.
use Rattle.std.proofs.Common.{◌≡◌, inl, ℕ, ◌<◌, List, [], ◌++◌, length, slice_get, Some, All, refl, sym, ap, subst, ◌∙◌, append-nil, arith}
use Rattle.std.proofs.lemmas.Option.{none-some, same_Some, slice_get_within}
use Rattle.graph_terms.specs.declared.term_row.TermRow.{TermRow}
use Rattle.graph_meaning.specs.Standing.{terms_of}
use Rattle.graph_meaning.specs.State.{GraphState}
use Rattle.formula_draft.specs.Draft.{Formula}
use Rattle.formula_table.specs.Body.{IsFormulaOver}
use Rattle.formula_table.specs.declared.enter_fault.EnterFault.{EnterFault}
use Rattle.formula_table.specs.declared.enter_fault.EnterFault.TheVariants.{Memory}
use Rattle.formula_table.specs.declared.table_forall.TableForall.{TableForall}
use Rattle.formula_table.specs.Entry.{Enters, EntersRows}
use Rattle.formula_table.specs.Formulas.{Formulas, IsFormulaTable}
use Rattle.formula_table.specs.Instance.{HasVariables, EntersInstance, StopsInstance}
use Rattle.match_graph.specs.GraphTerms.{with_terms}
use Rattle.formula_assert.specs.declared.level.Level.{Level}
use Rattle.formula_assert.specs.Held.{held}
use Rattle.formula_assert.specs.Assertions.{Assertions, held_of}
use Rattle.formula_assert.specs.Asserts.{Asserts}
use Rattle.formula_assert.specs.AssertInstance.{TermsStand, EntersBody, AssertsInstance, StopsAssertInstance}
use Rattle.formula_assert.specs.InLevel.{HoldsMoreOver, KeepsLevels}
use Rattle.formula_assert.specs.StackInside.{IsStackOf, assertions_with}
use Rattle.formula_assert.proofs.Growth.{holds_same}
use Rattle.formula_assert.proofs.StackLemmas.{refused_stack, refused_assert, refused_keeps}
use Rattle.formula_assert.proofs.AssertLemmas.{entered_root, asserted_stack, asserted_keeps}

-- the body of a forall is a formula over as many terms as it has variables
body_over : (table : Formulas) (forall : ℕ) (tuple : List ℕ) → IsFormulaTable table →
    HasVariables table forall (length tuple) → (quantified : TableForall) →
    slice_get table.foralls forall ≡ Some quantified → IsFormulaOver (length tuple) quantified.body
body_over table forall tuple is has quantified at =
    let same : has.0 ≡ quantified = same_Some has.0 quantified (sym has.1 ∙ at) in
    subst (λ (count : ℕ). IsFormulaOver count quantified.body)
    (ap (λ (q : TableForall). q.variables) (sym same) ∙ has.2) (is.foralls forall quantified at).body_over

-- an instance that was entered
module _ (graph entered : GraphState) (table grown : Formulas) (asserted : List ℕ) (levels : List Level)
    (stack : IsStackOf graph table asserted levels) (now : Assertions)
    (view : assertions_with graph table asserted levels ≡ now) (is : IsFormulaTable now.formulas) (forall : ℕ)
    (tuple : List ℕ) (has : HasVariables now.formulas forall (length tuple)) (stand : TermsStand now tuple) (root : ℕ)
    (enters : EntersInstance (λ more. entered ≡ with_terms graph more) forall tuple (terms_of graph.standing)
    graph.limit table grown root) where
  body_is : IsFormulaOver (length tuple) enters.quantified.body
  body_is = body_over table forall tuple (subst (λ (a : Assertions). IsFormulaTable a.formulas) (sym view) is)
      (subst (λ (a : Assertions). HasVariables a.formulas forall (length tuple)) (sym view) has) enters.quantified
      enters.is_forall

  below : All (λ term. term < length (terms_of graph.standing)) tuple
  below = subst (λ (a : Assertions). TermsStand a tuple) (sym view) stand

  abbrev between : Assertions
  between = assertions_with entered grown asserted levels

  -- its root stands
  pub instance_root : root < length grown.nodes
  instance_root = entered_root enters.quantified.body tuple body_is graph entered below table grown graph.limit root
      enters.enters stack.terms_stand

  -- the stack is one
  pub instance_stack : IsStackOf entered grown asserted levels
  instance_stack = asserted_stack enters.quantified.body tuple body_is graph entered below table grown graph.limit root
      enters.enters stack.terms_stand entered asserted asserted levels (holds_same (held entered asserted)) stack

  -- and its levels are as before
  instance_keeps : KeepsLevels (assertions_with graph table asserted levels) between
  instance_keeps = asserted_keeps enters.quantified.body tuple body_is graph entered below table grown graph.limit root
      enters.enters stack.terms_stand entered asserted asserted levels (holds_same (held entered asserted)) stack

  -- as more is held after it was entered
  pub instance_levels : KeepsLevels now between
  instance_levels = subst (λ (a : Assertions). KeepsLevels a between) view instance_keeps

  entered_here : EntersBody forall tuple (assertions_with graph table asserted levels) between root
  entered_here = record {
    quantified = enters.quantified;
    is_forall = enters.is_forall;
    enters = enters.enters;
    asserted_is = refl;
    saved_is = instance_keeps.saved_are;
  }

  -- and its body was entered
  pub instance_entered : EntersBody forall tuple now between root
  instance_entered = subst (λ (a : Assertions). EntersBody forall tuple a between root) view entered_here

-- an instance that was entered is asserted where its root is
pub instance_from : (forall root : ℕ) (tuple : List ℕ) (before entered after : Assertions) →
    EntersBody forall tuple before entered root → HoldsMoreOver entered after →
    Asserts entered.formulas root (held_of entered) (held_of after) → AssertsInstance forall tuple before after
instance_from forall root tuple before entered after enters over asserts = record {
  quantified = enters.quantified;
  is_forall = enters.is_forall;
  asserts_body = record {
    entered = entered.graph;
    root = root;
    enters = subst (λ (formulas : Formulas). Enters (λ more. entered.graph ≡ with_terms before.graph more)
        enters.quantified.body tuple (terms_of before.graph.standing) before.graph.limit before.formulas formulas root)
        (sym over.formulas_are) enters.enters;
    asserts = subst (λ (formulas : Formulas).
        Asserts formulas root (held entered.graph before.asserted) (held_of after)) (sym over.formulas_are)
        (subst (λ (nodes : List ℕ). Asserts entered.formulas root (held entered.graph nodes) (held_of after))
        enters.asserted_is asserts);
    saved_is = over.saved_are ∙ enters.saved_is;
  };
}

-- no rows were entered
no_rows : (formula : Formula) (tuple : List ℕ) (rows : List TermRow) (limit : ℕ) →
    EntersRows formula tuple rows limit [] []
no_rows formula tuple rows limit = record {
  stand = λ n x less. absurd (omega arith);
  things = [];
  rising = λ i j d a b. absurd (omega (arith, b));
  count = refl;
  each = λ k n x thing. absurd (none-some n thing);
  first = λ k m n x thing. absurd (none-some n thing);
  once = λ i j x one other behind. let within = slice_get_within (rows ++ []) j x other in
      absurd (omega (arith, within, ap length (append-nil rows)));
  room = inl refl;
}

-- all is as before
pub instance_undone : (before after : Assertions) (forall : ℕ) (tuple : List ℕ) (n : ℕ) →
    HasVariables before.formulas forall n → after ≡ before → StopsAssertInstance forall tuple before after Memory
instance_undone before after forall tuple n has is = record {
  quantified = has.0;
  is_forall = has.1;
  stops_body = (
    record {
      added = [];
      terms = [];
      grew = ap (λ (now : Assertions). now.graph) is;
      enters = no_rows has.0.body tuple (terms_of before.graph.standing) before.graph.limit;
    },
    record {
      formulas_are = ap (λ (now : Assertions). now.formulas) is;
      asserted_are = ap (λ (now : Assertions). now.asserted) is;
      saved_are = ap (λ (now : Assertions). now.saved) is;
    },
  );
}

-- an instance that was not entered
module _ (graph later : GraphState) (table same : Formulas) (asserted : List ℕ) (levels : List Level)
    (stack : IsStackOf graph table asserted levels) (now : Assertions)
    (view : assertions_with graph table asserted levels ≡ now) (forall : ℕ) (tuple : List ℕ) (fault : EnterFault)
    (is : same ≡ table) (stops : StopsInstance (λ more. later ≡ with_terms graph more)
    (λ added. (middle : GraphState) × (middle ≡ with_terms graph added) × (later ≡ middle)) forall tuple
    (terms_of graph.standing) graph.limit table fault) where
  abbrev left : Assertions
  left = assertions_with later same asserted levels

  -- leaves a stack
  pub no_instance_stack : IsStackOf later same asserted levels
  no_instance_stack = refused_stack graph later table same asserted levels stops.quantified.body tuple fault stack is
      stops.stops

  not_here : StopsAssertInstance forall tuple (assertions_with graph table asserted levels) left fault
  not_here = record {
    quantified = stops.quantified;
    is_forall = stops.is_forall;
    stops_body = refused_assert graph later table same asserted levels stops.quantified.body tuple fault stack is
        stops.stops;
  }

  -- is not asserted
  pub no_instance_asserted : StopsAssertInstance forall tuple now left fault
  no_instance_asserted = subst (λ (a : Assertions). StopsAssertInstance forall tuple a left fault) view not_here

  -- and leaves the levels as before
  pub no_instance_keeps : KeepsLevels now left
  no_instance_keeps = subst (λ (a : Assertions). KeepsLevels a left) view
      (refused_keeps graph later table same asserted levels stops.quantified.body tuple fault stack is stops.stops)
