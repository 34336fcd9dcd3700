-- What stands stays made of tables, and over tables a formula is asserted in one way, and refused in one way but for
-- want of memory.
use Rattle.std.proofs.Common.{◌≡◌, ◌≢◌, ℕ, ◌++◌, List, [], ◌∷◌, length, slice_get, Some, refl, sym, ap, ap₂, subst, ◌∙◌, append-nil, arith}
use Rattle.std.specs.List.{before_last}
use Rattle.std.proofs.lemmas.Option.{none-some, same_Some}
use Rattle.graph_meaning.specs.declared.done.Done.{Done}
use Rattle.graph_terms.specs.declared.term_row.TermRow.{TermRow}
use Rattle.graph_meaning.specs.declared.op.Op.TheVariants.{Push}
use Rattle.graph_meaning.specs.Lawful.{IsLawful}
use Rattle.graph_meaning.proofs.LawfulLaws.{then_op, terms_of-push, IsLawful-take}
use Rattle.graph_terms.proofs.ListLaws.{before_last-hit, before_last-miss}
use Rattle.graph_meaning.specs.Standing.{is_push, terms_of}
use Rattle.graph_meaning.specs.State.{GraphState, state_after}
use Rattle.graph_terms.proofs.TableLaws.{IsTable-first}
use Rattle.graph_terms.specs.Terms.{IsTable}
use Rattle.formula_draft.specs.Draft.{Formula, IsFormula}
use Rattle.formula_table.specs.declared.enter_fault.EnterFault.{EnterFault}
use Rattle.formula_table.specs.declared.enter_fault.EnterFault.TheVariants.{TermsFull, NodesFull, Memory}
use Rattle.formula_table.proofs.EntryLaws.{enters_once-into, full_terms_once, full_terms_not_entered}
use Rattle.formula_table.proofs.EntryLaws.{full_terms_not_lacking, lacking_nodes_once, lacking_nodes_not_entered}
use Rattle.formula_table.specs.Formulas.{Formulas, IsFormulaTable, NodesStand, no_formulas}
use Rattle.formula_table.proofs.BecomesLaws.{over_none}
use Rattle.formula_table.proofs.StandLaws.{stands_after}
use Rattle.match_graph.specs.GraphTerms.{adding, with_terms}
use Rattle.match_graph.specs.GraphTermsLaws.{terms-with_terms}
use Rattle.formula_assert.specs.Tables.{WereTables, AreTables}
use Rattle.formula_assert.specs.Held.{Held, held}
use Rattle.formula_assert.specs.Asserts.{Asserts}
use Rattle.formula_assert.specs.Assertions.{Saved, Assertions, held_of, no_assertions, pushed, popped, restored}
use Rattle.formula_assert.specs.AssertFormula.{AssertsOver, AssertsFormula, StopsOver, StopsAssert, KeepsFormulas}
use Rattle.formula_assert.specs.AssertInstance.{TermsStand, AssertsInstance, StopsAssertInstance}
use Rattle.formula_assert.proofs.AssertLemmas.{none_below}
use Rattle.formula_table.specs.Body.{IsFormulaOver}
use Rattle.formula_table.specs.Instance.{HasVariables}
use Rattle.formula_table.specs.declared.table_forall.TableForall.{TableForall}
use Rattle.formula_assert.proofs.AssertsLaws.{asserts_once, asserts_terms}
use Rattle.formula_assert.specs.Stands.{IsTableOver, AreAssertions, AreSaved}

-- no formulas are a table
no_formulas_table : (limit : ℕ) → IsFormulaTable (no_formulas limit)
no_formulas_table limit = record {
  earlier = λ n node at. absurd (none-some node at);
  ascending = λ n left right positive at. absurd (none-some _ at);
  once = λ m n node at also. absurd (none-some node at);
  foralls_stand = λ n forall at. absurd (none-some _ at);
  foralls = λ n forall at. absurd (none-some forall at);
  within = omega arith;
}

-- they are at the start
pub tables_at_start : (terms nodes : ℕ) → AreTables (no_assertions terms nodes)
tables_at_start terms nodes = record {
  terms = IsTable-first;
  formulas = record { table = no_formulas_table nodes; terms = λ n node at. absurd (none-some node at) };
  saved = tt;
}

-- what was a table when the levels were opened, where the later graph has the same before its last level
were_alike : (standing later : List Done) (saved : List Saved) →
    before_last is_push later ≡ before_last is_push standing → WereTables standing saved → WereTables later saved
were_alike standing later [] same were = tt
were_alike standing later (level ∷ saved) same were = subst (λ (list : List Done). IsTable (terms_of list) ×
    IsTableOver (length (terms_of list)) level.formulas × WereTables list saved) (sym same) were

-- a level that opens saves tables
were_opened : (standing : List Done) (serial : ℕ) (level : Saved) (saved : List Saved) → IsTable (terms_of standing) →
    IsTableOver (length (terms_of standing)) level.formulas → WereTables standing saved →
    WereTables (then_op standing serial Push) (level ∷ saved)
were_opened standing serial level saved terms formulas were =
    subst (λ (list : List Done). IsTable (terms_of list) × IsTableOver (length (terms_of list)) level.formulas ×
    WereTables list saved) (sym (before_last-hit is_push standing (record { serial = serial; op = Push }) refl))
    (terms, formulas, were)

-- they are when a level is opened
pub tables_pushed : (now : Assertions) → AreTables now → AreTables (pushed now)
tables_pushed now are =
    let same : terms_of (then_op now.graph.standing now.graph.done Push) ≡ terms_of now.graph.standing =
    terms_of-push now.graph.standing now.graph.done Push ∙ append-nil (terms_of now.graph.standing) in
    record {
      terms = subst IsTable (sym same) are.terms;
      formulas = subst (λ (rows : List TermRow). IsTableOver (length rows) now.formulas) (sym same) are.formulas;
      saved = were_opened now.graph.standing now.graph.done
          (record { formulas = now.formulas; asserted = now.asserted }) now.saved are.terms are.formulas are.saved;
    }

tables_restored : (now : Assertions) (saved : List Saved) → AreTables now → WereTables now.graph.standing saved →
    AreTables (restored now saved)
tables_restored now [] are were = are
tables_restored now (level ∷ saved) are were = record { terms = were.0; formulas = were.1; saved = were.2 }

-- and when one ends
pub tables_popped : (now : Assertions) → AreTables now → AreTables (popped now)
tables_popped now are = tables_restored now now.saved are are.saved

-- terms that a graph gains come after what stood before the last level
last-with_terms : (graph : GraphState) (rows : List TermRow) →
    before_last is_push (with_terms graph rows).standing ≡ before_last is_push graph.standing
last-with_terms graph [] = refl
last-with_terms graph (row ∷ rows) =
    last-with_terms (state_after graph (adding row)) rows
    ∙ before_last-miss is_push graph.standing (record { serial = graph.done; op = adding row }) refl

-- they are when a formula is asserted
pub tables_over : (formula : Formula) (tuple : List ℕ) (before after : Assertions) → IsFormulaOver (length tuple) formula → TermsStand before tuple → AreTables before →
    AssertsOver formula tuple before after → AreTables after
tables_over formula tuple before after is below are asserts =
    let added = asserts.enters.rows_grow.added in
    let grew : asserts.entered ≡ with_terms before.graph added = asserts.enters.rows_grow.grew in
    let all = stands_after (λ more. asserts.entered ≡ with_terms before.graph more) formula tuple is
    (terms_of before.graph.standing) below before.graph.limit before.formulas after.formulas asserts.root asserts.enters
    in
    let kept = asserts_terms after.formulas asserts.asserts in
    let terms : terms_of after.graph.standing ≡ terms_of before.graph.standing ++ added = kept.terms
    ∙ ap (λ (graph : GraphState). terms_of graph.standing) grew ∙ terms-with_terms before.graph added in
    let last : before_last is_push after.graph.standing ≡ before_last is_push before.graph.standing = kept.last
    ∙ ap (λ (graph : GraphState). before_last is_push graph.standing) grew ∙ last-with_terms before.graph added in
    record {
      terms = subst IsTable (sym terms) (all.rows_stand are.terms);
      formulas = record {
        table = all.formulas_stand are.formulas.table;
        terms = subst (λ (rows : List TermRow). NodesStand (length rows) after.formulas.nodes) (sym terms)
            (all.terms_stand are.formulas.terms);
      };
      saved = subst (WereTables after.graph.standing) (sym asserts.saved_is)
          (were_alike before.graph.standing after.graph.standing before.saved last are.saved);
    }

were_lawful : (standing : List Done) (saved : List Saved) → IsLawful standing → AreSaved standing saved →
    WereTables standing saved
were_lawful standing [] lawful are = tt
were_lawful standing (level ∷ saved) lawful are =
    let before : IsLawful (before_last is_push standing) = IsLawful-take _ standing lawful in
    (before.whole.table, are.1, were_lawful (before_last is_push standing) saved before are.2)

-- they are in what a stack holds
pub tables_stand : (now : Assertions) → AreAssertions now → AreTables now
tables_stand now are = record {
  terms = are.lawful.whole.table;
  formulas = are.formulas;
  saved = were_lawful now.graph.standing now.saved are.lawful are.saved;
}

abbrev all_of : Held → Formulas → List Saved → Assertions
all_of now formulas saved = record { graph = now.graph; formulas = formulas; asserted = now.asserted; saved = saved }

same_all : (one other : Assertions) → held_of one ≡ held_of other → one.formulas ≡ other.formulas →
    one.saved ≡ other.saved → one ≡ other
same_all one other holds formulas saved =
    ap (λ (now : Held). all_of now one.formulas one.saved) holds
    ∙ ap (λ (table : Formulas). all_of (held_of other) table one.saved) formulas
    ∙ ap (all_of (held_of other) other.formulas) saved

-- a formula is asserted in one way
pub over_once : (formula : Formula) (tuple : List ℕ) (before one other : Assertions) → IsFormulaOver (length tuple) formula →
    TermsStand before tuple → AreTables before → AssertsOver formula tuple before one → AssertsOver formula tuple before other → one ≡ other
over_once formula tuple before one other is below are first second =
    let entry = enters_once-into (with_terms before.graph) first.entered second.entered formula tuple is
    (terms_of before.graph.standing) below are.terms before.graph.limit before.formulas are.formulas.table one.formulas
    other.formulas first.root second.root first.enters second.enters in
    let moved : Asserts one.formulas first.root (held first.entered before.asserted) (held_of other) =
    subst (λ (table : Formulas). Asserts table first.root (held first.entered before.asserted) (held_of other))
    (sym entry.1)
    (subst (λ (n : ℕ). Asserts other.formulas n (held first.entered before.asserted) (held_of other)) (sym entry.2)
    (subst (λ (graph : GraphState). Asserts other.formulas second.root (held graph before.asserted) (held_of other))
    (sym entry.0) second.asserts)) in
    same_all one other (asserts_once one.formulas first.asserts moved) entry.1 (first.saved_is ∙ sym second.saved_is)

-- and then there was room for its terms
pub full_terms_not_asserted : (formula : Formula) (tuple : List ℕ) (before one other : Assertions) → IsFormulaOver (length tuple) formula →
    TermsStand before tuple → AreTables before → AssertsOver formula tuple before one → StopsOver formula tuple before other TermsFull → ⊥
full_terms_not_asserted formula tuple before one other is below are asserts stops =
    full_terms_not_entered (λ more. other.graph ≡ with_terms before.graph more) (λ more. asserts.entered
    ≡ with_terms before.graph more) formula tuple is (terms_of before.graph.standing)
    below are.terms before.graph.limit
    before.formulas are.formulas.table one.formulas asserts.root stops.0 asserts.enters

-- and for its nodes
pub lacking_nodes_not_asserted : (formula : Formula) (tuple : List ℕ) (before one other : Assertions) → IsFormulaOver (length tuple) formula →
    TermsStand before tuple → AreTables before → AssertsOver formula tuple before one → StopsOver formula tuple before other NodesFull → ⊥
lacking_nodes_not_asserted formula tuple before one other is below are asserts stops =
    lacking_nodes_not_entered (λ more. other.graph ≡ with_terms before.graph more) (λ more. asserts.entered
    ≡ with_terms before.graph more) formula tuple is (terms_of before.graph.standing)
    below are.terms before.graph.limit
    before.formulas are.formulas.table one.formulas asserts.root stops.0 asserts.enters

-- where there is no room for its terms, it does not come to its nodes
pub full_terms_not_lacking_nodes : (formula : Formula) (tuple : List ℕ) (before one other : Assertions) → IsFormulaOver (length tuple) formula →
    TermsStand before tuple → AreTables before → StopsOver formula tuple before one TermsFull → StopsOver formula tuple before other NodesFull → ⊥
full_terms_not_lacking_nodes formula tuple before one other is below are first second =
    full_terms_not_lacking (λ more. one.graph ≡ with_terms before.graph more) (λ more. other.graph
    ≡ with_terms before.graph more) formula tuple is (terms_of before.graph.standing)
    below are.terms before.graph.limit
    before.formulas are.formulas.table first.0 second.0

-- a formula that is asserted is not refused, but for want of memory
pub over_not_stopped : (formula : Formula) (tuple : List ℕ) (before one other : Assertions) (fault : EnterFault) →
    IsFormulaOver (length tuple) formula → TermsStand before tuple → AreTables before → (fault ≢ Memory) → AssertsOver formula tuple before one →
    StopsOver formula tuple before other fault → ⊥
over_not_stopped formula tuple before one other TermsFull is below are not asserts stops = full_terms_not_asserted formula tuple
    before one other is below are asserts stops
over_not_stopped formula tuple before one other NodesFull is below are not asserts stops = lacking_nodes_not_asserted formula tuple
    before one other is below are asserts stops
over_not_stopped formula tuple before one other Memory is below are not asserts stops = not refl

kept_alike : (before one other : Assertions) → one.graph ≡ other.graph → KeepsFormulas before one →
    KeepsFormulas before other → one ≡ other
kept_alike before one other graph first second =
    same_all one other (ap₂ held graph (first.asserted_are ∙ sym second.asserted_are)) (first.formulas_are
    ∙ sym second.formulas_are) (first.saved_are ∙ sym second.saved_are)

-- a formula is refused in one way, but for want of memory
pub over_stopped_once : (formula : Formula) (tuple : List ℕ) (before one other : Assertions) (fault also : EnterFault) → IsFormulaOver (length tuple) formula →
    TermsStand before tuple → AreTables before → (fault ≢ Memory) → (also ≢ Memory) → StopsOver formula tuple before one fault →
    StopsOver formula tuple before other also → (fault ≡ also) × (one ≡ other)
over_stopped_once formula tuple before one other TermsFull TermsFull is below are not so first second =
    let both = full_terms_once (λ more. one.graph ≡ with_terms before.graph more) (λ more. other.graph
    ≡ with_terms before.graph more) formula tuple is (terms_of before.graph.standing)
    below are.terms before.graph.limit
    before.formulas are.formulas.table first.0 second.0 in
    (refl, kept_alike before one other (both.grew ∙ sym both.also) first.1 second.1)
over_stopped_once formula tuple before one other NodesFull NodesFull is below are not so first second =
    let both = lacking_nodes_once (λ more. one.graph ≡ with_terms before.graph more) (λ more. other.graph
    ≡ with_terms before.graph more) formula tuple is (terms_of before.graph.standing)
    below are.terms before.graph.limit
    before.formulas are.formulas.table first.0 second.0 in
    (refl, kept_alike before one other (both.grew ∙ sym both.also) first.1 second.1)
over_stopped_once formula tuple before one other TermsFull NodesFull is below are not so first second = absurd
    (full_terms_not_lacking_nodes formula tuple before one other is below are first second)
over_stopped_once formula tuple before one other NodesFull TermsFull is below are not so first second = absurd
    (full_terms_not_lacking_nodes formula tuple before other one is below are second first)
over_stopped_once formula tuple before one other TermsFull Memory is below are not so first second = absurd (so refl)
over_stopped_once formula tuple before one other NodesFull Memory is below are not so first second = absurd (so refl)
over_stopped_once formula tuple before one other Memory also is below are not so first second = absurd (not refl)

-- of a formula, over no tuple
pub tables_asserted : (formula : Formula) (before after : Assertions) → IsFormula formula → AreTables before →
    AssertsFormula formula before after → AreTables after
tables_asserted formula before after is are asserts =
    tables_over formula [] before after (over_none formula is) (none_below before.graph) are asserts

pub asserts_formula_once : (formula : Formula) (before one other : Assertions) → IsFormula formula →
    AreTables before → AssertsFormula formula before one → AssertsFormula formula before other → one ≡ other
asserts_formula_once formula before one other is are first second =
    over_once formula [] before one other (over_none formula is) (none_below before.graph) are first second

pub asserted_not_stopped : (formula : Formula) (before one other : Assertions) (fault : EnterFault) →
    IsFormula formula → AreTables before → (fault ≢ Memory) → AssertsFormula formula before one →
    StopsAssert formula before other fault → ⊥
asserted_not_stopped formula before one other fault is are not asserts stops = over_not_stopped formula [] before one
    other fault (over_none formula is) (none_below before.graph) are not asserts stops

pub stopped_once : (formula : Formula) (before one other : Assertions) (fault also : EnterFault) → IsFormula formula →
    AreTables before → (fault ≢ Memory) → (also ≢ Memory) → StopsAssert formula before one fault →
    StopsAssert formula before other also → (fault ≡ also) × (one ≡ other)
stopped_once formula before one other fault also is are not so first second = over_stopped_once formula [] before one
    other fault also (over_none formula is) (none_below before.graph) are not so first second

-- of an instance of a forall
module _ (forall : ℕ) (tuple : List ℕ) (before : Assertions) (has : HasVariables before.formulas forall (length tuple))
    (stand : TermsStand before tuple) (are : AreTables before) where
  -- its body is a formula over the tuple
  body_over : (quantified : TableForall) → slice_get before.formulas.foralls forall ≡ Some quantified →
      IsFormulaOver (length tuple) quantified.body
  body_over quantified at =
      let same : has.0 ≡ quantified = same_Some has.0 quantified (sym has.1 ∙ at) in
      subst (λ (count : ℕ). IsFormulaOver count quantified.body)
      (ap (λ (q : TableForall). q.variables) (sym same) ∙ has.2)
      (are.formulas.table.foralls forall quantified at).body_over

  pub tables_instance : (after : Assertions) → AssertsInstance forall tuple before after → AreTables after
  tables_instance after asserts = tables_over asserts.quantified.body tuple before after
      (body_over asserts.quantified asserts.is_forall) stand are asserts.asserts_body

  pub instance_once : (one other : Assertions) → AssertsInstance forall tuple before one →
      AssertsInstance forall tuple before other → one ≡ other
  instance_once one other first second =
      let same : second.quantified ≡ first.quantified = same_Some second.quantified first.quantified
      (sym second.is_forall ∙ first.is_forall) in
      over_once first.quantified.body tuple before one other (body_over first.quantified first.is_forall) stand are
      first.asserts_body
      (subst (λ (q : TableForall). AssertsOver q.body tuple before other) same second.asserts_body)

  pub instance_not_stopped : (one other : Assertions) (fault : EnterFault) → (fault ≢ Memory) →
      AssertsInstance forall tuple before one → StopsAssertInstance forall tuple before other fault → ⊥
  instance_not_stopped one other fault not asserts stops =
      let same : stops.quantified ≡ asserts.quantified = same_Some stops.quantified asserts.quantified
      (sym stops.is_forall ∙ asserts.is_forall) in
      over_not_stopped asserts.quantified.body tuple before one other fault
      (body_over asserts.quantified asserts.is_forall) stand are not asserts.asserts_body
      (subst (λ (q : TableForall). StopsOver q.body tuple before other fault) same stops.stops_body)

  pub instance_stopped_once : (one other : Assertions) (fault also : EnterFault) → (fault ≢ Memory) →
      (also ≢ Memory) → StopsAssertInstance forall tuple before one fault →
      StopsAssertInstance forall tuple before other also → (fault ≡ also) × (one ≡ other)
  instance_stopped_once one other fault also not so first second =
      let same : second.quantified ≡ first.quantified = same_Some second.quantified first.quantified
      (sym second.is_forall ∙ first.is_forall) in
      over_stopped_once first.quantified.body tuple before one other fault also
      (body_over first.quantified first.is_forall) stand are not so first.stops_body
      (subst (λ (q : TableForall). StopsOver q.body tuple before other also) same second.stops_body)
