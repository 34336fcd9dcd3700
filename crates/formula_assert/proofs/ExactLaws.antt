-- What a stack holds is exactly what its asserted nodes stand for, in each of its levels.
use Rattle.std.proofs.Common.{◌≡◌, ℕ, List, [], ◌∷◌, map, All, sym, ap, subst, ◌∙◌, append-nil, arith}
use Rattle.std.specs.List.{before_last}
use Rattle.std.proofs.lemmas.List.Elements.{All-nil, All-cons, All-map}
use Rattle.graph_terms.specs.declared.term_row.TermRow.{TermRow}
use Rattle.graph_meaning.specs.declared.op.Op.TheVariants.{Push, Pop}
use Rattle.graph_meaning.specs.Standing.{is_push}
use Rattle.graph_meaning.specs.State.{GraphState, state_after}
use Rattle.formula_draft.specs.Draft.{Formula}
use Rattle.formula_table.specs.declared.enter_fault.EnterFault.{EnterFault}
use Rattle.formula_table.specs.declared.enter_fault.EnterFault.TheVariants.{TermsFull, NodesFull, Memory}
use Rattle.formula_table.specs.Formulas.{Formulas, GrowsTable}
use Rattle.match_graph.specs.GraphTerms.{adding, with_terms}
use Rattle.formula_assert.specs.Held.{held}
use Rattle.formula_assert.specs.Assertions.{Saved, Assertions, no_assertions, pushed, popped, restored}
use Rattle.formula_assert.specs.AssertFormula.{AssertsOver, AssertsFormula, StopsOver, StopsAssert, KeepsFormulas}
use Rattle.formula_assert.specs.AssertInstance.{AssertsInstance, StopsAssertInstance}
use Rattle.formula_assert.specs.Exactly.{operations_in, HoldsExactly, WereExact, AreExact}
use Rattle.formula_assert.specs.Tables.{AreTables}
use Rattle.formula_assert.proofs.AssertsLaws.{asserts_terms}
use Rattle.formula_assert.proofs.Growth.{all_adding, grows_terms, last_same, before_last-opened}
use Rattle.formula_assert.proofs.StackLemmas.{grows_entered}
use Rattle.formula_assert.proofs.ExactLemmas.{IsNoLink, ops_replayed, ops_pushed, exact_grown, exact_table, exact_asserted}

-- it is so at the start
pub exact_at_start : (terms nodes : ℕ) → AreExact (no_assertions terms nodes)
exact_at_start terms nodes = record {
  present = record {
    nodes = λ n c. absurd (omega (arith, c.1));
    merges = λ s t c. absurd (omega (arith, c.1));
    differs = λ s t c. absurd (omega (arith, c.1));
    lives = λ trigger c. absurd (omega (arith, c.1));
  };
  saved = tt;
}

-- the same operations stand
exact_alike : (formulas : Formulas) (graph later : GraphState) (asserted : List ℕ) →
    later.standing ≡ graph.standing → HoldsExactly formulas (held graph asserted) →
    HoldsExactly formulas (held later asserted)
exact_alike formulas graph later asserted same exact =
    exact_grown formulas graph later asserted []
    (ap operations_in same ∙ sym (append-nil (operations_in graph.standing))) (All-nil IsNoLink) exact

-- what was exact when the levels were opened, where the later graph has the same before its last level
were_alike : (graph later : GraphState) (saved : List Saved) →
    before_last is_push later.standing ≡ before_last is_push graph.standing → WereExact graph saved →
    WereExact later saved
were_alike graph later [] same were = tt
were_alike graph later (level ∷ saved) same were = (
  exact_alike level.formulas (state_after graph Pop) (state_after later Pop) level.asserted same were.0,
  were_alike (state_after graph Pop) (state_after later Pop) saved (ap (before_last is_push) same) were.1,
)

-- the same, where it is what stands
were_opened : (graph later : GraphState) (saved : List Saved) → later.standing ≡ graph.standing →
    WereExact graph saved → WereExact later saved
were_opened graph later saved same were = were_alike graph later saved (ap (before_last is_push) same) were

-- when a level is opened
pub exact_pushed : (now : Assertions) → AreExact now → AreExact (pushed now)
exact_pushed now are =
    let opened = before_last-opened now.graph.standing now.graph.done in
    record {
      present = exact_grown now.formulas now.graph (state_after now.graph Push) now.asserted (Push ∷ [])
          (ops_pushed now.graph.standing now.graph.done Push) (All-cons IsNoLink Push [] tt (All-nil IsNoLink))
          are.present;
      saved = (
        exact_alike now.formulas now.graph (state_after (state_after now.graph Push) Pop) now.asserted opened are.present,
        were_opened now.graph (state_after (state_after now.graph Push) Pop) now.saved opened are.saved,
      );
    }

exact_restored : (now : Assertions) (saved : List Saved) → AreExact now → WereExact now.graph saved →
    AreExact (restored now saved)
exact_restored now [] are were = are
exact_restored now (level ∷ saved) are were = record { present = were.0; saved = were.1 }

-- and when one ends
pub exact_popped : (now : Assertions) → AreExact now → AreExact (popped now)
exact_popped now are = exact_restored now now.saved are are.saved

-- terms are neither equations nor disequations nor triggers
no_links : (rows : List TermRow) → All IsNoLink (map adding rows)
no_links rows = All-map IsNoLink adding rows (λ k d less. tt)

-- when a graph gains terms
exact_terms : (formulas : Formulas) (graph later : GraphState) (asserted : List ℕ) (rows : List TermRow) →
    later ≡ with_terms graph rows → HoldsExactly formulas (held graph asserted) →
    HoldsExactly formulas (held later asserted)
exact_terms formulas graph later asserted rows grew exact =
    exact_grown formulas graph later asserted (map adding rows)
    (ap (λ (g : GraphState). operations_in g.standing) grew
    ∙ ops_replayed graph (map adding rows) (all_adding rows))
    (no_links rows) exact

-- when a formula is asserted
exact_over : (formula : Formula) (tuple : List ℕ) (before after : Assertions) → AreTables before → AreExact before →
    AssertsOver formula tuple before after → AreExact after
exact_over formula tuple before after tables are asserts =
    let added = asserts.enters.rows_grow.added in
    let grew : asserts.entered ≡ with_terms before.graph added = asserts.enters.rows_grow.grew in
    let table : GrowsTable before.formulas after.formulas = grows_entered formula asserts.enters.terms before.formulas
    after.formulas asserts.root asserts.enters.table_grows in
    let entered : HoldsExactly after.formulas (held asserts.entered before.asserted) =
    exact_terms after.formulas before.graph asserts.entered before.asserted added grew
    (exact_table before.formulas after.formulas tables.formulas.table table (held before.graph before.asserted) are.present) in
    let last : before_last is_push after.graph.standing ≡ before_last is_push before.graph.standing =
    (asserts_terms after.formulas asserts.asserts).last
    ∙ last_same before.graph asserts.entered (grows_terms before.graph asserts.entered added grew) in
    record {
      present = exact_asserted after.formulas asserts.root (held asserts.entered before.asserted)
          (held after.graph after.asserted) entered asserts.asserts;
      saved = subst (WereExact after.graph) (sym asserts.saved_is)
          (were_alike before.graph after.graph before.saved last are.saved);
    }

-- where only terms came
only_terms : (before after : Assertions) (rows : List TermRow) → after.graph ≡ with_terms before.graph rows →
    KeepsFormulas before after → AreExact before → AreExact after
only_terms before after rows grew keeps are = record {
  present = subst (λ (formulas : Formulas). HoldsExactly formulas (held after.graph after.asserted))
      (sym keeps.formulas_are)
      (subst (λ (asserted : List ℕ). HoldsExactly before.formulas (held after.graph asserted)) (sym keeps.asserted_are)
      (exact_terms before.formulas before.graph after.graph before.asserted rows grew are.present));
  saved = subst (WereExact after.graph) (sym keeps.saved_are)
      (were_alike before.graph after.graph before.saved
      (last_same before.graph after.graph (grows_terms before.graph after.graph rows grew)) are.saved);
}

-- and when one is refused
exact_stopped_over : (formula : Formula) (tuple : List ℕ) (before after : Assertions) (fault : EnterFault) → AreExact before →
    StopsOver formula tuple before after fault → AreExact after
exact_stopped_over formula tuple before after TermsFull are stops =
    only_terms before after stops.0.added stops.0.grew stops.1 are
exact_stopped_over formula tuple before after NodesFull are stops =
    only_terms before after stops.0.rows_grow.added stops.0.rows_grow.grew stops.1 are
exact_stopped_over formula tuple before after Memory are stops =
    only_terms before after stops.0.added stops.0.grew stops.1 are

-- of a formula, over no tuple
pub exact_formula : (formula : Formula) (before after : Assertions) → AreTables before → AreExact before →
    AssertsFormula formula before after → AreExact after
exact_formula formula before after tables are asserts = exact_over formula [] before after tables are asserts

pub exact_stopped : (formula : Formula) (before after : Assertions) (fault : EnterFault) → AreExact before →
    StopsAssert formula before after fault → AreExact after
exact_stopped formula before after fault are stops = exact_stopped_over formula [] before after fault are stops

-- of an instance of a forall
pub exact_instance : (forall : ℕ) (tuple : List ℕ) (before after : Assertions) → AreTables before →
    AreExact before → AssertsInstance forall tuple before after → AreExact after
exact_instance forall tuple before after tables are asserts =
    exact_over asserts.quantified.body tuple before after tables are asserts.asserts_body

pub exact_stopped_instance : (forall : ℕ) (tuple : List ℕ) (before after : Assertions) (fault : EnterFault) →
    AreExact before → StopsAssertInstance forall tuple before after fault → AreExact after
exact_stopped_instance forall tuple before after fault are stops =
    exact_stopped_over stops.quantified.body tuple before after fault are stops.stops_body
