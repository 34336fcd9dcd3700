-- What stays true on the way of a search: terms and formulas are tables, equations are between terms that stand, and
-- each live trigger is one of a forall.
use Rattle.std.proofs.Common.{◌≡◌, ℕ, ◌<◌, true, false, List, [], ◌∷◌, length, slice_get, Some, All}
use Rattle.std.proofs.Common.{Contains, refl, sym, ap, subst, ◌∙◌, arith}
use Rattle.std.specs.Option.{option_map_or}
use Rattle.std.proofs.lemmas.List.Elements.{All-weaker, All-contains}
use Rattle.graph_terms.specs.declared.term_row.TermRow.{TermRow}
use Rattle.graph_terms.specs.Terms.{IsTable}
use Rattle.graph_trigger.specs.declared.trigger.Trigger.{Trigger}
use Rattle.graph_meaning.specs.declared.op.Op.{Op}
use Rattle.graph_meaning.specs.declared.op.Op.TheVariants.{Add, Merge, Differ, Live, Push, Pop}
use Rattle.graph_meaning.specs.Same.{IsClassLeader}
use Rattle.graph_meaning.specs.Standing.{terms_of, merges_of}
use Rattle.graph_meaning.specs.State.{GraphState, replay}
use Rattle.match_store.specs.declared.instance.Instance.{Instance}
use Rattle.match_store.specs.New.{IsNew}
use Rattle.formula_table.specs.declared.node.Node.{Node}
use Rattle.formula_table.specs.declared.node.Node.TheVariants.{Equal, Atom, And, Or, Forall}
use Rattle.formula_table.specs.Formulas.{Formulas, IsFormulaTable, NodesStand}
use Rattle.formula_table.specs.Instance.{HasVariables}
use Rattle.formula_value.specs.Holds.{HasNode}
use Rattle.formula_assert.specs.Held.{Held, triggers_at, operations_of, refuting_of}
use Rattle.formula_assert.specs.Asserts.{Asserts, AssertsAll}
use Rattle.formula_assert.specs.Asserts as asserting
use Rattle.formula_assert.specs.Exactly.{operations_in, IsOfAsserted}
use Rattle.search_laws.specs.Branch.{Branch}
use Rattle.search_laws.specs.Closing.{Closes}
use Rattle.search_laws.specs.Closing as closing
use Rattle.search_laws.specs.Path.{Path}
use Rattle.search_laws.specs.Rounds.{graph_in}
use Rattle.search_laws.specs.Laws.{IsInOrder}
use Rattle.search_laws.proofs.Places.{two_all, contains_none, contains_one, contains_head, with_more}
use Rattle.search_laws.proofs.Places.{place_of, stands_below, map_from}
use Rattle.search_laws.proofs.GraphLemmas.{Does, does, plain_of, plain_refuting, merge_stands, live_stands}
use Rattle.search_laws.proofs.GraphLemmas.{both_stand, truths_stand}

-- the ends of an equation are among the first so many terms, and a live trigger is of a forall with its variables
abbrev pub OpFits : Formulas → ℕ → Op → Type 0
OpFits formulas count (Add symbol args) = Unit {0}
OpFits formulas count (Merge s t) = (s < count) × (t < count)
OpFits formulas count (Differ s t) = Unit {0}
OpFits formulas count (Live trigger) = HasVariables formulas trigger.forall trigger.variables
OpFits formulas count Push = Unit {0}
OpFits formulas count Pop = Unit {0}

-- how many terms the graph has
abbrev pub count_in : GraphState → ℕ
count_in graph = length (terms_of graph.standing)

-- terms and formulas are tables, nodes are over terms that stand, and so is what stands
pub record IsSound (formulas : Formulas) (graph : GraphState) : Type 0 where
  pub terms : IsTable (terms_of graph.standing)
  pub table : IsFormulaTable formulas
  pub stand : NodesStand (count_in graph) formulas.nodes
  pub fits : (op : Op) → Contains (operations_in graph.standing) op → OpFits formulas (count_in graph) op

-- on a path
abbrev pub IsSoundPath : Path → Type 0
IsSoundPath path = IsSound path.formulas (graph_in path)

module _ (formulas : Formulas) (count : ℕ) (table : IsFormulaTable formulas) (stand : NodesStand count formulas.nodes)
    (truths : 1 < count) where
  -- a trigger of a forall has its variables
  trigger_fits : (forall : ℕ) → forall < length formulas.foralls → (trigger : Trigger) →
      Contains (triggers_at formulas.foralls forall) trigger →
      HasVariables formulas trigger.forall trigger.variables
  trigger_fits forall less trigger c =
      let found = stands_below formulas.foralls forall less in
      let triggers : triggers_at formulas.foralls forall ≡ (found.0).triggers =
      ap (λ item. option_map_or (λ quantified. quantified.triggers) item []) found.1 in
      let place = place_of (found.0).triggers trigger (subst (λ list. Contains list trigger) triggers c) in
      let is = (table.foralls forall found.0 found.1).triggers place.0 trigger place.1 in (
        found.0,
        subst (λ n. slice_get formulas.foralls n ≡ Some found.0) (sym is.forall_is) found.1,
        sym is.variables_are,
      )

  one_stands : (term : ℕ) → All (λ term. term < count) (term ∷ []) → term < count
  one_stands term all = All-contains (λ term. term < count) (term ∷ []) term all (contains_head term [])

  -- the operations of a node fit
  pub of_node : (n : ℕ) (node : Node) → HasNode formulas.nodes n node → (op : Op) →
      Contains (operations_of formulas node) op → OpFits formulas count op
  of_node n (Equal true s t) has op c =
      contains_one (OpFits formulas count) (Merge s t) op (two_all (λ term. term < count) s t (stand n (Equal true s t) has)) c
  of_node n (Equal false s t) has op c = contains_one (OpFits formulas count) (Differ s t) op tt c
  of_node n (Atom true term) has op c =
      contains_one (OpFits formulas count) (Merge term 0) op
      (one_stands term (stand n (Atom true term) has), omega (arith, truths)) c
  of_node n (Atom false term) has op c =
      contains_one (OpFits formulas count) (Merge term 1) op (one_stands term (stand n (Atom false term) has), truths) c
  of_node n (And parts) has op c = contains_none op c
  of_node n (Or parts) has op c = contains_none op c
  of_node n (Forall forall) has op c =
      let from = map_from Live (triggers_at formulas.foralls forall) op c in
      subst (OpFits formulas count) from.2
      (trigger_fits forall (table.foralls_stand n forall has) from.0 from.1)

  -- and those that refute it
  pub of_refuted : (n : ℕ) (node : Node) → HasNode formulas.nodes n node → (op : Op) →
      Contains (refuting_of node) op → OpFits formulas count op
  of_refuted n (Equal true s t) has op c = contains_one (OpFits formulas count) (Differ s t) op tt c
  of_refuted n (Equal false s t) has op c =
      contains_one (OpFits formulas count) (Merge s t) op (two_all (λ term. term < count) s t (stand n (Equal false s t) has)) c
  of_refuted n (Atom true term) has op c =
      contains_one (OpFits formulas count) (Merge term 1) op (one_stands term (stand n (Atom true term) has), truths) c
  of_refuted n (Atom false term) has op c =
      contains_one (OpFits formulas count) (Merge term 0) op
      (one_stands term (stand n (Atom false term) has), omega (arith, truths)) c
  of_refuted n (And parts) has op c = contains_none op c
  of_refuted n (Or parts) has op c = contains_none op c
  of_refuted n (Forall forall) has op c = contains_none op c

-- it is so at the start
pub sound_start : (formulas : Formulas) (now : Held) → IsInOrder formulas now → IsSound formulas now.graph
sound_start formulas now order = record {
  terms = order.terms;
  table = order.table;
  stand = order.stand;
  fits = fits;
}
  where
    of_asserted : (op : Op) → IsOfAsserted formulas now op → OpFits formulas (count_in now.graph) op
    of_asserted op of =
        of_node formulas (count_in now.graph) order.table order.stand
        (truths_stand (terms_of now.graph.standing) order.terms) of.n of.node of.has op of.of_node

    fits : (op : Op) → Contains (operations_in now.graph.standing) op → OpFits formulas (count_in now.graph) op
    fits (Add symbol args) c = tt
    fits (Merge s t) c = of_asserted (Merge s t) (order.exactly.merges s t c)
    fits (Differ s t) c = tt
    fits (Live trigger) c = of_asserted (Live trigger) (order.exactly.lives trigger c)
    fits Push c = tt
    fits Pop c = tt

module _ (formulas : Formulas) where
  -- after operations that fit
  sound_after : (before after : GraphState) (ops : List Op) → IsSound formulas before → Does ops before after →
      ((op : Op) → Contains ops op → OpFits formulas (count_in before) op) → IsSound formulas after
  sound_after before after ops sound did new = record {
    terms = subst IsTable (sym did.terms) sound.terms;
    table = sound.table;
    stand = subst (λ (rows : List TermRow). NodesStand (length rows) formulas.nodes) (sym did.terms) sound.stand;
    fits = λ op c. subst (λ (rows : List TermRow). OpFits formulas (length rows) op) (sym did.terms)
        (with_more (OpFits formulas (count_in before)) (operations_in before.standing) ops sound.fits new op
        (subst (λ list. Contains list op) did.operations c));
  }

  sound_holding : (before : GraphState) (n : ℕ) (node : Node) → IsSound formulas before →
      HasNode formulas.nodes n node → IsSound formulas (replay before (operations_of formulas node))
  sound_holding before n node sound has =
      sound_after before (replay before (operations_of formulas node)) (operations_of formulas node) sound
      (does before (operations_of formulas node) (plain_of formulas node))
      (of_node formulas (count_in before) sound.table sound.stand
      (truths_stand (terms_of before.standing) sound.terms) n node has)

  -- where a part is struck
  pub sound_struck : (before : GraphState) (n : ℕ) (node : Node) → IsSound formulas before →
      HasNode formulas.nodes n node → IsSound formulas (replay before (refuting_of node))
  sound_struck before n node sound has =
      sound_after before (replay before (refuting_of node)) (refuting_of node) sound
      (does before (refuting_of node) (plain_refuting node))
      (of_refuted formulas (count_in before) sound.table sound.stand
      (truths_stand (terms_of before.standing) sound.terms) n node has)

  mutual
    -- where a node is asserted
    pub sound_asserts : {n : ℕ} {before after : Held} → Asserts formulas n before after →
        IsSound formulas before.graph → IsSound formulas after.graph
    sound_asserts (asserting.stands c) sound = sound
    sound_asserts (asserting.holds {n} {node} {before} fresh has each) sound =
        sound_all each (sound_holding before.graph n node sound has)

    sound_all : {ns : List ℕ} {before after : Held} → AssertsAll formulas ns before after →
        IsSound formulas before.graph → IsSound formulas after.graph
    sound_all asserting.none sound = sound
    sound_all (asserting.more one others) sound = sound_all others (sound_asserts one sound)

  mutual
    -- to assert a node adds no terms
    pub asserts_rows : {n : ℕ} {before after : Held} → Asserts formulas n before after →
        terms_of after.graph.standing ≡ terms_of before.graph.standing
    asserts_rows (asserting.stands c) = refl
    asserts_rows (asserting.holds {node} {before} fresh has each) =
        all_rows each ∙ (does before.graph (operations_of formulas node) (plain_of formulas node)).terms

    all_rows : {ns : List ℕ} {before after : Held} → AssertsAll formulas ns before after →
        terms_of after.graph.standing ≡ terms_of before.graph.standing
    all_rows asserting.none = refl
    all_rows (asserting.more one others) = all_rows others ∙ asserts_rows one

  -- and where a branch closes
  pub sound_closes : {branch last : Branch} → Closes formulas branch last → IsSound formulas branch.held.graph →
      IsSound formulas last.held.graph
  sound_closes (closing.Closes.conflict c) sound = sound
  sound_closes (closing.Closes.closed none rest) sound = sound
  sound_closes (closing.Closes.step none first asserts others) sound =
      sound_closes others (sound_asserts asserts sound)

-- the forall of the instance has a variable for each term of its tuple, and these terms stand
pub record IsOver (formulas : Formulas) (count : ℕ) (instance : Instance) : Type 0 where
  pub variables : HasVariables formulas instance.forall (length instance.tuple)
  pub stand : All (λ term. term < count) instance.tuple

-- on a path
abbrev pub IsOverPath : Path → Instance → Type 0
IsOverPath path instance = IsOver path.formulas (count_in (graph_in path)) instance

-- so it is of a new instance
pub new_over : (formulas : Formulas) (graph : GraphState) (done : List Instance) (instance : Instance) →
    IsSound formulas graph → IsNew graph.standing done instance → IsOver formulas (count_in graph) instance
new_over formulas graph done instance sound new = record {
  variables = subst (λ n. HasVariables formulas instance.forall n) (sym new.matches.each_variable)
      (subst (λ n. HasVariables formulas n new.trigger.variables) new.of_forall
      (sound.fits (Live new.trigger) (live_stands graph.standing new.trigger new.live)));
  stand = All-weaker
      (λ term. IsClassLeader (terms_of graph.standing) (merges_of graph.standing) term term)
      (λ term. term < count_in graph)
      (λ term leads. (both_stand (terms_of graph.standing) (merges_of graph.standing)
      (λ s t c. sound.fits (Merge s t) (merge_stands graph.standing s t c)) leads.same).0)
      instance.tuple new.matches.leaders;
}
