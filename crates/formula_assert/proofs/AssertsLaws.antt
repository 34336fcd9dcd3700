-- To assert a node has one outcome at most, and adds no terms.
use Rattle.std.proofs.Common.{◌≡◌, ℕ, List, [], ◌∷◌, map, true, false, refl, sym, subst, ◌∙◌, append-nil}
use Rattle.std.specs.List.{before_last}
use Rattle.std.proofs.lemmas.Option.{same_Some}
use Rattle.graph_trigger.specs.declared.trigger.Trigger.{Trigger}
use Rattle.graph_meaning.specs.declared.op.Op.TheVariants.{Merge, Differ, Live}
use Rattle.graph_meaning.proofs.LawfulLaws.{terms_of-push}
use Rattle.graph_terms.proofs.ListLaws.{before_last-miss}
use Rattle.graph_meaning.specs.Standing.{is_push, terms_of}
use Rattle.graph_meaning.specs.State.{GraphState, replay, state_after}
use Rattle.formula_table.specs.declared.node.Node.{Node}
use Rattle.formula_table.specs.declared.node.Node.TheVariants.{Equal, Atom, And, Or, Forall}
use Rattle.formula_table.specs.Formulas.{Formulas}
use Rattle.formula_assert.specs.Held.{Held, triggers_at, operations_of, conjuncts_of, holding}
use Rattle.formula_assert.specs.Asserts.{Asserts, AssertsAll, stands, holds, none, more}

module _ (formulas : Formulas) where
  mutual
    pub asserts_once : {n : ℕ} {before one other : Held} → Asserts formulas n before one →
        Asserts formulas n before other → one ≡ other
    asserts_once (stands is) (stands is') = refl
    asserts_once (stands is) (holds not at all) = absurd (not is)
    asserts_once (holds not at all) (stands is) = absurd (not is)
    asserts_once {n = n} {before = before} {other = other} (holds {node = node} not at all)
        (holds {node = node'} not' at' all') =
        all_once all (subst (λ (x : Node). AssertsAll formulas (conjuncts_of x) (holding formulas n x before) other)
        (same_Some node' node (sym at' ∙ at)) all')

    all_once : {ns : List ℕ} {before one other : Held} → AssertsAll formulas ns before one →
        AssertsAll formulas ns before other → one ≡ other
    all_once none none = refl
    all_once {other = other} (more {ns = ns} first rest) (more first' rest') = all_once rest
        (subst (λ (b : Held). AssertsAll formulas ns b other) (sym (asserts_once first first')) rest')

-- the later graph has the terms of the earlier one, and so had what stood before the last level
pub record KeepsTerms (before after : GraphState) : Type 0 where
  pub terms : terms_of after.standing ≡ terms_of before.standing
  pub last : before_last is_push after.standing ≡ before_last is_push before.standing

-- nothing came
keeps_none : (graph : GraphState) → KeepsTerms graph graph
keeps_none graph = record { terms = refl; last = refl }

-- one after another
keeps_both : (first second third : GraphState) → KeepsTerms first second → KeepsTerms second third →
    KeepsTerms first third
keeps_both first second third one two = record { terms = two.terms ∙ one.terms; last = two.last ∙ one.last }

-- an equation
keeps_merge : (graph : GraphState) (left right : ℕ) → KeepsTerms graph (state_after graph (Merge left right))
keeps_merge graph left right = record {
  terms = terms_of-push graph.standing graph.done (Merge left right) ∙ append-nil (terms_of graph.standing);
  last = before_last-miss is_push graph.standing (record { serial = graph.done; op = Merge left right }) refl;
}

-- a disequation
keeps_differ : (graph : GraphState) (left right : ℕ) → KeepsTerms graph (state_after graph (Differ left right))
keeps_differ graph left right = record {
  terms = terms_of-push graph.standing graph.done (Differ left right) ∙ append-nil (terms_of graph.standing);
  last = before_last-miss is_push graph.standing (record { serial = graph.done; op = Differ left right }) refl;
}

-- a trigger
keeps_live : (graph : GraphState) (trigger : Trigger) → KeepsTerms graph (state_after graph (Live trigger))
keeps_live graph trigger = record {
  terms = terms_of-push graph.standing graph.done (Live trigger) ∙ append-nil (terms_of graph.standing);
  last = before_last-miss is_push graph.standing (record { serial = graph.done; op = Live trigger }) refl;
}

-- some triggers
keeps_all_live : (graph : GraphState) (triggers : List Trigger) → KeepsTerms graph (replay graph (map Live triggers))
keeps_all_live graph [] = keeps_none graph
keeps_all_live graph (trigger ∷ triggers) =
    keeps_both graph (state_after graph (Live trigger)) (replay (state_after graph (Live trigger))
    (map Live triggers)) (keeps_live graph trigger) (keeps_all_live (state_after graph (Live trigger)) triggers)

module _ (formulas : Formulas) where
  -- what a node stands for by itself adds no terms
  pub keeps_operations : (graph : GraphState) (node : Node) →
      KeepsTerms graph (replay graph (operations_of formulas node))
  keeps_operations graph (Equal true left right) = keeps_merge graph left right
  keeps_operations graph (Equal false left right) = keeps_differ graph left right
  keeps_operations graph (Atom true term) = keeps_merge graph term 0
  keeps_operations graph (Atom false term) = keeps_merge graph term 1
  keeps_operations graph (And parts) = keeps_none graph
  keeps_operations graph (Or parts) = keeps_none graph
  keeps_operations graph (Forall forall) = keeps_all_live graph (triggers_at formulas.foralls forall)

  mutual
    -- to assert a node adds no terms
    pub asserts_terms : {n : ℕ} {before after : Held} → Asserts formulas n before after →
        KeepsTerms before.graph after.graph
    asserts_terms {before = before} (stands is) = keeps_none before.graph
    asserts_terms {before = before} {after = after} (holds {node = node} not at all) =
        keeps_both before.graph (replay before.graph (operations_of formulas node)) after.graph
        (keeps_operations before.graph node) (all_terms all)

    all_terms : {ns : List ℕ} {before after : Held} → AssertsAll formulas ns before after →
        KeepsTerms before.graph after.graph
    all_terms {before = before} none = keeps_none before.graph
    all_terms {before = before} {after = after} (more {between = between} first rest) = keeps_both before.graph
        between.graph after.graph (asserts_terms first) (all_terms rest)
