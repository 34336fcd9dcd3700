-- Live triggers come from asserted foralls, as more is asserted.
use Rattle.std.proofs.Common.{◌≡◌, ℕ, ◌<◌, List, [], ◌∷◌, length, Contains}
use Rattle.std.proofs.Common.{true, false, refl, subst, ⊎_elim}
use Rattle.std.proofs.lemmas.List.Elements.{All-nil, All-cons, All-append, Contains-append_left, Contains-push}
use Rattle.graph_trigger.specs.declared.trigger.Trigger.{Trigger}
use Rattle.graph_meaning.specs.declared.op.Op.{Op}
use Rattle.graph_meaning.specs.declared.op.Op.TheVariants.{Merge, Differ, Live}
use Rattle.graph_meaning.specs.State.{replay}
use Rattle.formula_table.specs.declared.node.Node.{Node}
use Rattle.formula_table.specs.declared.node.Node.TheVariants.{Equal, Atom, And, Or, Forall}
use Rattle.formula_table.specs.Formulas.{Formulas}
use Rattle.formula_value.specs.Holds.{HasNode}
use Rattle.formula_assert.specs.Held.{Held, held, operations_of, refuting_of, holding}
use Rattle.formula_assert.specs.Asserts.{Asserts, AssertsAll}
use Rattle.formula_assert.specs.Asserts as asserting
use Rattle.formula_assert.specs.Exactly.{operations_in, IsOfAsserted}
use Rattle.search_laws.proofs.GraphLemmas.{does, plain_of, plain_refuting}
use Rattle.search_laws.proofs.Places.{contains_none, contains_cases, with_more}
use Rattle.search_check.specs.Round.{LivesAreAsserted}
use Rattle.std.proofs.lemmas.Option.{slice_get_within}

-- no trigger is among what is done once
not_one : (op : Op) (t : Trigger) → (op ≡ Live t → ⊥) → Contains (op ∷ []) (Live t) → ⊥
not_one op t other c = ⊎_elim other (contains_none (Live t)) (contains_cases op (Live t) [] c)

-- to refute makes no trigger live
none_live : (node : Node) (t : Trigger) → Contains (refuting_of node) (Live t) → ⊥
none_live (Equal true left right) t c = not_one (Differ left right) t (λ e. cc) c
none_live (Equal false left right) t c = not_one (Merge left right) t (λ e. cc) c
none_live (Atom true term) t c = not_one (Merge term 1) t (λ e. cc) c
none_live (Atom false term) t c = not_one (Merge term 0) t (λ e. cc) c
none_live (And parts) t c = contains_none (Live t) c
none_live (Or parts) t c = contains_none (Live t) c
none_live (Forall forall) t c = contains_none (Live t) c

module _ (formulas : Formulas) where
  of_more : (old new : Held) (op : Op) → ((n : ℕ) → Contains old.asserted n → Contains new.asserted n) →
      IsOfAsserted formulas old op → IsOfAsserted formulas new op
  of_more old new op more is = record {
    n = is.n;
    node = is.node;
    asserted = more is.n is.asserted;
    has = is.has;
    of_node = is.of_node;
  }

  -- a node of the table is asserted, and its operations are done
  holding_lives : (before : Held) (n : ℕ) (node : Node) → HasNode formulas.nodes n node →
      LivesAreAsserted formulas before → LivesAreAsserted formulas (holding formulas n node before)
  holding_lives before n node has lives =
      let after = holding formulas n node before in
      let kept : (m : ℕ) → Contains before.asserted m → Contains after.asserted m =
      Contains-append_left before.asserted (n ∷ []) in
      let within : n < length formulas.nodes = slice_get_within formulas.nodes n node has in
      record {
        nodes = All-append (λ m. m < length formulas.nodes) before.asserted (n ∷ []) lives.nodes
            (All-cons (λ m. m < length formulas.nodes) n [] within (All-nil (λ m. m < length formulas.nodes)));
        lives = λ trigger c.
            with_more (λ op. (t : Trigger) → op ≡ Live t → IsOfAsserted formulas after (Live t))
            (operations_in before.graph.standing) (operations_of formulas node)
            (λ op old t same. of_more before after (Live t) kept
            (lives.lives t (subst (Contains (operations_in before.graph.standing)) same old)))
            (λ op new t same. record {
              n = n;
              node = node;
              asserted = Contains-push before.asserted n;
              has = has;
              of_node = subst (Contains (operations_of formulas node)) same new;
            })
            (Live trigger)
            (subst (λ ops. Contains ops (Live trigger))
            (does before.graph (operations_of formulas node) (plain_of formulas node)).operations c)
            trigger refl;
      }

  mutual
    -- so it stays where a node is asserted with all that it stands for
    pub asserts_lives : {n : ℕ} {before after : Held} → Asserts formulas n before after →
        LivesAreAsserted formulas before → LivesAreAsserted formulas after
    asserts_lives (asserting.stands c) lives = lives
    asserts_lives (asserting.holds {n} {node} {before} fresh has each) lives =
        all_lives each (holding_lives before n node has lives)

    all_lives : {ns : List ℕ} {before after : Held} → AssertsAll formulas ns before after →
        LivesAreAsserted formulas before → LivesAreAsserted formulas after
    all_lives asserting.none lives = lives
    all_lives (asserting.more one rest) lives = all_lives rest (asserts_lives one lives)

  -- and where a literal is refuted
  pub refuted_lives : (before : Held) (node : Node) → LivesAreAsserted formulas before →
      LivesAreAsserted formulas (held (replay before.graph (refuting_of node)) before.asserted)
  refuted_lives before node lives =
      let after = held (replay before.graph (refuting_of node)) before.asserted in
      record {
        nodes = lives.nodes;
        lives = λ trigger c.
            with_more (λ op. (t : Trigger) → op ≡ Live t → IsOfAsserted formulas after (Live t))
            (operations_in before.graph.standing) (refuting_of node)
            (λ op old t same. of_more before after (Live t) (λ n asserted. asserted)
            (lives.lives t (subst (Contains (operations_in before.graph.standing)) same old)))
            (λ op new t same. absurd (none_live node t (subst (Contains (refuting_of node)) same new)))
            (Live trigger)
            (subst (λ ops. Contains ops (Live trigger))
            (does before.graph (refuting_of node) (plain_refuting node)).operations c)
            trigger refl;
      }
