-- A search keeps what stands: terms stay, each asserted formula is done, and what was asserted is.
use Rattle.std.proofs.Common.{◌≡◌, ℕ, ◌⊎◌, List, [], ◌∷◌, ◌++◌, Contains, refl, sym, subst, ◌∙◌, inl, inr, ⊎_elim}
use Rattle.std.proofs.lemmas.List.Elements.{Contains-append_left, Contains-append_right, Contains-push}
use Rattle.std.proofs.lemmas.List.Elements.{Contains-push_cases}
use Rattle.graph_meaning.specs.declared.op.Op.{Op}
use Rattle.graph_meaning.specs.Standing.{terms_of}
use Rattle.graph_meaning.specs.State.{GraphState, replay}
use Rattle.formula_table.specs.declared.node.Node.{Node}
use Rattle.formula_table.specs.Formulas.{Formulas}
use Rattle.formula_value.specs.Holds.{HasNode}
use Rattle.formula_assert.specs.Held.{Held, operations_of, refuting_of, conjuncts_of, holding}
use Rattle.formula_assert.specs.Asserts.{Asserts, AssertsAll}
use Rattle.formula_assert.specs.Asserts as asserting
use Rattle.formula_assert.specs.Exactly.{operations_in, IsDone}
use Rattle.search_laws.specs.Branch.{Branch, with_struck, live_in}
use Rattle.search_laws.specs.Closing.{Closes}
use Rattle.search_laws.specs.Closing as closing
use Rattle.search_laws.proofs.Places.{contains_none, contains_cases, with_more}
use Rattle.search_laws.proofs.GraphLemmas.{Does, does, plain_of, plain_refuting}

-- the formula stands, and what it stands for is done
pub record IsDoneAt (formulas : Formulas) (now : Held) (n : ℕ) : Type 0 where
  pub node : Node
  pub has : HasNode formulas.nodes n node
  pub is_done : IsDone formulas now node

-- the terms are as before, and all that stood or was asserted does and is
pub record Grows (before after : Held) : Type 0 where
  pub terms : terms_of after.graph.standing ≡ terms_of before.graph.standing
  pub operations : (op : Op) → Contains (operations_in before.graph.standing) op →
      Contains (operations_in after.graph.standing) op
  pub asserted : (n : ℕ) → Contains before.asserted n → Contains after.asserted n

pub grows_none : (now : Held) → Grows now now
grows_none now = record { terms = refl; operations = λ op c. c; asserted = λ n c. c }

grows_both : (one two three : Held) → Grows one two → Grows two three → Grows one three
grows_both one two three f g = record {
  terms = g.terms ∙ f.terms;
  operations = λ op c. g.operations op (f.operations op c);
  asserted = λ n c. g.asserted n (f.asserted n c);
}

-- by operations, and maybe formulas
grows_by : (before after : GraphState) (ops : List Op) (old new : List ℕ) → Does ops before after →
    ((n : ℕ) → Contains old n → Contains new n) →
    Grows (record { graph = before; asserted = old }) (record { graph = after; asserted = new })
grows_by before after ops old new did more = record {
  terms = did.terms;
  operations = λ op c. subst (λ list. Contains list op) (sym did.operations)
      (Contains-append_left (operations_in before.standing) ops op c);
  asserted = more;
}

-- an operation that holds of what stands keeps to a rule
abbrev pub Keeps : (Op → Type 0) → Held → Type 0
Keeps rule now = (op : Op) → Contains (operations_in now.graph.standing) op → rule op

keeps_by : (rule : Op → Type 0) (before after : GraphState) (ops : List Op) → Does ops before after →
    ((op : Op) → Contains (operations_in before.standing) op → rule op) →
    ((op : Op) → Contains ops op → rule op) → (op : Op) → Contains (operations_in after.standing) op → rule op
keeps_by rule before after ops did old new op c = with_more rule (operations_in before.standing) ops old new op
    (subst (λ list. Contains list op) did.operations c)

-- a later state of what is held: it grew, each asserted formula is done, and what stands keeps to the rule
pub record Follows (formulas : Formulas) (rule : Op → Type 0) (first now : Held) : Type 0 where
  pub grows : Grows first now
  pub done : (n : ℕ) → Contains now.asserted n → IsDoneAt formulas now n
  pub keeps : Keeps rule now

-- a way out that follows: it has no conflict, nothing is open and no forall is asserted
pub record IsReached (formulas : Formulas) (rule : Op → Type 0) (first : Held) (last : Branch) : Type 0 where
  pub follows : Follows formulas rule first last.held
  pub no_conflict : closing.Conflict formulas last → ⊥
  pub no_open : closing.HasNoOpen formulas last
  pub no_live : live_in formulas last ≡ []

module _ (formulas : Formulas) where
  -- what is done stays done
  done_more : (old new : Held) (n : ℕ) → Grows old new → IsDoneAt formulas old n → IsDoneAt formulas new n
  done_more old new n grows h = record {
    node = h.node;
    has = h.has;
    is_done = record {
      operations = λ op c. grows.operations op (h.is_done.operations op c);
      conjuncts = λ part c. grows.asserted part (h.is_done.conjuncts part c);
    };
  }

  did_node : (before : Held) (node : Node) → Does (operations_of formulas node) before.graph
      (replay before.graph (operations_of formulas node))
  did_node before node = does before.graph (operations_of formulas node) (plain_of formulas node)

  grows_holding : (before : Held) (n : ℕ) (node : Node) → Grows before (holding formulas n node before)
  grows_holding before n node = grows_by before.graph (replay before.graph (operations_of formulas node))
      (operations_of formulas node) before.asserted (before.asserted ++ n ∷ []) (did_node before node)
      (Contains-append_left before.asserted (n ∷ []))

  mutual
    pub asserts_grow : {n : ℕ} {before after : Held} → Asserts formulas n before after → Grows before after
    asserts_grow (asserting.stands {before} c) = grows_none before
    asserts_grow (asserting.holds {n} {node} {before} {after} fresh has each) = grows_both before
        (holding formulas n node before) after (grows_holding before n node) (all_grow each)

    all_grow : {ns : List ℕ} {before after : Held} → AssertsAll formulas ns before after → Grows before after
    all_grow (asserting.none {before}) = grows_none before
    all_grow (asserting.more {before} {between} {after} one rest) =
        grows_both before between after (asserts_grow one) (all_grow rest)

  -- what was to be asserted is
  asserted_now : {n : ℕ} {before after : Held} → Asserts formulas n before after → Contains after.asserted n
  asserted_now (asserting.stands c) = c
  asserted_now (asserting.holds {n} {node} {before} fresh has each) =
      (all_grow each).asserted n (Contains-push before.asserted n)

  all_asserted : {ns : List ℕ} {before after : Held} → AssertsAll formulas ns before after → (n : ℕ) →
      Contains ns n → Contains after.asserted n
  all_asserted asserting.none n c = contains_none n c
  all_asserted (asserting.more {n = first} {ns} {between} one rest) n c = ⊎_elim
      (λ e. (all_grow rest).asserted n (subst (Contains between.asserted) e (asserted_now one)))
      (all_asserted rest n) (contains_cases first n ns c)

  -- to assert a node does what it stands for
  done_now : (before after : Held) (n : ℕ) (node : Node) → HasNode formulas.nodes n node →
      AssertsAll formulas (conjuncts_of node) (holding formulas n node before) after → IsDoneAt formulas after n
  done_now before after n node has each = record {
    node = node;
    has = has;
    is_done = record {
      operations = λ op c. (all_grow each).operations op (subst (λ list. Contains list op)
          (sym (did_node before node).operations)
          (Contains-append_right (operations_in before.graph.standing) (operations_of formulas node) op c));
      conjuncts = all_asserted each;
    };
  }

  mutual
    -- what is newly asserted is done
    new_done : {n : ℕ} {before after : Held} → Asserts formulas n before after → (m : ℕ) →
        Contains after.asserted m → Contains before.asserted m ⊎ IsDoneAt formulas after m
    new_done (asserting.stands c) m d = inl d
    new_done (asserting.holds {n} {node} {before} {after} fresh has each) m d = ⊎_elim
        (λ old. ⊎_elim inl (λ e. inr (subst (IsDoneAt formulas after) e (done_now before after n node has each)))
        (Contains-push_cases before.asserted n m old))
        inr (all_done each m d)

    all_done : {ns : List ℕ} {before after : Held} → AssertsAll formulas ns before after → (m : ℕ) →
        Contains after.asserted m → Contains before.asserted m ⊎ IsDoneAt formulas after m
    all_done asserting.none m d = inl d
    all_done (asserting.more {between} {after} one rest) m d = ⊎_elim
        (λ there. ⊎_elim inl (λ done. inr (done_more between after m (all_grow rest) done)) (new_done one m there))
        inr (all_done rest m d)

  module _ (rule : Op → Type 0)
      (of_nodes : (n : ℕ) (node : Node) → HasNode formulas.nodes n node → (op : Op) →
      Contains (operations_of formulas node) op → rule op)
      (of_struck : (n : ℕ) (node : Node) → HasNode formulas.nodes n node → (op : Op) →
      Contains (refuting_of node) op → rule op) where
    mutual
      asserts_keep : {n : ℕ} {before after : Held} → Asserts formulas n before after → Keeps rule before →
          Keeps rule after
      asserts_keep (asserting.stands c) keeps = keeps
      asserts_keep (asserting.holds {n} {node} {before} fresh has each) keeps =
          all_keep each (keeps_by rule before.graph (replay before.graph (operations_of formulas node))
          (operations_of formulas node) (did_node before node) keeps (of_nodes n node has))

      all_keep : {ns : List ℕ} {before after : Held} → AssertsAll formulas ns before after → Keeps rule before →
          Keeps rule after
      all_keep asserting.none keeps = keeps
      all_keep (asserting.more one rest) keeps = all_keep rest (asserts_keep one keeps)

    pub follows_asserts : {n : ℕ} {first before after : Held} → Asserts formulas n before after →
        Follows formulas rule first before → Follows formulas rule first after
    follows_asserts {first} {before} {after} asserts follows = record {
      grows = grows_both first before after follows.grows (asserts_grow asserts);
      done = λ n c. ⊎_elim (λ old. done_more before after n (asserts_grow asserts) (follows.done n old)) (λ h. h)
          (new_done asserts n c);
      keeps = asserts_keep asserts follows.keeps;
    }

    pub follows_closes : {first : Held} {branch last : Branch} → Closes formulas branch last →
        Follows formulas rule first branch.held → Follows formulas rule first last.held
    follows_closes (closing.Closes.conflict c) follows = follows
    follows_closes (closing.Closes.closed quiet rest) follows = follows
    follows_closes (closing.Closes.step quiet unit asserts others) follows =
        follows_closes others (follows_asserts asserts follows)

    pub follows_struck : (first : Held) (branch : Branch) (n place part : ℕ) (node : Node) →
        HasNode formulas.nodes part node → Follows formulas rule first branch.held →
        Follows formulas rule first (with_struck branch n place node).held
    follows_struck first branch n place part node has follows =
        let after = replay branch.held.graph (refuting_of node) in
        let did : Does (refuting_of node) branch.held.graph after =
        does branch.held.graph (refuting_of node) (plain_refuting node) in
        let grows : Grows branch.held (with_struck branch n place node).held =
        grows_by branch.held.graph after (refuting_of node) branch.held.asserted branch.held.asserted did
        (λ m c. c) in
        record {
          grows = grows_both first branch.held (with_struck branch n place node).held follows.grows grows;
          done = λ m c. done_more branch.held (with_struck branch n place node).held m grows (follows.done m c);
          keeps = keeps_by rule branch.held.graph after (refuting_of node) did follows.keeps
              (of_struck part node has);
        }
