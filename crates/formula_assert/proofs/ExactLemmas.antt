-- What is held stays exactly what the asserted nodes stand for.
use Rattle.std.proofs.Common.{◌≡◌, ◌⊎◌, inl, inr, ℕ, zero, suc, ◌<◌, true, false, List, [], ◌∷◌, ◌++◌, length, map, slice_get, Some, All, Contains, refl, sym, ap, subst, ◌∙◌, append-nil, append_assoc, arith}
use Rattle.std.proofs.lemmas.List.{map-append}
use Rattle.std.proofs.lemmas.List.Elements.{All-nil, All-head, All-tail, All-contains}
use Rattle.std.proofs.lemmas.List.Elements.{Contains-append_left, Contains-append_right, Contains-append_cases}
use Rattle.std.proofs.lemmas.List.Elements.{Contains-push, Contains-push_cases}
use Rattle.std.proofs.lemmas.Option.{none-some}
use Rattle.graph_meaning.specs.declared.done.Done.{Done}
use Rattle.graph_meaning.specs.declared.op.Op.{Op}
use Rattle.graph_meaning.specs.declared.op.Op.TheVariants.{Add, Merge, Differ, Live, Push, Pop}
use Rattle.graph_meaning.specs.Standing.{then_op}
use Rattle.graph_meaning.specs.State.{GraphState, replay, state_after}
use Rattle.formula_table.specs.declared.node.Node.{Node}
use Rattle.formula_table.specs.declared.node.Node.TheVariants.{Equal, Atom, And, Or, Forall}
use Rattle.formula_table.specs.declared.table_forall.TableForall.{TableForall}
use Rattle.formula_table.specs.Formulas.{Formulas, IsFormulaTable, GrowsTable}
use Rattle.formula_assert.specs.Held.{Held, held, triggers_at, operations_of, conjuncts_of, holding}
use Rattle.formula_assert.specs.Asserts.{Asserts, AssertsAll, stands, holds, none, more}
use Rattle.formula_assert.specs.Exactly.{operations_in, IsDone, IsOfAsserted, HoldsExactly}
use Rattle.formula_assert.specs.InLevel.{IsInLevel}
use Rattle.formula_assert.proofs.Growth.{one_inside}
use Rattle.formula_assert.proofs.OperationLemmas.{all_live}

-- an operation more
pub ops_pushed : (standing : List Done) (serial : ℕ) (op : Op) →
    operations_in (then_op standing serial op) ≡ operations_in standing ++ op ∷ []
ops_pushed standing serial op = map-append (λ (done : Done). done.op) standing (record { serial = serial; op = op } ∷ [])

one_replayed : (graph : GraphState) (op : Op) → IsInLevel op →
    operations_in (state_after graph op).standing ≡ operations_in graph.standing ++ op ∷ []
one_replayed graph (Add symbol args) inside = ops_pushed graph.standing graph.done (Add symbol args)
one_replayed graph (Merge left right) inside = ops_pushed graph.standing graph.done (Merge left right)
one_replayed graph (Differ left right) inside = ops_pushed graph.standing graph.done (Differ left right)
one_replayed graph (Live trigger) inside = ops_pushed graph.standing graph.done (Live trigger)
one_replayed graph Push inside = absurd inside
one_replayed graph Pop inside = absurd inside

-- operations in a level stand last
pub ops_replayed : (graph : GraphState) (ops : List Op) → All IsInLevel ops →
    operations_in (replay graph ops).standing ≡ operations_in graph.standing ++ ops
ops_replayed graph [] each = sym (append-nil (operations_in graph.standing))
ops_replayed graph (op ∷ ops) each =
    ops_replayed (state_after graph op) ops (All-tail IsInLevel op ops each)
    ∙ ap (λ (list : List Op). list ++ ops) (one_replayed graph op (All-head IsInLevel op ops each))
    ∙ append_assoc (operations_in graph.standing) (op ∷ []) ops

-- what a node stands for opens no level and ends none
operations_inside : (formulas : Formulas) (node : Node) → All IsInLevel (operations_of formulas node)
operations_inside formulas (Equal true left right) = one_inside (Merge left right) tt
operations_inside formulas (Equal false left right) = one_inside (Differ left right) tt
operations_inside formulas (Atom true term) = one_inside (Merge term 0) tt
operations_inside formulas (Atom false term) = one_inside (Merge term 1) tt
operations_inside formulas (And parts) = All-nil IsInLevel
operations_inside formulas (Or parts) = All-nil IsInLevel
operations_inside formulas (Forall forall) = all_live (triggers_at formulas.foralls forall)

-- the nodes that were asserted still are, and the operations that stood still stand
record KeepsHeld (before after : Held) : Type 0 where
  pub nodes : (n : ℕ) → Contains before.asserted n → Contains after.asserted n
  pub ops : (op : Op) → Contains (operations_in before.graph.standing) op →
      Contains (operations_in after.graph.standing) op

-- the node stands, and what it stands for is done
abbrev IsDoneNode : Formulas → Held → ℕ → Type 0
IsDoneNode formulas now n = (node : Node) × (slice_get formulas.nodes n ≡ Some node) × IsDone formulas now node

-- what more is asserted is done, and what more stands comes from asserted nodes
record AddsExactly (formulas : Formulas) (before after : Held) : Type 0 where
  pub keeps : KeepsHeld before after
  pub nodes : (n : ℕ) → Contains after.asserted n → Contains before.asserted n ⊎ IsDoneNode formulas after n
  pub ops : (op : Op) → Contains (operations_in after.graph.standing) op →
      Contains (operations_in before.graph.standing) op ⊎ IsOfAsserted formulas after op

module _ (formulas : Formulas) where
  done_kept : (before after : Held) (node : Node) → KeepsHeld before after → IsDone formulas before node →
      IsDone formulas after node
  done_kept before after node keeps done = record {
    operations = λ op c. keeps.ops op (done.operations op c);
    conjuncts = λ part c. keeps.nodes part (done.conjuncts part c);
  }

  of_kept : (before after : Held) (op : Op) → KeepsHeld before after → IsOfAsserted formulas before op →
      IsOfAsserted formulas after op
  of_kept before after op keeps of = record {
    n = of.n;
    node = of.node;
    asserted = keeps.nodes of.n of.asserted;
    has = of.has;
    of_node = of.of_node;
  }

  adds_none : (now : Held) → AddsExactly formulas now now
  adds_none now = record {
    keeps = record { nodes = λ n c. c; ops = λ op c. c };
    nodes = λ n c. inl c;
    ops = λ op c. inl c;
  }

  adds_both : (first second third : Held) → AddsExactly formulas first second → AddsExactly formulas second third →
      AddsExactly formulas first third
  adds_both first second third one two = record {
    keeps = record {
      nodes = λ n c. two.keeps.nodes n (one.keeps.nodes n c);
      ops = λ op c. two.keeps.ops op (one.keeps.ops op c);
    };
    nodes = λ n c. elim (two.nodes n c) [
      | inl early ↦ elim (one.nodes n early) [
        | inl first_had ↦ inl first_had
        | inr is ↦ inr (is.0, is.1, done_kept second third is.0 two.keeps is.2)
      ]
      | inr is ↦ inr is
    ];
    ops = λ op c. elim (two.ops op c) [
      | inl early ↦ elim (one.ops op early) [
        | inl first_had ↦ inl first_had
        | inr is ↦ inr (of_kept second third op two.keeps is)
      ]
      | inr is ↦ inr is
    ];
  }

  -- a node that holds, and then its conjuncts
  module _ (n : ℕ) (node : Node) (before after : Held) (at : slice_get formulas.nodes n ≡ Some node)
      (rest : AddsExactly formulas (holding formulas n node before) after)
      (parts : (part : ℕ) → Contains (conjuncts_of node) part → Contains after.asserted part) where
    ops_are : operations_in (replay before.graph (operations_of formulas node)).standing
        ≡ operations_in before.graph.standing ++ operations_of formulas node
    ops_are = ops_replayed before.graph (operations_of formulas node) (operations_inside formulas node)

    own_ops : (op : Op) → Contains (operations_of formulas node) op → Contains (operations_in after.graph.standing) op
    own_ops op c = rest.keeps.ops op (subst (λ (list : List Op). Contains list op) (sym ops_are)
        (Contains-append_right (operations_in before.graph.standing) (operations_of formulas node) op c))

    self_asserted : Contains after.asserted n
    self_asserted = rest.keeps.nodes n (Contains-push before.asserted n)

    node_done : IsDoneNode formulas after n
    node_done = (node, at, record { operations = own_ops; conjuncts = parts })

    adds_holding : AddsExactly formulas before after
    adds_holding = record {
      keeps = record {
        nodes = λ m c. rest.keeps.nodes m (Contains-append_left before.asserted (n ∷ []) m c);
        ops = λ op c. rest.keeps.ops op (subst (λ (list : List Op). Contains list op) (sym ops_are)
            (Contains-append_left (operations_in before.graph.standing) (operations_of formulas node) op c));
      };
      nodes = λ m c. elim (rest.nodes m c) [
        | inl early ↦ elim (Contains-push_cases before.asserted n m early) [
          | inl had ↦ inl had
          | inr same ↦ inr (subst (IsDoneNode formulas after) same node_done)
        ]
        | inr is ↦ inr is
      ];
      ops = λ op c. elim (rest.ops op c) [
        | inl early ↦ elim (Contains-append_cases (operations_in before.graph.standing) (operations_of formulas node)
            op (subst (λ (list : List Op). Contains list op) ops_are early)) [
              | inl had ↦ inl had
              | inr own ↦ inr (record { n = n; node = node; asserted = self_asserted; has = at; of_node = own })
            ]
        | inr is ↦ inr is
      ];
    }

  -- what is asserted of a node, and the node is asserted
  record AddsNode (n : ℕ) (before after : Held) : Type 0 where
    pub adds : AddsExactly formulas before after
    pub asserted : Contains after.asserted n

  record AddsNodes (ns : List ℕ) (before after : Held) : Type 0 where
    pub adds : AddsExactly formulas before after
    pub asserted : (n : ℕ) → Contains ns n → Contains after.asserted n

  no_node : (now : Held) → AddsNodes [] now now
  no_node now = record { adds = adds_none now; asserted = λ n c. absurd (omega (arith, c.1)) }

  one_node : (n : ℕ) (ns : List ℕ) (before between after : Held) → AddsNode n before between →
      AddsNodes ns between after → AddsNodes (n ∷ ns) before after
  one_node n ns before between after first rest = record {
    adds = adds_both before between after first.adds rest.adds;
    asserted = λ m c. elim (Contains-append_cases (n ∷ []) ns m c) [
      | inl here ↦ elim (Contains-push_cases [] n m here) [
        | inl nowhere ↦ absurd (omega (arith, nowhere.1))
        | inr same ↦ subst (Contains after.asserted) same (rest.adds.keeps.nodes n first.asserted)
      ]
      | inr later ↦ rest.asserted m later
    ];
  }

  mutual
    -- to assert a node adds exactly what it stands for
    asserts_exactly : {n : ℕ} {before after : Held} → Asserts formulas n before after → AddsNode n before after
    asserts_exactly {before = before} (stands is) = record { adds = adds_none before; asserted = is }
    asserts_exactly {n = n} {before = before} {after = after} (holds {node = node} not at all) =
        let rest = all_exactly all in
        record {
          adds = adds_holding n node before after at rest.adds rest.asserted;
          asserted = self_asserted n node before after at rest.adds rest.asserted;
        }

    all_exactly : {ns : List ℕ} {before after : Held} → AssertsAll formulas ns before after → AddsNodes ns before after
    all_exactly {before = before} none = no_node before
    all_exactly {before = before} {after = after} (more {n = n} {ns = ns} {between = between} first rest) =
        one_node n ns before between after (asserts_exactly first) (all_exactly rest)

  -- what is held exactly stays so when a node is asserted
  pub exact_asserted : (n : ℕ) (before after : Held) → HoldsExactly formulas before → Asserts formulas n before after →
      HoldsExactly formulas after
  exact_asserted n before after exact asserts =
      let adds = (asserts_exactly asserts).adds in
      record {
        nodes = λ m c. elim (adds.nodes m c) [
          | inl early ↦ let is = exact.nodes m early in (is.0, is.1, done_kept before after is.0 adds.keeps is.2)
          | inr is ↦ is
        ];
        merges = λ s t c. elim (adds.ops (Merge s t) c) [
          | inl early ↦ of_kept before after (Merge s t) adds.keeps (exact.merges s t early)
          | inr is ↦ is
        ];
        differs = λ s t c. elim (adds.ops (Differ s t) c) [
          | inl early ↦ of_kept before after (Differ s t) adds.keeps (exact.differs s t early)
          | inr is ↦ is
        ];
        lives = λ trigger c. elim (adds.ops (Live trigger) c) [
          | inl early ↦ of_kept before after (Live trigger) adds.keeps (exact.lives trigger early)
          | inr is ↦ is
        ];
      }

-- the operation is neither an equation nor a disequation nor a trigger
abbrev pub IsNoLink : Op → Type 0
IsNoLink (Merge left right) = ⊥
IsNoLink (Differ left right) = ⊥
IsNoLink (Live trigger) = ⊥
IsNoLink op = Unit {0}

-- and when more operations stand that are neither equations nor disequations nor triggers
module _ (formulas : Formulas) (graph later : GraphState) (asserted : List ℕ) (extra : List Op)
    (ops_are : operations_in later.standing ≡ operations_in graph.standing ++ extra) (no_link : All IsNoLink extra)
    (exact : HoldsExactly formulas (held graph asserted)) where
  grown_keeps : KeepsHeld (held graph asserted) (held later asserted)
  grown_keeps = record {
    nodes = λ n c. c;
    ops = λ op c. subst (λ (list : List Op). Contains list op) (sym ops_are)
        (Contains-append_left (operations_in graph.standing) extra op c);
  }

  -- an equation, a disequation or a trigger stood before
  link_stood : (op : Op) → (IsNoLink op → ⊥) → Contains (operations_in later.standing) op →
      Contains (operations_in graph.standing) op
  link_stood op link c =
      elim (Contains-append_cases (operations_in graph.standing) extra op
      (subst (λ (list : List Op). Contains list op) ops_are c)) [
        | inl early ↦ early
        | inr new ↦ absurd (link (All-contains IsNoLink extra op no_link new))
      ]

  pub exact_grown : HoldsExactly formulas (held later asserted)
  exact_grown = record {
    nodes = λ n c. let is = exact.nodes n c in
        (is.0, is.1, done_kept formulas (held graph asserted) (held later asserted) is.0 grown_keeps is.2);
    merges = λ s t c. of_kept formulas (held graph asserted) (held later asserted) (Merge s t) grown_keeps
        (exact.merges s t (link_stood (Merge s t) (λ no. no) c));
    differs = λ s t c. of_kept formulas (held graph asserted) (held later asserted) (Differ s t) grown_keeps
        (exact.differs s t (link_stood (Differ s t) (λ no. no) c));
    lives = λ trigger c. of_kept formulas (held graph asserted) (held later asserted) (Live trigger) grown_keeps
        (exact.lives trigger (link_stood (Live trigger) (λ no. no) c));
  }

-- what stands in a list stands in a longer one
get_kept : {X : Type 0} (xs ys : List X) (n : ℕ) (x : X) → slice_get xs n ≡ Some x → slice_get (xs ++ ys) n ≡ Some x
get_kept [] ys n x at = absurd (none-some x at)
get_kept (y ∷ xs) ys zero x at = at
get_kept (y ∷ xs) ys (suc n) x at = get_kept xs ys n x at

-- and when the table of formulas grows
module _ (table grown : Formulas) (is_table : IsFormulaTable table) (grows : GrowsTable table grown) where
  node_kept : (n : ℕ) (node : Node) → slice_get table.nodes n ≡ Some node → slice_get grown.nodes n ≡ Some node
  node_kept n node at =
      ap (λ (nodes : List Node). slice_get nodes n) grows.nodes_are ∙ get_kept table.nodes grows.more_nodes n node at

  -- the triggers of a forall that stands are as they were
  triggers_kept : (forall : ℕ) → forall < length table.foralls →
      triggers_at grown.foralls forall ≡ triggers_at table.foralls forall
  triggers_kept forall less =
      ap (λ (foralls : List TableForall). triggers_at foralls forall) grows.foralls_are
      ∙ triggers_same table.foralls grows.more_foralls forall less
    where
      triggers_same : (foralls extra : List TableForall) (n : ℕ) → n < length foralls →
          triggers_at (foralls ++ extra) n ≡ triggers_at foralls n
      triggers_same [] extra n less = absurd (omega arith)
      triggers_same (first ∷ foralls) extra zero less = refl
      triggers_same (first ∷ foralls) extra (suc n) less = triggers_same foralls extra n (omega arith)

  -- so a node stands for what it did
  operations_kept : (n : ℕ) (node : Node) → slice_get table.nodes n ≡ Some node →
      operations_of grown node ≡ operations_of table node
  operations_kept n (Equal true left right) at = refl
  operations_kept n (Equal false left right) at = refl
  operations_kept n (Atom true term) at = refl
  operations_kept n (Atom false term) at = refl
  operations_kept n (And parts) at = refl
  operations_kept n (Or parts) at = refl
  operations_kept n (Forall forall) at = ap (map Live) (triggers_kept forall (is_table.foralls_stand n forall at))

  module _ (now : Held) (exact : HoldsExactly table now) where
    done_still : (n : ℕ) (node : Node) → slice_get table.nodes n ≡ Some node → IsDone table now node →
        IsDone grown now node
    done_still n node at done = record {
      operations = λ op c. done.operations op
          (subst (λ (list : List Op). Contains list op) (operations_kept n node at) c);
      conjuncts = done.conjuncts;
    }

    of_still : (op : Op) → IsOfAsserted table now op → IsOfAsserted grown now op
    of_still op of = record {
      n = of.n;
      node = of.node;
      asserted = of.asserted;
      has = node_kept of.n of.node of.has;
      of_node = subst (λ (list : List Op). Contains list op) (sym (operations_kept of.n of.node of.has)) of.of_node;
    }

    pub exact_table : HoldsExactly grown now
    exact_table = record {
      nodes = λ n c. let is = exact.nodes n c in (is.0, node_kept n is.0 is.1, done_still n is.0 is.1 is.2);
      merges = λ s t c. of_still (Merge s t) (exact.merges s t c);
      differs = λ s t c. of_still (Differ s t) (exact.differs s t c);
      lives = λ trigger c. of_still (Live trigger) (exact.lives trigger c);
    }
