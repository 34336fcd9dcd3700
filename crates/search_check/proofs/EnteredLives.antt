-- Live triggers stay those of asserted foralls where instances are entered.
use Rattle.std.proofs.Common.{◌≡◌, ◌⊎◌, inl, inr, ⊎_elim, ℕ, zero, suc, ◌<◌, true, false, List, [], ◌∷◌, ◌++◌, length}
use Rattle.std.proofs.Common.{map, slice_get, Some, All, Contains, sym, ap, subst, ◌∙◌, append-nil, append_assoc}
use Rattle.std.proofs.Common.{arith}
use Rattle.std.proofs.lemmas.List.{map-append, length-append}
use Rattle.std.proofs.lemmas.List.Elements.{All-nil, All-cons, All-head, All-tail, All-contains, All-weaker}
use Rattle.std.proofs.lemmas.List.Elements.{Contains-append_left, Contains-append_cases, Contains-push, Contains-push_cases}
use Rattle.std.proofs.lemmas.Option.{slice_get_within}
use Rattle.graph_terms.specs.declared.term_row.TermRow.{TermRow}
use Rattle.graph_trigger.specs.declared.trigger.Trigger.{Trigger}
use Rattle.graph_meaning.specs.declared.done.Done.{Done}
use Rattle.graph_meaning.specs.declared.op.Op.{Op}
use Rattle.graph_meaning.specs.declared.op.Op.TheVariants.{Add, Merge, Differ, Live, Push, Pop}
use Rattle.graph_meaning.specs.Standing.{then_op}
use Rattle.graph_meaning.specs.State.{GraphState, replay, state_after}
use Rattle.match_graph.specs.GraphTerms.{adding, with_terms}
use Rattle.match_store.specs.declared.instance.Instance.{Instance}
use Rattle.formula_table.specs.declared.node.Node.{Node}
use Rattle.formula_table.specs.declared.node.Node.TheVariants.{Equal, Atom, And, Or, Forall}
use Rattle.formula_table.specs.declared.table_forall.TableForall.{TableForall}
use Rattle.formula_table.specs.Formulas.{Formulas, GrowsTable}
use Rattle.formula_assert.specs.Held.{Held, held, triggers_at, operations_of, holding}
use Rattle.formula_assert.specs.Asserts.{Asserts, AssertsAll, stands, holds, none, more}
use Rattle.formula_assert.specs.Exactly.{operations_in, IsOfAsserted}
use Rattle.formula_assert.specs.InLevel.{IsInLevel}
use Rattle.search_laws.specs.Path.{Path}
use Rattle.search_laws.specs.Rounds.{EntersOne, EntersAll}
use Rattle.search_laws.specs.Rounds as entering
use Rattle.search_check.specs.Round.{LivesAreAsserted}
use Rattle.search_check.proofs.ElementLemmas.{in_none, in_map, from_map, get_longer, all_of}

-- an operation more
ops_pushed : (standing : List Done) (serial : ℕ) (op : Op) →
    operations_in (then_op standing serial op) ≡ operations_in standing ++ op ∷ []
ops_pushed standing serial op = map-append (λ (done : Done). done.op) standing (record { serial = serial; op = op } ∷ [])

one_replayed : (graph : GraphState) (op : Op) → IsInLevel op →
    operations_in (state_after graph op).standing ≡ operations_in graph.standing ++ op ∷ []
one_replayed graph (Add symbol args) inside = ops_pushed graph.standing graph.done (Add symbol args)
one_replayed graph (Merge left right) inside = ops_pushed graph.standing graph.done (Merge left right)
one_replayed graph (Differ left right) inside = ops_pushed graph.standing graph.done (Differ left right)
one_replayed graph (Live trigger) inside = ops_pushed graph.standing graph.done (Live trigger)
one_replayed graph Push inside = absurd inside
one_replayed graph Pop inside = absurd inside

-- operations in a level stand last
ops_replayed : (graph : GraphState) (ops : List Op) → All IsInLevel ops →
    operations_in (replay graph ops).standing ≡ operations_in graph.standing ++ ops
ops_replayed graph [] each = sym (append-nil (operations_in graph.standing))
ops_replayed graph (op ∷ ops) each =
    ops_replayed (state_after graph op) ops (All-tail IsInLevel op ops each)
    ∙ ap (λ (list : List Op). list ++ ops) (one_replayed graph op (All-head IsInLevel op ops each))
    ∙ append_assoc (operations_in graph.standing) (op ∷ []) ops

one_inside : (op : Op) → IsInLevel op → All IsInLevel (op ∷ [])
one_inside op inside = All-cons IsInLevel op [] inside (All-nil IsInLevel)

lives_inside : (triggers : List Trigger) → All IsInLevel (map Live triggers)
lives_inside [] = All-nil IsInLevel
lives_inside (trigger ∷ triggers) =
    All-cons IsInLevel (Live trigger) (map Live triggers) tt (lives_inside triggers)

rows_inside : (rows : List TermRow) → All IsInLevel (map adding rows)
rows_inside [] = All-nil IsInLevel
rows_inside (row ∷ rows) = All-cons IsInLevel (adding row) (map adding rows) tt (rows_inside rows)

-- what a node stands for opens no level and ends none
operations_inside : (formulas : Formulas) (node : Node) → All IsInLevel (operations_of formulas node)
operations_inside formulas (Equal true left right) = one_inside (Merge left right) tt
operations_inside formulas (Equal false left right) = one_inside (Differ left right) tt
operations_inside formulas (Atom true term) = one_inside (Merge term 0) tt
operations_inside formulas (Atom false term) = one_inside (Merge term 1) tt
operations_inside formulas (And parts) = All-nil IsInLevel
operations_inside formulas (Or parts) = All-nil IsInLevel
operations_inside formulas (Forall forall) = lives_inside (triggers_at formulas.foralls forall)

-- What was asserted still is; what more is asserted stands in the table, and what more stands comes from asserted nodes.
record Brings (formulas : Formulas) (before after : Held) : Type 0 where
  pub keeps : (n : ℕ) → Contains before.asserted n → Contains after.asserted n
  pub nodes : (n : ℕ) → Contains after.asserted n → Contains before.asserted n ⊎ (n < length formulas.nodes)
  pub ops : (op : Op) → Contains (operations_in after.graph.standing) op →
      Contains (operations_in before.graph.standing) op ⊎ IsOfAsserted formulas after op

module _ (formulas : Formulas) where
  of_kept : (before after : Held) (op : Op) → ((n : ℕ) → Contains before.asserted n → Contains after.asserted n) →
      IsOfAsserted formulas before op → IsOfAsserted formulas after op
  of_kept before after op keeps of = record {
    n = of.n;
    node = of.node;
    asserted = keeps of.n of.asserted;
    has = of.has;
    of_node = of.of_node;
  }

  brings_none : (now : Held) → Brings formulas now now
  brings_none now = record { keeps = λ n c. c; nodes = λ n c. inl c; ops = λ op c. inl c }

  brings_both : (first second third : Held) → Brings formulas first second → Brings formulas second third →
      Brings formulas first third
  brings_both first second third one two = record {
    keeps = λ n c. two.keeps n (one.keeps n c);
    nodes = λ n c. ⊎_elim (one.nodes n) inr (two.nodes n c);
    ops = λ op c. ⊎_elim
        (λ early. ⊎_elim inl (λ of. inr (of_kept second third op two.keeps of)) (one.ops op early)) inr (two.ops op c);
  }

  -- a node that holds
  module _ (n : ℕ) (node : Node) (before : Held) (at : slice_get formulas.nodes n ≡ Some node) where
    abbrev then : Held
    then = holding formulas n node before

    ops_are : operations_in then.graph.standing
        ≡ operations_in before.graph.standing ++ operations_of formulas node
    ops_are = ops_replayed before.graph (operations_of formulas node) (operations_inside formulas node)

    brings_holding : Brings formulas before then
    brings_holding = record {
      keeps = λ m c. Contains-append_left before.asserted (n ∷ []) m c;
      nodes = λ m c. ⊎_elim inl
          (λ same. inr (subst (λ k. k < length formulas.nodes) same (slice_get_within formulas.nodes n node at)))
          (Contains-push_cases before.asserted n m c);
      ops = λ op c. ⊎_elim inl
          (λ own. inr (record {
            n = n;
            node = node;
            asserted = Contains-push before.asserted n;
            has = at;
            of_node = own;
          }))
          (Contains-append_cases (operations_in before.graph.standing) (operations_of formulas node) op
          (subst (λ (list : List Op). Contains list op) ops_are c));
    }

  mutual
    -- to assert a node brings what it stands for
    asserts_brings : {n : ℕ} {before after : Held} → Asserts formulas n before after →
        Brings formulas before after
    asserts_brings {before = before} (stands is) = brings_none before
    asserts_brings {n = n} {before = before} {after = after} (holds {node = node} not at all) =
        brings_both before (holding formulas n node before) after (brings_holding n node before at) (all_brings all)

    all_brings : {ns : List ℕ} {before after : Held} → AssertsAll formulas ns before after →
        Brings formulas before after
    all_brings {before = before} none = brings_none before
    all_brings {before = before} {after = after} (more {between = between} first rest) =
        brings_both before between after (asserts_brings first) (all_brings rest)

  -- and what is live is of an asserted forall still
  lives_brought : (before after : Held) → LivesAreAsserted formulas before → Brings formulas before after →
      LivesAreAsserted formulas after
  lives_brought before after lives brings = record {
    nodes = all_of (λ n. n < length formulas.nodes) after.asserted
        (λ n c. ⊎_elim (All-contains (λ m. m < length formulas.nodes) before.asserted n lives.nodes) (λ less. less)
        (brings.nodes n c));
    lives = λ trigger c. ⊎_elim
        (λ early. of_kept before after (Live trigger) brings.keeps (lives.lives trigger early)) (λ of. of)
        (brings.ops (Live trigger) c);
  }

-- when terms are added, nothing is live that was not
rows_no_live : (rows : List TermRow) (trigger : Trigger) → Contains (map adding rows) (Live trigger) → ⊥
rows_no_live rows trigger c = let from = from_map adding rows (Live trigger) c in other from.0 from.2
  where
    other : (row : TermRow) → adding row ≡ Live trigger → ⊥
    other row e = cc

live_before : (graph : GraphState) (rows : List TermRow) (trigger : Trigger) →
    Contains (operations_in (with_terms graph rows).standing) (Live trigger) →
    Contains (operations_in graph.standing) (Live trigger)
live_before graph rows trigger c = ⊎_elim (λ early. early)
    (λ new. absurd (rows_no_live rows trigger new))
    (Contains-append_cases (operations_in graph.standing) (map adding rows) (Live trigger)
    (subst (λ (list : List Op). Contains list (Live trigger))
    (ops_replayed graph (map adding rows) (rows_inside rows)) c))

-- the triggers of a forall are among those of its number in a longer list
triggers_kept : (foralls extra : List TableForall) (n : ℕ) (trigger : Trigger) →
    Contains (triggers_at foralls n) trigger → Contains (triggers_at (foralls ++ extra) n) trigger
triggers_kept [] extra n trigger c = in_none trigger c
triggers_kept (first ∷ foralls) extra zero trigger c = c
triggers_kept (first ∷ foralls) extra (suc n) trigger c = triggers_kept foralls extra n trigger c

-- when the table grows, a node stands for what it did
module _ (table grown : Formulas) (grows : GrowsTable table grown) where
  operations_kept : (node : Node) (op : Op) → Contains (operations_of table node) op →
      Contains (operations_of grown node) op
  operations_kept (Equal true left right) op c = c
  operations_kept (Equal false left right) op c = c
  operations_kept (Atom true term) op c = c
  operations_kept (Atom false term) op c = c
  operations_kept (And parts) op c = c
  operations_kept (Or parts) op c = c
  operations_kept (Forall forall) op c =
      let from = from_map Live (triggers_at table.foralls forall) op c in
      subst (Contains (map Live (triggers_at grown.foralls forall))) from.2
      (in_map Live (triggers_at grown.foralls forall) from.0
      (subst (λ (foralls : List TableForall). Contains (triggers_at foralls forall) from.0) (sym grows.foralls_are)
      (triggers_kept table.foralls grows.more_foralls forall from.0 from.1)))

  -- and when terms came too, what is live is of an asserted forall still
  pub lives_grown : (graph later : GraphState) (asserted : List ℕ) (rows : List TermRow) →
      later ≡ with_terms graph rows → LivesAreAsserted table (held graph asserted) →
      LivesAreAsserted grown (held later asserted)
  lives_grown graph later asserted rows is lives = record {
    nodes =
        let longer = ap length grows.nodes_are ∙ length-append table.nodes grows.more_nodes in
        All-weaker (λ n. n < length table.nodes) (λ n. n < length grown.nodes)
        (λ n less. omega (arith, less, longer)) asserted lives.nodes;
    lives = λ trigger c.
        let of = lives.lives trigger (live_before graph rows trigger
        (subst (λ (state : GraphState). Contains (operations_in state.standing) (Live trigger)) is c)) in
        record {
          n = of.n;
          node = of.node;
          asserted = of.asserted;
          has = ap (λ (nodes : List Node). slice_get nodes of.n) grows.nodes_are
              ∙ get_longer table.nodes grows.more_nodes of.n of.node of.has;
          of_node = operations_kept of.node (Live trigger) of.of_node;
        };
  }

-- where an instance is entered
lives_one : (instance : Instance) (before after : Path) → EntersOne instance before after →
    LivesAreAsserted before.formulas before.branch.held → LivesAreAsserted after.formulas after.branch.held
lives_one instance before after one lives =
    let table = one.enters.enters.table_grows in
    let rows = one.enters.enters.rows_grow in
    let grows : GrowsTable before.formulas after.formulas = record {
      more_nodes = table.nodes;
      more_foralls = table.foralls;
      nodes_are = ap (λ (formulas : Formulas). formulas.nodes) table.new_is;
      foralls_are = ap (λ (formulas : Formulas). formulas.foralls) table.new_is;
      limit_is = ap (λ (formulas : Formulas). formulas.limit) table.new_is;
    } in
    lives_brought after.formulas (held one.entered before.branch.held.asserted) after.branch.held
    (lives_grown before.formulas after.formulas grows before.branch.held.graph one.entered
    before.branch.held.asserted rows.added rows.grew lives)
    (asserts_brings after.formulas one.asserts)

-- and where some are
pub lives_all : {instances : List Instance} {before after : Path} → EntersAll instances before after →
    LivesAreAsserted before.formulas before.branch.held → LivesAreAsserted after.formulas after.branch.held
lives_all (entering.EntersAll.none) lives = lives
lives_all {before = before} {after = after} (entering.EntersAll.more {instance = instance} {between = between} one rest)
    lives =
    lives_all rest (lives_one instance before between one lives)
