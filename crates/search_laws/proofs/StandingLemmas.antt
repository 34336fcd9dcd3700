-- What is held names terms that stand, and each live trigger comes from an asserted forall: as long as the search goes.
use Rattle.std.proofs.Common.{◌≡◌, ℕ, ◌<◌, true, false, List, [], ◌∷◌, ◌++◌, length, All, Contains, subst}
use Rattle.std.proofs.Common.{◌∙◌, ⊎_elim, arith}
use Rattle.std.proofs.lemmas.List.Elements.{All-contains, Contains-append_left, Contains-append_cases, Contains-push}
use Rattle.graph_terms.specs.declared.term_row.TermRow.{TermRow}
use Rattle.graph_trigger.specs.declared.trigger.Trigger.{Trigger}
use Rattle.graph_meaning.specs.declared.op.Op.{Op}
use Rattle.graph_meaning.specs.declared.op.Op.TheVariants.{Add, Merge, Differ, Live, Push, Pop}
use Rattle.graph_meaning.specs.Standing.{terms_of}
use Rattle.graph_meaning.specs.State.{GraphState, replay}
use Rattle.formula_table.specs.declared.node.Node.{Node}
use Rattle.formula_table.specs.declared.node.Node.TheVariants.{Equal, Atom, And, Or, Forall}
use Rattle.formula_table.specs.Formulas.{Formulas, NodesStand}
use Rattle.formula_table.specs.Node.{terms_in}
use Rattle.formula_value.specs.Holds.{HasNode}
use Rattle.formula_assert.specs.Held.{Held, held, triggers_at, operations_of, refuting_of, holding}
use Rattle.formula_assert.specs.Asserts.{Asserts, AssertsAll}
use Rattle.formula_assert.specs.Asserts as asserting
use Rattle.formula_assert.specs.Exactly.{HoldsExactly, IsOfAsserted, operations_in}
use Rattle.search_laws.specs.Branch.{Branch, with_struck}
use Rattle.search_laws.specs.Closing.{Closes}
use Rattle.search_laws.specs.Closing as closing
use Rattle.search_laws.proofs.Places.{two_all, contains_none, contains_one, contains_head, with_more}
use Rattle.search_laws.proofs.GraphLemmas.{Does, does, plain_of, plain_refuting, live_only}
use Rattle.search_laws.proofs.GrownLemmas.{EndsStand}

-- the terms of what is held are these, its operations name such terms, and its live triggers are those of asserted
-- foralls
pub record IsHeldOver (formulas : Formulas) (rows : List TermRow) (now : Held) : Type 0 where
  pub rows_are : terms_of now.graph.standing ≡ rows
  pub ends : (op : Op) → Contains (operations_in now.graph.standing) op → EndsStand (length rows) op
  pub lives : (trigger : Trigger) → Contains (operations_in now.graph.standing) (Live trigger) →
      IsOfAsserted formulas now (Live trigger)

module _ (count : ℕ) (truths : 1 < count) where
  one_stands : (term truth : ℕ) → All (λ term. term < count) (term ∷ []) → truth < count →
      (term < count) × (truth < count)
  one_stands term truth all less = (
    All-contains (λ t. t < count) (term ∷ []) term all (contains_head term []),
    less,
  )

  -- the operations of a node name its terms, true and false
  pub operations_stand : (formulas : Formulas) (node : Node) → All (λ term. term < count) (terms_in node) →
      (op : Op) → Contains (operations_of formulas node) op → EndsStand count op
  operations_stand formulas (Equal true s t) all op c =
      contains_one (EndsStand count) (Merge s t) op (two_all (λ term. term < count) s t all) c
  operations_stand formulas (Equal false s t) all op c =
      contains_one (EndsStand count) (Differ s t) op (two_all (λ term. term < count) s t all) c
  operations_stand formulas (Atom true term) all op c =
      contains_one (EndsStand count) (Merge term 0) op (one_stands term 0 all (omega arith)) c
  operations_stand formulas (Atom false term) all op c =
      contains_one (EndsStand count) (Merge term 1) op (one_stands term 1 all truths) c
  operations_stand formulas (And parts) all op c = contains_none op c
  operations_stand formulas (Or parts) all op c = contains_none op c
  operations_stand formulas (Forall forall) all op c =
      live_only (EndsStand count) (λ trigger. tt) (triggers_at formulas.foralls forall) op c

  -- so do those that refute it
  pub refuting_stand : (node : Node) → All (λ term. term < count) (terms_in node) → (op : Op) →
      Contains (refuting_of node) op → EndsStand count op
  refuting_stand (Equal true s t) all op c =
      contains_one (EndsStand count) (Differ s t) op (two_all (λ term. term < count) s t all) c
  refuting_stand (Equal false s t) all op c =
      contains_one (EndsStand count) (Merge s t) op (two_all (λ term. term < count) s t all) c
  refuting_stand (Atom true term) all op c =
      contains_one (EndsStand count) (Merge term 1) op (one_stands term 1 all truths) c
  refuting_stand (Atom false term) all op c =
      contains_one (EndsStand count) (Merge term 0) op (one_stands term 0 all (omega arith)) c
  refuting_stand (And parts) all op c = contains_none op c
  refuting_stand (Or parts) all op c = contains_none op c
  refuting_stand (Forall forall) all op c = contains_none op c

-- the operation makes no trigger live
abbrev pub IsNotLive : Op → Type 0
IsNotLive (Add symbol args) = Unit {0}
IsNotLive (Merge s t) = Unit {0}
IsNotLive (Differ s t) = Unit {0}
IsNotLive (Live trigger) = ⊥
IsNotLive Push = Unit {0}
IsNotLive Pop = Unit {0}

-- so it is of those that refute a node
refuting_not_live : (node : Node) (op : Op) → Contains (refuting_of node) op → IsNotLive op
refuting_not_live (Equal true s t) op c = contains_one IsNotLive (Differ s t) op tt c
refuting_not_live (Equal false s t) op c = contains_one IsNotLive (Merge s t) op tt c
refuting_not_live (Atom true term) op c = contains_one IsNotLive (Merge term 1) op tt c
refuting_not_live (Atom false term) op c = contains_one IsNotLive (Merge term 0) op tt c
refuting_not_live (And parts) op c = contains_none op c
refuting_not_live (Or parts) op c = contains_none op c
refuting_not_live (Forall forall) op c = contains_none op c

module _ (formulas : Formulas) (rows : List TermRow) (truths : 1 < length rows)
    (stand : NodesStand (length rows) formulas.nodes) where
  -- what is held stands at the start
  pub exact_over : (now : Held) → terms_of now.graph.standing ≡ rows → HoldsExactly formulas now →
      IsHeldOver formulas rows now
  exact_over now rows_are exactly = record { rows_are = rows_are; ends = ends; lives = exactly.lives }
    where
      of_asserted : (op : Op) → IsOfAsserted formulas now op → EndsStand (length rows) op
      of_asserted op h = operations_stand (length rows) truths formulas h.node (stand h.n h.node h.has) op h.of_node

      ends : (op : Op) → Contains (operations_in now.graph.standing) op → EndsStand (length rows) op
      ends (Add symbol args) c = tt
      ends (Merge s t) c = of_asserted (Merge s t) (exactly.merges s t c)
      ends (Differ s t) c = of_asserted (Differ s t) (exactly.differs s t c)
      ends (Live trigger) c = tt
      ends Push c = tt
      ends Pop c = tt

  module _ (before : Held) (over : IsHeldOver formulas rows before) where
    -- so it does with more operations
    done_over : (after : GraphState) (asserted : List ℕ) (ops : List Op) → Does ops before.graph after →
        ((n : ℕ) → Contains before.asserted n → Contains asserted n) →
        ((op : Op) → Contains ops op → EndsStand (length rows) op) →
        ((trigger : Trigger) → Contains ops (Live trigger) →
        IsOfAsserted formulas (held after asserted) (Live trigger)) →
        IsHeldOver formulas rows (held after asserted)
    done_over after asserted ops did keeps new_ends new_lives = record {
      rows_are = did.terms ∙ over.rows_are;
      ends = λ op c. with_more (EndsStand (length rows)) (operations_in before.graph.standing) ops over.ends new_ends
          op (subst (λ list. Contains list op) did.operations c);
      lives = λ trigger c. ⊎_elim
          (λ old.
          let h = over.lives trigger old in
          record { n = h.n; node = h.node; asserted = keeps h.n h.asserted; has = h.has; of_node = h.of_node })
          (λ new. new_lives trigger new)
          (Contains-append_cases (operations_in before.graph.standing) ops (Live trigger)
          (subst (λ list. Contains list (Live trigger)) did.operations c));
    }

    holding_over : (n : ℕ) (node : Node) → HasNode formulas.nodes n node →
        IsHeldOver formulas rows (holding formulas n node before)
    holding_over n node has = done_over (replay before.graph (operations_of formulas node)) (before.asserted ++ n ∷ [])
        (operations_of formulas node) (does before.graph (operations_of formulas node) (plain_of formulas node))
        (λ m c. Contains-append_left before.asserted (n ∷ []) m c)
        (operations_stand (length rows) truths formulas node (stand n node has))
        (λ trigger c. record {
          n = n;
          node = node;
          asserted = Contains-push before.asserted n;
          has = has;
          of_node = c;
        })

    refuting_over : (n : ℕ) (node : Node) → HasNode formulas.nodes n node →
        IsHeldOver formulas rows (held (replay before.graph (refuting_of node)) before.asserted)
    refuting_over n node has = done_over (replay before.graph (refuting_of node)) before.asserted (refuting_of node)
        (does before.graph (refuting_of node) (plain_refuting node)) (λ m c. c)
        (refuting_stand (length rows) truths node (stand n node has))
        (λ trigger c. absurd (refuting_not_live node (Live trigger) c))

  mutual
    -- so it does where a formula is asserted
    pub asserts_over : {n : ℕ} {before after : Held} → Asserts formulas n before after →
        IsHeldOver formulas rows before → IsHeldOver formulas rows after
    asserts_over (asserting.stands c) over = over
    asserts_over (asserting.holds {n} {node} {before} fresh has each) over =
        all_over each (holding_over before over n node has)

    all_over : {ns : List ℕ} {before after : Held} → AssertsAll formulas ns before after →
        IsHeldOver formulas rows before → IsHeldOver formulas rows after
    all_over asserting.none over = over
    all_over (asserting.more one others) over = all_over others (asserts_over one over)

  -- where a branch closes
  pub closes_over : {branch last : Branch} → Closes formulas branch last → IsHeldOver formulas rows branch.held →
      IsHeldOver formulas rows last.held
  closes_over (closing.Closes.conflict c) over = over
  closes_over (closing.Closes.closed none rest) over = over
  closes_over (closing.Closes.step none first asserts others) over = closes_over others (asserts_over asserts over)

  -- and where a part is struck
  pub struck_over : (branch : Branch) (n place part : ℕ) (node : Node) → HasNode formulas.nodes part node →
      IsHeldOver formulas rows branch.held → IsHeldOver formulas rows (with_struck branch n place node).held
  struck_over branch n place part node has over = refuting_over branch.held over part node has
