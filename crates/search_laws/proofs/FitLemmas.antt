-- Worlds of branches.
use Rattle.std.proofs.Common.{◌≡◌, ◌≢◌, ℕ, true, false, ◌⊎◌, List, [], ◌∷◌, ◌++◌, slice_get, Some, Contains, sym}
use Rattle.std.proofs.Common.{ap, subst, ◌∙◌, ⊎_elim}
use Rattle.std.proofs.lemmas.Option.{same_Some}
use Rattle.graph_meaning.specs.declared.op.Op.{Op}
use Rattle.graph_meaning.specs.declared.op.Op.TheVariants.{Merge, Differ}
use Rattle.graph_meaning.specs.Standing.{terms_of}
use Rattle.graph_meaning.specs.State.{GraphState, replay}
use Rattle.formula_table.specs.declared.node.Node.{Node}
use Rattle.formula_table.specs.declared.node.Node.TheVariants.{Equal, Atom, And, Or, Forall}
use Rattle.formula_table.specs.Formulas.{Formulas}
use Rattle.formula_value.specs.Holds.{HasNode, Holds, Everywhere}
use Rattle.formula_value.specs.Value.{AreSame, AreKeptApart, IsNoLeaf}
use Rattle.formula_assert.specs.Held.{Held, operations_of, refuting_of, holding}
use Rattle.formula_assert.specs.Asserts.{Asserts, AssertsAll}
use Rattle.formula_assert.specs.Asserts as asserting
use Rattle.formula_assert.specs.Exactly.{operations_in}
use Rattle.search_laws.specs.Branch.{Branch, with_held, with_struck, known_in, live_in}
use Rattle.search_laws.specs.Closing.{Conflict, IsAssertedOr, IsLeftOver, IsUnit, Closes, IsSplit}
use Rattle.search_laws.specs.Closing as closing
use Rattle.search_laws.proofs.Places.{place_of, contains_at, contains_head, contains_later, with_one, with_more}
use Rattle.search_laws.proofs.GraphLemmas.{Does, does, plain_of, plain_refuting, merge_stands, differ_stands}
use Rattle.search_laws.proofs.FormulaLemmas.{OfLeaves, one_node, same_ors, holds_or, everywhere_or, fails_not}
use Rattle.search_laws.proofs.FormulaLemmas.{holds_or_not}
use Rattle.search_laws.proofs.Worlds.{World, IsWorld, IsTrueAt, IsHeldAt, IsTrueIn, IsNotTrueIn, IsTrueOp}
use Rattle.search_laws.proofs.Worlds.{true_of_leaves, held_of_leaves, one_number, leaf_or_not, operations_true}
use Rattle.search_laws.proofs.Worlds.{refuting_true, conjuncts_true}

-- the world is one of what is held: what stands in the graph and what is asserted is true
pub record FitsHeld (formulas : Formulas) (world : World) (now : Held) : Type 0 where
  pub is_world : IsWorld (terms_of now.graph.standing) world
  pub operations : (op : Op) → Contains (operations_in now.graph.standing) op → IsTrueOp world op
  pub asserted : (n : ℕ) → Contains now.asserted n → IsTrueIn formulas.nodes world n

-- the part at a place of a disjunction is not true
pub record IsRightlyStruck (formulas : Formulas) (world : World) (n place : ℕ) : Type 0 where
  pub parts : List ℕ
  pub part : ℕ
  pub has : HasNode formulas.nodes n (Or parts)
  pub at_place : slice_get parts place ≡ Some part
  pub not_true : IsNotTrueIn formulas.nodes world part

-- the world is one of the branch: and what is struck is not true
pub record Fits (formulas : Formulas) (world : World) (branch : Branch) : Type 0 where
  pub held : FitsHeld formulas world branch.held
  pub struck : (n place : ℕ) → Contains branch.struck (n, place) → IsRightlyStruck formulas world n place

module _ (formulas : Formulas) (world : World) where
  -- a graph in which true operations were done fits
  after_fits : (before after : GraphState) (asserted : List ℕ) (ops : List Op) → Does ops before after →
      ((op : Op) → Contains ops op → IsTrueOp world op) → IsWorld (terms_of before.standing) world →
      ((op : Op) → Contains (operations_in before.standing) op → IsTrueOp world op) →
      ((n : ℕ) → Contains asserted n → IsTrueIn formulas.nodes world n) →
      FitsHeld formulas world (record { graph = after; asserted = asserted })
  after_fits before after asserted ops did new is_world old asserted_true = record {
    is_world = subst (λ rows. IsWorld rows world) (sym did.terms) is_world;
    operations = λ op c. with_more (IsTrueOp world) (operations_in before.standing) ops old new op
        (subst (λ list. Contains list op) did.operations c);
    asserted = asserted_true;
  }

  -- so does what is held with a true formula more
  holding_fits : (before : Held) (n : ℕ) (node : Node) → FitsHeld formulas world before →
      HasNode formulas.nodes n node → IsTrueIn formulas.nodes world n →
      FitsHeld formulas world (holding formulas n node before)
  holding_fits before n node fits has h = after_fits before.graph
      (replay before.graph (operations_of formulas node)) (before.asserted ++ n ∷ []) (operations_of formulas node)
      (does before.graph (operations_of formulas node) (plain_of formulas node))
      (operations_true world formulas n node has h) fits.is_world fits.operations
      (with_one (IsTrueIn formulas.nodes world) before.asserted n fits.asserted h)

  mutual
    -- to assert what is true keeps the world
    pub asserts_fits : {n : ℕ} {before after : Held} → Asserts formulas n before after →
        FitsHeld formulas world before → IsTrueIn formulas.nodes world n → FitsHeld formulas world after
    asserts_fits (asserting.stands c) fits h = fits
    asserts_fits (asserting.holds {n} {node} {before} fresh has each) fits h =
        all_fits each (holding_fits before n node fits has h) (conjuncts_true world formulas n node has h)

    all_fits : {ns : List ℕ} {before after : Held} → AssertsAll formulas ns before after →
        FitsHeld formulas world before → ((part : ℕ) → Contains ns part → IsTrueIn formulas.nodes world part) →
        FitsHeld formulas world after
    all_fits asserting.none fits h = fits
    all_fits (asserting.more {n} {ns} one others) fits h =
        all_fits others (asserts_fits one fits (h n (contains_head n ns)))
        (λ part c. h part (contains_later n part ns c))

  no_of_leaves : (branch : Branch) → OfLeaves (IsNoLeaf (known_in branch) (live_in formulas branch))
  no_of_leaves branch = record { no_and = λ parts h. h; no_or = λ parts h. h }

  module _ (branch : Branch) (fits : Fits formulas world branch) where
    -- terms of one class have one number
    number_of_class : (s t : ℕ) → AreSame (known_in branch) s t → world.number s ≡ world.number t
    number_of_class s t d = one_number (known_in branch).rows (known_in branch).merges world fits.held.is_world
        (λ a b c. fits.held.operations (Merge a b) (merge_stands branch.held.graph.standing a b c)) d

    -- the ends of a difference have different numbers
    ends_differ : (s t : ℕ) → Contains (known_in branch).differs (s, t) → world.number s ≢ world.number t
    ends_differ s t c = fits.held.operations (Differ s t) (differ_stands branch.held.graph.standing s t c)

    -- and so have terms that are kept apart
    numbers_apart : (s t : ℕ) → AreKeptApart (known_in branch) s t → world.number s ≢ world.number t
    numbers_apart s t kept e =
        let different = ends_differ kept.0 kept.1 kept.2 in
        ⊎_elim
        (λ h. different (number_of_class kept.0 s h.0 ∙ e ∙ sym (number_of_class kept.1 t h.1)))
        (λ h. different (number_of_class kept.0 t h.0 ∙ sym e ∙ sym (number_of_class kept.1 s h.1)))
        kept.3

    -- a leaf that is known to be false isn't true
    no_leaf_not : (node : Node) → IsNoLeaf (known_in branch) (live_in formulas branch) node → IsTrueAt world node → ⊥
    no_leaf_not (Equal true s t) denied given = numbers_apart s t denied.kept given
    no_leaf_not (Equal false s t) denied given = given (number_of_class s t denied)
    no_leaf_not (Atom true term) denied given =
        fits.held.is_world.apart (sym given ∙ number_of_class term 1 denied.same)
    no_leaf_not (Atom false term) denied given =
        fits.held.is_world.apart (sym (number_of_class term 0 denied) ∙ given)
    no_leaf_not (Forall forall) denied given = denied
    no_leaf_not (And parts) denied given = denied
    no_leaf_not (Or parts) denied given = denied

    -- a part that holds is left over
    holding_is_left : (n place part : ℕ) (parts : List ℕ) → IsAssertedOr formulas branch n parts →
        slice_get parts place ≡ Some part → Holds formulas.nodes (IsTrueAt world) part →
        IsLeftOver formulas branch n parts place part
    holding_is_left n place part parts is_or at holds = record {
      at_place = at;
      not_no = λ denied. fails_not (no_of_leaves branch) (true_of_leaves world) no_leaf_not denied holds;
      not_struck = λ struck.
          let stop = fits.struck n place struck in
          let same_parts : parts ≡ stop.parts = same_ors parts stop.parts
          (one_node formulas.nodes n is_or.has stop.has) in
          let same_part : part ≡ stop.part = same_Some part stop.part
          (sym at ∙ ap (λ xs. slice_get xs place) same_parts ∙ stop.at_place) in
          stop.not_true.not_holds (subst (Holds formulas.nodes (IsTrueAt world)) same_part holds);
    }

    -- some part of an asserted disjunction holds, and is left over
    some_left : (n : ℕ) (parts : List ℕ) → IsAssertedOr formulas branch n parts → (place : ℕ) × (part : ℕ) ×
        IsLeftOver formulas branch n parts place part × Holds formulas.nodes (IsTrueAt world) part
    some_left n parts is_or =
        let one = holds_or (true_of_leaves world) is_or.has ((fits.held.asserted n is_or.asserted).holds) in
        let at = place_of parts one.0 one.1 in
        (at.0, one.0, holding_is_left n at.0 one.0 parts is_or at.1 one.2, one.2)

    -- there is no conflict
    pub no_conflict : Conflict formulas branch → ⊥
    no_conflict (closing.Conflict.true_is_false same) = fits.held.is_world.apart (number_of_class 0 1 same)
    no_conflict (closing.Conflict.difference {s} {t} differ same) = ends_differ s t differ (number_of_class s t same)
    no_conflict (closing.Conflict.nothing_left {n} {parts} is_or none) =
        let one = some_left n parts is_or in none one.0 one.1 one.2

    -- a part of an asserted disjunction has two values
    pub part_held : (n place part : ℕ) (parts : List ℕ) → IsAssertedOr formulas branch n parts →
        slice_get parts place ≡ Some part → Everywhere formulas.nodes (IsHeldAt world) part
    part_held n place part parts is_or at = everywhere_or (held_of_leaves world) is_or.has
        (fits.held.asserted n is_or.asserted).held part (contains_at parts place part at)

    -- the one part left over holds
    unit_holds : (n part : ℕ) → IsUnit formulas branch n part → IsTrueIn formulas.nodes world part
    unit_holds n part u =
        let one = some_left n u.parts u.is_or in
        let here : one.0 ≡ u.place = u.only one.0 one.1 one.2 in
        let same : one.1 ≡ part = same_Some one.1 part
        (sym one.2.at_place ∙ ap (slice_get u.parts) here ∙ u.left.at_place) in
        record {
          held = part_held n u.place part u.parts u.is_or u.left.at_place;
          holds = subst (Holds formulas.nodes (IsTrueAt world)) same one.3;
        }

    -- the branch with more that is held
    pub held_fits : (next : Held) → FitsHeld formulas world next → Fits formulas world (with_held branch next)
    held_fits next h = record { held = h; struck = fits.struck }

    -- a part that doesn't hold may be struck
    pub struck_fits : (n place part : ℕ) (parts : List ℕ) (node : Node) → IsAssertedOr formulas branch n parts →
        slice_get parts place ≡ Some part → HasNode formulas.nodes part node →
        (Holds formulas.nodes (IsTrueAt world) part → ⊥) → Fits formulas world (with_struck branch n place node)
    struck_fits n place part parts node is_or at has not =
        let isnt : IsNotTrueIn formulas.nodes world part =
        record { held = part_held n place part parts is_or at; not_holds = not } in
        record {
          held = after_fits branch.held.graph (replay branch.held.graph (refuting_of node)) branch.held.asserted
              (refuting_of node) (does branch.held.graph (refuting_of node) (plain_refuting node))
              (refuting_true world formulas part node has isnt) fits.held.is_world fits.held.operations
              fits.held.asserted;
          struck = λ m k c. with_one (λ (p : ℕ × ℕ). IsRightlyStruck formulas world p.0 p.1) branch.struck (n, place)
              (λ p. fits.struck p.0 p.1)
              (record { parts = parts; part = part; has = is_or.has; at_place = at; not_true = isnt }) (m, k) c;
        }

    -- a part of a disjunction holds or doesn't
    pub part_or_not : (n place part : ℕ) (parts : List ℕ) → IsAssertedOr formulas branch n parts →
        slice_get parts place ≡ Some part →
        Holds formulas.nodes (IsTrueAt world) part ⊎ (Holds formulas.nodes (IsTrueAt world) part → ⊥)
    part_or_not n place part parts is_or at = holds_or_not (true_of_leaves world) (held_of_leaves world)
        (leaf_or_not world) (part_held n place part parts is_or at)

  -- to close keeps the world
  pub closes_fits : {branch last : Branch} → Closes formulas branch last → Fits formulas world branch →
      Fits formulas world last
  closes_fits (closing.Closes.conflict c) fits = fits
  closes_fits (closing.Closes.closed none rest) fits = fits
  closes_fits (closing.Closes.step {branch} {next} {n} {part} none first asserts others) fits =
      closes_fits others (held_fits branch fits next
      (asserts_fits asserts fits.held (unit_holds branch fits n part first.is_unit)))
