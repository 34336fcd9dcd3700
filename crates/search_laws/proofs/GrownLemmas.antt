-- What is true over a table is true over a longer one.
use Rattle.std.proofs.Common.{◌≡◌, ℕ, zero, suc, ◌<◌, true, false, List, [], ◌∷◌, ◌++◌, length, map}
use Rattle.std.proofs.Common.{All, refl, sym, ap, ◌∙◌, inl, inr, ⊎_elim, arith}
use Rattle.std.specs.Option.{option_map_or}
use Rattle.std.proofs.lemmas.List.Elements.{All-contains}
use Rattle.graph_terms.specs.declared.term_row.TermRow.{TermRow}
use Rattle.graph_terms.specs.Terms.{IsTable}
use Rattle.graph_meaning.specs.declared.op.Op.{Op}
use Rattle.graph_meaning.specs.declared.op.Op.TheVariants.{Add, Merge, Differ, Live, Push, Pop}
use Rattle.formula_table.specs.declared.node.Node.{Node}
use Rattle.formula_table.specs.declared.node.Node.TheVariants.{Equal, Atom, And, Or, Forall}
use Rattle.formula_table.specs.Formulas.{NodesStand}
use Rattle.formula_table.specs.Node.{terms_in}
use Rattle.formula_value.specs.Holds as truth
use Rattle.formula_value.specs.Holds.{HasNode, Holds, Everywhere}
use Rattle.search_laws.specs.Assignment.{Assignment}
use Rattle.search_laws.proofs.Places.{at_front, stands_below, map_agree, contains_head, contains_later}
use Rattle.search_laws.proofs.FormulaLemmas.{OfLeaves, leaf_of, holds_leaf, holds_and, holds_or}
use Rattle.search_laws.proofs.Worlds.{World, IsTrueAt, IsHeldAt, IsTrueIn, IsNotTrueIn, IsTrueOp, true_of_leaves}
use Rattle.search_laws.proofs.Worlds.{held_of_leaves}
use Rattle.search_laws.proofs.Totals.{value, number_by, number_of, world_of}

-- the row's number by those of its arguments
abbrev by_args : Assignment → (ℕ → ℕ) → TermRow → ℕ
by_args given number row = value given row.symbol (map number row.args)

module _ (given : Assignment) (rows added : List TermRow) (table : IsTable rows) where
  by_grown : (bound term : ℕ) → term < bound → term < length rows →
      number_by given (rows ++ added) bound term ≡ number_by given rows bound term
  by_grown zero term less within = absurd (omega arith)
  by_grown (suc bound) term less within =
      let one = stands_below rows term within in
      ap (λ row. option_map_or (by_args given (number_by given (rows ++ added) bound)) row 0)
      (at_front rows added term one.0 one.1)
      ∙ ap (value given (one.0).symbol) (map_agree (number_by given (rows ++ added) bound)
      (number_by given rows bound) (one.0).args
      (λ arg c. let below = All-contains (λ a. a < term) (one.0).args arg (table.earlier term one.0 one.1) c in
      by_grown bound arg (omega arith) (omega arith)))
      ∙ sym (ap (λ row. option_map_or (by_args given (number_by given rows bound)) row 0) one.1)

  -- the terms of a table keep their numbers in a longer one
  number_grown : (term : ℕ) → term < length rows → number_of given (rows ++ added) term ≡ number_of given rows term
  number_grown term within = by_grown (suc term) term (omega arith) within

-- the worlds give the first so many terms the same numbers, true and false among them, and foralls the same values
pub record AgreeBelow (count : ℕ) (world other : World) : Type 0 where
  pub numbers : (term : ℕ) → term < count → world.number term ≡ other.number term
  pub foralls_are : world.foralls ≡ other.foralls
  pub truths : 1 < count

pub other_way : (count : ℕ) (world other : World) → AgreeBelow count world other → AgreeBelow count other world
other_way count world other agree = record {
  numbers = λ term less. sym (agree.numbers term less);
  foralls_are = sym agree.foralls_are;
  truths = agree.truths;
}

pub worlds_agree : (given : Assignment) (rows added : List TermRow) → IsTable rows → 1 < length rows →
    AgreeBelow (length rows) (world_of given rows) (world_of given (rows ++ added))
worlds_agree given rows added table truths = record {
  numbers = λ term less. sym (number_grown given rows added table term less);
  foralls_are = refl;
  truths = truths;
}

-- the ends of the operation are among the first so many terms
abbrev pub EndsStand : ℕ → Op → Type 0
EndsStand count (Add symbol args) = Unit {0}
EndsStand count (Merge s t) = (s < count) × (t < count)
EndsStand count (Differ s t) = (s < count) × (t < count)
EndsStand count (Live trigger) = Unit {0}
EndsStand count Push = Unit {0}
EndsStand count Pop = Unit {0}

module _ (count : ℕ) (world other : World) (agree : AgreeBelow count world other) where
  number_0 : world.number 0 ≡ other.number 0
  number_0 = let truths = agree.truths in agree.numbers 0 (omega arith)

  number_1 : world.number 1 ≡ other.number 1
  number_1 = agree.numbers 1 agree.truths

  left_of : (s t : ℕ) → All (λ term. term < count) (s ∷ t ∷ []) → world.number s ≡ other.number s
  left_of s t all = agree.numbers s (All-contains (λ term. term < count) (s ∷ t ∷ []) s all
      (contains_head s (t ∷ [])))

  right_of : (s t : ℕ) → All (λ term. term < count) (s ∷ t ∷ []) → world.number t ≡ other.number t
  right_of s t all = agree.numbers t (All-contains (λ term. term < count) (s ∷ t ∷ []) t all
      (contains_later s t (t ∷ []) (contains_head t [])))

  alone_of : (term : ℕ) → All (λ term. term < count) (term ∷ []) → world.number term ≡ other.number term
  alone_of term all = agree.numbers term (All-contains (λ t. t < count) (term ∷ []) term all (contains_head term []))

  -- a true leaf over these terms is true in the other world
  pub leaf_moves : (node : Node) → All (λ term. term < count) (terms_in node) → IsTrueAt world node →
      IsTrueAt other node
  leaf_moves (Equal true s t) all h = sym (left_of s t all) ∙ h ∙ right_of s t all
  leaf_moves (Equal false s t) all h = λ e. h (left_of s t all ∙ e ∙ sym (right_of s t all))
  leaf_moves (Atom true term) all h = sym (alone_of term all) ∙ h ∙ number_0
  leaf_moves (Atom false term) all h = sym (alone_of term all) ∙ h ∙ number_1
  leaf_moves (Forall forall) all h = sym (ap (λ f. f forall) agree.foralls_are) ∙ h
  leaf_moves (And parts) all h = h
  leaf_moves (Or parts) all h = h

  pub held_moves : (node : Node) → All (λ term. term < count) (terms_in node) → IsHeldAt world node →
      IsHeldAt other node
  held_moves (Equal positive s t) all h = tt
  held_moves (Atom positive term) all h = ⊎_elim (λ e. inl (sym (alone_of term all) ∙ e ∙ number_0))
      (λ e. inr (sym (alone_of term all) ∙ e ∙ number_1)) h
  held_moves (Forall forall) all h = tt
  held_moves (And parts) all h = h
  held_moves (Or parts) all h = h

  -- so is an operation
  pub operation_moves : (op : Op) → EndsStand count op → IsTrueOp world op → IsTrueOp other op
  operation_moves (Add symbol args) ends h = tt
  operation_moves (Merge s t) ends h = sym (agree.numbers s ends.0) ∙ h ∙ agree.numbers t ends.1
  operation_moves (Differ s t) ends h = λ e. h (agree.numbers s ends.0 ∙ e ∙ sym (agree.numbers t ends.1))
  operation_moves (Live trigger) ends h = tt
  operation_moves Push ends h = tt
  operation_moves Pop ends h = tt

module _ (nodes more : List Node) where
  -- a formula keeps what it has everywhere, and its truth, where nodes are added
  pub everywhere_grows : {leaf later : Node → Type 0} →
      ((n : ℕ) (node : Node) → HasNode nodes n node → leaf node → later node) → {n : ℕ} → Everywhere nodes leaf n →
      Everywhere (nodes ++ more) later n
  everywhere_grows moves (truth.Everywhere.literal {n} {node} at h) =
      truth.Everywhere.literal (at_front nodes more n node at) (moves n node at h)
  everywhere_grows moves (truth.Everywhere.conjunction {n} {parts} at each) =
      truth.Everywhere.conjunction (at_front nodes more n (And parts) at)
      (λ part c. everywhere_grows moves (each part c))
  everywhere_grows moves (truth.Everywhere.disjunction {n} {parts} at each) =
      truth.Everywhere.disjunction (at_front nodes more n (Or parts) at)
      (λ part c. everywhere_grows moves (each part c))

  pub holds_grows : {leaf later : Node → Type 0} →
      ((n : ℕ) (node : Node) → HasNode nodes n node → leaf node → later node) → {n : ℕ} → Holds nodes leaf n →
      Holds (nodes ++ more) later n
  holds_grows moves (truth.Holds.literal {n} {node} at h) =
      truth.Holds.literal (at_front nodes more n node at) (moves n node at h)
  holds_grows moves (truth.Holds.every {n} {parts} at each) =
      truth.Holds.every (at_front nodes more n (And parts) at) (λ part c. holds_grows moves (each part c))
  holds_grows moves (truth.Holds.some {n} {part} {parts} at c h) =
      truth.Holds.some (at_front nodes more n (Or parts) at) c (holds_grows moves h)

  -- and what is true over more nodes was true
  pub holds_before : {leaf later held : Node → Type 0} → OfLeaves later → OfLeaves held →
      ((n : ℕ) (node : Node) → HasNode nodes n node → later node → leaf node) → {n : ℕ} → Everywhere nodes held n →
      Holds (nodes ++ more) later n → Holds nodes leaf n
  holds_before of_leaves held_leaves moves (truth.Everywhere.literal {n} {node} at h) holds = truth.Holds.literal at
      (moves n node at (holds_leaf of_leaves (at_front nodes more n node at) (leaf_of held_leaves node h) holds))
  holds_before of_leaves held_leaves moves (truth.Everywhere.conjunction {n} {parts} at each) holds =
      truth.Holds.every at (λ part c. holds_before of_leaves held_leaves moves (each part c)
      (holds_and of_leaves (at_front nodes more n (And parts) at) holds part c))
  holds_before of_leaves held_leaves moves (truth.Everywhere.disjunction {n} {parts} at each) holds =
      let one = holds_or of_leaves (at_front nodes more n (Or parts) at) holds in
      truth.Holds.some at one.1 (holds_before of_leaves held_leaves moves (each one.0 one.1) one.2)

module _ (nodes more : List Node) (count : ℕ) (world other : World) (agree : AgreeBelow count world other)
    (stand : NodesStand count nodes) where
  held_of : (n : ℕ) (node : Node) → HasNode nodes n node → IsHeldAt world node → IsHeldAt other node
  held_of n node at h = held_moves count world other agree node (stand n node at) h

  true_of : (n : ℕ) (node : Node) → HasNode nodes n node → IsTrueAt world node → IsTrueAt other node
  true_of n node at h = leaf_moves count world other agree node (stand n node at) h

  true_before : (n : ℕ) (node : Node) → HasNode nodes n node → IsTrueAt other node → IsTrueAt world node
  true_before n node at h =
      leaf_moves count other world (other_way count world other agree) node (stand n node at) h

  -- a formula that is true in the one world is true in the other
  pub true_moves : (n : ℕ) → IsTrueIn nodes world n → IsTrueIn (nodes ++ more) other n
  true_moves n h = record {
    held = everywhere_grows nodes more held_of h.held;
    holds = holds_grows nodes more true_of h.holds;
  }

  -- and one that isn't isn't
  pub not_true_moves : (n : ℕ) → IsNotTrueIn nodes world n → IsNotTrueIn (nodes ++ more) other n
  not_true_moves n h = record {
    held = everywhere_grows nodes more held_of h.held;
    not_holds = λ holds. h.not_holds (holds_before nodes more (true_of_leaves other) (held_of_leaves world)
        true_before h.held holds);
  }
