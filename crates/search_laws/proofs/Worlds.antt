-- Worlds: a number for each term of a table, the same for the same arguments, and a truth value for each forall.
use Rattle.std.proofs.Common.{◌≡◌, ◌≢◌, ℕ, Bool, true, false, IsTrue, ◌⊎◌, List, ◌∷◌, map, Contains, refl, sym}
use Rattle.std.proofs.Common.{ap₂, ◌∙◌, inl, inr, ⊎_elim}
use Rattle.std.proofs.lemmas.Bool.Decides.{eqb_tells}
use Rattle.graph_terms.specs.declared.term_row.TermRow.{TermRow}
use Rattle.graph_terms.specs.Terms.{term_row, HasRow}
use Rattle.graph_meaning.specs.declared.op.Op.{Op}
use Rattle.graph_meaning.specs.declared.op.Op.TheVariants.{Add, Merge, Differ, Live, Push, Pop}
use Rattle.graph_meaning.specs.Same.{Derives, DerivesEach}
use Rattle.graph_meaning.specs.Same as same
use Rattle.formula_table.specs.declared.node.Node.{Node}
use Rattle.formula_table.specs.declared.node.Node.TheVariants.{Equal, Atom, And, Or, Forall}
use Rattle.formula_table.specs.Formulas.{Formulas}
use Rattle.formula_value.specs.Holds as truth
use Rattle.formula_value.specs.Holds.{HasNode, Holds, Everywhere}
use Rattle.formula_assert.specs.Held.{triggers_at, operations_of, refuting_of, conjuncts_of}
use Rattle.search_laws.proofs.Places.{contains_none, contains_one}
use Rattle.search_laws.proofs.GraphLemmas.{live_only}
use Rattle.search_laws.proofs.FormulaLemmas.{OfLeaves, IsLeaf, equal_leaf, atom_leaf, holds_and, holds_leaf}
use Rattle.search_laws.proofs.FormulaLemmas.{everywhere_and, everywhere_leaf}

pub record World : Type 0 where
  pub number : ℕ → ℕ
  pub foralls : ℕ → Bool

-- terms with one symbol and equal numbers of their arguments have one number, and true has another number than false
pub record IsWorld (rows : List TermRow) (world : World) : Type 0 where
  pub congruent : (s t symbol : ℕ) (ss ts : List ℕ) → HasRow rows s (term_row symbol ss) →
      HasRow rows t (term_row symbol ts) → map world.number ss ≡ map world.number ts →
      world.number s ≡ world.number t
  pub apart : world.number 0 ≢ world.number 1

-- the leaf is true
abbrev pub IsTrueAt : World → Node → Type 0
IsTrueAt world (Equal true s t) = world.number s ≡ world.number t
IsTrueAt world (Equal false s t) = world.number s ≢ world.number t
IsTrueAt world (Atom true term) = world.number term ≡ world.number 0
IsTrueAt world (Atom false term) = world.number term ≡ world.number 1
IsTrueAt world (Forall forall) = IsTrue (world.foralls forall)
IsTrueAt world (And parts) = ⊥
IsTrueAt world (Or parts) = ⊥

-- the term of an atom has the number of true or that of false
abbrev pub IsHeldAt : World → Node → Type 0
IsHeldAt world (Equal positive s t) = Unit {0}
IsHeldAt world (Atom positive term) =
    (world.number term ≡ world.number 0) ⊎ (world.number term ≡ world.number 1)
IsHeldAt world (Forall forall) = Unit {0}
IsHeldAt world (And parts) = ⊥
IsHeldAt world (Or parts) = ⊥

-- the formula is true, and atoms have two values
pub record IsTrueIn (nodes : List Node) (world : World) (n : ℕ) : Type 0 where
  pub held : Everywhere nodes (IsHeldAt world) n
  pub holds : Holds nodes (IsTrueAt world) n

-- it is not true
pub record IsNotTrueIn (nodes : List Node) (world : World) (n : ℕ) : Type 0 where
  pub held : Everywhere nodes (IsHeldAt world) n
  pub not_holds : Holds nodes (IsTrueAt world) n → ⊥

-- what the operation says is true
abbrev pub IsTrueOp : World → Op → Type 0
IsTrueOp world (Add symbol args) = Unit {0}
IsTrueOp world (Merge s t) = world.number s ≡ world.number t
IsTrueOp world (Differ s t) = world.number s ≢ world.number t
IsTrueOp world (Live trigger) = Unit {0}
IsTrueOp world Push = Unit {0}
IsTrueOp world Pop = Unit {0}

-- these properties are of leaves only
pub true_of_leaves : (world : World) → OfLeaves (IsTrueAt world)
true_of_leaves world = record { no_and = λ parts h. h; no_or = λ parts h. h }

pub held_of_leaves : (world : World) → OfLeaves (IsHeldAt world)
held_of_leaves world = record { no_and = λ parts h. h; no_or = λ parts h. h }

-- terms that are derived equal have one number
module _ (rows : List TermRow) (merges : List (ℕ × ℕ)) (world : World) (is_world : IsWorld rows world)
    (true_merges : (s t : ℕ) → Contains merges (s, t) → world.number s ≡ world.number t) where
  mutual
    pub one_number : {s t : ℕ} → Derives rows merges s t → world.number s ≡ world.number t
    one_number (same.same_term less) = refl
    one_number (same.turned d) = sym (one_number d)
    one_number (same.joined d e) = one_number d ∙ one_number e
    one_number (same.merged {s} {t} c) = true_merges s t c
    one_number (same.congruent {s} {t} {symbol} {ss} {ts} left right each) =
        is_world.congruent s t symbol ss ts left right (one_number_each each)

    one_number_each : {ss ts : List ℕ} → DerivesEach rows merges ss ts → map world.number ss ≡ map world.number ts
    one_number_each same.none = refl
    one_number_each (same.more d each) = ap₂ (λ x xs. x ∷ xs) (one_number d) (one_number_each each)

-- numbers are equal or not, and a truth value is true or not
same_or_not : (a b : ℕ) → (a ≡ b) ⊎ (a ≢ b)
same_or_not a b = ⊎_elim (λ h. inl h.1) (λ h. inr h.1) (eqb_tells a b)

true_or_not : (b : Bool) → IsTrue b ⊎ (IsTrue b → ⊥)
true_or_not true = inl refl
true_or_not false = inr (λ e. cc)

-- a leaf is true or not
pub leaf_or_not : (world : World) (node : Node) → IsHeldAt world node →
    IsTrueAt world node ⊎ (IsTrueAt world node → ⊥)
leaf_or_not world (Equal true s t) held = same_or_not (world.number s) (world.number t)
leaf_or_not world (Equal false s t) held =
    ⊎_elim (λ e. inr (λ different. different e)) inl (same_or_not (world.number s) (world.number t))
leaf_or_not world (Atom true term) held = same_or_not (world.number term) (world.number 0)
leaf_or_not world (Atom false term) held = same_or_not (world.number term) (world.number 1)
leaf_or_not world (Forall forall) held = true_or_not (world.foralls forall)
leaf_or_not world (And parts) held = absurd held
leaf_or_not world (Or parts) held = absurd held

module _ (world : World) (formulas : Formulas) (n : ℕ) where
  abbrev IsTrueOne : Type 0
  IsTrueOne = IsTrueIn formulas.nodes world n

  true_leaf : (node : Node) → HasNode formulas.nodes n node → IsLeaf node → IsTrueOne → IsTrueAt world node
  true_leaf node has is_leaf h = holds_leaf (true_of_leaves world) has is_leaf h.holds

  -- what the operations of a true formula say is true
  pub operations_true : (node : Node) → HasNode formulas.nodes n node → IsTrueOne → (op : Op) →
      Contains (operations_of formulas node) op → IsTrueOp world op
  operations_true (Equal true s t) has h op c = contains_one (IsTrueOp world) (Merge s t) op
      (true_leaf (Equal true s t) has (equal_leaf true s t) h) c
  operations_true (Equal false s t) has h op c = contains_one (IsTrueOp world) (Differ s t) op
      (true_leaf (Equal false s t) has (equal_leaf false s t) h) c
  operations_true (Atom true term) has h op c = contains_one (IsTrueOp world) (Merge term 0) op
      (true_leaf (Atom true term) has (atom_leaf true term) h) c
  operations_true (Atom false term) has h op c = contains_one (IsTrueOp world) (Merge term 1) op
      (true_leaf (Atom false term) has (atom_leaf false term) h) c
  operations_true (And parts) has h op c = contains_none op c
  operations_true (Or parts) has h op c = contains_none op c
  operations_true (Forall forall) has h op c =
      live_only (IsTrueOp world) (λ trigger. tt) (triggers_at formulas.foralls forall) op c

  held_atom : (positive : Bool) (term : ℕ) → HasNode formulas.nodes n (Atom positive term) →
      Everywhere formulas.nodes (IsHeldAt world) n → IsHeldAt world (Atom positive term)
  held_atom positive term has h = everywhere_leaf (held_of_leaves world) has (atom_leaf positive term) h

  -- and what refutes one that is not true
  pub refuting_true : (node : Node) → HasNode formulas.nodes n node → IsNotTrueIn formulas.nodes world n →
      (op : Op) → Contains (refuting_of node) op → IsTrueOp world op
  refuting_true (Equal true s t) has h op c = contains_one (IsTrueOp world) (Differ s t) op
      (λ e. h.not_holds (truth.Holds.literal has e)) c
  refuting_true (Equal false s t) has h op c = contains_one (IsTrueOp world) (Merge s t) op
      (⊎_elim (λ e. e) (λ different. absurd (h.not_holds (truth.Holds.literal has different)))
      (same_or_not (world.number s) (world.number t))) c
  refuting_true (Atom true term) has h op c = contains_one (IsTrueOp world) (Merge term 1) op
      (⊎_elim (λ e. absurd (h.not_holds (truth.Holds.literal has e))) (λ e. e) (held_atom true term has h.held)) c
  refuting_true (Atom false term) has h op c = contains_one (IsTrueOp world) (Merge term 0) op
      (⊎_elim (λ e. e) (λ e. absurd (h.not_holds (truth.Holds.literal has e))) (held_atom false term has h.held)) c
  refuting_true (And parts) has h op c = contains_none op c
  refuting_true (Or parts) has h op c = contains_none op c
  refuting_true (Forall forall) has h op c = contains_none op c

  -- the conjuncts of a true formula are true
  pub conjuncts_true : (node : Node) → HasNode formulas.nodes n node → IsTrueOne → (part : ℕ) →
      Contains (conjuncts_of node) part → IsTrueIn formulas.nodes world part
  conjuncts_true (And parts) has h part c = record {
    held = everywhere_and (held_of_leaves world) has h.held part c;
    holds = holds_and (true_of_leaves world) has h.holds part c;
  }
  conjuncts_true (Equal positive s t) has h part c = contains_none part c
  conjuncts_true (Atom positive term) has h part c = contains_none part c
  conjuncts_true (Or parts) has h part c = contains_none part c
  conjuncts_true (Forall forall) has h part c = contains_none part c
