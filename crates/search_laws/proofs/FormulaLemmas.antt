-- Formulas that hold, fail, or have a property everywhere.
use Rattle.std.proofs.Common.{◌≡◌, ℕ, Bool, ◌⊎◌, List, Contains, sym, subst, ◌∙◌, inl, inr, ⊎_elim}
use Rattle.std.proofs.lemmas.Option.{same_Some}
use Rattle.formula_table.specs.declared.node.Node.{Node}
use Rattle.formula_table.specs.declared.node.Node.TheVariants.{Equal, Atom, And, Or}
use Rattle.formula_value.specs.Holds as formulas
use Rattle.formula_value.specs.Holds.{HasNode, Holds, Fails, Everywhere}
use Rattle.search_laws.proofs.Places.{each_or_some}

-- a number has one node
pub one_node : (nodes : List Node) (n : ℕ) {left right : Node} → HasNode nodes n left → HasNode nodes n right →
    left ≡ right
one_node nodes n {left} {right} l r = same_Some left right (sym l ∙ r)

-- the property is of leaves only
pub record OfLeaves (leaf : Node → Type 0) : Type 0 where
  pub no_and : (parts : List ℕ) → leaf (And parts) → ⊥
  pub no_or : (parts : List ℕ) → leaf (Or parts) → ⊥

-- equal conjunctions have the same parts, equal disjunctions have, and the two are never equal
pub same_ands : (ps qs : List ℕ) → And ps ≡ And qs → ps ≡ qs
same_ands ps qs e = cc

pub same_ors : (ps qs : List ℕ) → Or ps ≡ Or qs → ps ≡ qs
same_ors ps qs e = cc

and_or : (ps qs : List ℕ) → And ps ≡ Or qs → ⊥
and_or ps qs e = cc

-- the node is no connective
pub record IsLeaf (node : Node) : Type 0 where
  pub not_and : (parts : List ℕ) → node ≡ And parts → ⊥
  pub not_or : (parts : List ℕ) → node ≡ Or parts → ⊥

-- as an equation and an atom are not
pub equal_leaf : (positive : Bool) (left right : ℕ) → IsLeaf (Equal positive left right)
equal_leaf positive left right = record { not_and = λ parts e. cc; not_or = λ parts e. cc }

pub atom_leaf : (positive : Bool) (term : ℕ) → IsLeaf (Atom positive term)
atom_leaf positive term = record { not_and = λ parts e. cc; not_or = λ parts e. cc }

-- a node with a property of leaves is a leaf
pub leaf_of : {leaf : Node → Type 0} → OfLeaves leaf → (node : Node) → leaf node → IsLeaf node
leaf_of {leaf} of_leaves node h = record {
  not_and = λ parts e. of_leaves.no_and parts (subst leaf e h);
  not_or = λ parts e. of_leaves.no_or parts (subst leaf e h);
}

module _ {nodes : List Node} {leaf : Node → Type 0} (of_leaves : OfLeaves leaf) where
  -- some part of a disjunction that holds holds
  pub holds_or : {n : ℕ} {parts : List ℕ} → HasNode nodes n (Or parts) → Holds nodes leaf n →
      (part : ℕ) × Contains parts part × Holds nodes leaf part
  holds_or {parts} has (formulas.Holds.literal {n} {node} at h) =
      absurd (of_leaves.no_or parts (subst leaf (one_node nodes n at has) h))
  holds_or {parts} has (formulas.Holds.every {n} {parts = ps} at each) =
      absurd (and_or ps parts (one_node nodes n at has))
  holds_or {parts} has (formulas.Holds.some {n} {part} {parts = ps} at within h) =
      (part, subst (λ xs. Contains xs part) (same_ors ps parts (one_node nodes n at has)) within, h)

  -- each part of a conjunction that holds holds
  pub holds_and : {n : ℕ} {parts : List ℕ} → HasNode nodes n (And parts) → Holds nodes leaf n → (part : ℕ) →
      Contains parts part → Holds nodes leaf part
  holds_and {parts} has (formulas.Holds.literal {n} {node} at h) part within =
      absurd (of_leaves.no_and parts (subst leaf (one_node nodes n at has) h))
  holds_and {parts} has (formulas.Holds.every {n} {parts = ps} at each) part within =
      each part (subst (λ xs. Contains xs part) (same_ands parts ps (one_node nodes n has at)) within)
  holds_and {parts} has (formulas.Holds.some {n} {part = q} {parts = ps} at inside h) part within =
      absurd (and_or parts ps (one_node nodes n has at))

  -- a leaf that holds has the property
  pub holds_leaf : {n : ℕ} {node : Node} → HasNode nodes n node → IsLeaf node → Holds nodes leaf n → leaf node
  holds_leaf {node} has is_leaf (formulas.Holds.literal {n} {node = other} at h) =
      subst leaf (one_node nodes n at has) h
  holds_leaf {node} has is_leaf (formulas.Holds.every {n} {parts = ps} at each) =
      absurd (is_leaf.not_and ps (one_node nodes n has at))
  holds_leaf {node} has is_leaf (formulas.Holds.some {n} {part} {parts = ps} at within h) =
      absurd (is_leaf.not_or ps (one_node nodes n has at))

  -- each part has the property everywhere
  pub everywhere_and : {n : ℕ} {parts : List ℕ} → HasNode nodes n (And parts) → Everywhere nodes leaf n →
      (part : ℕ) → Contains parts part → Everywhere nodes leaf part
  everywhere_and {parts} has (formulas.Everywhere.literal {n} {node} at h) part within =
      absurd (of_leaves.no_and parts (subst leaf (one_node nodes n at has) h))
  everywhere_and {parts} has (formulas.Everywhere.conjunction {n} {parts = ps} at each) part within =
      each part (subst (λ xs. Contains xs part) (same_ands parts ps (one_node nodes n has at)) within)
  everywhere_and {parts} has (formulas.Everywhere.disjunction {n} {parts = ps} at each) part within =
      absurd (and_or parts ps (one_node nodes n has at))

  pub everywhere_or : {n : ℕ} {parts : List ℕ} → HasNode nodes n (Or parts) → Everywhere nodes leaf n →
      (part : ℕ) → Contains parts part → Everywhere nodes leaf part
  everywhere_or {parts} has (formulas.Everywhere.literal {n} {node} at h) part within =
      absurd (of_leaves.no_or parts (subst leaf (one_node nodes n at has) h))
  everywhere_or {parts} has (formulas.Everywhere.conjunction {n} {parts = ps} at each) part within =
      absurd (and_or ps parts (one_node nodes n at has))
  everywhere_or {parts} has (formulas.Everywhere.disjunction {n} {parts = ps} at each) part within =
      each part (subst (λ xs. Contains xs part) (same_ors parts ps (one_node nodes n has at)) within)

  -- a leaf with the property everywhere has it
  pub everywhere_leaf : {n : ℕ} {node : Node} → HasNode nodes n node → IsLeaf node → Everywhere nodes leaf n →
      leaf node
  everywhere_leaf {node} has is_leaf (formulas.Everywhere.literal {n} {node = other} at h) =
      subst leaf (one_node nodes n at has) h
  everywhere_leaf {node} has is_leaf (formulas.Everywhere.conjunction {n} {parts = ps} at each) =
      absurd (is_leaf.not_and ps (one_node nodes n has at))
  everywhere_leaf {node} has is_leaf (formulas.Everywhere.disjunction {n} {parts = ps} at each) =
      absurd (is_leaf.not_or ps (one_node nodes n has at))

-- what fails doesn't hold, where no leaf does both
pub fails_not : {nodes : List Node} {no yes : Node → Type 0} → OfLeaves no → OfLeaves yes →
    ((node : Node) → no node → yes node → ⊥) → {n : ℕ} → Fails nodes no n → Holds nodes yes n → ⊥
fails_not {nodes} {no} {yes} no_leaves yes_leaves apart (formulas.Fails.literal {n} {node} at f) h =
    apart node f (holds_leaf yes_leaves at (leaf_of no_leaves node f) h)
fails_not {nodes} {no} {yes} no_leaves yes_leaves apart (formulas.Fails.some {n} {part} {parts = ps} at within f) h =
    fails_not no_leaves yes_leaves apart f (holds_and yes_leaves at h part within)
fails_not {nodes} {no} {yes} no_leaves yes_leaves apart (formulas.Fails.every {n} {parts = ps} at each) h =
    let one = holds_or yes_leaves at h in fails_not no_leaves yes_leaves apart (each one.0 one.1) one.2

-- what holds by a property of leaves holds by a weaker one
pub holds_by : {nodes : List Node} {leaf weaker : Node → Type 0} →
    ((n : ℕ) (node : Node) → HasNode nodes n node → leaf node → weaker node) → {n : ℕ} → Holds nodes leaf n →
    Holds nodes weaker n
holds_by weaken (formulas.Holds.literal {n} {node} at h) = formulas.Holds.literal at (weaken n node at h)
holds_by weaken (formulas.Holds.every {n} {parts} at each) =
    formulas.Holds.every at (λ part c. holds_by weaken (each part c))
holds_by weaken (formulas.Holds.some {n} {part} {parts} at c h) = formulas.Holds.some at c (holds_by weaken h)

-- and what has it everywhere has the weaker one
pub everywhere_by : {nodes : List Node} {leaf weaker : Node → Type 0} →
    ((node : Node) → leaf node → weaker node) → {n : ℕ} → Everywhere nodes leaf n → Everywhere nodes weaker n
everywhere_by weaken (formulas.Everywhere.literal {n} {node} at h) = formulas.Everywhere.literal at (weaken node h)
everywhere_by weaken (formulas.Everywhere.conjunction {n} {parts} at each) =
    formulas.Everywhere.conjunction at (λ part c. everywhere_by weaken (each part c))
everywhere_by weaken (formulas.Everywhere.disjunction {n} {parts} at each) =
    formulas.Everywhere.disjunction at (λ part c. everywhere_by weaken (each part c))

-- a formula holds or doesn't, where that is so of each leaf that stands in it
pub holds_or_not : {nodes : List Node} {leaf held : Node → Type 0} → OfLeaves leaf → OfLeaves held →
    ((node : Node) → held node → leaf node ⊎ (leaf node → ⊥)) → {n : ℕ} → Everywhere nodes held n →
    Holds nodes leaf n ⊎ (Holds nodes leaf n → ⊥)
holds_or_not {nodes} {leaf} {held} of_leaves held_leaves decide (formulas.Everywhere.literal {n} {node} at h) =
    ⊎_elim (λ yes. inl (formulas.Holds.literal at yes))
    (λ not. inr (λ holds. not (holds_leaf of_leaves at (leaf_of held_leaves node h) holds)))
    (decide node h)
holds_or_not {nodes} {leaf} {held} of_leaves held_leaves decide
    (formulas.Everywhere.conjunction {n} {parts} at each) =
    ⊎_elim (λ all. inl (formulas.Holds.every at all))
    (λ one. inr (λ holds. one.2 (holds_and of_leaves at holds one.0 one.1)))
    (each_or_some (λ part. Holds nodes leaf part) (λ part. Holds nodes leaf part → ⊥) parts
    (λ part within. holds_or_not of_leaves held_leaves decide (each part within)))
holds_or_not {nodes} {leaf} {held} of_leaves held_leaves decide
    (formulas.Everywhere.disjunction {n} {parts} at each) =
    ⊎_elim (λ none. inr (λ holds. let one = holds_or of_leaves at holds in none one.0 one.1 one.2))
    (λ one. inl (formulas.Holds.some at one.1 one.2))
    (each_or_some (λ part. Holds nodes leaf part → ⊥) (λ part. Holds nodes leaf part) parts
    (λ part within. ⊎_elim inr inl (holds_or_not of_leaves held_leaves decide (each part within))))
