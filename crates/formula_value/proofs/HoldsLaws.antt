-- Formulas that hold, fail, or have a property everywhere.
use Rattle.std.proofs.Common.{◌≡◌, ℕ, ◌⊎◌, List, [], ◌∷◌, Contains, refl}
use Rattle.std.proofs.Common.{sym, subst, ◌∙◌, inl, inr, ⊎_elim, arith}
use Rattle.std.proofs.lemmas.Option.{same_Some}
use Rattle.std.proofs.lemmas.List.Elements.{Contains-append_cases, Contains-append_right, Contains-push_cases}
use Rattle.formula_table.specs.declared.node.Node.{Node}
use Rattle.formula_table.specs.declared.node.Node.TheVariants.{And, Or}
use Rattle.formula_value.specs.Holds as formulas
use Rattle.formula_value.specs.Holds.{HasNode, Holds, Fails, Everywhere}

module _ {X : Type 0} where
  -- the first element
  pub contains_head : (x : X) (xs : List X) → Contains (x ∷ xs) x
  contains_head x xs = (0, omega arith, refl)

  -- a later element
  pub contains_later : (y x : X) (xs : List X) → Contains xs x → Contains (y ∷ xs) x
  contains_later y x xs c = Contains-append_right (y ∷ []) xs x c

  -- an element is the first or one of the others
  pub contains_cases : (y x : X) (xs : List X) → Contains (y ∷ xs) x → (y ≡ x) ⊎ Contains xs x
  contains_cases y x xs c =
      ⊎_elim (λ one. ⊎_elim (λ none. absurd (omega (arith, none.1))) inl (Contains-push_cases [] y x one)) inr
      (Contains-append_cases (y ∷ []) xs x c)

  -- each element has the one property, or some element has the other
  pub each_or_some : (P Q : X → Type 0) (xs : List X) → ((x : X) → Contains xs x → P x ⊎ Q x) →
      ((x : X) → Contains xs x → P x) ⊎ ((x : X) × Contains xs x × Q x)
  each_or_some P Q [] h = inl (λ x c. absurd (omega (arith, c.1)))
  each_or_some P Q (y ∷ xs) h =
      ⊎_elim
      (λ here. ⊎_elim
      (λ all. inl (λ x c. ⊎_elim (λ e. subst P e here) (all x) (contains_cases y x xs c)))
      (λ one. inr (one.0, contains_later y one.0 xs one.1, one.2))
      (each_or_some P Q xs (λ x c. h x (contains_later y x xs c))))
      (λ not. inr (y, contains_head y xs, not))
      (h y (contains_head y xs))

-- a number has one node
pub one_node : (nodes : List Node) (n : ℕ) {left right : Node} → HasNode nodes n left → HasNode nodes n right →
    left ≡ right
one_node nodes n {left} {right} l r = same_Some left right (sym l ∙ r)

-- the property is of leaves only
pub record OfLeaves (leaf : Node → Type 0) : Type 0 where
  pub no_and : (parts : List ℕ) → leaf (And parts) → ⊥
  pub no_or : (parts : List ℕ) → leaf (Or parts) → ⊥

-- equal conjunctions have the same parts, equal disjunctions have, and the two are never equal
same_ands : (ps qs : List ℕ) → And ps ≡ And qs → ps ≡ qs
same_ands ps qs e = cc

same_ors : (ps qs : List ℕ) → Or ps ≡ Or qs → ps ≡ qs
same_ors ps qs e = cc

and_or : (ps qs : List ℕ) → And ps ≡ Or qs → ⊥
and_or ps qs e = cc

-- the node is no connective
pub record IsLeaf (node : Node) : Type 0 where
  pub not_and : (parts : List ℕ) → node ≡ And parts → ⊥
  pub not_or : (parts : List ℕ) → node ≡ Or parts → ⊥

module _ {nodes : List Node} {leaf : Node → Type 0} (of_leaves : OfLeaves leaf) where
  -- some part of a disjunction that holds holds
  pub holds_or : {n : ℕ} {parts : List ℕ} → HasNode nodes n (Or parts) → Holds nodes leaf n →
      (part : ℕ) × Contains parts part × Holds nodes leaf part
  holds_or {parts} has (formulas.Holds.literal {n} {node} at h) =
      absurd (of_leaves.no_or parts (subst leaf (one_node nodes n at has) h))
  holds_or {parts} has (formulas.Holds.every {n} {parts = ps} at each) =
      absurd (and_or ps parts (one_node nodes n at has))
  holds_or {parts} has (formulas.Holds.some {n} {part} {parts = ps} at within h) =
      (part, subst (λ xs. Contains xs part) (same_ors ps parts (one_node nodes n at has)) within, h)

  -- each part of a conjunction that holds holds
  pub holds_and : {n : ℕ} {parts : List ℕ} → HasNode nodes n (And parts) → Holds nodes leaf n → (part : ℕ) →
      Contains parts part → Holds nodes leaf part
  holds_and {parts} has (formulas.Holds.literal {n} {node} at h) part within =
      absurd (of_leaves.no_and parts (subst leaf (one_node nodes n at has) h))
  holds_and {parts} has (formulas.Holds.every {n} {parts = ps} at each) part within =
      each part (subst (λ xs. Contains xs part) (same_ands parts ps (one_node nodes n has at)) within)
  holds_and {parts} has (formulas.Holds.some {n} {part = q} {parts = ps} at inside h) part within =
      absurd (and_or parts ps (one_node nodes n has at))

  -- a leaf that holds has the property
  pub holds_leaf : {n : ℕ} {node : Node} → HasNode nodes n node → IsLeaf node → Holds nodes leaf n → leaf node
  holds_leaf {node} has is_leaf (formulas.Holds.literal {n} {node = other} at h) =
      subst leaf (one_node nodes n at has) h
  holds_leaf {node} has is_leaf (formulas.Holds.every {n} {parts = ps} at each) =
      absurd (is_leaf.not_and ps (one_node nodes n has at))
  holds_leaf {node} has is_leaf (formulas.Holds.some {n} {part} {parts = ps} at within h) =
      absurd (is_leaf.not_or ps (one_node nodes n has at))

  -- some part of a conjunction that fails fails
  pub fails_and : {n : ℕ} {parts : List ℕ} → HasNode nodes n (And parts) → Fails nodes leaf n →
      (part : ℕ) × Contains parts part × Fails nodes leaf part
  fails_and {parts} has (formulas.Fails.literal {n} {node} at h) =
      absurd (of_leaves.no_and parts (subst leaf (one_node nodes n at has) h))
  fails_and {parts} has (formulas.Fails.some {n} {part} {parts = ps} at c h) =
      (part, subst (λ xs. Contains xs part) (same_ands ps parts (one_node nodes n at has)) c, h)
  fails_and {parts} has (formulas.Fails.every {n} {parts = ps} at each) =
      absurd (and_or parts ps (one_node nodes n has at))

  -- each part of a disjunction that fails fails
  pub fails_or : {n : ℕ} {parts : List ℕ} → HasNode nodes n (Or parts) → Fails nodes leaf n → (part : ℕ) →
      Contains parts part → Fails nodes leaf part
  fails_or {parts} has (formulas.Fails.literal {n} {node} at h) part c =
      absurd (of_leaves.no_or parts (subst leaf (one_node nodes n at has) h))
  fails_or {parts} has (formulas.Fails.some {n} {part = q} {parts = ps} at d h) part c =
      absurd (and_or ps parts (one_node nodes n at has))
  fails_or {parts} has (formulas.Fails.every {n} {parts = ps} at each) part c =
      each part (subst (λ xs. Contains xs part) (same_ors parts ps (one_node nodes n has at)) c)

  -- a leaf that fails has the property
  pub fails_leaf : {n : ℕ} {node : Node} → HasNode nodes n node → IsLeaf node → Fails nodes leaf n → leaf node
  fails_leaf {node} has is_leaf (formulas.Fails.literal {n} {node = other} at h) =
      subst leaf (one_node nodes n at has) h
  fails_leaf {node} has is_leaf (formulas.Fails.some {n} {part} {parts = ps} at c h) =
      absurd (is_leaf.not_and ps (one_node nodes n has at))
  fails_leaf {node} has is_leaf (formulas.Fails.every {n} {parts = ps} at each) =
      absurd (is_leaf.not_or ps (one_node nodes n has at))

-- what fails doesn't hold, where no leaf does both
pub fails_not : {nodes : List Node} {no yes : Node → Type 0} → OfLeaves no → OfLeaves yes →
    ((node : Node) → no node → yes node → ⊥) → {n : ℕ} → Fails nodes no n → Holds nodes yes n → ⊥
fails_not {nodes} {no} {yes} no_leaves yes_leaves apart (formulas.Fails.literal {n} {node} at f)
    (formulas.Holds.literal {node = other} has h) = apart other (subst no (one_node nodes n at has) f) h
fails_not {nodes} {no} {yes} no_leaves yes_leaves apart (formulas.Fails.literal {n} {node} at f)
    (formulas.Holds.every {parts = ps} has each) = no_leaves.no_and ps (subst no (one_node nodes n at has) f)
fails_not {nodes} {no} {yes} no_leaves yes_leaves apart (formulas.Fails.literal {n} {node} at f)
    (formulas.Holds.some {part} {parts = ps} has within h) = no_leaves.no_or ps (subst no (one_node nodes n at has) f)
fails_not {nodes} {no} {yes} no_leaves yes_leaves apart (formulas.Fails.some {n} {part} {parts = ps} at within f) h =
    fails_not no_leaves yes_leaves apart f (holds_and yes_leaves at h part within)
fails_not {nodes} {no} {yes} no_leaves yes_leaves apart (formulas.Fails.every {n} {parts = ps} at each) h =
    let one = holds_or yes_leaves at h in fails_not no_leaves yes_leaves apart (each one.0 one.1) one.2

-- what holds by a property of leaves holds by a weaker one
pub holds_by : {nodes : List Node} {leaf weaker : Node → Type 0} → ((node : Node) → leaf node → weaker node) →
    {n : ℕ} → Holds nodes leaf n → Holds nodes weaker n
holds_by weaken (formulas.Holds.literal {n} {node} at h) = formulas.Holds.literal at (weaken node h)
holds_by weaken (formulas.Holds.every {n} {parts} at each) =
    formulas.Holds.every at (λ part c. holds_by weaken (each part c))
holds_by weaken (formulas.Holds.some {n} {part} {parts} at c h) = formulas.Holds.some at c (holds_by weaken h)

-- and so does what fails
pub fails_by : {nodes : List Node} {leaf weaker : Node → Type 0} → ((node : Node) → leaf node → weaker node) →
    {n : ℕ} → Fails nodes leaf n → Fails nodes weaker n
fails_by weaken (formulas.Fails.literal {n} {node} at h) = formulas.Fails.literal at (weaken node h)
fails_by weaken (formulas.Fails.some {n} {part} {parts} at c h) = formulas.Fails.some at c (fails_by weaken h)
fails_by weaken (formulas.Fails.every {n} {parts} at each) =
    formulas.Fails.every at (λ part c. fails_by weaken (each part c))

-- a formula each leaf of which holds or fails holds or fails
pub holds_or_fails : {nodes : List Node} {no yes : Node → Type 0} {n : ℕ} →
    Everywhere nodes (λ node. yes node ⊎ no node) n → Holds nodes yes n ⊎ Fails nodes no n
holds_or_fails (formulas.Everywhere.literal {n} {node} at h) =
    ⊎_elim (λ y. inl (formulas.Holds.literal at y)) (λ f. inr (formulas.Fails.literal at f)) h
holds_or_fails {nodes} {no} {yes} (formulas.Everywhere.conjunction {n} {parts} at each) =
    ⊎_elim (λ all. inl (formulas.Holds.every at all)) (λ one. inr (formulas.Fails.some at one.1 one.2))
    (each_or_some (Holds nodes yes) (Fails nodes no) parts (λ part c. holds_or_fails (each part c)))
holds_or_fails {nodes} {no} {yes} (formulas.Everywhere.disjunction {n} {parts} at each) =
    ⊎_elim (λ all. inr (formulas.Fails.every at all)) (λ one. inl (formulas.Holds.some at one.1 one.2))
    (each_or_some (Fails nodes no) (Holds nodes yes) parts
    (λ part c. ⊎_elim inr inl (holds_or_fails (each part c))))
