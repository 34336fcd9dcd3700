-- The value of a node, by those of its parts, is that of its formula.
use Rattle.std.proofs.Common.{◌≡◌, ◌≢◌, ℕ, ◌+◌, ◌<◌, List, [], ◌∷◌, ◌++◌, length, get_or}
use Rattle.std.proofs.Common.{slice_get, Some, All, Contains, sym, ap, subst, ◌∙◌, ⊎_elim, arith}
use Rattle.std.proofs.lemmas.List.{length-append}
use Rattle.std.proofs.lemmas.Option.{get_or_from_slice_get, slice_get-get_or}
use Rattle.std.proofs.lemmas.List.Elements.{All-contains, All-tail}
use Rattle.graph_terms.proofs.ListLaws.{element_at, push_cases}
use Rattle.graph_meaning.specs.declared.done.Done.{Done}
use Rattle.graph_meaning.specs.Known.{Known}
use Rattle.formula_table.specs.declared.node.Node.{Node}
use Rattle.formula_table.specs.declared.node.Node.TheVariants.{Equal, Atom, And, Or, Forall}
use Rattle.formula_table.specs.Node.{children_of}
use Rattle.formula_truth.specs.declared.truth.Truth.{Truth}
use Rattle.formula_truth.specs.declared.truth.Truth.TheVariants.{Yes, No, Unset}
use Rattle.formula_truth.specs.Truths.{all_of, some_of}
use Rattle.formula_truth.specs.Joins.{IsJoin, AreJoins}
use Rattle.formula_value.specs.declared.facts.Facts.{Facts}
use Rattle.formula_value.specs.Holds as formulas
use Rattle.formula_value.specs.Holds.{HasNode}
use Rattle.formula_value.specs.Value.{HasValue, HasValueIn, AreFirstValues, known_with}
use Rattle.formula_value.specs.ByParts.{values_of, IsLeafValue, IsNodeValue}
use Rattle.formula_value.proofs.HoldsLaws.{contains_head, contains_later, contains_cases, IsLeaf}
use Rattle.formula_value.proofs.HoldsLaws.{holds_and, holds_or, holds_leaf, fails_and, fails_or, fails_leaf}
use Rattle.formula_value.proofs.ValueLaws.{yes_of_leaves, no_of_leaves, not_no, not_yes}

-- each value is that of its formula
abbrev pub AreValues : Known → List ℕ → List Node → List Truth → Type 0
AreValues known live nodes values =
    (n : ℕ) (truth : Truth) → slice_get values n ≡ Some truth → HasValue known live nodes n truth

-- what is neither has a part that is neither, and no part that decides
unset_parts : {of : List Truth → Truth} {each any : Truth} → IsJoin of each any → (any ≡ Unset → ⊥) →
    (parts : List Truth) → of parts ≡ Unset →
    Contains parts Unset × ((part : Truth) → Contains parts part → part ≢ any)
unset_parts join known parts e = (
  join.unset parts e,
  λ part c is. known (sym ((join.some parts).1 (subst (Contains parts) is c)) ∙ e),
)

module _ (joins : AreJoins) (known : Known) (live : List ℕ) (nodes : List Node) (values : List Truth)
    (are : AreValues known live nodes values) where
  -- the value of a part
  value_at : (part : ℕ) → part < length values → HasValue known live nodes part (get_or values part Unset)
  value_at part below = let h = element_at values part below in
      are part (get_or values part Unset) (h.1 ∙ ap Some (sym (get_or_from_slice_get values part h.0 Unset h.1)))

  -- a value among those of the parts is that of a part
  part_with : (parts : List ℕ) (truth : Truth) → All (λ part. part < length values) parts →
      Contains (values_of values parts) truth → (part : ℕ) × Contains parts part × HasValue known live nodes part truth
  part_with [] truth below c = absurd (omega (arith, c.1))
  part_with (part ∷ parts) truth below c =
      ⊎_elim
      (λ e. (
        part,
        contains_head part parts,
        subst (HasValue known live nodes part) e (value_at part
            (All-contains (λ p. p < length values) (part ∷ parts) part below (contains_head part parts))),
      ))
      (λ later. let h = part_with parts truth (All-tail (λ p. p < length values) part parts below) later in
      (h.0, contains_later part h.0 parts h.1, h.2))
      (contains_cases (get_or values part Unset) truth (values_of values parts) c)

  -- the value of each part is among those of the parts
  part_value : (parts : List ℕ) (part : ℕ) → Contains parts part →
      Contains (values_of values parts) (get_or values part Unset)
  part_value [] part c = absurd (omega (arith, c.1))
  part_value (p ∷ parts) part c =
      ⊎_elim
      (λ e. subst (λ x. Contains (values_of values (p ∷ parts)) (get_or values x Unset)) e
      (contains_head (get_or values p Unset) (values_of values parts)))
      (λ later. contains_later (get_or values p Unset) (get_or values part Unset) (values_of values parts)
      (part_value parts part later))
      (contains_cases p part parts c)

  module _ (n : ℕ) (parts : List ℕ) (below : All (λ part. part < length values) parts) where
    of_part : (part : ℕ) → Contains parts part → HasValue known live nodes part (get_or values part Unset)
    of_part part c = value_at part (All-contains (λ p. p < length values) parts part below c)

    -- the value of a conjunction
    and_value : (truth : Truth) → HasNode nodes n (And parts) → all_of (values_of values parts) ≡ truth →
        HasValue known live nodes n truth
    and_value Yes has e = formulas.Holds.every has (λ part c. subst (HasValue known live nodes part)
        ((joins.conjunction.all (values_of values parts)).0 e (get_or values part Unset) (part_value parts part c)) (of_part part c))
    and_value No has e =
        let h = part_with parts No below ((joins.conjunction.some (values_of values parts)).0 e) in formulas.Fails.some has h.1 h.2
    and_value Unset has e =
        let unset = unset_parts joins.conjunction (λ k. cc) (values_of values parts) e in
        let h = part_with parts Unset below unset.0 in (
          λ given. h.2.0 (holds_and (yes_of_leaves known live) has given h.0 h.1),
          λ denied. let f = fails_and (no_of_leaves known live) has denied in
              not_no known live nodes f.0 (get_or values f.0 Unset) (of_part f.0 f.1)
              (unset.1 (get_or values f.0 Unset) (part_value parts f.0 f.1)) f.2,
        )

    -- the value of a disjunction
    or_value : (truth : Truth) → HasNode nodes n (Or parts) → some_of (values_of values parts) ≡ truth →
        HasValue known live nodes n truth
    or_value Yes has e =
        let h = part_with parts Yes below ((joins.disjunction.some (values_of values parts)).0 e) in formulas.Holds.some has h.1 h.2
    or_value No has e = formulas.Fails.every has (λ part c. subst (HasValue known live nodes part)
        ((joins.disjunction.all (values_of values parts)).0 e (get_or values part Unset) (part_value parts part c)) (of_part part c))
    or_value Unset has e =
        let unset = unset_parts joins.disjunction (λ k. cc) (values_of values parts) e in
        let h = part_with parts Unset below unset.0 in (
          λ given. let f = holds_or (yes_of_leaves known live) has given in
              not_yes known live nodes f.0 (get_or values f.0 Unset) (of_part f.0 f.1)
              (unset.1 (get_or values f.0 Unset) (part_value parts f.0 f.1)) f.2,
          λ denied. h.2.1 (fails_or (no_of_leaves known live) has denied h.0 h.1),
        )

  -- the value of a leaf
  leaf_value : (n : ℕ) (node : Node) (truth : Truth) → HasNode nodes n node → IsLeaf node →
      IsLeafValue known live node truth → HasValue known live nodes n truth
  leaf_value n node Yes has is_leaf h = formulas.Holds.literal has h
  leaf_value n node No has is_leaf h = formulas.Fails.literal has h
  leaf_value n node Unset has is_leaf h = (
    λ given. h.0 (holds_leaf (yes_of_leaves known live) has is_leaf given),
    λ denied. h.1 (fails_leaf (no_of_leaves known live) has is_leaf denied),
  )

  -- the value of a node
  node_value : (n : ℕ) (node : Node) (truth : Truth) → HasNode nodes n node →
      All (λ part. part < length values) (children_of node) → IsNodeValue known live values node truth →
      HasValue known live nodes n truth
  node_value n (Equal positive s t) truth has below h =
      leaf_value n (Equal positive s t) truth has (record { not_and = λ parts e. cc; not_or = λ parts e. cc }) h
  node_value n (Atom positive term) truth has below h =
      leaf_value n (Atom positive term) truth has (record { not_and = λ parts e. cc; not_or = λ parts e. cc }) h
  node_value n (Forall forall) truth has below h =
      leaf_value n (Forall forall) truth has (record { not_and = λ parts e. cc; not_or = λ parts e. cc }) h
  node_value n (And parts) truth has below h = and_value n parts below truth has (sym h)
  node_value n (Or parts) truth has below h = or_value n parts below truth has (sym h)

  -- the values with that of the next node
  pub next_value : (node : Node) (truth : Truth) → HasNode nodes (length values) node →
      All (λ part. part < length values) (children_of node) → IsNodeValue known live values node truth →
      AreValues known live nodes (values ++ truth ∷ [])
  next_value node truth has below h n value at =
      ⊎_elim (λ old. are n value old)
      (λ new. subst (λ v. HasValue known live nodes n v) (sym new.1)
      (subst (λ k. HasValue known live nodes k truth) (sym new.0) (node_value (length values) node truth has below h)))
      (push_cases values truth n value at)

-- the first values with that of the next node
pub next_first_values : AreJoins → (standing : List Done) (facts : Facts) (nodes : List Node) (n : ℕ) (values new : List Truth)
    (node : Node) (truth : Truth) → AreFirstValues standing facts nodes n values → HasNode nodes n node →
    All (λ part. part < n) (children_of node) →
    IsNodeValue (known_with standing facts) facts.live values node truth → new ≡ values ++ truth ∷ [] →
    AreFirstValues standing facts nodes (n + 1) new
next_first_values joins standing facts nodes n values new node truth first has below value pushed =
    let known = known_with standing facts in
    let here : HasNode nodes (length values) node = subst (λ k. HasNode nodes k node) (sym first.so_many) has in
    let earlier : All (λ part. part < length values) (children_of node) =
    subst (λ k. All (λ part. part < k) (children_of node)) (sym first.so_many) below in
    record {
      so_many = ap length pushed ∙ length-append values (truth ∷ []) ∙ ap (λ k. k + 1) first.so_many;
      each = subst (AreValues known facts.live nodes) (sym pushed)
          (next_value joins known facts.live nodes values first.each node truth here earlier value);
    }

-- the value at a place
pub value_there : (standing : List Done) (facts : Facts) (nodes : List Node) (count n : ℕ) (values : List Truth)
    (truth : Truth) → AreFirstValues standing facts nodes count values → n < count →
    truth ≡ get_or values n truth → HasValueIn standing facts nodes n truth
value_there standing facts nodes count n values truth first below is =
    let within : n < length values = subst (λ k. n < k) (sym first.so_many) below in
    first.each n truth (slice_get-get_or values n truth within ∙ ap Some (sym is))
