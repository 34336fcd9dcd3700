-- The values that are given are those in the branch.
use Rattle.std.proofs.Common.{◌≡◌, ℕ, ◌<◌, List, length, Some, Contains, sym, ap, subst, ◌∙◌}
use Rattle.std.proofs.lemmas.Option.{slice_get_within}
use Rattle.std.proofs.lemmas.List.Elements.{Contains-get_or}
use Rattle.formula_table.specs.declared.node.Node.{Node}
use Rattle.formula_table.specs.declared.node.Node.TheVariants.{And, Or, Forall}
use Rattle.formula_table.specs.Formulas.{Formulas, IsFormulaTable}
use Rattle.formula_truth.specs.declared.truth.Truth.{Truth}
use Rattle.formula_truth.specs.declared.truth.Truth.TheVariants.{Yes, No}
use Rattle.formula_value.specs.Holds as formulas_hold
use Rattle.formula_value.specs.Holds.{HasNode}
use Rattle.search_values.specs.Given.{Given, HasPlace, HasYes, HasNo, parts_of, part_of}
use Rattle.search_laws.specs.Branch.{Branch, live_in, IsYesIn, IsNoIn}
use Rattle.search_branch.specs.Given.{IsGivenBy, IsLeafTruth, forall_truth}
use Rattle.search_branch.proofs.ForallLemmas.{among_to, among_from, yes_is_asserted, never_no}
use Rattle.search_branch.proofs.LeafLemmas.{leaf_yes_to, leaf_no_to, leaf_yes_from, leaf_no_from}
use Rattle.search_branch.proofs.LeafLemmas.{yes_leaf_kind, no_leaf_kind}
use Rattle.search_branch.proofs.NodeLemmas.{place_of, kind_is, parts_is, node_at, and_has, or_has, part_stands}

module _ (formulas : Formulas) (branch : Branch) (given : Given) (table : IsFormulaTable formulas)
    (is : IsGivenBy formulas branch.held branch.struck given) where
  -- the part at a place stands
  pub below : (n i : ℕ) → n < length formulas.nodes → HasPlace given n i → part_of given n i < length formulas.nodes
  below n i within place = part_stands formulas branch.held branch.struck given is table n i within place

  -- what is among the parts of a node is at a place
  pub among_place : (n part : ℕ) (parts : List ℕ) → parts_of given n ≡ parts → Contains parts part →
      (i : ℕ) × HasPlace given n i × (part_of given n i ≡ part)
  among_place n part parts same among =
      place_of (parts_of given n) part (subst (λ (parts : List ℕ). Contains parts part) (sym same) among)

  pub place_among : (n i : ℕ) (parts : List ℕ) → parts_of given n ≡ parts → HasPlace given n i →
      Contains parts (part_of given n i)
  place_among n i parts same place =
      subst (λ (parts : List ℕ). Contains parts (part_of given n i)) same
      (Contains-get_or (parts_of given n) i 0 place)

  -- a forall that is Yes is asserted, so it is live
  forall_asserted : (n forall : ℕ) → HasNode formulas.nodes n (Forall forall) → given.leaf n ≡ Yes →
      Contains branch.held.asserted n
  forall_asserted n forall has value =
      (is.asserted n (slice_get_within formulas.nodes n (Forall forall) has)).0
      (yes_is_asserted (given.asserted n) (sym (is.foralls n forall has) ∙ value))

  forall_yes_to : (n forall : ℕ) → HasNode formulas.nodes n (Forall forall) → given.leaf n ≡ Yes →
      Contains (live_in formulas branch) forall
  forall_yes_to n forall has value =
      among_to formulas.nodes branch.held.asserted n forall (forall_asserted n forall has value) has

  -- one that is live is asserted, since its node stands once, so it is Yes
  forall_yes_from : (n forall : ℕ) → HasNode formulas.nodes n (Forall forall) →
      Contains (live_in formulas branch) forall → given.leaf n ≡ Yes
  forall_yes_from n forall has live =
      let at = among_from formulas.nodes branch.held.asserted forall live in
      let same = table.once at.0 n (Forall forall) at.2 has in
      let listed = subst (λ (m : ℕ). Contains branch.held.asserted m) same at.1 in
      is.foralls n forall has
      ∙ ap forall_truth ((is.asserted n (slice_get_within formulas.nodes n (Forall forall) has)).1 listed)

  -- none is No
  forall_not_no : (n forall : ℕ) → HasNode formulas.nodes n (Forall forall) → given.leaf n ≡ No → ⊥
  forall_not_no n forall has value = never_no (given.asserted n) (sym (is.foralls n forall has) ∙ value)

  -- a leaf by its value
  leaf_is : (n : ℕ) (node : Node) (truth : Truth) → HasNode formulas.nodes n node → given.leaf n ≡ truth →
      IsLeafTruth branch.held.graph.standing node truth
  leaf_is n node truth has e = subst (IsLeafTruth branch.held.graph.standing node) e (is.leaf n node has)

  leaf_yes : (n : ℕ) → n < length formulas.nodes → given.leaf n ≡ Yes → IsYesIn formulas branch n
  leaf_yes n within e =
      let node = node_at formulas branch.held branch.struck given is n within in
      formulas_hold.Holds.literal node.1 (leaf_yes_to branch.held.graph.standing (live_in formulas branch) node.0
      (λ forall same. forall_yes_to n forall (node.1 ∙ ap Some same) e) (leaf_is n node.0 Yes node.1 e))

  leaf_no : (n : ℕ) → n < length formulas.nodes → given.leaf n ≡ No → IsNoIn formulas branch n
  leaf_no n within e =
      let node = node_at formulas branch.held branch.struck given is n within in
      formulas_hold.Fails.literal node.1 (leaf_no_to branch.held.graph.standing (live_in formulas branch) node.0
      (λ forall same. forall_not_no n forall (node.1 ∙ ap Some same) e) (leaf_is n node.0 No node.1 e))

  -- a node with the value Yes is known to be true
  pub yes_to : {n : ℕ} → n < length formulas.nodes → HasYes given n → IsYesIn formulas branch n
  yes_to {n = n} within (HasYes.leaf is_leaf e) = leaf_yes n within e
  yes_to {n = n} within (HasYes.every is_and each) =
      formulas_hold.Holds.every (and_has formulas branch.held branch.struck given is n is_and) (λ part among.
      let at = place_of (parts_of given n) part among in
      subst (IsYesIn formulas branch) at.2 (yes_to (below n at.0 within at.1) (each at.0 at.1)))
  yes_to {n = n} within (HasYes.some {i = i} is_or place has) =
      formulas_hold.Holds.some (or_has formulas branch.held branch.struck given is n is_or)
      (Contains-get_or (parts_of given n) i 0 place) (yes_to (below n i within place) has)

  -- one with the value No is known to be false
  pub no_to : {n : ℕ} → n < length formulas.nodes → HasNo given n → IsNoIn formulas branch n
  no_to {n = n} within (HasNo.leaf is_leaf e) = leaf_no n within e
  no_to {n = n} within (HasNo.every is_or each) =
      formulas_hold.Fails.every (or_has formulas branch.held branch.struck given is n is_or) (λ part among.
      let at = place_of (parts_of given n) part among in
      subst (IsNoIn formulas branch) at.2 (no_to (below n at.0 within at.1) (each at.0 at.1)))
  no_to {n = n} within (HasNo.some {i = i} is_and place has) =
      formulas_hold.Fails.some (and_has formulas branch.held branch.struck given is n is_and)
      (Contains-get_or (parts_of given n) i 0 place) (no_to (below n i within place) has)

  -- one that is known to be false has the value No
  pub no_from : {n : ℕ} → IsNoIn formulas branch n → HasNo given n
  no_from (formulas_hold.Fails.literal {n} {node} has known) = HasNo.leaf
      (kind_is formulas branch.held branch.struck given is n node has
      ∙ no_leaf_kind branch.held.graph.standing (live_in formulas branch) node known)
      (leaf_no_from branch.held.graph.standing (live_in formulas branch) node (given.leaf n)
      (is.leaf n node has) known)
  no_from (formulas_hold.Fails.some {n} {part} {parts} has among denied) =
      let at = among_place n part parts (parts_is formulas branch.held branch.struck given is n (And parts) has)
      among in
      HasNo.some {i = at.0} (kind_is formulas branch.held branch.struck given is n (And parts) has) at.1
      (subst (HasNo given) (sym at.2) (no_from denied))
  no_from (formulas_hold.Fails.every {n} {parts} has each) =
      HasNo.every (kind_is formulas branch.held branch.struck given is n (Or parts) has) (λ i place.
      no_from (each (part_of given n i) (place_among n i parts
      (parts_is formulas branch.held branch.struck given is n (Or parts) has) place)))

  -- one that is known to be true has the value Yes
  pub yes_from : {n : ℕ} → IsYesIn formulas branch n → HasYes given n
  yes_from (formulas_hold.Holds.literal {n} {node} has known) = HasYes.leaf
      (kind_is formulas branch.held branch.struck given is n node has
      ∙ yes_leaf_kind branch.held.graph.standing (live_in formulas branch) node known)
      (leaf_yes_from branch.held.graph.standing (live_in formulas branch) node (given.leaf n)
      (λ forall same live. forall_yes_from n forall (has ∙ ap Some same) live) (is.leaf n node has) known)
  yes_from (formulas_hold.Holds.some {n} {part} {parts} has among known) =
      let at = among_place n part parts (parts_is formulas branch.held branch.struck given is n (Or parts) has)
      among in
      HasYes.some {i = at.0} (kind_is formulas branch.held branch.struck given is n (Or parts) has) at.1
      (subst (HasYes given) (sym at.2) (yes_from known))
  yes_from (formulas_hold.Holds.every {n} {parts} has each) =
      HasYes.every (kind_is formulas branch.held branch.struck given is n (And parts) has) (λ i place.
      yes_from (each (part_of given n i) (place_among n i parts
      (parts_is formulas branch.held branch.struck given is n (And parts) has) place)))
