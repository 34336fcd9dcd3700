-- What was found is what is told.
use Rattle.std.proofs.Common.{◌≡◌, ◌⊎◌, inl, inr, ℕ, List, Contains, refl, arith}
use Rattle.graph_meaning.specs.declared.done.Done.{Done}
use Rattle.graph_meaning.specs.Same.{Same}
use Rattle.graph_meaning.specs.Standing.{differs_of}
use Rattle.formula_table.specs.declared.node.Node.{Node}
use Rattle.formula_table.specs.declared.node.Node.TheVariants.{Equal, Atom, And, Or, Forall}
use Rattle.formula_truth.specs.declared.truth.Truth.{Truth}
use Rattle.formula_truth.specs.declared.truth.Truth.TheVariants.{Unset}
use Rattle.formula_value.specs.ByParts.{turn_of}
use Rattle.formula_value.specs.Holds.{HasNode}
use Rattle.search_values.specs.Given.{Given}
use Rattle.search_watch.specs.Literals.{IsEquationValue, IsAtomValue}
use Rattle.search_watch.specs.Service.{FindsChanges, StaysOrFound}
use Rattle.search_branch.specs.Given.{IsLeafTruth, ends_of}
use Rattle.search_branch.specs.Told.{AreToldBut, AreTold}
use Rattle.search_branch.proofs.LiteralLemmas.{unset_turned}
use Rattle.search_branch.proofs.BuildLemmas.{ends_on}

module _ (was now : List Done) (nodes : List Node) (found : List ℕ)
    (finds : FindsChanges was now (ends_of 0 nodes) found) where
  -- a literal's value stays, or it had none and was found
  one_found : (n : ℕ) (node : Node) (truth : Truth) → HasNode nodes n node → IsLeafTruth was node truth →
      IsLeafTruth now node truth ⊎ ((truth ≡ Unset) × Contains found n)
  one_found n (Equal positive s t) truth has is =
      go (finds.equations n s t (turn_of positive truth)
      (ends_on nodes n (Equal positive s t) (n, s) has (0, omega arith, refl))
      (ends_on nodes n (Equal positive s t) (n, t) has (1, omega arith, refl))
      is)
    where
      go : StaysOrFound (IsEquationValue (Same now) (differs_of now) s t) found n (turn_of positive truth) →
          IsLeafTruth now (Equal positive s t) truth ⊎ ((truth ≡ Unset) × Contains found n)
      go (inl stays) = inl stays
      go (inr set) = inr (unset_turned positive truth set.0, set.1)
  one_found n (Atom positive term) truth has is =
      go (finds.atoms n term (turn_of positive truth)
      (ends_on nodes n (Atom positive term) (n, term) has (0, omega arith, refl))
      (ends_on nodes n (Atom positive term) (n, 0) has (1, omega arith, refl))
      (ends_on nodes n (Atom positive term) (n, 1) has (2, omega arith, refl))
      is)
    where
      go : StaysOrFound (IsAtomValue (Same now) term) found n (turn_of positive truth) →
          IsLeafTruth now (Atom positive term) truth ⊎ ((truth ≡ Unset) × Contains found n)
      go (inl stays) = inl stays
      go (inr set) = inr (unset_turned positive truth set.0, set.1)
  one_found n (And parts) truth has is = inl is
  one_found n (Or parts) truth has is = inl is
  one_found n (Forall forall) truth has is = inl is

  -- each leaf is right, or it was found
  pub found_told : (given : Given) → AreTold was nodes given → AreToldBut (Contains found) now nodes given
  found_told given told n node has = one_found n node (given.leaf n) has (told n node has)
