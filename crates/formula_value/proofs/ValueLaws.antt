-- No formula is both Yes and No.
use Rattle.std.proofs.Common.{◌≡◌, ◌≢◌, ℕ, true, false, List, refl}
use Rattle.graph_meaning.specs.Known.{Known}
use Rattle.formula_table.specs.declared.node.Node.{Node}
use Rattle.formula_table.specs.declared.node.Node.TheVariants.{Equal, Atom, And, Or, Forall}
use Rattle.formula_truth.specs.declared.truth.Truth.{Truth}
use Rattle.formula_truth.specs.declared.truth.Truth.TheVariants.{Yes, No, Unset}
use Rattle.formula_value.specs.Value.{IsYesLeaf, IsNoLeaf, IsYes, IsNo, HasValue}
use Rattle.formula_value.proofs.HoldsLaws.{OfLeaves, fails_not}

-- no connective is a leaf that is known
pub yes_of_leaves : (known : Known) (live : List ℕ) → OfLeaves (IsYesLeaf known live)
yes_of_leaves known live = record { no_and = λ parts h. h; no_or = λ parts h. h }

pub no_of_leaves : (known : Known) (live : List ℕ) → OfLeaves (IsNoLeaf known live)
no_of_leaves known live = record { no_and = λ parts h. h; no_or = λ parts h. h }

-- no leaf is known to be both
pub leaf_not_both : (known : Known) (live : List ℕ) (node : Node) → IsNoLeaf known live node →
    IsYesLeaf known live node → ⊥
leaf_not_both known live (Equal true s t) denied given = denied.not_same given
leaf_not_both known live (Equal false s t) denied given = given.not_same denied
leaf_not_both known live (Atom true term) denied given = denied.not_true given
leaf_not_both known live (Atom false term) denied given = given.not_true denied
leaf_not_both known live (Forall forall) denied given = denied
leaf_not_both known live (And parts) denied given = denied
leaf_not_both known live (Or parts) denied given = denied

module _ (known : Known) (live : List ℕ) (nodes : List Node) (n : ℕ) where
  -- no formula is known to be both
  pub not_both : IsYes known live nodes n → IsNo known live nodes n → ⊥
  not_both given denied = fails_not (no_of_leaves known live) (yes_of_leaves known live) (leaf_not_both known live)
      denied given

  -- a formula with a value other than No isn't known to be false
  pub not_no : (truth : Truth) → HasValue known live nodes n truth → truth ≢ No → IsNo known live nodes n → ⊥
  not_no Yes h other denied = not_both h denied
  not_no No h other denied = other refl
  not_no Unset h other denied = h.1 denied

  -- one with a value other than Yes isn't known to be true
  pub not_yes : (truth : Truth) → HasValue known live nodes n truth → truth ≢ Yes → IsYes known live nodes n → ⊥
  not_yes Yes h other given = other refl
  not_yes No h other given = not_both given h
  not_yes Unset h other given = h.0 given

  -- a formula has one value
  pub one_value : (a b : Truth) → HasValue known live nodes n a → HasValue known live nodes n b → a ≡ b
  one_value Yes Yes h k = refl
  one_value Yes No h k = absurd (not_both h k)
  one_value Yes Unset h k = absurd (k.0 h)
  one_value No Yes h k = absurd (not_both k h)
  one_value No No h k = refl
  one_value No Unset h k = absurd (k.1 h)
  one_value Unset Yes h k = absurd (h.0 k)
  one_value Unset No h k = absurd (h.1 k)
  one_value Unset Unset h k = refl
