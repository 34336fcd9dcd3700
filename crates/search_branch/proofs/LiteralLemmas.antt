-- The value of one leaf.
use Rattle.std.proofs.Common.{◌≡◌, ◌⊎◌, inl, inr, ℕ, true, false, Bool, List, map, slice_index_or}
use Rattle.std.proofs.Common.{refl, sym, ap, ◌∙◌}
use Rattle.std.proofs.lemmas.Option.{slice_get_within, get_or_from_slice_get}
use Rattle.std.proofs.lemmas.List.{get_or-map}
use Rattle.graph_meaning.specs.declared.done.Done.{Done}
use Rattle.formula_table.specs.declared.node.Node.{Node}
use Rattle.formula_table.specs.declared.node.Node.TheVariants.{Equal, Atom, And, Or, Forall}
use Rattle.formula_truth.specs.declared.truth.Truth.{Truth}
use Rattle.formula_truth.specs.declared.truth.Truth.TheVariants.{Yes, No, Unset}
use Rattle.formula_value.specs.ByParts.{turn_of}
use Rattle.formula_value.specs.Holds.{HasNode}
use Rattle.search_board.specs.declared.kind.Kind.{Kind}
use Rattle.search_board.specs.declared.kind.Kind.TheVariants.{Leaf as LeafKind, And as AndKind, Or as OrKind}
use Rattle.search_values.specs.Given.{Given, HasYes, HasNo, HasValue, kind_of}
use Rattle.search_values.specs.Given as values_given
use Rattle.search_values.specs.Changes.{SetsLeaf}
use Rattle.search_branch.specs.Given.{IsLeafTruth, kind_in}
use Rattle.search_branch.specs.Told.{TellsLeaf}

-- a turned value is Unset just where the value is
pub unset_turned : (positive : Bool) (truth : Truth) → turn_of positive truth ≡ Unset → truth ≡ Unset
unset_turned true truth e = e
unset_turned false Yes e = cc
unset_turned false No e = cc
unset_turned false Unset e = refl

-- the kind of a node by number
pub kind_at_node : (nodes : List Node) (given : Given) (n : ℕ) (node : Node) → given.kinds ≡ map kind_in nodes →
    HasNode nodes n node → kind_of given n ≡ kind_in node
kind_at_node nodes given n node kinds has =
    ap (λ (ks : List Kind). slice_index_or ks n LeafKind) kinds ∙
    get_or-map kind_in nodes n node LeafKind (slice_get_within nodes n node has) ∙
    ap kind_in (get_or_from_slice_get nodes n node node has)

leaf_and : LeafKind ≡ AndKind → ⊥
leaf_and e = cc

leaf_or : LeafKind ≡ OrKind → ⊥
leaf_or e = cc

-- a leaf that is Yes has this value
pub yes_leaf : (given : Given) (n : ℕ) → kind_of given n ≡ LeafKind → HasYes given n → given.leaf n ≡ Yes
yes_leaf given m kind (values_given.HasYes.leaf {n} is_leaf value) = value
yes_leaf given m kind (values_given.HasYes.every {n} is_and parts) = absurd (leaf_and (sym kind ∙ is_and))
yes_leaf given m kind (values_given.HasYes.some {n} {i} is_or place part) = absurd (leaf_or (sym kind ∙ is_or))

-- a leaf that is No has this value
pub no_leaf : (given : Given) (n : ℕ) → kind_of given n ≡ LeafKind → HasNo given n → given.leaf n ≡ No
no_leaf given m kind (values_given.HasNo.leaf {n} is_leaf value) = value
no_leaf given m kind (values_given.HasNo.some {n} {i} is_and place part) = absurd (leaf_and (sym kind ∙ is_and))
no_leaf given m kind (values_given.HasNo.every {n} is_or parts) = absurd (leaf_or (sym kind ∙ is_or))

-- a leaf with a value other than Unset has it
set_leaf_has : (given : Given) (n : ℕ) (truth : Truth) → kind_of given n ≡ LeafKind → HasValue given n truth →
    (truth ≡ Unset → ⊥) → given.leaf n ≡ Unset → ⊥
set_leaf_has given n Yes kind has set unset = let h = yes_leaf given n kind has in cc
set_leaf_has given n No kind has set unset = let h = no_leaf given n kind has in cc
set_leaf_has given n Unset kind has set unset = set refl

-- a node that has a value by what stands is a leaf
pub set_is_leaf : (standing : List Done) (node : Node) (truth : Truth) → IsLeafTruth standing node truth →
    (truth ≡ Unset → ⊥) → kind_in node ≡ LeafKind
set_is_leaf standing (Equal positive s t) truth is set = refl
set_is_leaf standing (Atom positive term) truth is set = refl
set_is_leaf standing (And parts) truth is set = absurd (set is)
set_is_leaf standing (Or parts) truth is set = absurd (set is)
set_is_leaf standing (Forall forall) truth is set = refl

module _ (standing : List Done) (nodes : List Node) (given : Given) (n : ℕ)
    (kinds : given.kinds ≡ map kind_in nodes) where
  -- where a node has a value it is right, if it was right or Unset
  stays_right : (truth : Truth) (node : Node) → HasNode nodes n node → HasValue given n truth → (truth ≡ Unset → ⊥) →
      IsLeafTruth standing node (given.leaf n) ⊎ (given.leaf n ≡ Unset) → IsLeafTruth standing node (given.leaf n)
  stays_right truth node has value set (inl is) = is
  stays_right truth (Equal positive s t) has value set (inr unset) =
      absurd (set_leaf_has given n truth (kind_at_node nodes given n (Equal positive s t) kinds has) value set unset)
  stays_right truth (Atom positive term) has value set (inr unset) =
      absurd (set_leaf_has given n truth (kind_at_node nodes given n (Atom positive term) kinds has) value set unset)
  stays_right truth (And parts) has value set (inr unset) = unset
  stays_right truth (Or parts) has value set (inr unset) = unset
  stays_right truth (Forall forall) has value set (inr unset) = tt

  -- nothing is set anew
  same_leaf : SetsLeaf n (given.leaf n) given given
  same_leaf = record {
    kinds = refl;
    parts = refl;
    here = refl;
    others = λ m ne. refl;
    asserted = λ m. refl;
    struck = λ m i. refl;
  }

  -- a node that has a value is left as it is
  pub tells_set : (truth : Truth) → HasValue given n truth → (truth ≡ Unset → ⊥) →
      TellsLeaf standing nodes n given given
  tells_set truth value set = record {
    truth = given.leaf n;
    sets = same_leaf;
    right = λ node has or. stays_right truth node has value set or;
    stays = λ forall has. refl;
  }
