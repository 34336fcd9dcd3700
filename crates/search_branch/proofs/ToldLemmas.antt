-- The step of telling one leaf.
use Rattle.std.proofs.Common.{◌≡◌, ℕ, ◌+◌, ◌≤◌, Bool, true, false, List, map, ap, subst, ◌∙◌, arith}
use Rattle.graph_meaning.specs.declared.done.Done.{Done}
use Rattle.formula_table.specs.declared.node.Node.{Node}
use Rattle.formula_truth.specs.declared.truth.Truth.{Truth}
use Rattle.formula_truth.specs.declared.truth.Truth.TheVariants.{Unset}
use Rattle.formula_truth.specs.Truths.{is_set_value}
use Rattle.formula_value.specs.Holds.{HasNode}
use Rattle.search_board.specs.declared.kind.Kind.TheVariants.{Leaf as LeafKind}
use Rattle.search_values.specs.Given.{Given, kind_of}
use Rattle.search_branch.specs.Given.{IsLeafTruth, kind_in}
use Rattle.search_branch.proofs.LiteralLemmas.{kind_at_node, set_is_leaf}

-- a value that is set is not Unset
pub set_is_other : (truth : Truth) (set : Bool) → set ≡ is_set_value truth → set ≡ true → truth ≡ Unset → ⊥
set_is_other truth set value on unset =
    let off : set ≡ false = value ∙ ap is_set_value unset in cc

-- the node of which a value is known is a leaf
pub known_is_leaf : (nodes : List Node) (given : Given) (standing : List Done) (n : ℕ) (node : Node)
    (listed : List Node) (truth : Truth) → given.kinds ≡ map kind_in nodes → listed ≡ nodes →
    HasNode listed n node → IsLeafTruth standing node truth → (truth ≡ Unset → ⊥) → kind_of given n ≡ LeafKind
known_is_leaf nodes given standing n node listed truth kinds same has is set =
    kind_at_node nodes given n node kinds (subst (λ (list : List Node). HasNode list n node) same has) ∙
    set_is_leaf standing node truth is set

-- of the numbers from one on, another than the first is among those from the next on
pub still_waits : (n m : ℕ) → n ≤ m → (m ≡ n → ⊥) → n + 1 ≤ m
still_waits n m waits other = omega (arith, waits, other)
