-- Values of nodes that are told what came.
use Rattle.std.specs.Prelude.{◌≡◌, ◌⊎◌, ◌↔◌, ℕ, ◌<◌, Bool, true, List, length, take, Contains}
use Rattle.graph_meaning.specs.declared.done.Done.{Done}
use Rattle.graph_meaning.specs.declared.union.Union.{Union}
use Rattle.graph_meaning.specs.Standing.{terms_of, differs_of}
use Rattle.graph_meaning.specs.Unions.{ListsUnions}
use Rattle.formula_table.specs.declared.node.Node.{Node}
use Rattle.formula_table.specs.declared.node.Node.TheVariants.{Forall}
use Rattle.formula_truth.specs.declared.truth.Truth.{Truth}
use Rattle.formula_truth.specs.declared.truth.Truth.TheVariants.{Yes, Unset}
use Rattle.formula_value.specs.Holds.{HasNode}
use Rattle.formula_assert.specs.Assertions.{Assertions}
use Rattle.search_values.specs.Given.{Given}
use Rattle.search_values.specs.Changes.{SetsLeaf, Asserts}
use Rattle.search_branch.specs.Given.{IsLeafTruth, AreForallValues, forall_truth}

-- nothing changed but values of leaves that are no foralls
pub record KeepsNodes (nodes : List Node) (old new : Given) : Type 0 where
  pub kinds : new.kinds ≡ old.kinds
  pub parts : new.parts ≡ old.parts
  pub foralls : (n forall : ℕ) → HasNode nodes n (Forall forall) → new.leaf n ≡ old.leaf n
  pub asserted : (n : ℕ) → new.asserted n ≡ old.asserted n
  pub struck : (n place : ℕ) → new.struck n place ≡ old.struck n place

-- the formula is no forall
abbrev pub IsNoForall : List Node → ℕ → Type 0
IsNoForall nodes n = (forall : ℕ) → HasNode nodes n (Forall forall) → ⊥

-- nothing changed but which nodes are asserted, and values of foralls
pub record KeepsLeaves (nodes : List Node) (old new : Given) : Type 0 where
  pub kinds : new.kinds ≡ old.kinds
  pub parts : new.parts ≡ old.parts
  pub leaf : (n : ℕ) → IsNoForall nodes n → new.leaf n ≡ old.leaf n
  pub struck : (n place : ℕ) → new.struck n place ≡ old.struck n place

-- the leaf of the node has this value now, and nothing else changed; where it had the value by what stands, or none, it
-- is the value by what stands; a forall has the value that it had
pub record TellsLeaf (standing : List Done) (nodes : List Node) (n : ℕ) (old new : Given) : Type 0 where
  pub truth : Truth
  pub sets : SetsLeaf n truth old new
  pub right : (node : Node) → HasNode nodes n node → IsLeafTruth standing node (old.leaf n) ⊎ (old.leaf n ≡ Unset) →
      IsLeafTruth standing node truth
  pub stays : (forall : ℕ) → HasNode nodes n (Forall forall) → truth ≡ old.leaf n

-- the leaf of the node has this value now, and nothing else changed: a forall that was Yes or Unset is Yes, and any
-- other node has the value that it had
pub record TellsForall (node : Node) (n : ℕ) (old new : Given) : Type 0 where
  pub truth : Truth
  pub sets : SetsLeaf n truth old new
  pub yes : (forall : ℕ) → node ≡ Forall forall → (flag : Bool) → old.leaf n ≡ forall_truth flag → truth ≡ Yes
  pub stays : ((forall : ℕ) → node ≡ Forall forall → ⊥) → truth ≡ old.leaf n

-- the node is asserted, and told of it if it is a forall; nothing else changed
pub record AssertsNode (node : Node) (n : ℕ) (old new : Given) : Type 0 where
  pub told : Given
  pub tells : TellsForall node n old told
  pub asserts : Asserts n told new

-- each leaf has the value by what stands, or it has none and waits
abbrev pub AreToldBut : (ℕ → Type 0) → List Done → List Node → Given → Type 0
AreToldBut waits standing nodes given = (n : ℕ) (node : Node) → HasNode nodes n node →
    IsLeafTruth standing node (given.leaf n) ⊎ ((given.leaf n ≡ Unset) × waits n)

-- each leaf has the value by what stands
abbrev pub AreTold : List Done → List Node → Given → Type 0
AreTold standing nodes given = (n : ℕ) (node : Node) → HasNode nodes n node →
    IsLeafTruth standing node (given.leaf n)

-- a node is asserted just where it is on the list
abbrev pub AreAsserted : List ℕ → Given → Type 0
AreAsserted asserted given = (n : ℕ) → n < length given.kinds → (given.asserted n ≡ true) ↔ Contains asserted n

-- the values are told all that stands: values of leaves and which nodes are asserted; nothing else changed
pub record TellsAll (now : Assertions) (old new : Given) : Type 0 where
  pub kinds : new.kinds ≡ old.kinds
  pub parts : new.parts ≡ old.parts
  pub struck : (n place : ℕ) → new.struck n place ≡ old.struck n place
  pub told : AreTold now.graph.standing now.formulas.nodes new
  pub asserted : AreAsserted now.asserted new
  pub foralls : AreForallValues now.formulas.nodes new

-- over the same formulas and terms these unions came, and more differences and asserted nodes behind so many
pub record HasCome (was now : Assertions) (unions : List Union) (asserted differs : ℕ) : Type 0 where
  pub formulas : now.formulas ≡ was.formulas
  pub terms : terms_of now.graph.standing ≡ terms_of was.graph.standing
  pub unions_are : ListsUnions was.graph.standing now.graph.standing unions
  pub differs_are : take differs (differs_of now.graph.standing) ≡ differs_of was.graph.standing
  pub asserted_are : take asserted now.asserted ≡ was.asserted
