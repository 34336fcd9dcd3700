-- Terms and nodes that come behind those that stand.
use Rattle.std.specs.Prelude.{◌≡◌, ℕ, ◌<◌, ◌≤◌, ◌++◌, false, List, length, map, All}
use Rattle.graph_meaning.specs.Standing.{terms_of}
use Rattle.formula_table.specs.declared.node.Node.{Node}
use Rattle.formula_table.specs.Formulas.{NodesStand}
use Rattle.formula_truth.specs.declared.truth.Truth.TheVariants.{Unset}
use Rattle.formula_assert.specs.Assertions.{Assertions}
use Rattle.search_values.specs.Given.{Given}
use Rattle.search_watch.specs.Grown.{OnlyTermsCame}
use Rattle.search_branch.specs.Given.{kind_in, parts_in}
use Rattle.search_branch.specs.Struck.{IsPlaceOf}

-- these are the nodes now; of the first ones is given what was, and of the later ones nothing is told
pub record ComesBehind (nodes : List Node) (first : ℕ) (old new : Given) : Type 0 where
  pub kinds : new.kinds ≡ map kind_in nodes
  pub parts : new.parts ≡ map parts_in nodes
  pub leaf : (n : ℕ) → n < first → new.leaf n ≡ old.leaf n
  pub asserted : (n : ℕ) → n < first → new.asserted n ≡ old.asserted n
  pub struck : (n place : ℕ) → n < first → new.struck n place ≡ old.struck n place
  pub later_leaf : (n : ℕ) → first ≤ n → n < length nodes → new.leaf n ≡ Unset
  pub later_asserted : (n : ℕ) → first ≤ n → n < length nodes → new.asserted n ≡ false
  pub later_struck : (n place : ℕ) → first ≤ n → n < length nodes → new.struck n place ≡ false

-- each asserted node stands, and each struck place is one of a disjunction
pub record StandIn (now : Assertions) (struck : List (ℕ × ℕ)) : Type 0 where
  pub asserted : All (λ n. n < length now.formulas.nodes) now.asserted
  pub places : All (IsPlaceOf now.formulas.nodes) struck

-- terms came, and nodes behind so many, and nothing else
pub record HasGrown (was now : Assertions) (first : ℕ) : Type 0 where
  pub terms : OnlyTermsCame was.graph.standing now.graph.standing
  pub stood : NodesStand (length (terms_of was.graph.standing)) was.formulas.nodes
  pub nodes : List Node
  pub nodes_are : now.formulas.nodes ≡ was.formulas.nodes ++ nodes
  pub many : length was.formulas.nodes ≡ first
  pub asserted_are : now.asserted ≡ was.asserted
