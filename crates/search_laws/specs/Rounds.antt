-- Instances that are entered in a round.
use Rattle.std.specs.Prelude.{◌≡◌, ◌≢◌, ℕ, List, [], ◌∷◌, ◌++◌}
use Rattle.graph_meaning.specs.Standing.{terms_of}
use Rattle.graph_meaning.specs.State.{GraphState}
use Rattle.match_graph.specs.GraphTerms.{with_terms}
use Rattle.match_store.specs.declared.instance.Instance.{Instance}
use Rattle.match_store.specs.New.{AreNew}
use Rattle.formula_table.specs.declared.enter_fault.EnterFault.{EnterFault}
use Rattle.formula_table.specs.declared.enter_fault.EnterFault.TheVariants.{Memory}
use Rattle.formula_table.specs.Instance.{EntersInstance, StopsInstance}
use Rattle.formula_assert.specs.Held.{held}
use Rattle.formula_assert.specs.Asserts.{Asserts}
use Rattle.search_laws.specs.Path.{Path}

-- the graph of the path
abbrev pub graph_in : Path → GraphState
graph_in path = path.branch.held.graph

-- the instance is entered over the terms that stand, its node is asserted, and it is done
pub record EntersOne (instance : Instance) (before after : Path) : Type 0 where
  pub entered : GraphState
  pub root : ℕ
  pub enters : EntersInstance (λ more. entered ≡ with_terms (graph_in before) more) instance.forall instance.tuple
      (terms_of (graph_in before).standing) (graph_in before).limit before.formulas after.formulas root
  pub asserts : Asserts after.formulas root (held entered before.branch.held.asserted) after.branch.held
  pub struck_is : after.branch.struck ≡ before.branch.struck
  pub done_is : after.done ≡ before.done ++ instance ∷ []
  pub spent_is : after.spent ≡ before.spent

-- the instances are, one after another
pub data EntersAll : List Instance → Path → Path → Type 0 where
  none : {path : Path} → EntersAll [] path path
  more : {instance : Instance} {instances : List Instance} {before between after : Path} →
      EntersOne instance before between → EntersAll instances between after →
      EntersAll (instance ∷ instances) before after

-- there is no room for the next term of the instance, or none for its next node
pub record PassesLimit (path : Path) (instance : Instance) (fault : EnterFault) : Type 0 where
  pub entered : GraphState
  pub stops : StopsInstance (λ more. entered ≡ with_terms (graph_in path) more) (λ more. ⊥) instance.forall
      instance.tuple (terms_of (graph_in path).standing) (graph_in path).limit path.formulas fault
  pub is_limit : fault ≢ Memory

-- of these new instances the first are entered, and there is no room for the next
pub record Overflows (instances : List Instance) (path : Path) (fault : EnterFault) : Type 0 where
  pub entered : List Instance
  pub next : Instance
  pub rest : List Instance
  pub instances_are : instances ≡ entered ++ next ∷ rest
  pub last : Path
  pub enters : EntersAll entered path last
  pub passes : PassesLimit last next fault

-- exactly these instances are new on the path, in order
abbrev pub AreNewIn : Path → List Instance → Type 0
AreNewIn path instances = AreNew (graph_in path).standing path.done instances
