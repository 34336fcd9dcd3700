-- What a climb keeps to.
use Rattle.std.specs.Prelude.{◌≡◌, ◌<◌, ℕ, List, ◌∷◌, ◌++◌, length, slice_get, Some, Contains}
use Rattle.graph_meaning.specs.declared.done.Done.{Done}
use Rattle.graph_meaning.specs.Standing.{terms_of}
use Rattle.graph_meaning.specs.Same.{Same}
use Rattle.graph_meaning.specs.Questions.{IsParent}
use Rattle.graph_meaning.specs.declared.claim.Claim.{Claim}
use Rattle.match_trees.specs.declared.entry.Entry.{Entry}
use Rattle.match_paths.specs.declared.link.Link.{Link}
use Rattle.match_paths.specs.declared.link.Link.TheVariants.{Above}
use Rattle.match_paths.specs.declared.task.Task.{Task}
use Rattle.match_trees.specs.Trees.{Trees, IsNext, IsRoot, Way}
use Rattle.match_trees.specs.EntryList.{EntryList, entry_of}
use Rattle.match_paths.specs.Inverted.{Begins, Climbs}

-- the list grew by such elements
pub record GrewTo {X : Type 0} (P : X → Type 0) (old new : List X) : Type 0 where
  pub more : List X
  pub is : new ≡ old ++ more
  pub are : (x : X) → Contains more x → P x

-- the element came last, or it was there
pub record PutsIn {X : Type 0} (old new : List X) (x : X) : Type 0 where
  pub grew : GrewTo (λ other. other ≡ x) old new
  pub has : Contains new x

-- an entry that ends at the node claims the root
abbrev pub IsClaimAt : EntryList → ℕ → ℕ → Claim → Type 0
IsClaimAt list node root claim = (number : ℕ) × (slice_get list.entries number ≡ Some
    (entry_of claim.trigger claim.start)) × (slice_get list.ends number ≡ Some node) × (claim.root ≡ root)

-- each claim of the root at the node was found, and no other came
pub record FindsAt (list : EntryList) (node root : ℕ) (old new : List Claim) : Type 0 where
  pub grew : GrewTo (IsClaimAt list node root) old new
  pub all : (claim : Claim) → IsClaimAt list node root claim → Contains new claim

-- a task at the node, of the class of the parent
abbrev pub IsTaskAt : List Done → ℕ → ℕ → Task → Type 0
IsTaskAt standing node parent task = (task.node ≡ node) × Same standing parent task.class

-- the claims of the parent at the node were found, and there is a task above it
pub record IsClimbed (standing : List Done) (list : EntryList) (node parent : ℕ) (tasks : List Task)
    (claims : List Claim) : Type 0 where
  pub claims_found : (claim : Claim) → IsClaimAt list node parent claim → Contains claims claim
  pub task_there : (task : Task) × Contains tasks task × IsTaskAt standing node parent task

-- the lists grew by what is due for such parents at such nodes, and each of them was climbed
pub record ClimbsAll (standing : List Done) (list : EntryList) (Reaches : ℕ → ℕ → Type 0) (tasks tasks' : List Task)
    (claims claims' : List Claim) : Type 0 where
  pub tasks_grew : GrewTo (λ task. (node : ℕ) × (parent : ℕ) × Reaches node parent ×
      IsTaskAt standing node parent task) tasks tasks'
  pub claims_grew : GrewTo (λ claim. (node : ℕ) × (parent : ℕ) × Reaches node parent ×
      IsClaimAt list node parent claim) claims claims'
  pub each : (node parent : ℕ) → Reaches node parent → IsClimbed standing list node parent tasks' claims'

-- this parent at this node
abbrev pub IsThis : ℕ → ℕ → ℕ → ℕ → Type 0
IsThis node parent other above = (other ≡ node) × (above ≡ parent)

-- a parent of the class by this symbol and place, at this node
abbrev pub IsParentAt : List Done → ℕ → ℕ → ℕ → ℕ → ℕ → ℕ → Type 0
IsParentAt standing class symbol place node other parent = (other ≡ node) ×
    IsParent standing class symbol place parent

-- a parent of the task's class along the link of a node next after the task's
abbrev pub IsAboveTask : List Done → Trees Link → Task → ℕ → ℕ → Type 0
IsAboveTask standing trees task node parent = (symbol : ℕ) × (place : ℕ) × IsNext trees task.node node ×
    (slice_get trees.labels node ≡ Some (Above symbol place)) × IsParent standing task.class symbol place parent

-- a parent of the class along the link of this node
abbrev pub IsParentBy : List Done → Trees Link → ℕ → ℕ → ℕ → ℕ → Type 0
IsParentBy standing trees class node other parent = (symbol : ℕ) × (place : ℕ) × (other ≡ node) ×
    (slice_get trees.labels node ≡ Some (Above symbol place)) × IsParent standing class symbol place parent

-- a task of a root whose paths begin with what the class has
pub record IsFirst (standing : List Done) (trees : Trees Link) (of_class root : ℕ) (task : Task) : Type 0 where
  pub node : task.node ≡ root
  pub class : task.class ≡ of_class
  pub begin : Link
  pub link : slice_get trees.labels root ≡ Some begin
  pub holds : Begins standing begin of_class

-- the task of the root came, if its paths begin with what the class has
pub record PutsRoot (standing : List Done) (trees : Trees Link) (class root : ℕ) (old new : List Task) : Type 0 where
  pub grew : GrewTo (IsFirst standing trees class root) old new
  pub has : (begin : Link) → slice_get trees.labels root ≡ Some begin → Begins standing begin class →
      Contains new (record { node = root; class = class })

-- the tasks of exactly the roots whose paths begin with what the class has
pub record AreFirst (standing : List Done) (trees : Trees Link) (class : ℕ) (tasks : List Task) : Type 0 where
  pub sound : (task : Task) → Contains tasks task → (root : ℕ) × IsRoot trees root ×
      IsFirst standing trees class root task
  pub complete : (root : ℕ) (begin : Link) → IsRoot trees root → slice_get trees.labels root ≡ Some begin →
      Begins standing begin class → Contains tasks (record { node = root; class = class })

-- the task was come to from the class
pub record Rises (standing : List Done) (trees : Trees Link) (class : ℕ) (task : Task) : Type 0 where
  pub begin : Link
  pub links : List Link
  pub way : Way trees task.node (begin ∷ links)
  pub holds : Begins standing begin class
  pub climbs : (rest : List Link) (root : ℕ) → Climbs standing rest task.class root →
      Climbs standing (links ++ rest) class root
  pub is_term : task.class < length (terms_of standing)

-- the way to an entry's end leads up from the class to the claim's root
pub record IsLed (standing : List Done) (trees : Trees Link) (list : EntryList) (class : ℕ)
    (claim : Claim) : Type 0 where
  pub number : ℕ
  pub end : ℕ
  pub is : slice_get list.entries number ≡ Some (entry_of claim.trigger claim.start)
  pub ends : slice_get list.ends number ≡ Some end
  pub begin : Link
  pub links : List Link
  pub way : Way trees end (begin ∷ links)
  pub holds : Begins standing begin class
  pub climbs : Climbs standing links class claim.root

-- exactly the claims to which the ways lead up from the class
abbrev pub FindsAll : List Done → Trees Link → EntryList → ℕ → List Claim → Type 0
FindsAll standing trees list class claims = (claim : Claim) →
    (Contains claims claim → IsLed standing trees list class claim) ×
    (IsLed standing trees list class claim → Contains claims claim)
