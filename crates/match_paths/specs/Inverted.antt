-- Inverted paths: from a class up to the roots.
use Rattle.std.specs.Prelude.{◌≢◌, ◌⊎◌, ℕ, List, [], ◌∷◌}
use Rattle.graph_meaning.specs.declared.done.Done.{Done}
use Rattle.graph_trigger.specs.declared.trigger.Trigger.{Trigger}
use Rattle.graph_meaning.specs.Questions.{IsParent}
use Rattle.graph_meaning.specs.Justified.{AppliesAt, VariableAt, ClassHasSymbol, ClassHasParent}
use Rattle.match_paths.specs.declared.link.Link.{Link}
use Rattle.match_paths.specs.declared.link.Link.TheVariants.{Member, Argument, Above}

-- the class has what the path begins with
abbrev pub Begins : List Done → Link → ℕ → Type 0
Begins standing (Member symbol) class = ClassHasSymbol standing class symbol
Begins standing (Argument symbol place) class = ClassHasParent standing class symbol place
Begins standing (Above symbol place) class = ⊥

-- up along the links, modulo the congruence, one gets from the class to this very root
pub data Climbs (standing : List Done) : List Link → ℕ → ℕ → Type 0 where
  top : {symbol place class root : ℕ} → IsParent standing class symbol place root →
      Climbs standing (Above symbol place ∷ []) class root
  up : {symbol place class parent root : ℕ} {links : List Link} → IsParent standing class symbol place parent →
      Climbs standing links parent root → Climbs standing (Above symbol place ∷ links) class root

-- the links are the path of the trigger's pattern, from its end up to the root; a path has its last place first
pub data AreLinks (trigger : Trigger) (start : ℕ) : List ℕ → List Link → Type 0 where
  last : {place symbol : ℕ} → AppliesAt trigger start [] symbol →
      AreLinks trigger start (place ∷ []) (Above symbol place ∷ [])
  next : {place step symbol : ℕ} {path : List ℕ} {links : List Link} → AppliesAt trigger start (step ∷ path) symbol →
      AreLinks trigger start (step ∷ path) links → AreLinks trigger start (place ∷ step ∷ path)
      (Above symbol place ∷ links)

-- the pattern has at this path a link to a class that has what the path begins with
pub data BeginsAt (trigger : Trigger) (start : ℕ) (path : List ℕ) : Link → Type 0 where
  child : {symbol : ℕ} → AppliesAt trigger start path symbol → BeginsAt trigger start path (Member symbol)
  parent : {index symbol place other : ℕ} {above : List ℕ} → VariableAt trigger start path index →
      VariableAt trigger other (place ∷ above) index → (other ≢ start) ⊎ (place ∷ above ≢ path) →
      AppliesAt trigger other above symbol → BeginsAt trigger start path (Argument symbol place)

-- an inverted path of the trigger from its pattern at `start`
pub record IsInverted (trigger : Trigger) (start : ℕ) (begin : Link) (links : List Link) : Type 0 where
  pub path : List ℕ
  pub begins : BeginsAt trigger start path begin
  pub are : AreLinks trigger start path links

-- along an inverted path the class leads to the root
pub record LeadsUp (standing : List Done) (trigger : Trigger) (start root class : ℕ) : Type 0 where
  pub begin : Link
  pub links : List Link
  pub inverted : IsInverted trigger start begin links
  pub holds : Begins standing begin class
  pub climbs : Climbs standing links class root
