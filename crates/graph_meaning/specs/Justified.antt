-- Why an item of work is owed after a change.
use Rattle.std.specs.Prelude.{◌≡◌, ◌≢◌, ◌≤◌, ◌⊎◌, ℕ, List, [], ◌∷◌, length, slice_get, Some}
use Rattle.graph_trigger.specs.declared.trigger.Trigger.{Trigger}
use Rattle.graph_trigger.specs.declared.pattern_row.PatternRow.TheVariants.{Var, App}
use Rattle.graph_meaning.specs.declared.claim.Claim.{Claim}
use Rattle.graph_meaning.specs.declared.done.Done.{Done}
use Rattle.graph_terms.specs.Terms.{term_row, HasRow}
use Rattle.graph_meaning.specs.Standing.{terms_of, triggers_of}
use Rattle.graph_meaning.specs.Same.{Same}
use Rattle.graph_trigger.specs.Trigger.{Occurs}

-- the path from the trigger's pattern at `start` leads to an application of the symbol
abbrev pub AppliesAt : Trigger → ℕ → List ℕ → ℕ → Type 0
AppliesAt trigger start path symbol = (row : ℕ) × (parts : List ℕ) × Occurs trigger start path row ×
    (slice_get trigger.rows row ≡ Some (App symbol parts))

-- the path leads to the variable
abbrev pub VariableAt : Trigger → ℕ → List ℕ → ℕ → Type 0
VariableAt trigger start path index = (row : ℕ) × Occurs trigger start path row ×
    (slice_get trigger.rows row ≡ Some (Var index))

-- the term has the symbol, and this argument at the place
abbrev pub HasArg : List Done → ℕ → ℕ → ℕ → ℕ → Type 0
HasArg standing term symbol place arg = (args : List ℕ) × HasRow (terms_of standing) term (term_row symbol args) ×
    (slice_get args place ≡ Some arg)

-- from the root down along the path, modulo the congruence, one gets to the term; a path has its last place first
pub data Reach (standing : List Done) (trigger : Trigger) (start root : ℕ) : List ℕ → ℕ → Type 0 where
  at_root : Reach standing trigger start root [] root
  from_root : {place symbol arg : ℕ} → AppliesAt trigger start [] symbol → HasArg standing root symbol place arg →
      Reach standing trigger start root (place ∷ []) arg
  further : {path : List ℕ} {step place symbol above term arg : ℕ} →
      Reach standing trigger start root (step ∷ path) above → AppliesAt trigger start (step ∷ path) symbol →
      Same standing term above → HasArg standing term symbol place arg →
      Reach standing trigger start root (place ∷ step ∷ path) arg

-- the class of the term has a member with the symbol
abbrev pub ClassHasSymbol : List Done → ℕ → ℕ → Type 0
ClassHasSymbol standing term symbol = (member : ℕ) × (args : List ℕ) × Same standing member term ×
    HasRow (terms_of standing) member (term_row symbol args)

-- the class of the term has an argument at the place of a term with the symbol
abbrev pub ClassHasParent : List Done → ℕ → ℕ → ℕ → Type 0
ClassHasParent standing term symbol place = (parent : ℕ) × (arg : ℕ) × HasArg standing parent symbol place arg ×
    Same standing arg term

-- at the path the pattern has a link that the class of the term may meet: an application whose symbol a member has,
-- or a variable that occurs elsewhere too, under a symbol that a parent has at that place
pub data LinksAt (standing : List Done) (trigger : Trigger) (start : ℕ) (path : List ℕ) (term : ℕ) : Type 0 where
  parent_and_child : {symbol : ℕ} → AppliesAt trigger start path symbol → ClassHasSymbol standing term symbol →
      LinksAt standing trigger start path term
  parent_and_parent : {index symbol place other : ℕ} {above : List ℕ} → VariableAt trigger start path index →
      VariableAt trigger other (place ∷ above) index → (other ≢ start) ⊎ (place ∷ above ≢ path) →
      AppliesAt trigger other above symbol → ClassHasParent standing term symbol place →
      LinksAt standing trigger start path term

-- the trigger may have a new match at the root through the class of this term
pub record Through (standing : List Done) (trigger : Trigger) (start root joined : ℕ) : Type 0 where
  pub root_symbol : (symbol : ℕ) × (args : List ℕ) × AppliesAt trigger start [] symbol ×
      HasRow (terms_of standing) root (term_row symbol args)
  pub place : ℕ
  pub path : List ℕ
  pub term : ℕ
  pub reached : Reach standing trigger start root (place ∷ path) term
  pub same : Same standing term joined
  pub links : LinksAt standing trigger start (place ∷ path) term

-- the two terms are of one class now, and were not before; one new term may be both of them, which does no harm: a
-- claim on its own symbol that is justified so is justified by a new root or by two different terms too
pub record JoinedSince (before now : List Done) (left right : ℕ) : Type 0 where
  pub same : Same now left right
  pub apart : Same before left right → ⊥

-- the claim is owed: its root is new, its trigger is new, or it may have a match through a class that was joined
pub data Justified (before now : List Done) (claim : Claim) : Type 0 where
  new_term : length (terms_of before) ≤ claim.root → Justified before now claim
  new_trigger : length (triggers_of before) ≤ claim.trigger → Justified before now claim
  joined : {trigger : Trigger} {left right : ℕ} → slice_get (triggers_of now) claim.trigger ≡ Some trigger →
      JoinedSince before now left right → Through now trigger claim.start claim.root left → Justified before now claim
