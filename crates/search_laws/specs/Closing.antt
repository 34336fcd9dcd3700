-- Conflicts, disjunctions with one part left over, and those that are open.
use Rattle.std.specs.Prelude.{◌≡◌, ℕ, ◌<◌, List, slice_get, Some, Contains}
use Rattle.formula_table.specs.declared.node.Node.TheVariants.{Or}
use Rattle.formula_table.specs.Formulas.{Formulas}
use Rattle.formula_value.specs.Value.{AreSame}
use Rattle.formula_value.specs.Holds.{HasNode}
use Rattle.formula_assert.specs.Held.{Held}
use Rattle.formula_assert.specs.Asserts.{Asserts}
use Rattle.search_laws.specs.Branch.{Branch, with_held, known_in, IsYesIn, IsNoIn}

-- an asserted disjunction with these parts
pub record IsAssertedOr (formulas : Formulas) (branch : Branch) (n : ℕ) (parts : List ℕ) : Type 0 where
  pub asserted : Contains branch.held.asserted n
  pub has : HasNode formulas.nodes n (Or parts)

-- the part at the place is left over: it is not known to be false, and it is not struck
pub record IsLeftOver (formulas : Formulas) (branch : Branch) (n : ℕ) (parts : List ℕ) (place part : ℕ) : Type 0
  where
    pub at_place : slice_get parts place ≡ Some part
    pub not_no : IsNoIn formulas branch part → ⊥
    pub not_struck : Contains branch.struck (n, place) → ⊥

-- no part is known to be true
abbrev pub HasNoYesPart : Formulas → Branch → List ℕ → Type 0
HasNoYesPart formulas branch parts = (part : ℕ) → Contains parts part → IsYesIn formulas branch part → ⊥

-- what cannot be true together: true and false are equal, or the two ends of a difference are, or nothing is left over
-- of an asserted disjunction
pub data Conflict (formulas : Formulas) (branch : Branch) : Type 0 where
  true_is_false : AreSame (known_in branch) 0 1 → Conflict formulas branch
  difference : {s t : ℕ} → Contains (known_in branch).differs (s, t) → AreSame (known_in branch) s t →
      Conflict formulas branch
  nothing_left : {n : ℕ} {parts : List ℕ} → IsAssertedOr formulas branch n parts →
      ((place part : ℕ) → IsLeftOver formulas branch n parts place part → ⊥) → Conflict formulas branch

-- the part is the one left over of an asserted disjunction without a Yes part, and it is not asserted
pub record IsUnit (formulas : Formulas) (branch : Branch) (n part : ℕ) : Type 0 where
  pub parts : List ℕ
  pub place : ℕ
  pub is_or : IsAssertedOr formulas branch n parts
  pub no_yes : HasNoYesPart formulas branch parts
  pub left : IsLeftOver formulas branch n parts place part
  pub only : (other q : ℕ) → IsLeftOver formulas branch n parts other q → other ≡ place
  pub not_asserted : Contains branch.held.asserted part → ⊥

-- of the first such disjunction
pub record IsFirstUnit (formulas : Formulas) (branch : Branch) (n part : ℕ) : Type 0 where
  pub is_unit : IsUnit formulas branch n part
  pub first : (m q : ℕ) → m < n → IsUnit formulas branch m q → ⊥

-- the one part left over of the first such disjunction is asserted, again and again, until there is a conflict or none
pub data Closes (formulas : Formulas) : Branch → Branch → Type 0 where
  conflict : {branch : Branch} → Conflict formulas branch → Closes formulas branch branch
  closed : {branch : Branch} → (Conflict formulas branch → ⊥) →
      ((n part : ℕ) → IsUnit formulas branch n part → ⊥) → Closes formulas branch branch
  step : {branch last : Branch} {next : Held} {n part : ℕ} → (Conflict formulas branch → ⊥) →
      IsFirstUnit formulas branch n part → Asserts formulas part branch.held next →
      Closes formulas (with_held branch next) last → Closes formulas branch last

-- an asserted disjunction without a Yes part
abbrev pub IsOpen : Formulas → Branch → ℕ → List ℕ → Type 0
IsOpen formulas branch n parts = IsAssertedOr formulas branch n parts × HasNoYesPart formulas branch parts

-- the first open disjunction, and the first part of it that is left over
pub record IsSplit (formulas : Formulas) (branch : Branch) (n place part : ℕ) : Type 0 where
  pub parts : List ℕ
  pub is_open : IsOpen formulas branch n parts
  pub first : (m : ℕ) (others : List ℕ) → m < n → IsOpen formulas branch m others → ⊥
  pub left : IsLeftOver formulas branch n parts place part
  pub first_left : (other q : ℕ) → other < place → IsLeftOver formulas branch n parts other q → ⊥

-- each asserted disjunction has a part that is known to be true
abbrev pub HasNoOpen : Formulas → Branch → Type 0
HasNoOpen formulas branch = (n : ℕ) (parts : List ℕ) → IsAssertedOr formulas branch n parts →
    (part : ℕ) × Contains parts part × IsYesIn formulas branch part
