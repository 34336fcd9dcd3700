-- Laws on which literals are looked at.
use Rattle.std.specs.Prelude.{◌≡◌, ℕ, ◌⊎◌, Bool, List, [], ◌∷◌, ◌++◌}
use Rattle.graph_meaning.specs.declared.union.Union.{Union}
use Rattle.graph_meaning.specs.declared.done.Done.{Done}
use Rattle.graph_meaning.specs.Same.{Same}
use Rattle.formula_truth.specs.declared.truth.Truth.{Truth}
use Rattle.formula_truth.specs.declared.truth.Truth.TheVariants.{Unset}
use Rattle.graph_meaning.specs.Unions.{AreUnions, WasSame}
use Rattle.search_watch.specs.Literals.{IsEquationValue, IsAtomValue, Clashes}
use Rattle.search_watch.specs.Looked.{IsLookedAt, HasMovedEnd, ClashIsMet}

-- the unions lead from the classes of the one list to those of the other, over so many terms
abbrev pub Joins : List Done → List Done → ℕ → List Union → Type 0
Joins old new terms unions = AreUnions terms (WasSame old terms) (Same new) unions

-- each literal whose value is another after the unions is looked at, whichever class of each union is walked
pub record ChangesAreLookedAt : Type 0 where
  pub equations : (old new : List Done) (terms : ℕ) (unions : List Union) (side : ℕ → Bool) (differs : List (ℕ × ℕ))
      (s t : ℕ) (before after : Truth) → Joins old new terms unions
      → IsEquationValue (WasSame old terms) differs s t before → IsEquationValue (Same new) differs s t after
      → (before ≡ after) ⊎ IsLookedAt (WasSame old terms) unions side differs s t
  pub atoms : (old new : List Done) (terms : ℕ) (unions : List Union) (side : ℕ → Bool) (t : ℕ) (before after : Truth)
      → Joins old new terms unions
      → IsAtomValue (WasSame old terms) t before → IsAtomValue (Same new) t after
      → (before ≡ after)
      ⊎ (HasMovedEnd (WasSame old terms) unions side t 0 ⊎ HasMovedEnd (WasSame old terms) unions side t 1)

-- after one more difference, each literal whose value is another is between the classes of its ends
pub record DifferencesAreLookedAt : Type 0 where
  pub between : (standing : List Done) (differs : List (ℕ × ℕ)) (a b s t : ℕ) (before after : Truth)
      → IsEquationValue (Same standing) differs s t before
      → IsEquationValue (Same standing) (differs ++ (a, b) ∷ []) s t after
      → (before ≡ after) ⊎ ((Same standing a s × Same standing b t) ⊎ (Same standing a t × Same standing b s))

-- where a difference has equal ends after the unions, it had them before, or is met at one of them
pub record ClashesAreMet : Type 0 where
  pub clashes : (old new : List Done) (terms : ℕ) (unions : List Union) (side : ℕ → Bool) (differs : List (ℕ × ℕ))
      → Joins old new terms unions → Clashes (Same new) differs
      → Clashes (WasSame old terms) differs ⊎ ClashIsMet (WasSame old terms) unions side differs

-- a value that is set stays after the unions and more differences, where no difference has equal ends and true is
-- not false
pub record ValuesStay : Type 0 where
  pub equations : (old new : List Done) (terms : ℕ) (unions : List Union) (differs more : List (ℕ × ℕ)) (s t : ℕ)
      (before after : Truth) → Joins old new terms unions → (Clashes (Same new) (differs ++ more) → ⊥)
      → IsEquationValue (WasSame old terms) differs s t before
      → IsEquationValue (Same new) (differs ++ more) s t after
      → (before ≡ Unset) ⊎ (before ≡ after)
  pub atoms : (old new : List Done) (terms : ℕ) (unions : List Union) (t : ℕ) (before after : Truth)
      → Joins old new terms unions → (Same new 0 1 → ⊥)
      → IsAtomValue (WasSame old terms) t before → IsAtomValue (Same new) t after
      → (before ≡ Unset) ⊎ (before ≡ after)
