-- What was found at the unions is enough.
use Rattle.std.specs.Prelude.{◌≡◌, ℕ, ◌⊎◌, List, length, Some, slice_get, Contains}
use Rattle.graph_meaning.specs.declared.union.Union.{Union}
use Rattle.graph_meaning.specs.declared.done.Done.{Done}
use Rattle.graph_meaning.specs.Same.{Same}
use Rattle.formula_truth.specs.declared.truth.Truth.{Truth}
use Rattle.search_watch.specs.Literals.{IsEquationValue, IsAtomValue, Clashes}
use Rattle.search_watch.specs.Laws.{Joins}
use Rattle.graph_meaning.specs.Unions.{WasSame}
use Rattle.search_watch.specs.Watched.{World, AreLed, LooksAtUnions}

-- unions that lead from the classes of the world's list to others name leaders of their moments
pub record UnionsAreLed : Type 0 where
  pub led : (world : World) (new : List Done) (unions : List Union) → Joins world.standing new world.terms unions
      → AreLed world unions

-- the ends of each difference are told
abbrev pub TellsDiffers : World → List (ℕ × ℕ) → Type 0
TellsDiffers world differs =
    (d a b : ℕ) → slice_get differs d ≡ Some (a, b)
    → Contains world.differ_ends (d, a) × Contains world.differ_ends (d, b)

-- the two terms are of the classes of the two ends of a difference that was found
pub record IsBetween (new : List Done) (differs : List (ℕ × ℕ)) (found : List ℕ) (s t : ℕ) : Type 0 where
  pub d : ℕ
  pub a : ℕ
  pub b : ℕ
  pub at : slice_get differs d ≡ Some (a, b)
  pub on : Contains found d
  pub between : (Same new a s × Same new b t) ⊎ (Same new a t × Same new b s)

-- each literal whose value is another after the unions was found, or is between the ends of a difference that was
-- found
pub record FoundSuffices : Type 0 where
  pub equations : (world : World) (new : List Done) (unions : List Union) (differs : List (ℕ × ℕ))
      (literals found : List ℕ) (item s t : ℕ) (before after : Truth)
      → Joins world.standing new world.terms unions → LooksAtUnions world unions (length unions) literals found
      → TellsDiffers world differs
      → Contains world.literal_ends (item, s) → Contains world.literal_ends (item, t)
      → IsEquationValue (WasSame world.standing world.terms) differs s t before
      → IsEquationValue (Same new) differs s t after
      → (before ≡ after) ⊎ (Contains literals item ⊎ IsBetween new differs found s t)
  pub atoms : (world : World) (new : List Done) (unions : List Union) (literals found : List ℕ) (item t : ℕ)
      (before after : Truth)
      → Joins world.standing new world.terms unions → LooksAtUnions world unions (length unions) literals found
      → Contains world.literal_ends (item, t)
      → Contains world.literal_ends (item, 0) → Contains world.literal_ends (item, 1)
      → IsAtomValue (WasSame world.standing world.terms) t before → IsAtomValue (Same new) t after
      → (before ≡ after) ⊎ Contains literals item

-- a difference that was found has equal ends
pub record IsFoundClash (new : List Done) (differs : List (ℕ × ℕ)) (found : List ℕ) : Type 0 where
  pub d : ℕ
  pub a : ℕ
  pub b : ℕ
  pub at : slice_get differs d ≡ Some (a, b)
  pub on : Contains found d
  pub same : Same new a b

-- where a difference has equal ends after the unions, one had them before, or one that was found has them
pub record FoundClashes : Type 0 where
  pub clashes : (world : World) (new : List Done) (unions : List Union) (differs : List (ℕ × ℕ))
      (literals found : List ℕ)
      → Joins world.standing new world.terms unions → LooksAtUnions world unions (length unions) literals found
      → TellsDiffers world differs → Clashes (Same new) differs
      → Clashes (WasSame world.standing world.terms) differs ⊎ IsFoundClash new differs found
