-- What a watch serves: a graph and the literals of its terms.
use Rattle.std.specs.Prelude.{◌≡◌, ℕ, ◌+◌, ◌<◌, ◌⊎◌, List, [], ◌∷◌, length, Contains}
use Rattle.graph_meaning.specs.declared.done.Done.{Done}
use Rattle.graph_meaning.specs.Same.{Same}
use Rattle.graph_meaning.specs.Standing.{terms_of, differs_of}
use Rattle.formula_truth.specs.declared.truth.Truth.{Truth}
use Rattle.formula_truth.specs.declared.truth.Truth.TheVariants.{Unset}
use Rattle.search_watch.specs.declared.watch.Watch.{Watch}
use Rattle.search_watch.specs.Literals.{IsEquationValue, IsAtomValue, Clashes}
use Rattle.search_watch.specs.Covers.{ItemsBelow}
use Rattle.search_watch.specs.Watched.{World, IsWatched, HasTerms}

-- what stands, which terms end literals, as pairs of a literal's number and a term, and a bound of these numbers
pub record Service : Type 0 where
  pub standing : List Done
  pub ends : List (ℕ × ℕ)
  pub bound : ℕ

-- this list stands, with these ends of literals, whose numbers are below the bound
abbrev pub service : List Done → List (ℕ × ℕ) → ℕ → Service
service standing ends bound = record { standing = standing; ends = ends; bound = bound }

-- the same literals, where this list stands
abbrev pub where_stands : Service → List Done → Service
where_stands of now = record of { standing = now }

-- the ends of differences, as pairs of a difference's number and a term; the first difference has this number
abbrev pub ends_from : ℕ → List (ℕ × ℕ) → List (ℕ × ℕ)
ends_from d [] = []
ends_from d (pair ∷ pairs) = (d, pair.0) ∷ (d, pair.1) ∷ ends_from (d + 1) pairs

-- what stands, and what its terms end: the literals, and the differences by number
abbrev pub world_of : Service → World
world_of of = record {
  standing = of.standing;
  terms = length (terms_of of.standing);
  literal_ends = of.ends;
  differ_ends = ends_from 0 (differs_of of.standing);
}

-- each end of a literal is a term
abbrev pub EndsStand : ℕ → List (ℕ × ℕ) → Type 0
EndsStand terms ends = (item term : ℕ) → Contains ends (item, term) → term < terms

-- the watch has the terms that stand, and for each class the literals and the differences that its terms end, and
-- nothing but such numbers
pub record Serves (of : Service) (watch : Watch) : Type 0 where
  pub terms : HasTerms (length (terms_of of.standing)) watch
  pub ends_stand : EndsStand (length (terms_of of.standing)) of.ends
  pub watched : IsWatched (world_of of) [] watch
  pub literals : ItemsBelow of.bound watch.literals.chains
  pub differs : ItemsBelow (length (differs_of of.standing)) watch.differs.chains

-- the watch serves what stands, with some literals
abbrev pub ServesNow : List Done → Watch → Type 0
ServesNow standing watch = (ends : List (ℕ × ℕ)) × (bound : ℕ) × Serves (service standing ends bound) watch

-- true and false are equal, or the two ends of a difference are
abbrev pub HasClash : List Done → Type 0
HasClash standing = Same standing 0 1 ⊎ Clashes (Same standing) (differs_of standing)

-- a literal that had this value has it by what stands now, or it had none and was found
abbrev pub StaysOrFound : (Truth → Type 0) → List ℕ → ℕ → Truth → Type 0
StaysOrFound has found item old = has old ⊎ ((old ≡ Unset) × Contains found item)

-- each literal has the value now that it had by the earlier list, or it had none and was found
pub record FindsChanges (before now : List Done) (ends : List (ℕ × ℕ)) (found : List ℕ) : Type 0 where
  pub equations : (item s t : ℕ) (old : Truth) → Contains ends (item, s) → Contains ends (item, t) →
      IsEquationValue (Same before) (differs_of before) s t old →
      StaysOrFound (IsEquationValue (Same now) (differs_of now) s t) found item old
  pub atoms : (item t : ℕ) (old : Truth) → Contains ends (item, t) → Contains ends (item, 0) →
      Contains ends (item, 1) → IsAtomValue (Same before) t old →
      StaysOrFound (IsAtomValue (Same now) t) found item old
