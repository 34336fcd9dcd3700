-- What it is for a watch to follow a graph from one list of operations to a later one.
use Rattle.std.specs.Prelude.{◌≡◌, ℕ, List, [], length, take, Contains}
use Rattle.graph_meaning.specs.declared.done.Done.{Done}
use Rattle.graph_meaning.specs.declared.union.Union.{Union}
use Rattle.graph_meaning.specs.Standing.{terms_of, differs_of}
use Rattle.graph_meaning.specs.Unions.{ListsUnions}
use Rattle.search_watch.specs.declared.watch.Watch.{Watch}
use Rattle.search_watch.specs.Covers.{ItemsBelow}
use Rattle.search_watch.specs.Watched.{World, IsWatched, HasTerms}
use Rattle.search_watch.specs.Found.{IsBetween}
use Rattle.search_watch.specs.Service.{Service, Serves, EndsStand, HasClash, ends_from}

-- the watch serves a list without a clash; over the same terms these unions make the classes that stand now, and the
-- first so many differences are those that stood
pub record IsBehind (was : Service) (now : List Done) (listed : List Union) (earlier : ℕ) (watch : Watch) : Type 0
  where
    pub serves : Serves was watch
    pub calm : HasClash was.standing → ⊥
    pub terms : terms_of now ≡ terms_of was.standing
    pub unions : ListsUnions was.standing now listed
    pub differs : take earlier (differs_of now) ≡ differs_of was.standing

-- what stands and what its terms end, where these are the differences
abbrev pub world_over : Service → List (ℕ × ℕ) → World
world_over of differs = record {
  standing = of.standing;
  terms = length (terms_of of.standing);
  literal_ends = of.ends;
  differ_ends = ends_from 0 differs;
}

-- the watch serves the same literals, where these are the differences
pub record ServesOver (of : Service) (over : List (ℕ × ℕ)) (watch : Watch) : Type 0 where
  pub terms : HasTerms (length (terms_of of.standing)) watch
  pub ends_stand : EndsStand (length (terms_of of.standing)) of.ends
  pub watched : IsWatched (world_over of over) [] watch
  pub literals : ItemsBelow of.bound watch.literals.chains
  pub differs : ItemsBelow (length over) watch.differs.chains

-- each literal that is between the ends of a difference that was found is on the list
abbrev pub HasBetween : List Done → List (ℕ × ℕ) → List ℕ → List (ℕ × ℕ) → List ℕ → Type 0
HasBetween standing differs found ends literals =
    (item s t : ℕ) → IsBetween standing differs found s t → Contains ends (item, s) → Contains ends (item, t) →
    Contains literals item
