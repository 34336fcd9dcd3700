-- Literals and differences by the classes of their ends.
use Rattle.std.specs.Prelude.{◌≡◌, ℕ, ◌<◌, Bool, List, [], ◌∷◌, ◌++◌, length, take, Some, slice_get, Contains}
use Rattle.graph_meaning.specs.declared.union.Union.{Union}
use Rattle.graph_meaning.specs.declared.done.Done.{Done}
use Rattle.graph_meaning.specs.Unions.{Generated, IsLeast, Leads}
use Rattle.search_watch.specs.declared.watch.Watch.{Watch}
use Rattle.graph_meaning.specs.Unions.{WasSame}
use Rattle.search_watch.specs.Looked.{moved_of}
use Rattle.search_watch.specs.Chains.{Chained, HasChain}
use Rattle.search_watch.specs.Covers.{Covers, ItemsBelow}

-- a standing list over so many terms, and what terms end: literals and differences by number
pub record World : Type 0 where
  pub standing : List Done
  pub terms : ℕ
  pub literal_ends : List (ℕ × ℕ)
  pub differ_ends : List (ℕ × ℕ)

-- the classes after some unions
abbrev pub classes : World → List Union → ℕ → ℕ → Type 0
classes world unions = Generated (WasSame world.standing world.terms) unions

-- the leader is the least term of the class of the term
abbrev pub LeadsTerm : World → List Union → ℕ → ℕ → Type 0
LeadsTerm world unions leader term = IsLeast (classes world unions) leader × classes world unions leader term

-- one more difference has this number and these ends
abbrev pub with_difference : World → ℕ → ℕ → ℕ → World
with_difference world d a b = record world { differ_ends = world.differ_ends ++ (d, a) ∷ (d, b) ∷ [] }

-- each term has a list
abbrev pub HaveChains : ℕ → Chained → Type 0
HaveChains terms chains = (term : ℕ) → term < terms → HasChain chains term

-- the chain of each leader holds what its class's terms end
pub record IsWatched (world : World) (unions : List Union) (watch : Watch) : Type 0 where
  pub literals_stand : HaveChains world.terms watch.literals.chains
  pub differs_stand : HaveChains world.terms watch.differs.chains
  pub literals : Covers (classes world unions) world.literal_ends watch.literals.chains
  pub differs : Covers (classes world unions) world.differ_ends watch.differs.chains

-- the watch has so many terms
pub record HasTerms (count : ℕ) (watch : Watch) : Type 0 where
  pub literals : length watch.literals.chains.slots ≡ count
  pub differs : length watch.differs.chains.slots ≡ count

-- items are below a bound where all were before, and there are as many terms
pub record KeepsItems (old new : Watch) : Type 0 where
  pub terms : (count : ℕ) → HasTerms count old → HasTerms count new
  pub literals : (count : ℕ) → ItemsBelow count old.literals.chains → ItemsBelow count new.literals.chains
  pub differs : (count : ℕ) → ItemsBelow count old.differs.chains → ItemsBelow count new.differs.chains

-- nothing was lost
abbrev pub Gathers : List ℕ → List ℕ → Type 0
Gathers old new = (item : ℕ) → Contains old item → Contains new item

-- what ends in the class that is walked was found
abbrev pub Finds : (ℕ → ℕ → Type 0) → ℕ → List (ℕ × ℕ) → List ℕ → Type 0
Finds same moved ends found = (item term : ℕ) → same moved term → Contains ends (item, term) → Contains found item

-- of one of the two classes, all literals and differences with an end in it were found
pub record LooksAtUnion (world : World) (unions : List Union) (union : Union)
    (literals differs : List ℕ) : Type 0 where
  pub side : Bool
  pub literals_found : Finds (classes world unions) (moved_of side union) world.literal_ends literals
  pub differs_found : Finds (classes world unions) (moved_of side union) world.differ_ends differs

-- so it was at each of the first unions
abbrev pub LooksAtUnions : World → List Union → ℕ → List ℕ → List ℕ → Type 0
LooksAtUnions world unions count literals differs =
    (k : ℕ) (union : Union) → k < count → slice_get unions k ≡ Some union →
    LooksAtUnion world (take k unions) union literals differs

-- each union names two terms, which are leaders at its moment
pub record IsLed (world : World) (unions : List Union) (union : Union) : Type 0 where
  pub leads : Leads (classes world unions) union
  pub left : union.left < world.terms
  pub right : union.right < world.terms

-- each of the unions does so
abbrev pub AreLed : World → List Union → Type 0
AreLed world unions = (k : ℕ) (union : Union) → slice_get unions k ≡ Some union → IsLed world (take k unions) union
