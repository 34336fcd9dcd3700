-- What stands in a table stays so while instances are entered.
use Rattle.std.proofs.Common.{ℕ, List, [], All}
use Rattle.match_store.specs.declared.instance.Instance.{Instance}
use Rattle.formula_assert.specs.Assertions.{Assertions, held_of}
use Rattle.formula_assert.specs.InLevel.{KeepsLevels}
use Rattle.search_laws.specs.Rounds.{EntersAll}
use Rattle.search_branch.specs.Grown.{StandIn}
use Rattle.search_branch.specs.Struck.{IsPlaceOf}
use Rattle.search_check.specs.Round.{path_at, LivesAreAsserted}
use Rattle.search_check.proofs.EnteredLives.{lives_all}
use Rattle.search_check.proofs.GrowthLemmas.{places_kept}

-- asserted nodes stand, and struck places are places
pub stand_still : (before now : Assertions) (instances : List Instance) (struck : List (ℕ × ℕ))
    (done later : List Instance) → KeepsLevels before now →
    EntersAll instances (path_at before struck done []) (path_at now struck later []) →
    LivesAreAsserted before.formulas (held_of before) → All (IsPlaceOf before.formulas.nodes) struck →
    StandIn now struck
stand_still before now instances struck done later keeps enters lives places = record {
  asserted = (lives_all enters lives).nodes;
  places = places_kept before now keeps struck places;
}
