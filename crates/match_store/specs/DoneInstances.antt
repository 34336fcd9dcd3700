-- Which instances are done.
use Rattle.std.specs.Prelude.{◌≡◌, ℕ, List, Contains}
use Rattle.graph_meaning.specs.declared.done.Done.{Done}
use Rattle.graph_meaning.specs.Same.{DerivesEach}
use Rattle.graph_meaning.specs.Standing.{terms_of, merges_of}
use Rattle.match_store.specs.declared.instance.Instance.{Instance}

-- the terms of the two tuples are equal, place by place
abbrev pub AreSameEach : List Done → List ℕ → List ℕ → Type 0
AreSameEach standing ss ts = DerivesEach (terms_of standing) (merges_of standing) ss ts

-- an instance of the same forall is done, whose tuple is equal to this one, place by place
pub record IsDone (standing : List Done) (done : List Instance) (instance : Instance) : Type 0 where
  pub earlier : Instance
  pub stands : Contains done earlier
  pub of_forall : earlier.forall ≡ instance.forall
  pub same : AreSameEach standing earlier.tuple instance.tuple
