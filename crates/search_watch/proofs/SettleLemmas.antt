-- The classes after unions are those of the list that stands then.
use Rattle.std.proofs.Common.{◌≡◌, inl, inr, ℕ, List, [], length, slice_get, Some, subst, arith}
use Rattle.graph_meaning.specs.declared.union.Union.{Union}
use Rattle.graph_meaning.specs.declared.done.Done.{Done}
use Rattle.graph_meaning.specs.Standing.{terms_of}
use Rattle.graph_meaning.specs.Same.{Same, IsLeader}
use Rattle.graph_meaning.specs.Same as congruence
use Rattle.graph_meaning.specs.Unions.{Generated, WasSame, IsLeast, was, listed, turned, joined}
use Rattle.search_watch.specs.Laws.{Joins}
use Rattle.search_watch.specs.Chains.{Chained}
use Rattle.search_watch.specs.Covers.{Covers}
use Rattle.search_watch.specs.Watched.{World, classes}

module _ (standing : List Done) where
  -- over the terms that stand, what was the same is
  pub was_same : (s t : ℕ) → WasSame standing (length (terms_of standing)) s t → Same standing s t
  was_same s t (inl g) = g
  was_same s t (inr (e, lt)) = subst (λ (x : ℕ). Same standing s x) e (congruence.Derives.same_term lt)

  -- and so it is after no unions
  pub none_same : {s t : ℕ} → Generated (WasSame standing (length (terms_of standing))) [] s t → Same standing s t
  none_same {s = s} {t = t} (was h) = was_same s t h
  none_same (listed c) = absurd (omega (arith, c.1))
  none_same (turned g) = congruence.Derives.turned (none_same g)
  none_same (joined g h) = congruence.Derives.joined (none_same g) (none_same h)

  no_union : (k : ℕ) (union : Union) → slice_get {X = Union} [] k ≡ Some union → ⊥
  no_union k union at = cc

  -- no unions lead from a list to itself
  pub no_unions : Joins standing standing (length (terms_of standing)) []
  no_unions = record {
    generated = λ s t g. was (inl g);
    held = λ s t g. none_same g;
    below = λ k union at. absurd (no_union k union at);
    led = λ k union at. absurd (no_union k union at);
    apart = λ k union at g. no_union k union at;
  }

  -- a leader of what stands leads after no unions
  pub leads : (leader term : ℕ) → IsLeader standing term leader → IsLeast (Generated (WasSame standing (length (terms_of standing))) []) leader × Generated (WasSame standing (length (terms_of standing))) [] leader term
  leads leader term is = (λ other g. is.least other (congruence.Derives.joined (congruence.Derives.turned (none_same g)) is.same), was (inl is.same))

  -- what covers the classes that stand covers them after no unions
  pub covers_none : (ends : List (ℕ × ℕ)) (chains : Chained) → Covers (Same standing) ends chains → Covers (Generated (WasSame standing (length (terms_of standing))) []) ends chains
  covers_none ends chains covers = record {
    each = λ leader term item least g on. covers.each leader term item (λ other h. least other (was (inl h))) (none_same g) on;
  }

-- what covers the classes after the unions covers those of the list that they lead to
pub covers_after : (world : World) (now : List Done) (unions : List Union) (ends : List (ℕ × ℕ)) (chains : Chained) → Joins world.standing now world.terms unions → Covers (classes world unions) ends chains → Covers (Same now) ends chains
covers_after world now unions ends chains joins covers = record {
  each = λ leader term item least g on. covers.each leader term item (λ other h. least other (joins.held leader other h)) (joins.generated leader term g) on;
}
