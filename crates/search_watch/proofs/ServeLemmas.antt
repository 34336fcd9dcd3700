-- The chains after the unions serve the graph after them.
use Rattle.std.proofs.Common.{zero, suc, ◌≡◌, ◌<◌, inl, inr, ℕ, List, [], ◌∷◌, length, Some, slice_get, slice_index, slice_index_or, Contains, refl, arith}
use Rattle.graph_meaning.specs.declared.union.Union.{Union}
use Rattle.graph_meaning.specs.declared.done.Done.{Done}
use Rattle.graph_meaning.specs.Same.{Same, IsLeader}
use Rattle.graph_meaning.specs.Same as congruence
use Rattle.graph_meaning.specs.Unions.{IsLeast}
use Rattle.search_watch.specs.Laws.{Joins}
use Rattle.search_watch.specs.Chains.{Chained, chain_at}
use Rattle.search_watch.specs.Covers.{Covers}
use Rattle.search_watch.specs.Watched.{World, classes, HaveChains}
use Rattle.search_watch.specs.Found.{TellsDiffers}
use Rattle.search_watch.specs.Evaluate.{AreDifferChains}

got : (xs : List (ℕ × ℕ)) (k : ℕ) (d : ℕ × ℕ) → k < length xs → slice_get xs k ≡ Some (slice_index_or xs k d)
got [] k d h = absurd (omega arith)
got (x ∷ xs) zero d h = refl
got (x ∷ xs) (suc k) d h = got xs k d (omega arith)

module _ (world : World) (new : List Done) (unions : List Union) (differs : List (ℕ × ℕ)) (chains : Chained) (joins : Joins world.standing new world.terms unions) (stand : (s t : ℕ) → Same new s t → s < world.terms)
    (have : HaveChains world.terms chains) (covers : Covers (classes world unions) world.differ_ends chains) (tells : TellsDiffers world differs)
    (names : (leader i : ℕ) → leader < world.terms → i < length (chain_at chains leader) → slice_index (chain_at chains leader) i < length differs) where
  least_of : (term leader : ℕ) → IsLeader new term leader → IsLeast (classes world unions) leader
  least_of term leader is other g = is.least other (congruence.Derives.joined (congruence.Derives.turned (joins.held leader other g)) is.same)

  end_of : (term leader end item : ℕ) → IsLeader new term leader → Same new end term → Contains world.differ_ends (item, end) → Contains (chain_at chains leader) item
  end_of term leader end item is same on = covers.each leader end item (least_of term leader is) (joins.generated leader end (congruence.Derives.joined is.same (congruence.Derives.turned same))) on

  pub serves : AreDifferChains new differs chains
  serves term leader is = (
    have leader (stand leader term is.same),
    record {
      names = λ i lt. names leader i (stand leader term is.same) lt;
      holds = λ d lt on. let both = tells d (slice_index_or differs d (0, 0)).0 (slice_index_or differs d (0, 0)).1 (got differs d (0, 0) lt) in
          elim on [
            | inl one ↦ end_of term leader (slice_index_or differs d (0, 0)).0 d is one both.0
            | inr other ↦ end_of term leader (slice_index_or differs d (0, 0)).1 d is other both.1
          ];
    },
  )
