-- A watch that takes one difference after another.
use Rattle.std.proofs.Common.{◌≡◌, ◌<◌, ◌≤◌, ◌+◌, ℕ, List, [], ◌∷◌, length, take, slice_index, slice_index_or, refl, sym, subst, arith}
use Rattle.std.proofs.lemmas.List.{length-take-le, take_all}
use Rattle.std.proofs.lemmas.List.Elements.{Contains-get_or}
use Rattle.graph_meaning.specs.declared.union.Union.{Union}
use Rattle.graph_meaning.specs.declared.done.Done.{Done}
use Rattle.graph_meaning.specs.Standing.{terms_of, differs_of}
use Rattle.graph_meaning.specs.Same.{IsLeader}
use Rattle.graph_meaning.specs.Lawful.{IsLawful}
use Rattle.search_watch.specs.declared.watch.Watch.{Watch}
use Rattle.search_watch.specs.declared.noted_chains.NotedChains.{NotedChains}
use Rattle.search_watch.specs.Chains.{chain_at, slot_at}
use Rattle.search_watch.specs.Covers.{ItemsBelow}
use Rattle.search_watch.specs.Watched.{World, IsWatched, LeadsTerm, HaveChains, HasTerms, classes, with_difference}
use Rattle.search_watch.specs.Evaluate.{AreDifferChains}
use Rattle.search_watch.specs.Service.{Service, Serves, service, world_of}
use Rattle.search_watch.specs.Follow.{world_over, ServesOver}
use Rattle.search_watch.proofs.SameLemmas.{derived_terms}
use Rattle.search_watch.proofs.SettleLemmas.{leads, no_unions}
use Rattle.search_watch.proofs.EndsLemmas.{ends_more, tells_ends}
use Rattle.search_watch.proofs.FreshLemmas.{covers_nothing, none_below}
use Rattle.search_watch.proofs.ServeLemmas.{serves}

-- a leader stands
pub leader_stands : (standing : List Done) (term leader : ℕ) → IsLawful standing → IsLeader standing term leader → leader < length (terms_of standing)
leader_stands standing term leader lawful is = (derived_terms standing lawful.whole.ends is.same).0

-- one difference more
pub over_more : (of : Service) (differs : List (ℕ × ℕ)) (k : ℕ) (old new : Watch) (left right : ℕ) → k < length differs → ServesOver of (take k differs) old
    → IsLeader of.standing (slice_index_or differs k (0, 0)).0 left → IsLeader of.standing (slice_index_or differs k (0, 0)).1 right
    → ((world : World) (unions : List Union) (a b : ℕ) → IsWatched world unions old → LeadsTerm world unions left a → LeadsTerm world unions right b → IsWatched (with_difference world k a b) unions new)
    → ((count : ℕ) → HasTerms count old → HasTerms count new)
    → new.literals ≡ old.literals → ((count : ℕ) → k < count → ItemsBelow count old.differs.chains → ItemsBelow count new.differs.chains)
    → ServesOver of (take (k + 1) differs) new
over_more of differs k old new left right lt over of_left of_right adds terms same below =
    let a = (slice_index_or differs k (0, 0)).0 in
    let b = (slice_index_or differs k (0, 0)).1 in
    let len = length-take-le k differs (omega arith) in
    let len' = length-take-le (k + 1) differs (omega arith) in
    record {
      terms = terms (length (terms_of of.standing)) over.terms;
      ends_stand = over.ends_stand;
      watched = subst (λ (ends : List (ℕ × ℕ)). IsWatched (record { standing = of.standing; terms = length (terms_of of.standing); literal_ends = of.ends; differ_ends = ends }) [] new) (sym (ends_more differs k lt))
          (adds (world_over of (take k differs)) [] a b over.watched (leads of.standing left a of_left) (leads of.standing right b of_right));
      literals = subst (λ (n : NotedChains). ItemsBelow of.bound n.chains) (sym same) over.literals;
      differs = below (length (take (k + 1) differs)) (omega (arith, len')) (λ slot item on. let less = over.differs slot item on in omega (arith, less, len, len'));
    }

-- the first differences of as many as there are
pub over_all : (of : Service) (differs : List (ℕ × ℕ)) (k : ℕ) (watch : Watch) → length differs ≤ k → ServesOver of (take k differs) watch → ServesOver of differs watch
over_all of differs k watch past over = subst (λ (ds : List (ℕ × ℕ)). ServesOver of ds watch) (take_all k differs past) over

-- over the differences that stand it serves
pub over_serves : (of : Service) (differs : List (ℕ × ℕ)) (watch : Watch) → differs ≡ differs_of of.standing → ServesOver of differs watch → Serves of watch
over_serves of differs watch is over =
    let over' = subst (λ (ds : List (ℕ × ℕ)). ServesOver of ds watch) is over in
    record { terms = over'.terms; ends_stand = over'.ends_stand; watched = over'.watched; literals = over'.literals; differs = over'.differs }

take_none : (differs : List (ℕ × ℕ)) → [] ≡ take 0 differs
take_none [] = refl
take_none (x ∷ xs) = refl

-- a watch with empty chains serves without literals and differences
pub over_none : (standing : List Done) (bound : ℕ) (differs : List (ℕ × ℕ)) (watch : Watch) → HasTerms (length (terms_of standing)) watch
    → HaveChains (length (terms_of standing)) watch.literals.chains → ItemsBelow 0 watch.literals.chains
    → HaveChains (length (terms_of standing)) watch.differs.chains → ItemsBelow 0 watch.differs.chains
    → ServesOver (service standing [] bound) (take 0 differs) watch
over_none standing bound differs watch terms have none have' none' =
    let of = service standing [] bound in
    let same = classes (world_over of []) [] in
    let over : ServesOver of [] watch = record {
      terms = terms;
      ends_stand = λ item term on. absurd (omega (arith, on.1));
      watched = record {
        literals_stand = have;
        differs_stand = have';
        literals = covers_nothing same watch.literals.chains;
        differs = covers_nothing same watch.differs.chains;
      };
      literals = none_below watch.literals.chains bound none;
      differs = none_below watch.differs.chains 0 none';
    } in
    subst (λ (ds : List (ℕ × ℕ)). ServesOver of ds watch) (take_none differs) over

-- the chains of a watch that serves are those that evaluation reads
pub serving_chains : (standing : List Done) (ends : List (ℕ × ℕ)) (bound : ℕ) (differs : List (ℕ × ℕ)) (watch : Watch) → IsLawful standing → differs ≡ differs_of standing → Serves (service standing ends bound) watch
    → AreDifferChains standing differs watch.differs.chains
serving_chains standing ends bound differs watch lawful is of =
    let chains = watch.differs.chains in
    subst (λ (ds : List (ℕ × ℕ)). AreDifferChains standing ds chains) (sym is)
    (serves (world_of (service standing ends bound)) standing [] (differs_of standing) chains (no_unions standing) (λ s t g. (derived_terms standing lawful.whole.ends g).0)
    of.watched.differs_stand of.watched.differs (tells_ends (differs_of standing))
    (λ leader i lt within. of.differs (slot_at chains leader) (slice_index (chain_at chains leader) i) (Contains-get_or (chain_at chains leader) i 0 within)))
