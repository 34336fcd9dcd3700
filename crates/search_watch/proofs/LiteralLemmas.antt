-- One more end of a literal.
use Rattle.std.proofs.Common.{◌≡◌, ◌<◌, ◌⊎◌, inl, inr, ℕ, List, [], ◌∷◌, ◌++◌, length, Contains, sym, ◌∙◌, ap, subst}
use Rattle.std.proofs.lemmas.List.Elements.{Contains-push_cases}
use Rattle.graph_meaning.specs.declared.done.Done.{Done}
use Rattle.graph_meaning.specs.Standing.{terms_of, differs_of}
use Rattle.graph_meaning.specs.Same.{IsLeader}
use Rattle.graph_meaning.specs.Unions.{IsLeast}
use Rattle.search_watch.specs.declared.watch.Watch.{Watch}
use Rattle.search_watch.specs.declared.noted_chains.NotedChains.{NotedChains}
use Rattle.search_watch.specs.Chains.{Chained, HasChain, chain_at, with_item}
use Rattle.search_watch.specs.Covers.{Covers, ItemsBelow}
use Rattle.search_watch.specs.Watched.{World, LeadsTerm, classes}
use Rattle.search_watch.specs.Service.{Serves, service, world_of, ends_from}
use Rattle.search_watch.proofs.SettleLemmas.{leads}
use Rattle.search_watch.proofs.DifferLemmas.{chain_stays, item_is_in, stands, one_leader, below_item}

-- the chain of the leader of its end has the item
item_covers : (world : World) (ends : List (ℕ × ℕ)) (s : Chained) (item end leader : ℕ) → Covers (classes world []) ends s → HasChain s leader → LeadsTerm world [] leader end
    → Covers (classes world []) (ends ++ (item, end) ∷ []) (with_item s leader item)
item_covers world ends s item end leader covers has leads_end = record { each = λ other term one least g on. each other term one least g (Contains-push_cases ends (item, end) (one, term) on) }
  where
    each : (other term one : ℕ) → IsLeast (classes world []) other → classes world [] other term → Contains {X = ℕ × ℕ} ends (one, term) ⊎ ◌≡◌ {A = ℕ × ℕ} (item, end) (one, term) → Contains (chain_at (with_item s leader item) other) one
    each other term one least g (inl old) = chain_stays s leader item has other one (covers.each other term one least g old)
    each other term one least g (inr is) =
        let same_item = ap (λ (pair : ℕ × ℕ). pair.0) is in
        let same_end = ap (λ (pair : ℕ × ℕ). pair.1) is in
        let back : classes world [] other end = subst (λ (t : ℕ). classes world [] other t) (sym same_end) g in
        let at = subst (λ (l : ℕ). Contains (chain_at (with_item s leader item) l) item) (sym (one_leader world [] other leader end least back leads_end)) (item_is_in s leader item has) in
        subst (λ (i : ℕ). Contains (chain_at (with_item s leader item) other) i) same_item at

-- the watch that took the item serves it too
pub literal_serves : (standing : List Done) (ends : List (ℕ × ℕ)) (bound item term leader : ℕ) (old new : Watch) → Serves (service standing ends bound) old → item < bound → term < length (terms_of standing)
    → IsLeader standing term leader → HasChain old.literals.chains leader
    → new.literals.chains ≡ with_item old.literals.chains leader item → new.differs ≡ old.differs → Serves (service standing (ends ++ (item, term) ∷ []) bound) new
literal_serves standing ends bound item term leader old new of lt term_stands is has put same =
    let s = old.literals.chains in
    record {
      terms = record {
        literals = ap (λ (c : Chained). length c.slots) put ∙ of.terms.literals;
        differs = ap (λ (n : NotedChains). length n.chains.slots) same ∙ of.terms.differs;
      };
      ends_stand = λ one end on. elim (Contains-push_cases ends (item, term) (one, end) on) [
        | inl old_end ↦ of.ends_stand one end old_end
        | inr is_end ↦ subst (λ (pair : ℕ × ℕ). pair.1 < length (terms_of standing)) is_end term_stands
      ];
      watched = record {
        literals_stand = λ other within. subst (λ (c : Chained). HasChain c other) (sym put) (stands s leader item has other (of.watched.literals_stand other within));
        differs_stand = subst (λ (n : NotedChains). (other : ℕ) → other < length (terms_of standing) → HasChain n.chains other) (sym same) of.watched.differs_stand;
        literals = subst (λ (c : Chained). Covers (classes (world_of (service standing ends bound)) []) (ends ++ (item, term) ∷ []) c) (sym put)
            (item_covers (world_of (service standing ends bound)) ends s item term leader of.watched.literals has (leads standing leader term is));
        differs = subst (λ (n : NotedChains). Covers (classes (world_of (service standing ends bound)) []) (ends_from 0 (differs_of standing)) n.chains) (sym same) of.watched.differs;
      };
      literals = subst (λ (c : Chained). ItemsBelow bound c) (sym put) (below_item s leader item bound has lt of.literals);
      differs = subst (λ (n : NotedChains). ItemsBelow (length (differs_of standing)) n.chains) (sym same) of.differs;
    }
