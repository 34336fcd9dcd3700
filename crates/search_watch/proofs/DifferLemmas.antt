-- One more difference, put under the leaders of both its ends.
use Rattle.std.proofs.Common.{◌≡◌, ◌<◌, ◌⊎◌, inl, inr, ℕ, List, [], ◌∷◌, ◌++◌, slice_index_or, slice_set, Contains, sym, ◌∙◌, ap, subst, arith}
use Rattle.std.proofs.lemmas.List.Elements.{Contains-append_left, Contains-append_cases, Contains-push, Contains-push_cases}
use Rattle.std.proofs.Math.ListN.{length-set}
use Rattle.graph_meaning.specs.declared.union.Union.{Union}
use Rattle.graph_meaning.specs.Unions.{IsLeast, turned, joined}
use Rattle.search_watch.specs.declared.watch.Watch.{Watch}
use Rattle.search_watch.specs.declared.noted_chains.NotedChains.{NotedChains}
use Rattle.search_watch.specs.Chains.{Chained, HasChain, slot_at, list_at, chain_at, with_item, with_both}
use Rattle.search_watch.specs.Covers.{Covers, ItemsBelow}
use Rattle.search_watch.specs.Watched.{World, IsWatched, LeadsTerm, classes, with_difference}
use Rattle.search_watch.proofs.ChainLemmas.{get-set_same, get-set_other}

same_or_not : (i j : ℕ) → (i ≡ j) ⊎ (i ≡ j → ⊥)
same_or_not i j = search arith

module _ (s : Chained) (leader item : ℕ) (has : HasChain s leader) where
  -- what is in a list stays in it
  list_stays : (slot other : ℕ) → Contains (list_at s slot) other → Contains (list_at (with_item s leader item) slot) other
  list_stays slot other on = elim (same_or_not slot (slot_at s leader)) [
    | inl same ↦
        let here = ap (λ k. slice_index_or (slice_set s.lists (slot_at s leader) (chain_at s leader ++ item ∷ [])) k []) same ∙ get-set_same s.lists (slot_at s leader) (chain_at s leader ++ item ∷ []) [] has.slot_stands in
        let P : List ℕ → Type 0 = λ xs. Contains xs other in
        let Q : ℕ → Type 0 = λ k. Contains (list_at s k) other in
        subst P (sym here) (Contains-append_left (chain_at s leader) (item ∷ []) other (subst Q same on))
    | inr apart ↦ let P : List ℕ → Type 0 = λ xs. Contains xs other in subst P (sym (get-set_other s.lists (slot_at s leader) slot (chain_at s leader ++ item ∷ []) [] apart)) on
  ]

  pub chain_stays : (l other : ℕ) → Contains (chain_at s l) other → Contains (chain_at (with_item s leader item) l) other
  chain_stays l other on = list_stays (slot_at s l) other on

  pub item_is_in : Contains (chain_at (with_item s leader item) leader) item
  item_is_in =
      let P : List ℕ → Type 0 = λ xs. Contains xs item in
      subst P (sym (get-set_same s.lists (slot_at s leader) (chain_at s leader ++ item ∷ []) [] has.slot_stands)) (Contains-push (chain_at s leader) item)

  pub stands : (l : ℕ) → HasChain s l → HasChain (with_item s leader item) l
  stands l h = record {
    leader_stands = h.leader_stands;
    slot_stands = omega (arith, length-set s.lists (slot_at s leader) (chain_at s leader ++ item ∷ []), h.slot_stands);
  }

-- a term has one leader
pub one_leader : (world : World) (unions : List Union) (one other term : ℕ) → IsLeast (classes world unions) one → classes world unions one term → LeadsTerm world unions other term → one ≡ other
one_leader world unions one other term least g leads =
    let a = least other (joined g (turned leads.1)) in
    let b = leads.0 one (joined leads.1 (turned g)) in
    omega (arith, a, b)

module _ (world : World) (unions : List Union) (s : Chained) (d a b left right : ℕ) (covers : Covers (classes world unions) world.differ_ends s)
    (has_left : HasChain s left) (has_right : HasChain s right) (leads_left : LeadsTerm world unions left a) (leads_right : LeadsTerm world unions right b) where
  right_stays : (leader item : ℕ) → Contains (chain_at (with_item s left d) leader) item → Contains (chain_at (with_both s left right d) leader) item
  right_stays leader item on = chain_stays (with_item s left d) right d (stands s left d has_left right has_right) leader item on

  left_in : Contains (chain_at (with_both s left right d) left) d
  left_in = right_stays left d (item_is_in s left d has_left)

  right_in : Contains (chain_at (with_both s left right d) right) d
  right_in = item_is_in (with_item s left d) right d (stands s left d has_left right has_right)

  -- the chain of the leader of an end has the difference
  in_chain : (of leader term item end : ℕ) → IsLeast (classes world unions) leader → classes world unions leader term → LeadsTerm world unions of end → Contains (chain_at (with_both s left right d) of) d
      → d ≡ item → end ≡ term → Contains (chain_at (with_both s left right d) leader) item
  in_chain of leader term item end least g leads on same_item same_end =
      let back : classes world unions leader end = subst (λ (t : ℕ). classes world unions leader t) (sym same_end) g in
      let at = subst (λ (l : ℕ). Contains (chain_at (with_both s left right d) l) d) (sym (one_leader world unions leader of end least back leads)) on in
      subst (λ (i : ℕ). Contains (chain_at (with_both s left right d) leader) i) same_item at

  none_is : (pair : ℕ × ℕ) → Contains {X = ℕ × ℕ} [] pair → ⊥
  none_is pair on = omega (arith, on.1)

  pub both_cover : Covers (classes world unions) (world.differ_ends ++ (d, a) ∷ (d, b) ∷ []) (with_both s left right d)
  both_cover = record { each = λ leader term item least g on. each leader term item least g (Contains-append_cases world.differ_ends ((d, a) ∷ (d, b) ∷ []) (item, term) on) }
    where
      each : (leader term item : ℕ) → IsLeast (classes world unions) leader → classes world unions leader term
          → Contains {X = ℕ × ℕ} world.differ_ends (item, term) ⊎ Contains {X = ℕ × ℕ} ((d, a) ∷ (d, b) ∷ []) (item, term) → Contains (chain_at (with_both s left right d) leader) item
      each leader term item least g (inl old) = right_stays leader item (chain_stays s left d has_left leader item (covers.each leader term item least g old))
      each leader term item least g (inr new) = elim (Contains-push_cases ((d, a) ∷ []) (d, b) (item, term) new) [
        | inl first ↦ elim (Contains-push_cases [] (d, a) (item, term) first) [
          | inl none ↦ absurd (none_is (item, term) none)
          | inr is ↦ in_chain left leader term item a least g leads_left left_in (ap (λ (p : ℕ × ℕ). p.0) is) (ap (λ (p : ℕ × ℕ). p.1) is)
        ]
        | inr is ↦ in_chain right leader term item b least g leads_right right_in (ap (λ (p : ℕ × ℕ). p.0) is) (ap (λ (p : ℕ × ℕ). p.1) is)
      ]

-- the watch with the difference put
pub difference_watched : (world : World) (unions : List Union) (old new : Watch) (d a b left right : ℕ) → new.literals ≡ old.literals → new.differs.chains ≡ with_both old.differs.chains left right d
    → HasChain old.differs.chains left → HasChain old.differs.chains right → IsWatched world unions old → LeadsTerm world unions left a → LeadsTerm world unions right b → IsWatched (with_difference world d a b) unions new
difference_watched world unions old new d a b left right same is has_left has_right watched leads_left leads_right =
    let s = old.differs.chains in
    record {
      literals_stand = λ term lt. subst (λ (n : NotedChains). HasChain n.chains term) (sym same) (watched.literals_stand term lt);
      differs_stand = λ term lt. subst (λ (c : Chained). HasChain c term) (sym is) (stands (with_item s left d) right d (stands s left d has_left right has_right) term (stands s left d has_left term (watched.differs_stand term lt)));
      literals = subst (λ (n : NotedChains). Covers (classes world unions) world.literal_ends n.chains) (sym same) watched.literals;
      differs = subst (λ (c : Chained). Covers (classes world unions) (world.differ_ends ++ (d, a) ∷ (d, b) ∷ []) c) (sym is) (both_cover world unions s d a b left right watched.differs has_left has_right leads_left leads_right);
    }

-- ---- items stay below their bound

pub below_item : (s : Chained) (leader item count : ℕ) → HasChain s leader → item < count → ItemsBelow count s → ItemsBelow count (with_item s leader item)
below_item s leader item count has lt below slot other on = elim (same_or_not slot (slot_at s leader)) [
  | inl same ↦
      let here = ap (λ k. slice_index_or (slice_set s.lists (slot_at s leader) (chain_at s leader ++ item ∷ [])) k []) same ∙ get-set_same s.lists (slot_at s leader) (chain_at s leader ++ item ∷ []) [] has.slot_stands in
      either (Contains-push_cases (chain_at s leader) item other (subst (λ (xs : List ℕ). Contains xs other) here on))
  | inr apart ↦ below slot other (subst (λ (xs : List ℕ). Contains xs other) (get-set_other s.lists (slot_at s leader) slot (chain_at s leader ++ item ∷ []) [] apart) on)
]
  where
    either : Contains (chain_at s leader) other ⊎ (item ≡ other) → other < count
    either (inl old) = below (slot_at s leader) other old
    either (inr is) = omega arith

pub both_below : (s new : Chained) (left right d count : ℕ) → HasChain s left → HasChain s right → new ≡ with_both s left right d → d < count → ItemsBelow count s → ItemsBelow count new
both_below s new left right d count has_left has_right is lt below =
    subst (λ (c : Chained). ItemsBelow count c) (sym is) (below_item (with_item s left d) right d count (stands s left d has_left right has_right) lt (below_item s left d count has_left lt below))
