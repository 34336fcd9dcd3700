-- Joined chains hold what the joined class's terms end.
use Rattle.std.proofs.Common.{◌≡◌, ◌<◌, ◌⊎◌, inl, inr, ℕ, min, List, [], ◌∷◌, ◌++◌, length, slice_index_or, slice_set, Contains, refl, sym, ◌∙◌, ap, subst, arith, length-append}
use Rattle.std.proofs.lemmas.List.Elements.{Contains-append_left, Contains-append_right, Contains-append_cases}
use Rattle.graph_meaning.specs.declared.union.Union.{Union}
use Rattle.graph_meaning.specs.declared.done.Done.{Done}
use Rattle.graph_meaning.specs.Unions.{Generated, IsLeast, Leads, union_of, listed, turned, joined}
use Rattle.graph_meaning.specs.Unions.{WasSame}
use Rattle.search_watch.specs.Chains.{Chained, HasChain, slot_at, list_at, chain_at, chained}
use Rattle.search_watch.specs.Covers.{Covers, ItemsBelow}
use Rattle.search_watch.proofs.StepLemmas.{step, more_unions}
use Rattle.search_watch.proofs.ChainLemmas.{get-set_same, get-set_other}

same_or_not : (i j : ℕ) → (i ≡ j) ⊎ (i ≡ j → ⊥)
same_or_not i j = search arith

module _ (s : Chained) (moved kept : ℕ) (has_moved : HasChain s moved) (has_kept : HasChain s kept) where
  -- what is in a list stays in it
  list_stays : (slot item : ℕ) → Contains (list_at s slot) item → Contains (list_at (chained s moved kept) slot) item
  list_stays slot item on = elim (same_or_not slot (slot_at s kept)) [
    | inl same ↦
        let here = ap (λ k. slice_index_or (slice_set s.lists (slot_at s kept) (chain_at s kept ++ chain_at s moved)) k []) same ∙ get-set_same s.lists (slot_at s kept) (chain_at s kept ++ chain_at s moved) [] has_kept.slot_stands in
        let P : List ℕ → Type 0 = λ xs. Contains xs item in
        let Q : ℕ → Type 0 = λ k. Contains (list_at s k) item in
        subst P (sym here) (Contains-append_left (chain_at s kept) (chain_at s moved) item (subst Q same on))
    | inr other ↦ let P : List ℕ → Type 0 = λ xs. Contains xs item in subst P (sym (get-set_other s.lists (slot_at s kept) slot (chain_at s kept ++ chain_at s moved) [] other)) on
  ]

  -- the lesser leader has both chains
  least_has : (item : ℕ) → Contains (chain_at s kept) item ⊎ Contains (chain_at s moved) item → Contains (chain_at (chained s moved kept) (min moved kept)) item
  least_has item on =
      let slot = get-set_same s.slots (min moved kept) (slot_at s kept) 0 (omega (arith, has_moved.leader_stands, has_kept.leader_stands)) in
      let list = ap (list_at (chained s moved kept)) slot ∙ get-set_same s.lists (slot_at s kept) (chain_at s kept ++ chain_at s moved) [] has_kept.slot_stands in
      let P : List ℕ → Type 0 = λ xs. Contains xs item in
      subst P (sym list) (both on)
    where
      both : Contains (chain_at s kept) item ⊎ Contains (chain_at s moved) item → Contains (chain_at s kept ++ chain_at s moved) item
      both (inl a) = Contains-append_left (chain_at s kept) (chain_at s moved) item a
      both (inr b) = Contains-append_right (chain_at s kept) (chain_at s moved) item b

  -- any other leader has its chain
  other_has : (leader item : ℕ) → (leader ≡ min moved kept → ⊥) → Contains (chain_at s leader) item → Contains (chain_at (chained s moved kept) leader) item
  other_has leader item ne on =
      let slot = get-set_other s.slots (min moved kept) leader (slot_at s kept) 0 ne in
      let P : ℕ → Type 0 = λ k. Contains (list_at (chained s moved kept) k) item in
      subst P (sym slot) (list_stays (slot_at s leader) item on)

module _ (standing : List Done) (terms : ℕ) (unions : List Union) (union : Union) (ends : List (ℕ × ℕ)) (s : Chained) (moved kept : ℕ)
    (covers : Covers (Generated (WasSame standing terms) unions) ends s) (leads : Leads (Generated (WasSame standing terms) unions) union) (stand : (union.left < terms) × (union.right < terms))
    (sides : ((moved ≡ union.left) × (kept ≡ union.right)) ⊎ ((moved ≡ union.right) × (kept ≡ union.left))) (has_moved : HasChain s moved) (has_kept : HasChain s kept) where
  -- what the left or the right leader's chain has, the lesser leader's has
  left_has : (item : ℕ) → Contains (chain_at s union.left) item → Contains (chain_at (chained s moved kept) (min moved kept)) item
  left_has item on = least_has s moved kept has_moved has_kept item (go sides)
    where
      go : ((moved ≡ union.left) × (kept ≡ union.right)) ⊎ ((moved ≡ union.right) × (kept ≡ union.left)) → Contains (chain_at s kept) item ⊎ Contains (chain_at s moved) item
      go (inl both) = inr (subst (λ (k : ℕ). Contains (chain_at s k) item) (sym both.0) on)
      go (inr both) = inl (subst (λ (k : ℕ). Contains (chain_at s k) item) (sym both.1) on)

  right_has : (item : ℕ) → Contains (chain_at s union.right) item → Contains (chain_at (chained s moved kept) (min moved kept)) item
  right_has item on = least_has s moved kept has_moved has_kept item (go sides)
    where
      go : ((moved ≡ union.left) × (kept ≡ union.right)) ⊎ ((moved ≡ union.right) × (kept ≡ union.left)) → Contains (chain_at s kept) item ⊎ Contains (chain_at s moved) item
      go (inl both) = inl (subst (λ (k : ℕ). Contains (chain_at s k) item) (sym both.1) on)
      go (inr both) = inr (subst (λ (k : ℕ). Contains (chain_at s k) item) (sym both.0) on)

  least_is : min moved kept ≡ min union.left union.right
  least_is = go sides
    where
      go : ((moved ≡ union.left) × (kept ≡ union.right)) ⊎ ((moved ≡ union.right) × (kept ≡ union.left)) → min moved kept ≡ min union.left union.right
      go (inl both) = omega (arith, both.0, both.1)
      go (inr both) = omega (arith, both.0, both.1)

  left_self : WasSame standing terms union.left union.left
  left_self = inr (refl, stand.0)

  right_self : WasSame standing terms union.right union.right
  right_self = inr (refl, stand.1)

  -- the two leaders are in one class after the union
  link : Generated (WasSame standing terms) (unions ++ union ∷ []) union.left union.right
  link = listed (length unions, omega (arith, length-append unions (union ∷ [])), get_last unions union)
    where
      get_last : (us : List Union) (u : Union) → slice_index_or (us ++ u ∷ []) (length us) (union_of u.left u.right) ≡ union_of u.left u.right
      get_last [] u = refl
      get_last (v ∷ us) u = get_last us u

  -- a least term whose class was joined is the lesser leader
  left_is : (leader : ℕ) → IsLeast (Generated (WasSame standing terms) (unions ++ union ∷ [])) leader → Generated (WasSame standing terms) unions union.left leader → leader ≡ min moved kept
  left_is leader least g =
      let up = more_unions (WasSame standing terms) unions union g in
      let a = least union.left (turned up) in
      let b = least union.right (joined (turned up) link) in
      let c = leads.left leader g in
      omega (arith, a, b, c, least_is)

  right_is : (leader : ℕ) → IsLeast (Generated (WasSame standing terms) (unions ++ union ∷ [])) leader → Generated (WasSame standing terms) unions union.right leader → leader ≡ min moved kept
  right_is leader least g =
      let up = more_unions (WasSame standing terms) unions union g in
      let a = least union.right (turned up) in
      let b = least union.left (joined (turned up) (turned link)) in
      let c = leads.right leader g in
      omega (arith, a, b, c, least_is)

  pub join_covers : Covers (Generated (WasSame standing terms) (unions ++ union ∷ [])) ends (chained s moved kept)
  join_covers = record {
    each = λ leader term item least g on. elim (step (WasSame standing terms) unions union left_self right_self g) [
      | inl before ↦ kept_one leader item (covers.each leader term item (λ other h. least other (more_unions (WasSame standing terms) unions union h)) before on)
      | inr (inl both) ↦ subst (λ (k : ℕ). Contains (chain_at (chained s moved kept) k) item) (sym (left_is leader least both.0)) (right_has item (covers.each union.right term item leads.right both.1 on))
      | inr (inr both) ↦ subst (λ (k : ℕ). Contains (chain_at (chained s moved kept) k) item) (sym (right_is leader least both.0)) (left_has item (covers.each union.left term item leads.left both.1 on))
    ];
  }
    where
      kept_one : (leader item : ℕ) → Contains (chain_at s leader) item → Contains (chain_at (chained s moved kept) leader) item
      kept_one leader item on = elim (same_or_not leader (min moved kept)) [
        | inl same ↦ subst (λ (k : ℕ). Contains (chain_at (chained s moved kept) k) item) (sym same) (least_has s moved kept has_moved has_kept item (which moved kept (subst (λ (k : ℕ). Contains (chain_at s k) item) same on)))
        | inr other ↦ other_has s moved kept has_moved has_kept leader item other on
      ]
        where
          which : (a b : ℕ) → Contains (chain_at s (min a b)) item → Contains (chain_at s b) item ⊎ Contains (chain_at s a) item
          which a b on = elim (min_cases a b) [
            | inl e ↦ inr (subst (λ (k : ℕ). Contains (chain_at s k) item) e on)
            | inr e ↦ inl (subst (λ (k : ℕ). Contains (chain_at s k) item) e on)
          ]
            where
              min_cases : (a b : ℕ) → (min a b ≡ a) ⊎ (min a b ≡ b)
              min_cases a b = search arith

-- what is in the joined chains was in one of the two
pub below_join : (s : Chained) (moved kept count : ℕ) → slot_at s kept < length s.lists → ItemsBelow count s → ItemsBelow count (chained s moved kept)
below_join s moved kept count within below slot item on = elim (same_or_not slot (slot_at s kept)) [
  | inl same ↦
      let here = ap (λ k. slice_index_or (slice_set s.lists (slot_at s kept) (chain_at s kept ++ chain_at s moved)) k []) same ∙ get-set_same s.lists (slot_at s kept) (chain_at s kept ++ chain_at s moved) [] within in
      either (Contains-append_cases (chain_at s kept) (chain_at s moved) item (subst (λ (xs : List ℕ). Contains xs item) here on))
  | inr other ↦ below slot item (subst (λ (xs : List ℕ). Contains xs item) (get-set_other s.lists (slot_at s kept) slot (chain_at s kept ++ chain_at s moved) [] other) on)
]
  where
    either : Contains (chain_at s kept) item ⊎ Contains (chain_at s moved) item → item < count
    either (inl a) = below (slot_at s kept) item a
    either (inr b) = below (slot_at s moved) item b
