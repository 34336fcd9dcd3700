-- What is found at differences on a list.
use Rattle.std.proofs.Common.{◌≡◌, ◌<◌, ◌≤◌, ◌+◌, ◌⊎◌, inl, inr, ℕ, List, [], ◌∷◌, ◌++◌, length, take, slice_index, slice_index_or, Contains, All, IsTrue, false, ◌↔◌, sym, ◌∙◌, ap, subst, arith}
use Rattle.std.proofs.lemmas.Option.{get_or_from_slice_get, slice_get-get_or, slice_get_within}
use Rattle.std.proofs.lemmas.List.{take_more, take_all}
use Rattle.std.proofs.lemmas.List.Elements.{All-get_or, Contains-get_or, Contains-append_left, Contains-append_right, Contains-push, Contains-push_cases, All-same, All-push}
use Rattle.graph_meaning.specs.declared.done.Done.{Done}
use Rattle.graph_meaning.specs.Same.{Same, IsLeader}
use Rattle.graph_meaning.specs.Same as congruence
use Rattle.search_watch.specs.Literals.{Clashes}
use Rattle.search_watch.specs.Chains.{Chained, HasChain, chain_at}
use Rattle.search_watch.specs.Covers.{Covers}
use Rattle.search_watch.specs.Found.{IsFoundClash}
use Rattle.search_watch.specs.Follow.{HasBetween}

-- the two ends of the difference at a place of the list
abbrev pub left_at : List (ℕ × ℕ) → List ℕ → ℕ → ℕ
left_at differs found i = (slice_index_or differs (slice_index found i) (0, 0)).0

abbrev pub right_at : List (ℕ × ℕ) → List ℕ → ℕ → ℕ
right_at differs found i = (slice_index_or differs (slice_index found i) (0, 0)).1

-- ---- clashes

pub place_within : (differs : List (ℕ × ℕ)) (found : List ℕ) (i : ℕ) → i < length found → All (λ d. d < length differs) found → slice_index found i < length differs
place_within differs found i lt below = All-get_or (λ d. d < length differs) found i 0 lt below

pub clash_at : (standing : List Done) (differs : List (ℕ × ℕ)) (found : List ℕ) (i : ℕ) → i < length found → All (λ d. d < length differs) found → Same standing (left_at differs found i) (right_at differs found i)
    → IsFoundClash standing differs found
clash_at standing differs found i lt below same = record {
  d = slice_index found i;
  a = left_at differs found i;
  b = right_at differs found i;
  at = slice_get-get_or differs (slice_index found i) (0, 0) (place_within differs found i lt below);
  on = Contains-get_or found i 0 lt;
  same = same;
}

-- a difference that was found is at a place of the list
found_place : (found : List ℕ) (d : ℕ) → Contains found d → (i : ℕ) × (i < length found) × (slice_index found i ≡ d)
found_place found d (i, lt, e) = (i, lt, read_at found i d lt ∙ e)
  where
    read_at : (xs : List ℕ) (i x : ℕ) → i < length xs → slice_index xs i ≡ slice_index_or xs i x
    read_at xs i x lt = sym (get_or_from_slice_get xs i (slice_index_or xs i 0) x (slice_get-get_or xs i 0 lt))

pub no_clash : (standing : List Done) (differs : List (ℕ × ℕ)) (found : List ℕ) → ((i : ℕ) → i < length found → Same standing (left_at differs found i) (right_at differs found i) → ⊥) → IsFoundClash standing differs found → ⊥
no_clash standing differs found none clash =
    let place = found_place found clash.d clash.on in
    let is = ap (λ (d : ℕ). slice_index_or differs d (0, 0)) place.2 ∙ get_or_from_slice_get differs clash.d (clash.a, clash.b) (0, 0) clash.at in
    none place.0 place.1 (subst (λ (pair : ℕ × ℕ). Same standing pair.0 pair.1) (sym is) clash.same)

-- a difference on the list that has equal ends is a clash
pub found_is_clash : (standing : List Done) (differs : List (ℕ × ℕ)) (found : List ℕ) → IsFoundClash standing differs found → Clashes (Same standing) differs
found_is_clash standing differs found clash =
    (clash.a, clash.b, (clash.d, slice_get_within differs clash.d (clash.a, clash.b) clash.at, get_or_from_slice_get differs clash.d (clash.a, clash.b) (clash.a, clash.b) clash.at), clash.same)

-- ---- literals between the ends of a difference

-- the leader of an end, or of the other one
abbrev pub LeadsOne : List Done → ℕ → ℕ → ℕ → Type 0
LeadsOne standing left right near = IsLeader standing left near ⊎ IsLeader standing right near

module _ (standing : List Done) (ends : List (ℕ × ℕ)) (chains : Chained) (covers : Covers (Same standing) ends chains) where
  leader_has : (leader end term item : ℕ) → IsLeader standing end leader → Same standing end term → Contains ends (item, term) → Contains (chain_at chains leader) item
  leader_has leader end term item is same on =
      covers.each leader term item (λ other g. is.least other (congruence.Derives.joined (congruence.Derives.turned g) is.same)) (congruence.Derives.joined is.same same) on

  near_has : (near a b item s t : ℕ) → LeadsOne standing a b near → (Same standing a s × Same standing b t) ⊎ (Same standing a t × Same standing b s) → Contains ends (item, s) → Contains ends (item, t)
      → Contains (chain_at chains near) item
  near_has near a b item s t (inl leads) (inl both) of_s of_t = leader_has near a s item leads both.0 of_s
  near_has near a b item s t (inl leads) (inr both) of_s of_t = leader_has near a t item leads both.0 of_t
  near_has near a b item s t (inr leads) (inl both) of_s of_t = leader_has near b t item leads both.1 of_t
  near_has near a b item s t (inr leads) (inr both) of_s of_t = leader_has near b s item leads both.1 of_s

  -- one difference of the list more
  pub between_more : (differs : List (ℕ × ℕ)) (found literals literals' : List ℕ) (i near : ℕ) → i < length found → HasBetween standing differs (take i found) ends literals
      → LeadsOne standing (left_at differs found i) (right_at differs found i) near → literals' ≡ literals ++ chain_at chains near → HasBetween standing differs (take (i + 1) found) ends literals'
  between_more differs found literals literals' i near lt before leads is item s t between of_s of_t =
      let on = subst (λ (ds : List ℕ). Contains ds between.d) (take_more found i 0 lt) between.on in
      subst (λ (xs : List ℕ). Contains xs item) (sym is) (go (Contains-push_cases (take i found) (slice_index found i) between.d on))
    where
      go : Contains (take i found) between.d ⊎ (slice_index found i ≡ between.d) → Contains (literals ++ chain_at chains near) item
      go (inl old) = Contains-append_left literals (chain_at chains near) item
          (before item s t (record { d = between.d; a = between.a; b = between.b; at = between.at; on = old; between = between.between }) of_s of_t)
      go (inr new) =
          let pair = ap (λ (d : ℕ). slice_index_or differs d (0, 0)) new ∙ get_or_from_slice_get differs between.d (between.a, between.b) (0, 0) between.at in
          let leads' = subst (λ (p : ℕ × ℕ). LeadsOne standing p.0 p.1 near) pair leads in
          Contains-append_right literals (chain_at chains near) item (near_has near between.a between.b item s t leads' between.between of_s of_t)

-- nothing was found at no differences
pub between_none : (standing : List Done) (differs ends : List (ℕ × ℕ)) (found literals : List ℕ) → HasBetween standing differs (take 0 found) ends literals
between_none standing differs ends found literals item s t between of_s of_t = absurd (no_item found between.d between.on)
  where
    no_item : (ds : List ℕ) (d : ℕ) → Contains (take 0 ds) d → ⊥
    no_item [] d on = omega (arith, on.1)
    no_item (x ∷ xs) d on = omega (arith, on.1)

pub between_all : (standing : List Done) (differs ends : List (ℕ × ℕ)) (found literals : List ℕ) (i : ℕ) → length found ≡ i → HasBetween standing differs (take i found) ends literals → HasBetween standing differs found ends literals
between_all standing differs ends found literals i all before = subst (λ (ds : List ℕ). HasBetween standing differs ds ends literals) (take_all i found (omega (arith, all))) before

-- ---- later differences

pub later_more : (earlier d : ℕ) (old new : List ℕ) → new ≡ old ++ d ∷ [] → ((k : ℕ) → earlier ≤ k → k < d → Contains old k) → (k : ℕ) → earlier ≤ k → k < d + 1 → Contains new k
later_more earlier d old new is before k le lt = subst (λ (xs : List ℕ). Contains xs k) (sym is) (go (split_last k d lt))
  where
    split_last : (k d : ℕ) → k < d + 1 → (k < d) ⊎ (d ≡ k)
    split_last k d lt = search arith

    go : (k < d) ⊎ (d ≡ k) → Contains (old ++ d ∷ []) k
    go (inl less) = Contains-append_left old (d ∷ []) k (before k le less)
    go (inr same) = subst (λ (x : ℕ). Contains (old ++ d ∷ []) x) same (Contains-push old d)

pub pushed_below : (count d : ℕ) (old new : List ℕ) → new ≡ old ++ d ∷ [] → d < count → All (λ k. k < count) old → All (λ k. k < count) new
pushed_below count d old new is lt all = All-same (λ k. k < count) new (old ++ d ∷ []) is (All-push (λ k. k < count) old d all lt)

-- ---- answers

-- what is not so is told by false
pub not_so : (fact : Type 0) → (fact → ⊥) → IsTrue false ↔ fact
not_so fact not = (λ e. absurd (cc), λ holds. absurd (not holds))

-- of two leaders the one whose chain is walked has one
pub near_stands : (chains : Chained) (left right near far : ℕ) → ((near ≡ left) × (far ≡ right)) ⊎ ((near ≡ right) × (far ≡ left)) → HasChain chains left → HasChain chains right → HasChain chains near
near_stands chains left right near far (inl both) has_left has_right = subst (λ (leader : ℕ). HasChain chains leader) (sym both.0) has_left
near_stands chains left right near far (inr both) has_left has_right = subst (λ (leader : ℕ). HasChain chains leader) (sym both.0) has_right
