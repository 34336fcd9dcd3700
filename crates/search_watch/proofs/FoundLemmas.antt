-- What was found at the unions is enough.
use Rattle.std.proofs.Common.{zero, suc, ◌≡◌, ◌<◌, ◌≤◌, ◌⊎◌, inl, inr, ℕ, Bool, true, false, List, [], ◌∷◌, length, take, Some, slice_get, slice_index_or, Contains, refl, subst, arith}
use Rattle.graph_meaning.specs.declared.union.Union.{Union}
use Rattle.graph_meaning.specs.declared.done.Done.{Done}
use Rattle.graph_meaning.specs.Same.{Same}
use Rattle.graph_meaning.specs.Same as congruence
use Rattle.formula_truth.specs.declared.truth.Truth.{Truth}
use Rattle.graph_meaning.specs.Unions.{union_of, listed}
use Rattle.search_watch.specs.Literals.{IsEquationValue, IsAtomValue, Clashes}
use Rattle.search_watch.specs.Looked.{HasEnd, IsFar, IsDiffer, moved_of, kept_of}
use Rattle.search_watch.specs.Laws.{Joins}
use Rattle.graph_meaning.specs.Unions.{WasSame}
use Rattle.search_watch.specs.Watched.{World, classes, Finds, LooksAtUnions}
use Rattle.search_watch.specs.Found.{TellsDiffers, IsBetween, IsFoundClash}
use Rattle.search_watch.proofs.ItemLemmas.{got_item}
use Rattle.search_watch.proofs.StepLemmas.{widen_take}
use Rattle.search_watch.proofs.LawLemmas.{equation_changes, atom_changes, clash_met}

get_at : (unions : List Union) (k : ℕ) (d : Union) → k < length unions → slice_get unions k ≡ Some (slice_index_or unions k d)
get_at [] k d h = absurd (omega arith)
get_at (u ∷ us) zero d h = refl
get_at (u ∷ us) (suc k) d h = get_at us k d (omega arith)

got_within : (unions : List Union) (k : ℕ) (u : Union) → slice_get unions k ≡ Some u → k < length unions
got_within [] k u e = cc
got_within (v ∷ us) zero u e = omega arith
got_within (v ∷ us) (suc k) u e = omega (arith, got_within us k u e)

got_is : (unions : List Union) (k : ℕ) (u d : Union) → slice_get unions k ≡ Some u → slice_index_or unions k d ≡ u
got_is [] k u d e = cc
got_is (v ∷ us) zero u d e = cc
got_is (v ∷ us) (suc k) u d e = got_is us k u d e

split_at : (k n : ℕ) → (k < n) ⊎ (n ≤ k)
split_at k n = search arith

module _ (world : World) (new : List Done) (unions : List Union) (literals found : List ℕ) (joins : Joins world.standing new world.terms unions) (looks : LooksAtUnions world unions (length unions) literals found) where
  -- the side that was taken at each union, with what was found there
  choose : (k : ℕ) → (side : Bool) × (k < length unions → Finds (classes world (take k unions)) (moved_of side (slice_index_or unions k (union_of 0 0))) world.literal_ends literals
      × Finds (classes world (take k unions)) (moved_of side (slice_index_or unions k (union_of 0 0))) world.differ_ends found)
  choose k = elim (split_at k (length unions)) [
    | inl lt ↦ let l = looks k (slice_index_or unions k (union_of 0 0)) lt (get_at unions k (union_of 0 0) lt) in (l.side, λ _. (l.literals_found, l.differs_found))
    | inr past ↦ (true, λ lt. absurd (omega arith))
  ]

  side : ℕ → Bool
  side k = (choose k).0

  -- what has an end in a class that moved was found
  has_end_found : (k : ℕ) (u : Union) (item s t : ℕ) → slice_get unions k ≡ Some u → Contains world.literal_ends (item, s) → Contains world.literal_ends (item, t) → HasEnd (classes world (take k unions)) (moved_of ((choose k).0) u) s t → Contains literals item
  has_end_found k u item s t at of_s of_t has =
      let finds = ((choose k).1 (got_within unions k u at)).0 in
      let e = got_is unions k u (union_of 0 0) at in
      let finds' = subst (λ (v : Union). Finds (classes world (take k unions)) (moved_of ((choose k).0) v) world.literal_ends literals) e finds in
      elim has [ inl here ↦ finds' item s here of_s | inr there ↦ finds' item t there of_t ]

  differ_found : (k : ℕ) (u : Union) (d a : ℕ) → slice_get unions k ≡ Some u → Contains world.differ_ends (d, a) → classes world (take k unions) (moved_of ((choose k).0) u) a → Contains found d
  differ_found k u d a at of_a has =
      let finds = ((choose k).1 (got_within unions k u at)).1 in
      let e = got_is unions k u (union_of 0 0) at in
      subst (λ (v : Union). Finds (classes world (take k unions)) (moved_of ((choose k).0) v) world.differ_ends found) e finds d a has of_a

  -- what was equal at a union is equal after all
  after_all : (k : ℕ) (s t : ℕ) → classes world (take k unions) s t → Same new s t
  after_all k s t g = joins.held s t (widen_take (WasSame world.standing world.terms) unions ends (λ _. true) k g)
    where
      ends : (union : Union) → Contains unions union → WasSame world.standing world.terms union.left union.left × WasSame world.standing world.terms union.right union.right
      ends union (k, lt, e) = let both = joins.below k union (got_item unions k union lt e) in (inr (refl, both.0), inr (refl, both.1))

  -- the two leaders of a union are equal after all
  linked : (k : ℕ) (u : Union) (b : Bool) → slice_get unions k ≡ Some u → Same new (moved_of b u) (kept_of b u)
  linked k u b at = go b
    where
      link : Same new u.left u.right
      link = joins.held u.left u.right (listed (k, got_within unions k u at, got_is unions k u (union_of u.left u.right) at))

      go : (b : Bool) → Same new (moved_of b u) (kept_of b u)
      go true = link
      go false = congruence.Derives.turned link

  -- what is between the other class and a far end is between the ends of a difference that was found
  far_found : (differs : List (ℕ × ℕ)) → TellsDiffers world differs → (k : ℕ) (u : Union) (s t : ℕ) → slice_get unions k ≡ Some u → IsFar (classes world (take k unions)) (moved_of ((choose k).0) u) (kept_of ((choose k).0) u) differs s t → IsBetween new differs found s t
  far_found differs tells k u s t at (a, b, on, near, ends) =
      let link = linked k u ((choose k).0) at in
      let near' = after_all k (moved_of ((choose k).0) u) a near in
      let to = λ (x : ℕ) (g : classes world (take k unions) (kept_of ((choose k).0) u) x). congruence.Derives.joined (congruence.Derives.turned near') (congruence.Derives.joined link (after_all k (kept_of ((choose k).0) u) x g)) in
      go to on
    where
      go : ((x : ℕ) → classes world (take k unions) (kept_of ((choose k).0) u) x → Same new a x) → IsDiffer differs a b → IsBetween new differs found s t
      go to (inl (d, lt, e)) = record {
        d = d;
        a = a;
        b = b;
        at = got_item differs d (a, b) lt e;
        on = differ_found k u d a at ((tells d a b (got_item differs d (a, b) lt e)).0) near;
        between = elim ends [ inl both ↦ inl (to s both.0, after_all k b t both.1) | inr both ↦ inr (to t both.0, after_all k b s both.1) ];
      }
      go to (inr (d, lt, e)) = record {
        d = d;
        a = b;
        b = a;
        at = got_item differs d (b, a) lt e;
        on = differ_found k u d a at ((tells d b a (got_item differs d (b, a) lt e)).1) near;
        between = elim ends [ inl both ↦ inr (after_all k b t both.1, to s both.0) | inr both ↦ inl (after_all k b s both.1, to t both.0) ];
      }

  pub equation_found : (differs : List (ℕ × ℕ)) (item s t : ℕ) (v w : Truth) → TellsDiffers world differs → Contains world.literal_ends (item, s) → Contains world.literal_ends (item, t)
      → IsEquationValue (WasSame world.standing world.terms) differs s t v → IsEquationValue (Same new) differs s t w → (v ≡ w) ⊎ (Contains literals item ⊎ IsBetween new differs found s t)
  equation_found differs item s t v w tells of_s of_t p q = elim (equation_changes world.standing new world.terms unions joins (λ k. (choose k).0) differs s t v w p q) [
    | inl same ↦ inl same
    | inr met ↦ elim met.holds [
      | inl has ↦ inr (inl (has_end_found met.k met.union item s t met.at of_s of_t has))
      | inr far ↦ inr (inr (far_found differs tells met.k met.union s t met.at far))
    ]
  ]

  pub atom_found : (item t : ℕ) (v w : Truth) → Contains world.literal_ends (item, t) → Contains world.literal_ends (item, 0) → Contains world.literal_ends (item, 1)
      → IsAtomValue (WasSame world.standing world.terms) t v → IsAtomValue (Same new) t w → (v ≡ w) ⊎ Contains literals item
  atom_found item t v w of_t of_0 of_1 p q = elim (atom_changes world.standing new world.terms unions joins (λ k. (choose k).0) t v w p q) [
    | inl same ↦ inl same
    | inr (inl met) ↦ inr (has_end_found met.k met.union item t 0 met.at of_t of_0 met.holds)
    | inr (inr met) ↦ inr (has_end_found met.k met.union item t 1 met.at of_t of_1 met.holds)
  ]

  -- a difference whose ends became equal was found
  pub clash_found : (differs : List (ℕ × ℕ)) → TellsDiffers world differs → Clashes (Same new) differs → Clashes (WasSame world.standing world.terms) differs ⊎ IsFoundClash new differs found
  clash_found differs tells clash = elim (clash_met world.standing new world.terms unions joins (λ k. (choose k).0) differs clash) [
    | inl old ↦ inl old
    | inr met ↦ inr (of met.k met.union met.at met.holds)
  ]
    where
      same_ends : (k : ℕ) (u : Union) (a b : ℕ) → slice_get unions k ≡ Some u → classes world (take k unions) (moved_of ((choose k).0) u) a → classes world (take k unions) (kept_of ((choose k).0) u) b → Same new a b
      same_ends k u a b at near far = congruence.Derives.joined (congruence.Derives.turned (after_all k (moved_of ((choose k).0) u) a near)) (congruence.Derives.joined (linked k u ((choose k).0) at) (after_all k (kept_of ((choose k).0) u) b far))

      of : (k : ℕ) (u : Union) → slice_get unions k ≡ Some u → ((a : ℕ) × (b : ℕ) × IsDiffer differs a b × classes world (take k unions) (moved_of ((choose k).0) u) a × classes world (take k unions) (kept_of ((choose k).0) u) b) → IsFoundClash new differs found
      of k u at (a, b, inl (d, lt, e), near, far) = record { d = d; a = a; b = b; at = got_item differs d (a, b) lt e; on = differ_found k u d a at ((tells d a b (got_item differs d (a, b) lt e)).0) near; same = same_ends k u a b at near far }
      of k u at (a, b, inr (d, lt, e), near, far) = record { d = d; a = b; b = a; at = got_item differs d (b, a) lt e; on = differ_found k u d a at ((tells d b a (got_item differs d (b, a) lt e)).1) near; same = congruence.Derives.turned (same_ends k u a b at near far) }
