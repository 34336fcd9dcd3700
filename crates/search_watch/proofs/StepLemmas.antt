-- What one union adds to the classes, and what several do.
use Rattle.std.proofs.Common.{zero, suc, ◌≡◌, ◌<◌, ◌≤◌, ◌+◌, ◌⊎◌, inl, inr, ℕ, Bool, true, false, List, [], ◌∷◌, ◌++◌, length, take, drop, Some, slice_get, slice_index_or, Contains, refl, ◌∙◌, ap, subst, arith}
use Rattle.std.proofs.lemmas.List.{take_more, take-append-drop}
use Rattle.std.proofs.lemmas.List.Elements.{Contains-append_left, Contains-push_cases, Contains-get_or}
use Rattle.graph_meaning.specs.declared.union.Union.{Union}
use Rattle.graph_meaning.specs.Unions.{Generated, union_of, was, listed, turned, joined}
use Rattle.search_watch.specs.Looked.{IsDiffer, HasEnd, IsFar, moved_of, kept_of, IsMet}
use Rattle.search_watch.specs.Literals.{AreKeptApart}

module _ (old : ℕ → ℕ → Type 0) where
  -- what a longer list of unions generates
  pub more_unions : (unions : List Union) (u : Union) {s t : ℕ} → Generated old unions s t → Generated old (unions ++ u ∷ []) s t
  more_unions unions u (was h) = was h
  more_unions unions u (listed {s = s} {t = t} c) = listed (Contains-append_left unions (u ∷ []) (union_of s t) c)
  more_unions unions u (turned g) = turned (more_unions unions u g)
  more_unions unions u (joined g h) = joined (more_unions unions u g) (more_unions unions u h)

  -- the two terms are of the two classes that a union joins
  abbrev pub Across : List Union → Union → ℕ → ℕ → Type 0
  Across unions u s t = (Generated old unions u.left s × Generated old unions u.right t) ⊎ (Generated old unions u.right s × Generated old unions u.left t)

  across_turned : (unions : List Union) (u : Union) (s t : ℕ) → Across unions u s t → Across unions u t s
  across_turned unions u s t (inl both) = inr (both.1, both.0)
  across_turned unions u s t (inr both) = inl (both.1, both.0)

  -- terms that one more union makes equal were equal, or are of the two classes that it joins
  module _ (unions : List Union) (u : Union) (left : old u.left u.left) (right : old u.right u.right) where
    pub step : {s t : ℕ} → Generated old (unions ++ u ∷ []) s t → Generated old unions s t ⊎ Across unions u s t
    step (was h) = inl (was h)
    step (listed {s = s} {t = t} c) = elim (Contains-push_cases unions u (union_of s t) c) [
      | inl before ↦ inl (listed before)
      | inr is ↦ inr (inl (subst (λ (x : ℕ). Generated old unions u.left x) (ap (λ (v : Union). v.left) is) (was left), subst (λ (x : ℕ). Generated old unions u.right x) (ap (λ (v : Union). v.right) is) (was right)))
    ]
    step {s = s} {t = t} (turned g) = elim (step g) [
      | inl before ↦ inl (turned before)
      | inr across ↦ inr (across_turned unions u t s across)
    ]
    step {s = s} {t = t} (joined {t = m} g h) = go (step g) (step h)
      where
        go : Generated old unions s m ⊎ Across unions u s m → Generated old unions m t ⊎ Across unions u m t → Generated old unions s t ⊎ Across unions u s t
        go (inl a) (inl b) = inl (joined a b)
        go (inl a) (inr (inl b)) = inr (inl (joined b.0 (turned a), b.1))
        go (inl a) (inr (inr b)) = inr (inr (joined b.0 (turned a), b.1))
        go (inr (inl a)) (inl b) = inr (inl (a.0, joined a.1 b))
        go (inr (inr a)) (inl b) = inr (inr (a.0, joined a.1 b))
        go (inr (inl a)) (inr (inl b)) = inr (inl (a.0, b.1))
        go (inr (inl a)) (inr (inr b)) = inl (joined (turned a.0) b.1)
        go (inr (inr a)) (inr (inl b)) = inl (joined (turned a.0) b.1)
        go (inr (inr a)) (inr (inr b)) = inr (inr (a.0, b.1))

  -- the walked class has one of the two terms, and the other class the other
  abbrev pub Split : (ℕ → ℕ → Type 0) → ℕ → ℕ → ℕ → ℕ → Type 0
  Split same moved kept s t = (same moved s × same kept t) ⊎ (same kept s × same moved t)

  pub split_of : (unions : List Union) (u : Union) (side : Bool) (s t : ℕ) → Across unions u s t → Split (Generated old unions) (moved_of side u) (kept_of side u) s t
  split_of unions u true s t (inl both) = inl both
  split_of unions u true s t (inr both) = inr both
  split_of unions u false s t (inl both) = inr both
  split_of unions u false s t (inr both) = inl both

  -- ---- several unions

  -- the ends of the unions are terms
  abbrev pub EndsStand : List Union → Type 0
  EndsStand unions = (union : Union) → Contains unions union → old union.left union.left × old union.right union.right

  no_union : Union
  no_union = union_of 0 0

  take_step : (unions : List Union) (k : ℕ) → k < length unions → take (suc k) unions ≡ take k unions ++ slice_index_or unions k (union_of 0 0) ∷ []
  take_step unions k h = let e : suc k ≡ k + 1 = omega arith in ap (λ n. take n unions) e ∙ take_more unions k (union_of 0 0) h

  get_at : (unions : List Union) (k : ℕ) (d : Union) → k < length unions → slice_get unions k ≡ Some (slice_index_or unions k d)
  get_at [] k d h = absurd (omega arith)
  get_at (u ∷ us) zero d h = refl
  get_at (u ∷ us) (suc k) d h = get_at us k d (omega arith)

  module _ (unions : List Union) (ends : EndsStand unions) (side : ℕ → Bool) where
    -- the union at a place, with what its moment knows
    at_step : {s t : ℕ} (k : ℕ) → k < length unions → Generated old (take (suc k) unions) s t
        → Generated old (take k unions) s t ⊎ Split (Generated old (take k unions)) (moved_of (side k) (slice_index_or unions k (union_of 0 0))) (kept_of (side k) (slice_index_or unions k (union_of 0 0))) s t
    at_step {s = s} {t = t} k h g =
        let u = slice_index_or unions k (union_of 0 0) in
        let both = ends u (Contains-get_or unions k (union_of 0 0) h) in
        elim (step (take k unions) u both.0 both.1 (subst (λ (us : List Union). Generated old us s t) (take_step unions k h) g)) [
          | inl before ↦ inl before
          | inr across ↦ inr (split_of (take k unions) u (side k) s t across)
        ]

    -- what holds at the union at a place is met
    met : (fact : (ℕ → ℕ → Type 0) → ℕ → ℕ → Type 0) (k : ℕ) → k < length unions → fact (Generated old (take k unions)) (moved_of (side k) (slice_index_or unions k (union_of 0 0))) (kept_of (side k) (slice_index_or unions k (union_of 0 0))) → IsMet old unions side fact
    met fact k h holds = record { k = k; union = slice_index_or unions k (union_of 0 0); at = get_at unions k (union_of 0 0) h; holds = holds }

    none_is : (s t : ℕ) → Generated old (take 0 unions) s t → Generated old [] s t
    none_is s t g = subst (λ (us : List Union). Generated old us s t) (take-none unions) g
      where
        take-none : (us : List Union) → take 0 us ≡ []
        take-none [] = refl
        take-none (u ∷ us) = refl

    -- terms that the first unions make equal were equal, or one of them was in a walked class
    pub same_by : (k : ℕ) → k ≤ length unions → (s t : ℕ) → Generated old (take k unions) s t → Generated old [] s t ⊎ IsMet old unions side (λ same moved kept. HasEnd same moved s t)
    same_by zero h s t g = inl (none_is s t g)
    same_by (suc k) h s t g = elim (at_step k (omega arith) g) [
      | inl before ↦ same_by k (omega arith) s t before
      | inr (inl first) ↦ inr (met (λ same moved kept. HasEnd same moved s t) k (omega arith) (inl first.0))
      | inr (inr second) ↦ inr (met (λ same moved kept. HasEnd same moved s t) k (omega arith) (inr second.1))
    ]

    -- a difference with equal ends had them, or was met
    pub clash_by : (differs : List (ℕ × ℕ)) (k : ℕ) → k ≤ length unions → (a b : ℕ) → Contains differs (a, b) → Generated old (take k unions) a b
        → Generated old [] a b ⊎ IsMet old unions side (λ same moved kept. (a : ℕ) × (b : ℕ) × IsDiffer differs a b × same moved a × same kept b)
    clash_by differs zero h a b on g = inl (none_is a b g)
    clash_by differs (suc k) h a b on g = elim (at_step k (omega arith) g) [
      | inl before ↦ clash_by differs k (omega arith) a b on before
      | inr (inl first) ↦ inr (met (λ same moved kept. (a : ℕ) × (b : ℕ) × IsDiffer differs a b × same moved a × same kept b) k (omega arith) (a, b, inl on, first.0, first.1))
      | inr (inr second) ↦ inr (met (λ same moved kept. (a : ℕ) × (b : ℕ) × IsDiffer differs a b × same moved a × same kept b) k (omega arith) (b, a, inr on, second.1, second.0))
    ]

    -- what several unions make is kept by all
    pub widen : (some all : List Union) → ((u : Union) → Contains some u → Contains all u) → {s t : ℕ} → Generated old some s t → Generated old all s t
    widen some all more (was h) = was h
    widen some all more (listed {s = s} {t = t} c) = listed (more (union_of s t) c)
    widen some all more (turned g) = turned (widen some all more g)
    widen some all more (joined g h) = joined (widen some all more g) (widen some all more h)

    pub widen_take : (k : ℕ) → {s t : ℕ} → Generated old (take k unions) s t → Generated old unions s t
    widen_take k g = widen (take k unions) unions (λ u c. contains_take unions k u c) g
      where
        contains_take : (us : List Union) (n : ℕ) (u : Union) → Contains (take n us) u → Contains us u
        contains_take us n u c = subst (λ (xs : List Union). Contains xs u) (take-append-drop n us) (Contains-append_left (take n us) (drop n us) u c)

  -- ---- terms that are kept apart after one more union

  module _ (before after : ℕ → ℕ → Type 0) (turn : (x y : ℕ) → before x y → before y x) (join : (x y z : ℕ) → before x y → before y z → before x z) (differs : List (ℕ × ℕ)) (moved kept : ℕ)
      (steps : (x y : ℕ) → after x y → before x y ⊎ Split before moved kept x y) where
    -- how two terms came to be kept apart by a difference
    abbrev Reason : ℕ → ℕ → ℕ → ℕ → Type 0
    Reason a b s t = (before a s × before b t) ⊎ ((HasEnd before moved s t ⊎ IsFar before moved kept differs s t) ⊎ before s t)

    differ_turned : (a b : ℕ) → IsDiffer differs a b → IsDiffer differs b a
    differ_turned a b (inl on) = inr on
    differ_turned a b (inr on) = inl on

    reason : (a b s t : ℕ) → IsDiffer differs a b → before a s ⊎ Split before moved kept a s → before b t ⊎ Split before moved kept b t → Reason a b s t
    reason a b s t on (inl p) (inl q) = inl (p, q)
    reason a b s t on (inl p) (inr (inl q)) = inr (inl (inr (b, a, differ_turned a b on, q.0, inr (q.1, p))))
    reason a b s t on (inl p) (inr (inr q)) = inr (inl (inl (inr q.1)))
    reason a b s t on (inr (inl p)) (inl q) = inr (inl (inr (a, b, on, p.0, inl (p.1, q))))
    reason a b s t on (inr (inr p)) q = inr (inl (inl (inl p.1)))
    reason a b s t on (inr (inl p)) (inr (inl q)) = inr (inr (join s kept t (turn kept s p.1) q.1))
    reason a b s t on (inr (inl p)) (inr (inr q)) = inr (inl (inl (inr q.1)))

    pub apart_step : (s t : ℕ) → AreKeptApart after differs s t → AreKeptApart before differs s t ⊎ ((HasEnd before moved s t ⊎ IsFar before moved kept differs s t) ⊎ before s t)
    apart_step s t (a, b, on, inl both) = elim (reason a b s t (inl on) (steps a s both.0) (steps b t both.1)) [
      | inl still ↦ inl (a, b, on, inl still)
      | inr other ↦ inr other
    ]
    apart_step s t (a, b, on, inr both) = elim (reason a b t s (inl on) (steps a t both.0) (steps b s both.1)) [
      | inl still ↦ inl (a, b, on, inr still)
      | inr (inl (inl (inl p))) ↦ inr (inl (inl (inr p)))
      | inr (inl (inl (inr p))) ↦ inr (inl (inl (inl p)))
      | inr (inl (inr (c, d, differ, near, inl far))) ↦ inr (inl (inr (c, d, differ, near, inr far)))
      | inr (inl (inr (c, d, differ, near, inr far))) ↦ inr (inl (inr (c, d, differ, near, inl far)))
      | inr (inr same) ↦ inr (inr (turn t s same))
    ]

  -- ---- terms that are kept apart after several unions

  module _ (unions : List Union) (ends : EndsStand unions) (side : ℕ → Bool) (differs : List (ℕ × ℕ)) where
    pub apart_by : (k : ℕ) → k ≤ length unions → (s t : ℕ) → AreKeptApart (Generated old (take k unions)) differs s t
        → AreKeptApart (Generated old (take 0 unions)) differs s t ⊎ (IsMet old unions side (λ same moved kept. HasEnd same moved s t ⊎ IsFar same moved kept differs s t) ⊎ Generated old unions s t)
    apart_by zero h s t apart = inl apart
    apart_by (suc k) h s t apart =
        let u = slice_index_or unions k (union_of 0 0) in
        elim (apart_step (Generated old (take k unions)) (Generated old (take (suc k) unions)) (λ x y g. turned g) (λ x y z g h. joined g h) differs (moved_of (side k) u) (kept_of (side k) u) (λ x y g. at_step unions ends side k (omega arith) g) s t apart) [
          | inl before ↦ apart_by k (omega arith) s t before
          | inr (inl looks) ↦ inr (inl (met unions ends side (λ same moved kept. HasEnd same moved s t ⊎ IsFar same moved kept differs s t) k (omega arith) looks))
          | inr (inr same) ↦ inr (inr (widen_take unions ends side k same))
        ]
