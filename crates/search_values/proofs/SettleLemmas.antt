-- Telling a place what its part is, and raising a node by what its places tell.
use Rattle.std.proofs.Common.{◌≡◌, ◌<◌, ◌≤◌, ◌+◌, ◌⊎◌, inl, inr, ℕ, Bool, true, false, not, List, [], ◌∷◌, ◌++◌, length, slice_set, slice_index_or, Contains, All, refl, sym, ◌∙◌, ap, subst, arith, length-append}
use Rattle.std.proofs.Math.ListN.{length-set}
use Rattle.std.proofs.lemmas.List.Elements.{All-push}
use Rattle.formula_truth.specs.declared.truth.Truth.{Truth}
use Rattle.formula_truth.specs.declared.truth.Truth.TheVariants.{Unset}
use Rattle.search_board.specs.declared.kind.Kind.{Kind}
use Rattle.search_board.specs.declared.kind.Kind.TheVariants.{Leaf, And, Or}
use Rattle.search_board.specs.declared.place.Place.{Place}
use Rattle.formula_truth.specs.Truths.{is_set_value}
use Rattle.search_board.specs.Values.{value_of}
use Rattle.search_board.specs.Board.{Shown, blank, kind_at, truth_at, asserted_at, places_at, place_at, with_truth, with_place, AreAligned}
use Rattle.search_values.specs.declared.up.Up.{Up}
use Rattle.search_values.specs.Wiring.{Wires, IsPlace, IsWired, up, part_at, ups_at, up_at}
use Rattle.search_values.specs.Settled.{told_by, Grows, AreWires, IsSettledBut, IsSettledExcept, Waits, WaitsIn, Raises, stays, raised, Tells, weight, value_at}
use Rattle.search_values.proofs.ListLemmas.{get-set_same, get-set_other, same_or_not, list_within, same_default, count-set_less, contains_last, contains_more, contains_push_cases}
use Rattle.search_values.proofs.GrowLemmas.{grows_same, grows_set, grows_unset, unset_is, value-grows}

-- ---- places after a place was changed

module _ (s : Shown) (q i : ℕ) (new : Place) (within : i < length (places_at s q)) where
  places-set_same : places_at (with_place s q i new) q ≡ slice_set (places_at s q) i new
  places-set_same = get-set_same s.places q (slice_set (places_at s q) i new) [] (list_within s.places q i within)

  places-set_other : (m : ℕ) → (m ≡ q → ⊥) → places_at (with_place s q i new) m ≡ places_at s m
  places-set_other m other = get-set_other s.places q m (slice_set (places_at s q) i new) [] other

  place-set_same : place_at (with_place s q i new) q i ≡ new
  place-set_same = ap (λ xs. slice_index_or xs i blank) places-set_same ∙ get-set_same (places_at s q) i new blank within

  place-set_other : (m j : ℕ) → (m ≡ q → j ≡ i → ⊥) → place_at (with_place s q i new) m j ≡ place_at s m j
  place-set_other m j other = elim (same_or_not m q) [
    | inl same ↦ ap (λ k. place_at (with_place s q i new) k j) same ∙ ap (λ xs. slice_index_or xs j blank) places-set_same ∙ get-set_other (places_at s q) i j new blank (other same) ∙ ap (λ k. place_at s k j) (sym same)
    | inr not ↦ ap (λ xs. slice_index_or xs j blank) (places-set_other m not)
  ]

  place-set_at : (m j : ℕ) → m ≡ q → j ≡ i → place_at (with_place s q i new) m j ≡ new
  place-set_at m j a b = ap (λ k. place_at (with_place s q i new) k j) a ∙ ap (λ k. place_at (with_place s q i new) q k) b ∙ place-set_same

  lengths-set : (m : ℕ) → length (places_at (with_place s q i new) m) ≡ length (places_at s m)
  lengths-set m = elim (same_or_not m q) [
    | inl same ↦ ap (λ k. length (places_at (with_place s q i new) k)) same ∙ ap length places-set_same ∙ length-set (places_at s q) i new ∙ ap (λ k. length (places_at s k)) (sym same)
    | inr not ↦ ap length (places-set_other m not)
  ]

  aligned-set : AreAligned s → AreAligned (with_place s q i new)
  aligned-set aligned = record {
    truths = aligned.truths;
    asserted = aligned.asserted;
    places = length-set s.places q (slice_set (places_at s q) i new) ∙ aligned.places;
    few = aligned.few;
    few_places = λ m. omega (arith, lengths-set m, aligned.few_places m);
  }

  -- what the place tells grows, and so does the value
  value-set : Grows (place_at s q i).told new.told → Grows (value_at s q) (value_at (with_place s q i new) q)
  value-set grows =
      let P : List Place → Type 0 = λ xs. Grows (value_at s q) (value_of (kind_at s q) (told_by xs) (truth_at s q)) in
      subst P (sym places-set_same) (value-grows (kind_at s q) (places_at s q) i new (truth_at s q) grows)

-- the place that says what its part is
abbrev pub telling : Shown → ℕ → Bool → Place
telling s n struck = record { told = truth_at s n; taken = asserted_at s n; struck = struck }

same_up : (a b c d : ℕ) → up a b ≡ up c d → (a ≡ c) × (b ≡ d)
same_up a b c d e = (ap (λ (u : Up). u.node) e, ap (λ (u : Up). u.place) e)

module _ (wires : Wires) (s : Shown) (are : AreWires wires s) where
  -- one place is told what its part is
  pub tell_step : (work : List ℕ) (n k q i : ℕ) (struck : Bool) → IsPlace wires q i → part_at wires q i ≡ n → up_at wires n k ≡ up q i
      → IsSettledBut (Waits wires work n k) wires s → IsSettledExcept (Waits wires work n (k + 1)) q wires (with_place s q i (telling s n struck))
  tell_step work n k q i struck place part is settled =
      let new = telling s n struck in
      let within : i < length (places_at s q) = omega (arith, are.places q, place.place) in
      let after = with_place s q i new in
      let now_told : Grows (place_at s q i).told (truth_at s n) = subst (λ (m : ℕ). Grows (place_at s q i).told (truth_at s m)) part (settled.past q i place) in
      record {
        past = λ m j at. elim (same_place m j q i) [
          | inl (a, b) ↦ inr (ap (λ (x : Place). x.told) (place-set_at s q i new within m j a b) ∙ sym (ap (truth_at s) (ap (λ k. part_at wires k j) a ∙ ap (λ k. part_at wires q k) b ∙ part)))
          | inr other ↦ let P : Place → Type 0 = λ x. Grows x.told (truth_at s (part_at wires m j)) in subst P (sym (place-set_other s q i new within m j other)) (settled.past m j at)
        ];
        told = λ m j at. elim (same_place m j q i) [
          | inl (a, b) ↦ inr (record {
            told = ap (λ (x : Place). x.told) (place-set_at s q i new within m j a b) ∙ sym (ap (truth_at s) (ap (λ k. part_at wires k j) a ∙ ap (λ k. part_at wires q k) b ∙ part));
            taken = ap (λ (x : Place). x.taken) (place-set_at s q i new within m j a b) ∙ sym (ap (asserted_at s) (ap (λ k. part_at wires k j) a ∙ ap (λ k. part_at wires q k) b ∙ part));
          })
          | inr other ↦ elim (settled.told m j at) [
            | inl waits ↦ inl (still m j other waits)
            | inr up_to_date ↦ inr (record {
              told = ap (λ (x : Place). x.told) (place-set_other s q i new within m j other) ∙ up_to_date.told;
              taken = ap (λ (x : Place). x.taken) (place-set_other s q i new within m j other) ∙ up_to_date.taken;
            })
          ]
        ];
        others = λ m stands other. settled.values m stands ∙ ap (λ (xs : List Place). value_of (kind_at s m) (told_by xs) (truth_at s m)) (sym (places-set_other s q i new within m other));
        here = let T : Truth → Type 0 = λ t. Grows t (value_at after q) in subst T (sym (settled.values q place.node)) (value-set s q i new within now_told);
      }
    where
      same_place : (m j q i : ℕ) → ((m ≡ q) × (j ≡ i)) ⊎ (m ≡ q → j ≡ i → ⊥)
      same_place m j q i = elim (same_or_not m q) [
        | inl a ↦ elim (same_or_not j i) [ inl b ↦ inl (a, b) | inr no_b ↦ inr (λ _ b. no_b b) ]
        | inr no_a ↦ inr (λ a _. no_a a)
      ]

      still : (m j : ℕ) → (m ≡ q → j ≡ i → ⊥) → Waits wires work n k m j → Waits wires work n (k + 1) m j
      still m j other (inl on) = inl on
      still m j other (inr (l, from, to, at)) = elim (same_or_not l k) [
        | inl same ↦ let e = same_up m j q i (sym at ∙ ap (up_at wires n) same ∙ is) in absurd (other e.0 e.1)
        | inr not ↦ inr (l, omega arith, to, at)
      ]

-- ---- a node is raised

value_again : (kind : Kind) (ts : List Truth) (t : Truth) → value_of kind ts (value_of kind ts t) ≡ value_of kind ts t
value_again Leaf ts t = refl
value_again And ts t = refl
value_again Or ts t = refl

leaf_value : (kind : Kind) (ts : List Truth) (t : Truth) → kind ≡ Leaf → value_of kind ts t ≡ t
leaf_value Leaf ts t e = refl
leaf_value And ts t e = cc
leaf_value Or ts t e = cc

waits_stay : (wires : Wires) (work : List ℕ) (x n k m j : ℕ) → Waits wires work n k m j → Waits wires (work ++ x ∷ []) n k m j
waits_stay wires work x n k m j (inl on) = inl (contains_more work x (part_at wires m j) on)
waits_stay wires work x n k m j (inr at) = inr at

module _ (wires : Wires) (s : Shown) (are : AreWires wires s) (work : List ℕ) (n k q : ℕ) (stands : q < length wires.parts) (settled : IsSettledExcept (Waits wires work n k) q wires s) where
  -- the node has the value that its places tell
  stays_step : (is_set_value (truth_at s q) ≡ true) ⊎ (is_set_value (value_at s q) ≡ false) → IsSettledBut (Waits wires work n k) wires s
  stays_step reason = record {
    past = settled.past;
    told = settled.told;
    values = λ m at. elim (same_or_not m q) [
      | inl same ↦ ap (truth_at s) same ∙ here reason ∙ sym (ap (value_at s) same)
      | inr other ↦ settled.others m at other
    ];
  }
    where
      here : (is_set_value (truth_at s q) ≡ true) ⊎ (is_set_value (value_at s q) ≡ false) → truth_at s q ≡ value_at s q
      here (inl set) = grows_set (truth_at s q) (value_at s q) set settled.here
      here (inr unset) = grows_unset (truth_at s q) (value_at s q) unset settled.here

  -- the node gets the value that its places tell
  raised_step : is_set_value (truth_at s q) ≡ false → IsSettledBut (Waits wires (work ++ q ∷ []) n k) wires (with_truth s q (value_at s q))
  raised_step unset =
      let within : q < length s.truths = omega (arith, are.aligned.truths, are.nodes) in
      let value = value_at s q in
      let same_truth : truth_at (with_truth s q value) q ≡ value = get-set_same s.truths q value Unset within in
      record {
        past = λ m j at. elim (same_or_not (part_at wires m j) q) [
          | inl same ↦ inl (unset_told (place_at s m j).told (truth_at s q) (unset_is _ unset) (subst (λ (p : ℕ). Grows (place_at s m j).told (truth_at s p)) same (settled.past m j at)))
          | inr other ↦ let P : Truth → Type 0 = λ t. Grows (place_at s m j).told t in subst P (sym (get-set_other s.truths q (part_at wires m j) value Unset other)) (settled.past m j at)
        ];
        told = λ m j at. elim (same_or_not (part_at wires m j) q) [
          | inl same ↦ inl (inl (subst (λ (p : ℕ). Contains (work ++ q ∷ []) p) (sym same) (contains_last work q)))
          | inr other ↦ elim (settled.told m j at) [
            | inl waits ↦ inl (waits_stay wires work q n k m j waits)
            | inr up_to_date ↦ inr (record {
              told = up_to_date.told ∙ sym (get-set_other s.truths q (part_at wires m j) value Unset other);
              taken = up_to_date.taken;
            })
          ]
        ];
        values = λ m at. elim (same_or_not m q) [
          | inl same ↦ let P : ℕ → Type 0 = λ x. truth_at (with_truth s q value) x ≡ value_at (with_truth s q value) x in
              subst P (sym same) (same_truth ∙ sym (ap (value_of (kind_at s q) (told_by (places_at s q))) same_truth ∙ value_again (kind_at s q) (told_by (places_at s q)) (truth_at s q)))
          | inr other ↦ let e = get-set_other s.truths q m value Unset other in e ∙ settled.others m at other ∙ ap (value_of (kind_at s m) (told_by (places_at s m))) (sym e)
        ];
      }
    where
      unset_told : (a b : Truth) → b ≡ Unset → Grows a b → a ≡ Unset
      unset_told a b e (inl u) = u
      unset_told a b e (inr u) = u ∙ e

  pub raise_step : (after : Shown) (later : List ℕ) → Raises q s after work later → IsSettledBut (Waits wires later n k) wires after
  raise_step after later (stays same kept reason) =
      let P : Shown → Type 0 = λ x. IsSettledBut (Waits wires later n k) wires x in
      let Q : List ℕ → Type 0 = λ x. IsSettledBut (Waits wires x n k) wires s in
      subst P (sym same) (subst Q (sym kept) (stays_step reason))
  raise_step after later (raised unset set same more) =
      let P : Shown → Type 0 = λ x. IsSettledBut (Waits wires later n k) wires x in
      let Q : List ℕ → Type 0 = λ x. IsSettledBut (Waits wires x n k) wires (with_truth s q (value_at s q)) in
      subst P (sym same) (subst Q (sym more) (raised_step unset))

-- ---- what telling keeps

pub tells_none : (s : Shown) → Tells s s
tells_none s = record { kinds = refl; asserted = refl; places = λ n. refl; struck = λ n i. refl; leaves = λ n leaf. refl; grows = λ n. grows_same (truth_at s n) }

grows_trans : (a b c : Truth) → Grows a b → Grows b c → Grows a c
grows_trans a b c (inl e) h = inl e
grows_trans a b c (inr e) (inl f) = inl (e ∙ f)
grows_trans a b c (inr e) (inr f) = inr (e ∙ f)

pub tells_trans : (a b c : Shown) → Tells a b → Tells b c → Tells a c
tells_trans a b c first second = record {
  kinds = second.kinds ∙ first.kinds;
  asserted = second.asserted ∙ first.asserted;
  places = λ n. second.places n ∙ first.places n;
  struck = λ n i. second.struck n i ∙ first.struck n i;
  leaves = λ n leaf. second.leaves n (ap (λ (ks : List Kind). slice_index_or ks n Leaf) first.kinds ∙ leaf) ∙ first.leaves n leaf;
  grows = λ n. grows_trans _ _ _ (first.grows n) (second.grows n);
}

pub tells_place : (s : Shown) (n q i : ℕ) (struck : Bool) → i < length (places_at s q) → struck ≡ (place_at s q i).struck → Tells s (with_place s q i (telling s n struck))
tells_place s n q i struck within is = record {
  kinds = refl;
  asserted = refl;
  places = λ m. lengths-set s q i (telling s n struck) within m;
  struck = λ m j. elim (same_or_not m q) [
    | inl a ↦ elim (same_or_not j i) [
      | inl b ↦ ap (λ (x : Place). x.struck) (place-set_at s q i (telling s n struck) within m j a b) ∙ is ∙ sym (ap (λ k. (place_at s k j).struck) a ∙ ap (λ k. (place_at s q k).struck) b)
      | inr no_b ↦ ap (λ (x : Place). x.struck) (place-set_other s q i (telling s n struck) within m j (λ _ b. no_b b))
    ]
    | inr no_a ↦ ap (λ (x : Place). x.struck) (place-set_other s q i (telling s n struck) within m j (λ a _. no_a a))
  ];
  leaves = λ m leaf. refl;
  grows = λ m. grows_same (truth_at s m);
}

pub tells_raise : (s after : Shown) (n : ℕ) (work later : List ℕ) → n < length s.truths → Raises n s after work later → Tells s after
tells_raise s after n work later within (stays same kept reason) = let P : Shown → Type 0 = λ x. Tells s x in subst P (sym same) (tells_none s)
tells_raise s after n work later within (raised unset set same more) = let P : Shown → Type 0 = λ x. Tells s x in subst P (sym same) (record {
  kinds = refl;
  asserted = refl;
  places = λ m. refl;
  struck = λ m i. refl;
  leaves = λ m leaf. elim (same_or_not m n) [
    | inl e ↦ absurd (no_leaf (ap (kind_at s) (sym e) ∙ leaf))
    | inr other ↦ get-set_other s.truths n m (value_at s n) Unset other
  ];
  grows = λ m. elim (same_or_not m n) [
    | inl e ↦ inl (ap (truth_at s) e ∙ unset_is _ unset)
    | inr other ↦ inr (sym (get-set_other s.truths n m (value_at s n) Unset other))
  ];
})
  where
    no_leaf : kind_at s n ≡ Leaf → ⊥
    no_leaf leaf = let e = ap is_set_value (leaf_value (kind_at s n) (told_by (places_at s n)) (truth_at s n) leaf) in cc

-- ---- the weight

pub weight_raise : (s after : Shown) (n : ℕ) (work later : List ℕ) → n < length s.truths → Raises n s after work later → weight after later ≤ weight s work
weight_raise s after n work later within (stays same kept reason) = rw (same, kept) (omega arith)
weight_raise s after n work later within (raised unset set same more) =
    let less = count-set_less (λ (truth : Truth). not (is_set_value truth)) s.truths n (value_at s n) Unset within (ap not unset) (ap not set) in
    rw (same, more) (omega (arith, less, length-append work (n ∷ [])))

-- ---- lists of nodes

pub wires_place : (wires : Wires) (s : Shown) (q i : ℕ) (new : Place) → i < length (places_at s q) → AreWires wires s → AreWires wires (with_place s q i new)
wires_place wires s q i new within are = record { aligned = aligned-set s q i new within are.aligned; nodes = are.nodes; places = λ m. lengths-set s q i new within m ∙ are.places m }

pub wires_raise : (wires : Wires) (s after : Shown) (n : ℕ) (work later : List ℕ) → Raises n s after work later → AreWires wires s → AreWires wires after
wires_raise wires s after n work later (stays same kept reason) are = let P : Shown → Type 0 = λ x. AreWires wires x in subst P (sym same) are
wires_raise wires s after n work later (raised unset set same more) are = let P : Shown → Type 0 = λ x. AreWires wires x in subst P (sym same) (record {
  aligned = record { truths = length-set s.truths n (value_at s n) ∙ are.aligned.truths; asserted = are.aligned.asserted; places = are.aligned.places; few = are.aligned.few; few_places = are.aligned.few_places };
  nodes = are.nodes;
  places = are.places;
})

pub work_raise : (s after : Shown) (n count : ℕ) (work later : List ℕ) → n < count → Raises n s after work later → All (λ m. m < count) work → All (λ m. m < count) later
work_raise s after n count work later lt (stays same kept reason) all = rw kept all
work_raise s after n count work later lt (raised unset set same more) all = rw more (All-push (λ m. m < count) work n all lt)

-- ---- the work list loses its last node

pub settled_pop : (wires : Wires) (s : Shown) (work : List ℕ) (n : ℕ) → IsWired wires → IsSettledBut (WaitsIn wires (work ++ n ∷ [])) wires s → IsSettledBut (Waits wires work n 0) wires s
settled_pop wires s work n wired settled = record {
  past = settled.past;
  told = λ m j at. elim (settled.told m j at) [
    | inl on ↦ inl (waits m j at (contains_push_cases work n (part_at wires m j) on))
    | inr up_to_date ↦ inr up_to_date
  ];
  values = settled.values;
}
  where
    waits : (m j : ℕ) → IsPlace wires m j → Contains work (part_at wires m j) ⊎ (n ≡ part_at wires m j) → Waits wires work n 0 m j
    waits m j at (inl on) = inl on
    waits m j at (inr is) = let P : ℕ → Type 0 = λ p. Contains (ups_at wires p) (up m j) in
        let listed = subst P (sym is) (wired.listed m j at) in
        inr (listed.0, omega arith, listed.1, same_default (ups_at wires n) listed.0 (up 0 0) (up m j) listed.1 ∙ listed.2)
