-- A node that is entered over what its parts are leaves a settled board.
use Rattle.std.proofs.Common.{zero, suc, ◌≡◌, ◌<◌, ◌≤◌, ◌+◌, ◌⊎◌, inl, inr, ℕ, false, List, [], ◌∷◌, ◌++◌, length, slice_index_or, refl, sym, ◌∙◌, ap, arith, length-append, take, slice_set, subst, ◌^◌}
use Rattle.std.proofs.lemmas.List.{take_more, length-take}
use Rattle.formula_truth.specs.declared.truth.Truth.{Truth}
use Rattle.formula_truth.specs.declared.truth.Truth.TheVariants.{Unset}
use Rattle.search_board.specs.declared.kind.Kind.{Kind}
use Rattle.search_board.specs.declared.kind.Kind.TheVariants.{Leaf, And, Or}
use Rattle.search_board.specs.declared.place.Place.{Place}
use Rattle.search_board.specs.Values.{value_of}
use Rattle.search_board.specs.Board.{Shown, asserted_at, blank, kind_at, places_at, truth_at, with_node, with_truth, AreAligned}
use Rattle.search_values.specs.Wiring.{Wires, IsPlace, IsWired, parts_at, part_at}
use Rattle.search_values.specs.Settled.{told_by, IsUpToDate, value_at}
use Rattle.search_values.specs.KeptInside.{IsRight}
use Rattle.search_values.specs.Changes.{EntersNode}
use Rattle.search_values.specs.GivenBy.{given_by, leaf_only}
use Rattle.search_values.specs.Entered.{Enters, ArePlaces, NoneStruck}

get_push : {A : Type 0} (xs : List A) (x d : A) (k : ℕ) → k < length xs → slice_index_or (xs ++ x ∷ []) k d ≡ slice_index_or xs k d
get_push [] x d k h = absurd (omega arith)
get_push (y ∷ ys) x d zero h = refl
get_push (y ∷ ys) x d (suc k) h = get_push ys x d k (omega arith)

get_last : {A : Type 0} (xs : List A) (x d : A) (k : ℕ) → k ≡ length xs → slice_index_or (xs ++ x ∷ []) k d ≡ x
get_last [] x d zero e = refl
get_last [] x d (suc k) e = absurd (omega arith)
get_last (y ∷ ys) x d zero e = absurd (omega arith)
get_last (y ∷ ys) x d (suc k) e = get_last ys x d k (omega arith)

get_past : {A : Type 0} (xs : List A) (x d : A) (k : ℕ) → length xs < k → slice_index_or (xs ++ x ∷ []) k d ≡ d
get_past [] x d zero e = absurd (omega arith)
get_past [] x d (suc k) e = refl
get_past (y ∷ ys) x d zero e = absurd (omega arith)
get_past (y ∷ ys) x d (suc k) e = get_past ys x d k (omega arith)

past_end : {A : Type 0} (xs : List A) (d : A) (k : ℕ) → length xs ≤ k → slice_index_or xs k d ≡ d
past_end [] d k h = refl
past_end (x ∷ xs) d zero h = absurd (omega arith)
past_end (x ∷ xs) d (suc k) h = past_end xs d k (omega arith)

get_default : {A : Type 0} (xs : List A) (d : A) (k : ℕ) → slice_index_or (xs ++ d ∷ []) k d ≡ slice_index_or xs k d
get_default [] d zero = refl
get_default [] d (suc k) = refl
get_default (y ∷ ys) d zero = refl
get_default (y ∷ ys) d (suc k) = get_default ys d k

length-push : {A : Type 0} (xs : List A) (x : A) → length (xs ++ x ∷ []) ≡ length xs + 1
length-push xs x = length-append xs (x ∷ [])

order : (k n : ℕ) → (k < n) ⊎ ((k ≡ n) ⊎ (n < k))
order k n = search arith

value_twice : (kind : Kind) (ts : List Truth) (t : Truth) → value_of kind ts t ≡ value_of kind ts (value_of kind ts t)
value_twice Leaf ts t = refl
value_twice And ts t = refl
value_twice Or ts t = refl

own_value : (kind : Kind) (ts : List Truth) (truth : Truth) → truth ≡ value_of kind ts Unset → truth ≡ value_of kind ts truth
own_value kind ts truth e = e ∙ value_twice kind ts Unset ∙ ap (value_of kind ts) (sym e)

module _ (wires after : Wires) (s : Shown) (right : IsRight wires s) (wired : IsWired after) (parts : List ℕ) (kind : Kind) (truth : Truth) (places : List Place) (enters : Enters wires after s parts kind truth places) where
  parts_before : (n : ℕ) → n < length wires.parts → parts_at after n ≡ parts_at wires n
  parts_before n h = ap (λ (xs : List (List ℕ)). slice_index_or xs n []) enters.grows ∙ get_push wires.parts parts [] n h

  parts_here : (n : ℕ) → n ≡ length wires.parts → parts_at after n ≡ parts
  parts_here n h = ap (λ (xs : List (List ℕ)). slice_index_or xs n []) enters.grows ∙ get_last wires.parts parts [] n h

  count : length after.parts ≡ length wires.parts + 1
  count = ap length enters.grows ∙ length-push wires.parts parts

  truth_before : (n : ℕ) → n < length wires.parts → truth_at (with_node s kind truth places) n ≡ truth_at s n
  truth_before n h = get_push s.truths truth Unset n (omega (arith, right.are.nodes, right.are.aligned.truths))

  asserted_before : (n : ℕ) → n < length wires.parts → asserted_at (with_node s kind truth places) n ≡ asserted_at s n
  asserted_before n h = get_push s.asserted false false n (omega (arith, right.are.nodes, right.are.aligned.asserted))

  places_before : (n : ℕ) → n < length wires.parts → places_at (with_node s kind truth places) n ≡ places_at s n
  places_before n h = get_push s.places places [] n (omega (arith, right.are.nodes, right.are.aligned.places))

  places_here : (n : ℕ) → n ≡ length wires.parts → places_at (with_node s kind truth places) n ≡ places
  places_here n h = get_last s.places places [] n (omega (arith, right.are.nodes, right.are.aligned.places))

  -- each place was told what its part is
  up_to_date : (n i : ℕ) → IsPlace after n i → IsUpToDate after (with_node s kind truth places) n i
  up_to_date n i at = elim (order n (length wires.parts)) [
    | inl before ↦
        let old : IsPlace wires n i = record { node = before; place = omega (arith, at.place, ap length (parts_before n before)) } in
        let part = ap (λ (xs : List ℕ). slice_index_or xs i 0) (parts_before n before) in
        let place = ap (λ (xs : List Place). slice_index_or xs i blank) (places_before n before) in
        let earlier = right.wired.earlier n i old in
        let is : IsUpToDate wires s n i = elim (right.settled.told n i old) [ inl waits ↦ absurd waits | inr is ↦ is ] in
        record {
          told = ap (λ (p : Place). p.told) place ∙ is.told ∙ sym (truth_before (part_at wires n i) (omega arith)) ∙ ap (truth_at (with_node s kind truth places)) (sym part);
          taken = ap (λ (p : Place). p.taken) place ∙ is.taken ∙ sym (asserted_before (part_at wires n i) (omega arith)) ∙ ap (asserted_at (with_node s kind truth places)) (sym part);
        }
    | inr (inl here) ↦
        let part = ap (λ (xs : List ℕ). slice_index_or xs i 0) (parts_here n here) in
        let place = ap (λ (xs : List Place). slice_index_or xs i blank) (places_here n here) in
        let lt : i < length parts = omega (arith, at.place, ap length (parts_here n here)) in
        let earlier : slice_index_or parts i 0 < length wires.parts = omega (arith, wired.earlier n i at, part) in
        let is = enters.told.each i lt in
        record {
          told = ap (λ (p : Place). p.told) place ∙ is.0 ∙ sym (truth_before (slice_index_or parts i 0) earlier) ∙ ap (truth_at (with_node s kind truth places)) (sym part);
          taken = ap (λ (p : Place). p.taken) place ∙ is.1 ∙ sym (asserted_before (slice_index_or parts i 0) earlier) ∙ ap (asserted_at (with_node s kind truth places)) (sym part);
        }
    | inr (inr past) ↦ absurd (omega (arith, at.node, count))
  ]

  pub enter_right : IsRight after (with_node s kind truth places)
  enter_right = record {
    wired = wired;
    are = record {
      aligned = record {
        truths = omega (arith, length-push s.truths truth, length-push s.kinds kind, right.are.aligned.truths);
        asserted = omega (arith, length-push s.asserted false, length-push s.kinds kind, right.are.aligned.asserted);
        places = omega (arith, length-push s.places places, length-push s.kinds kind, right.are.aligned.places);
        few = omega (arith, length-push s.kinds kind, count, wired.few, right.are.nodes);
        few_places = λ n. elim (order n (length wires.parts)) [
          | inl before ↦ omega (arith, ap length (places_before n before), right.are.aligned.few_places n)
          | inr (inl here) ↦ omega (arith, ap length (places_here n here), enters.few)
          | inr (inr past) ↦ omega (arith, ap length (get_past s.places places [] n (omega (arith, right.are.nodes, right.are.aligned.places))))
        ];
      };
      nodes = omega (arith, count, length-push s.kinds kind, right.are.nodes);
      places = λ n. elim (order n (length wires.parts)) [
        | inl before ↦ ap length (places_before n before) ∙ right.are.places n ∙ ap length (sym (parts_before n before))
        | inr (inl here) ↦ ap length (places_here n here) ∙ enters.told.len ∙ ap length (sym (parts_here n here))
        | inr (inr past) ↦ ap length (get_past s.places places [] n (omega (arith, right.are.nodes, right.are.aligned.places))) ∙ ap length (sym (past_end after.parts [] n (omega (arith, count))))
      ];
    };
    settled = record {
      past = λ n i at. inr ((up_to_date n i at).told);
      told = λ n i at. inr (up_to_date n i at);
      values = λ n at. elim (order n (length wires.parts)) [
        | inl before ↦ truth_before n before ∙ right.settled.values n before ∙ sym (same_value (kind_at (with_node s kind truth places) n) (kind_at s n) (places_at (with_node s kind truth places) n) (places_at s n) (truth_at (with_node s kind truth places) n) (truth_at s n)
            (get_push s.kinds kind Leaf n (omega (arith, right.are.nodes))) (places_before n before) (truth_before n before))
        | inr (inl here) ↦ let t = get_last s.truths truth Unset n (omega (arith, right.are.nodes, right.are.aligned.truths)) in
            t ∙ own_value kind (told_by places) truth enters.value ∙ sym (same_value (kind_at (with_node s kind truth places) n) kind (places_at (with_node s kind truth places) n) places (truth_at (with_node s kind truth places) n) truth (get_last s.kinds kind Leaf n (omega (arith, right.are.nodes))) (places_here n here) t)
        | inr (inr past) ↦ absurd (omega (arith, at, count))
      ];
    };
  }
    where
      same_value : (k k' : Kind) (ps ps' : List Place) (t t' : Truth) → k ≡ k' → ps ≡ ps' → t ≡ t' → value_of k (told_by ps) t ≡ value_of k' (told_by ps') t'
      same_value k k' ps ps' t t' p q r = ap (λ (x : Kind). value_of x (told_by ps) t) p ∙ ap (λ (x : List Place). value_of k' (told_by x) t) q ∙ ap (value_of k' (told_by ps')) r

-- ---- places that are told what parts are

pub places_none : (s : Shown) (parts : List ℕ) → ArePlaces s (take 0 parts) []
places_none s [] = record { len = refl; each = λ i lt. absurd (omega arith) }
places_none s (p ∷ ps) = record { len = refl; each = λ i lt. absurd (omega arith) }

pub places_more : (s : Shown) (parts : List ℕ) (places : List Place) (i part : ℕ) (place : Place) → i < length parts → slice_index_or parts i 0 ≡ part → place.told ≡ truth_at s part → place.taken ≡ asserted_at s part
    → ArePlaces s (take i parts) places → ArePlaces s (take (i + 1) parts) (places ++ place ∷ [])
places_more s parts places i part place lt is told taken are =
    let more = take_more parts i 0 lt in
    let front : length (take i parts) ≡ i = omega (arith, length-take i parts) in
    subst (λ (ps : List ℕ). ArePlaces s ps (places ++ place ∷ [])) (sym more) (record {
      len = omega (arith, length-push places place, length-push (take i parts) (slice_index_or parts i 0), are.len);
      each = λ j h. elim (order j i) [
        | inl before ↦
            let p = get_push places place blank j (omega (arith, are.len, front)) in
            let q = get_push (take i parts) (slice_index_or parts i 0) 0 j (omega (arith, front)) in
            let both = are.each j (omega (arith, front)) in
            (ap (λ (x : Place). x.told) p ∙ both.0 ∙ ap (truth_at s) (sym q), ap (λ (x : Place). x.taken) p ∙ both.1 ∙ ap (asserted_at s) (sym q))
        | inr (inl here) ↦
            let p = get_last places place blank j (omega (arith, are.len, front)) in
            let q = get_last (take i parts) (slice_index_or parts i 0) 0 j (omega (arith, front)) ∙ is in
            (ap (λ (x : Place). x.told) p ∙ told ∙ ap (truth_at s) (sym q), ap (λ (x : Place). x.taken) p ∙ taken ∙ ap (asserted_at s) (sym q))
        | inr (inr past) ↦ absurd (omega (arith, front, length-push (take i parts) (slice_index_or parts i 0)))
      ];
    })

-- the value of the last node is put after it was entered
set_last : {A : Type 0} (xs : List A) (x y : A) (n : ℕ) → n ≡ length xs → slice_set (xs ++ x ∷ []) n y ≡ xs ++ y ∷ []
set_last [] x y zero e = refl
set_last [] x y (suc n) e = absurd (omega arith)
set_last (z ∷ zs) x y zero e = absurd (omega arith)
set_last (z ∷ zs) x y (suc n) e = ap (λ ws. z ∷ ws) (set_last zs x y n (omega arith))

pub truth_last : (s : Shown) (kind : Kind) (truth value : Truth) (places : List Place) (n : ℕ) → n ≡ length s.truths → with_truth (with_node s kind truth places) n value ≡ with_node s kind value places
truth_last s kind truth value places n e = ap (λ ts. record { kinds = s.kinds ++ kind ∷ []; truths = ts; asserted = s.asserted ++ false ∷ []; places = s.places ++ places ∷ [] }) (set_last s.truths truth value n e)

pub kind_last : (s : Shown) (kind : Kind) (truth : Truth) (places : List Place) (n : ℕ) → n ≡ length s.kinds → kind_at (with_node s kind truth places) n ≡ kind
kind_last s kind truth places n e = get_last s.kinds kind Leaf n e

pub truth_is_last : (s : Shown) (kind : Kind) (truth : Truth) (places : List Place) (n : ℕ) → n ≡ length s.truths → truth_at (with_node s kind truth places) n ≡ truth
truth_is_last s kind truth places n e = get_last s.truths truth Unset n e

pub places_last : (s : Shown) (kind : Kind) (truth : Truth) (places : List Place) (n : ℕ) → n ≡ length s.places → places_at (with_node s kind truth places) n ≡ places
places_last s kind truth places n e = get_last s.places places [] n e

-- a node that comes last with Unset, and gets the value that its places tell then, comes with that value
pub entered_with : (s : Shown) (kind : Kind) (places : List Place) (n : ℕ) (value : Truth) → AreAligned s → n ≡ length s.kinds → value ≡ value_at (with_node s kind Unset places) n
    → with_truth (with_node s kind Unset places) n value ≡ with_node s kind (value_of kind (told_by places) Unset) places
entered_with s kind places n value aligned e is =
    let k = kind_last s kind Unset places n e in
    let p = places_last s kind Unset places n (e ∙ sym aligned.places) in
    let t = truth_is_last s kind Unset places n (e ∙ sym aligned.truths) in
    let v : value ≡ value_of kind (told_by places) Unset = is ∙ ap (λ (x : Kind). value_of x (told_by (places_at (with_node s kind Unset places) n)) (truth_at (with_node s kind Unset places) n)) k
    ∙ ap (λ (x : List Place). value_of kind (told_by x) (truth_at (with_node s kind Unset places) n)) p ∙ ap (value_of kind (told_by places)) t in
    truth_last s kind Unset value places n (e ∙ sym aligned.truths) ∙ ap (λ (t : Truth). with_node s kind t places) v

pub none_struck_more : (places : List Place) (place : Place) → place.struck ≡ false → NoneStruck places → NoneStruck (places ++ place ∷ [])
none_struck_more places place off none i = elim (order i (length places)) [
  | inl before ↦ ap (λ (p : Place). p.struck) (get_push places place blank i before) ∙ none i
  | inr (inl here) ↦ ap (λ (p : Place). p.struck) (get_last places place blank i here) ∙ off
  | inr (inr past) ↦ ap (λ (p : Place). p.struck) (get_past places place blank i past)
]

leaf_unset : (kind : Kind) (ts : List Truth) → leaf_only kind (value_of kind ts Unset) ≡ Unset
leaf_unset Leaf ts = refl
leaf_unset And ts = refl
leaf_unset Or ts = refl

-- what is given has one node more
pub enters_node : (wires after : Wires) (s : Shown) (parts : List ℕ) (kind : Kind) (truth : Truth) (places : List Place) → AreAligned s → NoneStruck places → Enters wires after s parts kind truth places → EntersNode kind parts (given_by wires.parts s) (given_by after.parts (with_node s kind truth places))
enters_node wires after s parts kind truth places aligned none enters = record {
  kinds = refl;
  parts_are = enters.grows;
  leaf = λ m h. ap (λ (k : Kind). leaf_only k (truth_at (with_node s kind truth places) m)) (get_push s.kinds kind Leaf m h) ∙ ap (leaf_only (kind_at s m)) (get_push s.truths truth Unset m (omega (arith, aligned.truths)));
  leaf_here = ap (λ (k : Kind). leaf_only k (truth_at (with_node s kind truth places) (length s.kinds))) (get_last s.kinds kind Leaf (length s.kinds) refl) ∙ ap (leaf_only kind) (get_last s.truths truth Unset (length s.kinds) (sym aligned.truths) ∙ enters.value) ∙ leaf_unset kind (told_by places);
  asserted = λ m. get_default s.asserted false m;
  asserted_here = get_last s.asserted false false (length s.kinds) (sym aligned.asserted);
  struck = λ m i h. ap (λ (ps : List Place). (slice_index_or ps i blank).struck) (get_push s.places places [] m (omega (arith, aligned.places)));
  struck_here = λ i. ap (λ (ps : List Place). (slice_index_or ps i blank).struck) (get_last s.places places [] (length s.kinds) (sym aligned.places)) ∙ none i;
}
