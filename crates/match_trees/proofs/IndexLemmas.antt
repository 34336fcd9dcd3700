-- Lists of the places of keys.
use Rattle.std.proofs.Common.{◌≡◌, ◌≢◌, ℕ, zero, suc, ◌+◌, ◌-◌, ◌<◌, ◌≤◌, ◌^◌, ◌⊎◌, inl, inr, ⊎_elim, List, [], ◌∷◌, ◌++◌, length, take, set, get_or, slice_get, Some, AllPairs, Contains, refl, sym, ap, subst, ◌∙◌, arith, length-append}
use Rattle.std.proofs.lemmas.Option.{none-some, same_Some, slice_get_within, slice_get-get_or, get_or_from_slice_get}
use Rattle.std.proofs.lemmas.List.{take_all, take-append-le, get_or_append_left, length-set}
use Rattle.std.proofs.lemmas.List.Quantifiers.{all_pairs_push}
use Rattle.std.proofs.lemmas.List.Elements.{Contains-append_left, Contains-push, Contains-push_cases, Contains-get_or}
use Rattle.graph_terms.proofs.ListLaws.{slice_get-append_left, slice_get-push, push_cases, take-slice_get}
use Rattle.graph_meaning.specs.Questions.{AreAll}
use Rattle.match_trees.specs.Index.{IsIndexed, GrewEmpty}

-- what stands in a list of which one element was written
pub set_cases : {X : Type 0} (xs : List X) (i j : ℕ) (x y : X) → slice_get (set xs i x) j ≡ Some y → ((j ≡ i) × (y ≡ x)) ⊎ ((j ≢ i) × (slice_get xs j ≡ Some y))
set_cases [] i j x y h = absurd (none-some y h)
set_cases (z ∷ xs) zero zero x y h = inl (refl, sym (same_Some x y h))
set_cases (z ∷ xs) zero (suc j) x y h = inr ((λ e. absurd (omega arith)), h)
set_cases (z ∷ xs) (suc i) zero x y h = inr ((λ e. absurd (omega arith)), h)
set_cases (z ∷ xs) (suc i) (suc j) x y h = ⊎_elim (λ p. inl (ap suc p.0, p.1)) (λ p. inr ((λ e. p.0 (omega arith)), p.1)) (set_cases xs i j x y h)

-- the same numbers have another property
pub all_as : {P Q : ℕ → Type 0} (xs : List ℕ) → AreAll P xs → ((n : ℕ) → P n → Q n) → ((n : ℕ) → Q n → P n) → AreAll Q xs
all_as xs all forth back = record { rising = all.rising; exact = λ n. ((λ c. forth n ((all.exact n).0 c)), (λ q. (all.exact n).1 (back n q))) }

-- a front of numbers in order
front_pairs : (xs ys : List ℕ) → AllPairs (λ a b. a < b) (xs ++ ys) → AllPairs (λ a b. a < b) xs
front_pairs xs ys all i j d less below =
    let len = length-append xs ys in
    let left = all i j d less (omega arith) in
    let below_i : i < length xs = omega arith in
    let first = get_or_append_left xs ys d i below_i in
    let second = get_or_append_left xs ys d j below in
    omega (arith, left, first, second)

no_places : {P : ℕ → Type 0} → ((n : ℕ) → P n → ⊥) → AreAll P []
no_places none = record { rising = λ i j d less below. absurd (omega arith); exact = λ n. ((λ c. absurd (omega (arith, c.1))), (λ p. absurd (none n p))) }

-- no place has a key that is past the lists
pub places_past : (keys : List ℕ) (lists : List (List ℕ)) (key : ℕ) → IsIndexed keys lists → length lists ≤ key → AreAll (λ n. slice_get keys n ≡ Some key) []
places_past keys lists key indexed past = no_places (λ n h. let below = indexed.within n key h in omega arith)

pub grew_none : (lists : List (List ℕ)) → GrewEmpty lists lists
grew_none lists = record { longer = omega arith; each = λ key list h. inl h }

pub grew_more : (old new : List (List ℕ)) (list : List ℕ) → list ≡ [] → GrewEmpty old new → GrewEmpty old (new ++ list ∷ [])
grew_more old new list empty grew =
    record {
      longer = let len = length-append new (list ∷ []) in omega (arith, grew.longer);
      each = λ key other h. ⊎_elim (grew.each key other) (λ p. inr (omega (arith, p.0, grew.longer), p.1 ∙ empty)) (push_cases new list key other h);
    }

pub indexed_grown : (keys : List ℕ) (old new : List (List ℕ)) → IsIndexed keys old → GrewEmpty old new → IsIndexed keys new
indexed_grown keys old new indexed grew =
    record {
      few = indexed.few;
      within = λ n key h. let below = indexed.within n key h in omega (arith, grew.longer);
      exact = λ key list h. ⊎_elim
          (λ had. indexed.exact key list had)
          (λ p. subst (AreAll (λ n. slice_get keys n ≡ Some key)) (sym p.1) (places_past keys old key indexed p.0))
          (grew.each key list h);
    }

-- one more place of a key
one_more : (keys : List ℕ) (key : ℕ) (list : List ℕ) → AreAll (λ n. slice_get keys n ≡ Some key) list → AreAll (λ n. slice_get (keys ++ key ∷ []) n ≡ Some key) (list ++ length keys ∷ [])
one_more keys key list all =
    record {
      rising = all_pairs_push (λ a b. a < b) list (length keys) all.rising (λ k d below. slice_get_within keys (get_or list k d) key ((all.exact (get_or list k d)).0 (Contains-get_or list k d below)));
      exact = λ n. (
        (λ c. ⊎_elim
            (λ had. slice_get-append_left keys (key ∷ []) n key ((all.exact n).0 had))
            (λ e. subst (λ m. slice_get (keys ++ key ∷ []) m ≡ Some key) e (slice_get-push keys key))
            (Contains-push_cases list (length keys) n c)),
        (λ h. ⊎_elim
            (λ had. Contains-append_left list (length keys ∷ []) n ((all.exact n).1 had))
            (λ p. subst (Contains (list ++ length keys ∷ [])) (sym p.0) (Contains-push list (length keys)))
            (push_cases keys key n key h)),
      );
    }

-- the place of another key
old_place : (keys : List ℕ) (key other n : ℕ) → other ≢ key → slice_get (keys ++ key ∷ []) n ≡ Some other → slice_get keys n ≡ Some other
old_place keys key other n differ h = ⊎_elim (λ e. e) (λ p. absurd (differ p.1)) (push_cases keys key n other h)

pub indexed_push : (keys : List ℕ) (lists : List (List ℕ)) (key : ℕ) → IsIndexed keys lists → key < length lists → length keys + 1 < 2 ^ 32 → IsIndexed (keys ++ key ∷ []) (set lists key (get_or lists key [] ++ length keys ∷ []))
indexed_push keys lists key indexed below few =
    let list = get_or lists key [] in
    let more = list ++ length keys ∷ [] in
    let same_length = length-set lists key more in
    record {
      few = let len = length-append keys (key ∷ []) in omega arith;
      within = λ n other h. ⊎_elim (λ had. let lt = indexed.within n other had in omega arith) (λ p. omega (arith, p.1)) (push_cases keys key n other h);
      exact = λ other there h. ⊎_elim
          (λ p. subst (λ k. AreAll (λ n. slice_get (keys ++ key ∷ []) n ≡ Some k) there) (sym p.0) (subst (AreAll (λ n. slice_get (keys ++ key ∷ []) n ≡ Some key)) (sym p.1) (one_more keys key list (indexed.exact key list (slice_get-get_or lists key [] below)))))
          (λ p. all_as there (indexed.exact other there p.1) (λ n had. slice_get-append_left keys (key ∷ []) n other had) (λ n has. old_place keys key other n p.0 has))
          (set_cases lists key other more there h);
    }

-- the greatest number of a list in order is its last
last_place : (list : List ℕ) (n : ℕ) → AllPairs (λ a b. a < b) list → Contains list n → ((m : ℕ) → Contains list m → m ≤ n) → list ≡ take (length list - 1) list ++ n ∷ []
last_place list n rising (place, below, is) greatest =
    let last = length list - 1 in
    let inside : last < length list = omega arith in
    let top = greatest (get_or list last n) (Contains-get_or list last n inside) in
    let at_last : place ≡ last = not_before (λ before. let less = rising place last n before inside in omega (arith, top, is, less)) (omega arith) in
    let has : slice_get list last ≡ Some n = subst (λ p. slice_get list p ≡ Some n) at_last (slice_get-get_or list place n below ∙ ap Some is) in
    sym (take_all (last + 1) list (omega arith)) ∙ take-slice_get list last n has
  where
    not_before : {p q : ℕ} → (p < q → ⊥) → p ≤ q → p ≡ q
    not_before never le = omega arith

-- one place less
one_less : (keys : List ℕ) (key : ℕ) (list : List ℕ) → AreAll (λ n. slice_get (keys ++ key ∷ []) n ≡ Some key) (list ++ length keys ∷ []) → AreAll (λ n. slice_get keys n ≡ Some key) list
one_less keys key list all =
    record {
      rising = front_pairs list (length keys ∷ []) all.rising;
      exact = λ n. (
        (λ c. ⊎_elim (λ e. e) (λ p. absurd (not_twice (subst (Contains list) p.0 c))) (push_cases keys key n key ((all.exact n).0 (Contains-append_left list (length keys ∷ []) n c)))),
        (λ h. ⊎_elim (λ had. had) (λ e. absurd (let lt = slice_get_within keys n key h in omega arith)) (Contains-push_cases list (length keys) n ((all.exact n).1 (slice_get-append_left keys (key ∷ []) n key h)))),
      );
    }
  where
    not_twice : Contains list (length keys) → ⊥
    not_twice (place, below, is) =
        let more = list ++ length keys ∷ [] in
        let len = length-append list (length keys ∷ []) in
        let less = all.rising place (length list) (length keys) below (omega arith) in
        let first = get_or_append_left list (length keys ∷ []) (length keys) place below in
        let second = get_or_from_slice_get more (length list) (length keys) (length keys) (slice_get-push list (length keys)) in
        omega (arith, less, first, second, is)

pub indexed_pop : (keys : List ℕ) (lists : List (List ℕ)) (key : ℕ) → IsIndexed (keys ++ key ∷ []) lists → IsIndexed keys (set lists key (take (length (get_or lists key []) - 1) (get_or lists key [])))
indexed_pop keys lists key indexed =
    let list = get_or lists key [] in
    let less = take (length list - 1) list in
    let same_length = length-set lists key less in
    let long = length-append keys (key ∷ []) in
    let at_end = slice_get-push keys key in
    let all = indexed.exact key list (slice_get-get_or lists key [] (indexed.within (length keys) key at_end)) in
    let is = last_place list (length keys) all.rising ((all.exact (length keys)).1 at_end) (λ m c. let lt = slice_get_within (keys ++ key ∷ []) m key ((all.exact m).0 c) in omega arith) in
    record {
      few = omega (arith, indexed.few);
      within = λ n other h. let lt = indexed.within n other (slice_get-append_left keys (key ∷ []) n other h) in omega arith;
      exact = λ other there h. ⊎_elim
          (λ p. subst (λ k. AreAll (λ n. slice_get keys n ≡ Some k) there) (sym p.0) (subst (AreAll (λ n. slice_get keys n ≡ Some key)) (sym p.1) (one_less keys key less (subst (AreAll (λ n. slice_get (keys ++ key ∷ []) n ≡ Some key)) is all))))
          (λ p. all_as there (indexed.exact other there p.1) (λ n has. old_place keys key other n p.0 has) (λ n had. slice_get-append_left keys (key ∷ []) n other had))
          (set_cases lists key other less there h);
    }

-- after a push that is taken back
pub indexed_back : (keys : List ℕ) (key : ℕ) (lists : List (List ℕ)) (n : ℕ) → n ≡ length keys → IsIndexed keys lists → IsIndexed (take n (keys ++ key ∷ [])) lists
indexed_back keys key lists n is indexed = subst (λ ks. IsIndexed ks lists) (sym (take-append-le n keys (key ∷ []) (omega arith) ∙ take_all n keys (omega arith))) indexed

pub back_is : (keys : List ℕ) (key n : ℕ) → n ≡ length keys → take n (keys ++ key ∷ []) ≡ keys
back_is keys key n is = take-append-le n keys (key ∷ []) (omega arith) ∙ take_all n keys (omega arith)
