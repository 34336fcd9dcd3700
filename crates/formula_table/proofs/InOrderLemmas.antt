-- How things become items, one after another.
use Rattle.std.proofs.Common.{◌≡◌, ℕ, zero, suc, ◌+◌, ◌<◌, ◌⊎◌, ◌↔◌, List, [], ◌∷◌, ◌++◌, length, map, get_or, slice_get, Some, All, refl, sym, ap, ap₂, subst, ◌∙◌, inl, inr, ⊎_elim, append-nil, append_assoc, arith}
use Rattle.std.specs.Prelude.{slice_index}
use Rattle.std.proofs.lemmas.Bool.{cases_lt}
use Rattle.std.proofs.lemmas.List.{length-append}
use Rattle.std.proofs.lemmas.List.Quantifiers.{all_pairs_push}
use Rattle.std.proofs.lemmas.Option.{none-some, slice_get_within, slice_get-get_or}
use Rattle.graph_terms.proofs.ListLaws.{slice_get-append_left, slice_get-push, push_cases, element_at}
use Rattle.formula_table.specs.InOrder.{AreInOrder, StandsNowhere, PutsNext}
use Rattle.formula_table.specs.InOrder.PutsNext.{nothing, put_last, stood}

-- below the length a push changes nothing
pub index-push : (xs : List ℕ) (x n : ℕ) → n < length xs → slice_index (xs ++ x ∷ []) n ≡ slice_index xs n
index-push [] x n below = absurd (omega arith)
index-push (y ∷ xs) x zero below = refl
index-push (y ∷ xs) x (suc n) below = index-push xs x n (omega arith)

-- the pushed number is last
pub index-last : (xs : List ℕ) (x : ℕ) → slice_index (xs ++ x ∷ []) (length xs) ≡ x
index-last [] x = refl
index-last (y ∷ xs) x = index-last xs x

-- numbers of places below the length stay
pub map_index-push : (numbers : List ℕ) (number : ℕ) (places : List ℕ) → All (λ place. place < length numbers) places → map (slice_index (numbers ++ number ∷ [])) places ≡ map (slice_index numbers) places
map_index-push numbers number [] all = refl
map_index-push numbers number (place ∷ places) all = ap₂ (λ (x : ℕ) (xs : List ℕ). x ∷ xs) (index-push numbers number place (all 0 0 (omega arith))) (map_index-push numbers number places (λ k d within. all (suc k) d (omega (arith, within))))

-- nothing is entered yet
pub none_in_order : {X : Type 0} (Becomes : ℕ → X → Type 0) (items : List X) (limit : ℕ) → AreInOrder Becomes items limit 0 [] []
none_in_order Becomes items limit = record {
  stand = λ n x below. absurd (omega arith);
  things = [];
  rising = λ i j d a b. absurd (omega (arith, b));
  count = refl;
  each = λ k n x thing. absurd (none-some n thing);
  first = λ k m n x thing. absurd (none-some n thing);
  once = λ i j x at_i at_j behind. let within = slice_get_within (items ++ []) j x at_j in absurd (omega (arith, within, ap length (append-nil items)));
  room = inl refl;
}

module _ {X : Type 0} (Becomes Later : ℕ → X → Type 0) (items : List X) (limit before : ℕ) (numbers : List ℕ) (all : length numbers ≡ before) (one : (x y : X) → Becomes before x → Becomes before y → x ≡ y) (same : (n : ℕ) (x : X) → n < before + 1 → Becomes n x ↔ Later n x) where
  old_number : (number n : ℕ) → n < before → slice_index (numbers ++ number ∷ []) n ≡ slice_index numbers n
  old_number number n below = index-push numbers number n (omega (arith, all))

  new_number : (number : ℕ) → slice_index (numbers ++ number ∷ []) before ≡ number
  new_number number = ap (slice_index (numbers ++ number ∷ [])) (sym all) ∙ index-last numbers number

  -- a thing that adds nothing
  keeps : (added : List X) (number : ℕ) → AreInOrder Becomes items limit before added numbers → ((x : X) → Becomes before x → slice_get (items ++ added) number ≡ Some x) → AreInOrder Later items limit (before + 1) added (numbers ++ number ∷ [])
  keeps added number is here = record {
    stand = λ n x below later. ⊎_elim
        (λ earlier. ap (slice_get (items ++ added)) (old_number number n earlier) ∙ is.stand n x earlier ((same n x below).1 later))
        (λ not_earlier.
        let at : n ≡ before = omega arith in
        ap (slice_get (items ++ added)) (ap (slice_index (numbers ++ number ∷ [])) at ∙ new_number number) ∙ here x (subst (λ (k : ℕ). Becomes k x) at ((same n x below).1 later)))
        (cases_lt n before);
    things = is.things;
    rising = is.rising;
    count = is.count;
    each = λ k n x thing item. let was = is.each k n x thing item in (omega (arith, was.0), (same n x (omega (arith, was.0))).0 was.1);
    first = λ k m n x thing item less later. let was = is.each k n x thing item in is.first k m n x thing item less ((same m x (omega (arith, was.0, less))).1 later);
    once = is.once;
    room = is.room;
  }

  -- a thing that adds an item
  puts : (added : List X) (number : ℕ) (x : X) → AreInOrder Becomes items limit before added numbers → Becomes before x → StandsNowhere (items ++ added) x → length (items ++ added) < limit → number ≡ length (items ++ added) → AreInOrder Later items limit (before + 1) (added ++ x ∷ []) (numbers ++ number ∷ [])
  puts added number x is becomes nowhere room at =
      let grown : items ++ (added ++ x ∷ []) ≡ (items ++ added) ++ x ∷ [] = sym (append_assoc items added (x ∷ [])) in
      record {
        stand = λ n y below later. ⊎_elim
            (λ earlier.
            let old = ap (slice_get (items ++ added)) (old_number number n earlier) ∙ is.stand n y earlier ((same n y below).1 later) in
            subst (λ (list : List X). slice_get list (slice_index (numbers ++ number ∷ []) n) ≡ Some y) (sym grown) (slice_get-append_left (items ++ added) (x ∷ []) (slice_index (numbers ++ number ∷ []) n) y old))
            (λ not_earlier.
            let here : n ≡ before = omega arith in
            let y_is : y ≡ x = one y x (subst (λ (k : ℕ). Becomes k y) here ((same n y below).1 later)) becomes in
            let place : slice_index (numbers ++ number ∷ []) n ≡ length (items ++ added) = ap (slice_index (numbers ++ number ∷ [])) here ∙ new_number number ∙ at in
            subst (λ (list : List X). slice_get list (slice_index (numbers ++ number ∷ []) n) ≡ Some y) (sym grown) (ap (slice_get ((items ++ added) ++ x ∷ [])) place ∙ slice_get-push (items ++ added) x ∙ ap Some (sym y_is)))
            (cases_lt n before);
        things = is.things ++ before ∷ [];
        rising = all_pairs_push (λ a b. a < b) is.things before is.rising
            (λ k d within.
            let thing = slice_get-get_or is.things k d within in
            let item = element_at added k (omega (arith, is.count, within)) in
            (is.each k (get_or is.things k d) item.0 thing item.1).0);
        count = omega (arith, length-append is.things (before ∷ []), length-append added (x ∷ []), is.count);
        each = λ k n y thing item. ⊎_elim
            (λ old. ⊎_elim
            (λ old_item. let was = is.each k n y old old_item in (omega (arith, was.0), (same n y (omega (arith, was.0))).0 was.1))
            (λ new_item. absurd (omega (arith, slice_get_within is.things k n old, is.count, new_item.0)))
            (push_cases added x k y item))
            (λ fresh. ⊎_elim
            (λ old_item. absurd (omega (arith, slice_get_within added k y old_item, is.count, fresh.0)))
            (λ new_item.
            let below : n < before + 1 = omega (arith, fresh.1) in
            (below, (same n y below).0 (subst (λ (m : ℕ). Becomes m y) (sym fresh.1) (subst (λ (z : X). Becomes before z) (sym new_item.1) becomes))))
            (push_cases added x k y item))
            (push_cases is.things before k n thing);
        first = λ k m n y thing item less later. ⊎_elim
            (λ old. ⊎_elim
            (λ old_item. let was = is.each k n y old old_item in is.first k m n y old old_item less ((same m y (omega (arith, was.0, less))).1 later))
            (λ new_item. absurd (omega (arith, slice_get_within is.things k n old, is.count, new_item.0)))
            (push_cases added x k y item))
            (λ fresh. ⊎_elim
            (λ old_item. absurd (omega (arith, slice_get_within added k y old_item, is.count, fresh.0)))
            (λ new_item.
            let lower : m < before = omega (arith, less, fresh.1) in
            nowhere (slice_index numbers m) (is.stand m y lower ((same m y (omega (arith, lower))).1 later) ∙ ap Some new_item.1))
            (push_cases added x k y item))
            (push_cases is.things before k n thing);
        once = λ i j y at_i at_j behind.
            let here_i = subst (λ (list : List X). slice_get list i ≡ Some y) grown at_i in
            let here_j = subst (λ (list : List X). slice_get list j ≡ Some y) grown at_j in
            ⊎_elim
            (λ old_i. ⊎_elim (λ old_j. is.once i j y old_i old_j behind) (λ new_j. absurd (nowhere i (old_i ∙ ap Some new_j.1))) (push_cases (items ++ added) x j y here_j))
            (λ new_i. ⊎_elim (λ old_j. absurd (nowhere j (old_j ∙ ap Some new_i.1))) (λ new_j. new_i.0 ∙ sym new_j.0) (push_cases (items ++ added) x j y here_j))
            (push_cases (items ++ added) x i y here_i);
        room = inr (omega (arith, length-append items added, length-append added (x ∷ []), room));
      }

  step_cases : (now more : List X) (number : ℕ) → PutsNext (Becomes before) now limit more number → ((more ≡ []) × ((x : X) → Becomes before x → slice_get now number ≡ Some x)) ⊎ ((x : X) × (more ≡ x ∷ []) × Becomes before x × StandsNowhere now x × (length now < limit) × (number ≡ length now))
  step_cases now more number (nothing not) = inl (refl, λ x b. absurd (not x b))
  step_cases now more number (put_last {x = x} b nowhere room) = inr (x, refl, b, nowhere, room, refl)
  step_cases now more number (stood {x = x} b at) = inl (refl, λ y c. at ∙ ap Some (one x y b c))

  -- one thing more
  pub next_in_order : (added more : List X) (number : ℕ) → AreInOrder Becomes items limit before added numbers → PutsNext (Becomes before) (items ++ added) limit more number → AreInOrder Later items limit (before + 1) (added ++ more) (numbers ++ number ∷ [])
  next_in_order added more number is step = ⊎_elim
      (λ kept. subst (λ (list : List X). AreInOrder Later items limit (before + 1) list (numbers ++ number ∷ [])) (sym (ap (λ (m : List X). added ++ m) kept.0 ∙ append-nil added)) (keeps added number is kept.1))
      (λ put. subst (λ (m : List X). AreInOrder Later items limit (before + 1) (added ++ m) (numbers ++ number ∷ [])) (sym put.1) (puts added number put.0 is put.2 put.3 put.4 put.5))
      (step_cases (items ++ added) more number step)
