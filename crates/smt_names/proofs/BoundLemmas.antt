-- How bound names are found.
use Rattle.std.proofs.Common.{◌≡◌, ℕ, zero, suc, ◌+◌, ◌<◌, ◌≤◌, ◌==◌, ◌||◌, Bool, true, false, cond, List, [], ◌∷◌, ◌++◌, length, reverse, set, get_or, Option, Some, None, is_some, option_map, refl, sym, ap, ◌∙◌, arith, bytes_eq}
use Rattle.std.specs.List.{position_from, list_any}
use Rattle.std.proofs.lemmas.List.{reverse-append, reverse-reverse, length-reverse, get_or-set_same, get_or-set_other}
use Rattle.std.proofs.lemmas.Option.{none-some, same_Some}
use Rattle.std.proofs.lemmas.Slice.Eq.{bytes_eq-Decides}
use Rattle.std.proofs.lemmas.Bool.Decides.{same_from_decides, Decides-like, Decides-eqb}
use Rattle.graph_terms.proofs.ListLaws.{slice_get-push, slice_get-push_other}
use Rattle.smt_names.specs.declared.bound.Bound.{Bound}
use Rattle.smt_names.specs.declared.linked.Linked.{Linked}
use Rattle.smt_names.specs.Names.{keep_last, last_with, bound_as}
use Rattle.smt_names.specs.DistinctNames.{place_in, KeepPlaces}
use Rattle.smt_names.specs.BoundInside.{bound_in, bound_at, last_place, AreLinked}

none-true : false ≡ true → ⊥
none-true e = cc

module _ {X : Type 0} (test : X → Bool) where
  -- the last that passes, of a list and one item more
  pub last_push : (xs : List X) (x : X) → last_with test (xs ++ x ∷ []) ≡ cond (test x) (Some x) (last_with test xs)
  last_push [] x = refl
  last_push (y ∷ ys) x = ap (keep_last (test y) y) (last_push ys x) ∙ by (test x)
    where
      by : (b : Bool) → keep_last (test y) y (cond b (Some x) (last_with test ys)) ≡ cond b (Some x) (keep_last (test y) y (last_with test ys))
      by true = refl
      by false = refl

  -- something passes where there is a first that does
  pub any_from : (xs : List X) (j : ℕ) → is_some (position_from test j xs) ≡ list_any test xs
  any_from [] j = refl
  any_from (x ∷ xs) j = by (test x) (any_from xs (j + 1))
    where
      by : (b : Bool) → is_some (position_from test (j + 1) xs) ≡ list_any test xs → is_some (cond b (Some j) (position_from test (j + 1) xs)) ≡ (b || list_any test xs)
      by true same = refl
      by false same = same

  -- nothing is found where nothing passes
  pub no_place : (xs : List X) (j : ℕ) → list_any test xs ≡ false → position_from test j xs ≡ None
  no_place xs j none = by (position_from test j xs) (any_from xs j ∙ none)
    where
      by : (p : Option ℕ) → is_some p ≡ false → p ≡ None
      by None e = refl
      by (Some n) e = absurd (none-true (sym e))

  -- the first that passes stands at the start or behind it
  past : (xs : List X) (j n : ℕ) → position_from test j xs ≡ Some n → j ≤ n
  past [] j n e = absurd (none-some n e)
  past (x ∷ xs) j n e = by (test x) (past xs (j + 1) n) e
    where
      by : (b : Bool) → (position_from test (j + 1) xs ≡ Some n → j + 1 ≤ n) → cond b (Some j) (position_from test (j + 1) xs) ≡ Some n → j ≤ n
      by true later e = omega (arith, same_Some j n e)
      by false later e = omega (arith, later e)

  -- what is found is found where more come
  pub found_left : (xs ys : List X) (j n : ℕ) → position_from test j xs ≡ Some n → position_from test j (xs ++ ys) ≡ Some n
  found_left [] ys j n e = absurd (none-some n e)
  found_left (x ∷ xs) ys j n e = by (test x) (found_left xs ys (j + 1) n) e
    where
      by : (b : Bool) → (position_from test (j + 1) xs ≡ Some n → position_from test (j + 1) (xs ++ ys) ≡ Some n) → cond b (Some j) (position_from test (j + 1) xs) ≡ Some n → cond b (Some j) (position_from test (j + 1) (xs ++ ys)) ≡ Some n
      by true later e = e
      by false later e = later e

-- Names by their places.
-- at one place stands one name
one_name : (a b : List ℕ) (names : List (List ℕ)) (j n : ℕ) → position_from (bytes_eq a) j names ≡ Some n → position_from (bytes_eq b) j names ≡ Some n → a ≡ b
one_name a b [] j n e f = absurd (none-some n e)
one_name a b (x ∷ names) j n e f = by (bytes_eq a x) (bytes_eq b x) refl refl (one_name a b names (j + 1) n) e f
  where
    by : (p q : Bool) → bytes_eq a x ≡ p → bytes_eq b x ≡ q → (position_from (bytes_eq a) (j + 1) names ≡ Some n → position_from (bytes_eq b) (j + 1) names ≡ Some n → a ≡ b) → cond p (Some j) (position_from (bytes_eq a) (j + 1) names) ≡ Some n → cond q (Some j) (position_from (bytes_eq b) (j + 1) names) ≡ Some n → a ≡ b
    by true true is so later e f = (bytes_eq-Decides a x).0 is ∙ sym ((bytes_eq-Decides b x).0 so)
    by true false is so later e f = absurd (omega (arith, same_Some j n e, past (bytes_eq b) names (j + 1) n f))
    by false true is so later e f = absurd (omega (arith, same_Some j n f, past (bytes_eq a) names (j + 1) n e))
    by false false is so later e f = later e f

-- two names are the same where their places are
same_place : (names : List (List ℕ)) (name other : List ℕ) (n m : ℕ) → place_in names name ≡ Some n → place_in names other ≡ Some m → bytes_eq name other ≡ (m == n)
same_place names name other n m a b = same_from_decides (bytes_eq name other) (m == n) (bytes_eq-Decides name other) (Decides-like (m == n)
    (λ e. one_name name other names 0 n a (b ∙ ap Some e))
    (λ e. same_Some m n (sym b ∙ ap (place_in names) (sym e) ∙ a))
    (Decides-eqb m n))

-- a name that has no place is none that has one
other_name : (names : List (List ℕ)) (name other : List ℕ) (m : ℕ) → place_in names name ≡ None → place_in names other ≡ Some m → bytes_eq name other ≡ false
other_name names name other m a b = by (bytes_eq name other) refl
  where
    by : (p : Bool) → bytes_eq name other ≡ p → p ≡ false
    by false is = refl
    by true is = absurd (none-some m (sym a ∙ ap (place_in names) ((bytes_eq-Decides name other).0 is) ∙ b))

-- names keep their places where more come
pub places_kept : (old new more : List (List ℕ)) → new ≡ old ++ more → KeepPlaces old new
places_kept old new more is name n e = ap (λ (names : List (List ℕ)). place_in names name) is ∙ found_left (bytes_eq name) old more 0 n e

-- Bindings, from the last to the first.
reverse_more : {X : Type 0} (x : X) (xs : List X) → reverse (x ∷ xs) ≡ reverse xs ++ x ∷ []
reverse_more x xs = reverse-append (x ∷ []) xs

pub reverse_push : {X : Type 0} (xs : List X) (x : X) → reverse (xs ++ x ∷ []) ≡ x ∷ reverse xs
reverse_push xs x = reverse-append xs (x ∷ [])

bound_push : (name : List ℕ) (item : Linked) (earlier : List Linked) → bound_as (bound_in (reverse (item ∷ earlier))) name ≡ cond (bytes_eq name item.bound.name) (Some item.bound) (bound_as (bound_in (reverse earlier)) name)
bound_push name item earlier =
    ap (λ (items : List Linked). bound_as (bound_in items) name) (reverse_more item earlier)
    ∙ ap (λ (bound : List Bound). bound_as bound name) (mapped (reverse earlier))
    ∙ last_push (λ (b : Bound). bytes_eq name b.name) (bound_in (reverse earlier)) item.bound
  where
    mapped : (items : List Linked) → bound_in (items ++ item ∷ []) ≡ bound_in items ++ item.bound ∷ []
    mapped [] = refl
    mapped (i ∷ items) = ap (λ (bound : List Bound). i.bound ∷ bound) (mapped items)

last_below : (n place : ℕ) (items : List Linked) → last_place n items ≡ Some place → place < length items
last_below n place [] e = absurd (none-some place e)
last_below n place (item ∷ items) e = by (item.number == n) (last_below n place items) e
  where
    by : (b : Bool) → (last_place n items ≡ Some place → place < length items) → cond b (Some (length items)) (last_place n items) ≡ Some place → place < length (item ∷ items)
    by true later e = omega (arith, same_Some (length items) place e)
    by false later e = omega (arith, later e)

abbrev bound_of_item : Option Linked → Option Bound
bound_of_item item = option_map (λ (i : Linked). i.bound) item

-- the bound name at a place, where there is one
abbrev pub bound_if : Option ℕ → List Linked → Option Bound
bound_if None items = None
bound_if (Some place) items = bound_at items place

module _ (names : List (List ℕ)) (name : List ℕ) where
  -- a name without a number is not bound
  pub unbound : (items : List Linked) → place_in names name ≡ None → AreLinked names items → bound_as (bound_in (reverse items)) name ≡ None
  unbound [] none linked = refl
  unbound (item ∷ earlier) none linked = bound_push name item earlier
      ∙ ap (λ (b : Bool). cond b (Some item.bound) (bound_as (bound_in (reverse earlier)) name)) (other_name names name item.bound.name item.number none linked.0)
      ∙ unbound earlier none linked.2

  -- a name is bound last where its number is
  pub bound_last : (n : ℕ) (items : List Linked) → place_in names name ≡ Some n → AreLinked names items → bound_as (bound_in (reverse items)) name ≡ bound_if (last_place n items) (reverse items)
  bound_last n [] is linked = refl
  bound_last n (item ∷ earlier) is linked = bound_push name item earlier
      ∙ ap (λ (b : Bool). cond b (Some item.bound) (bound_as (bound_in (reverse earlier)) name)) (same_place names name item.bound.name n item.number is linked.0)
      ∙ ap (cond (item.number == n) (Some item.bound)) (bound_last n earlier is linked.2)
      ∙ by (item.number == n)
      ∙ ap (bound_if (cond (item.number == n) (Some (length earlier)) (last_place n earlier))) (sym (reverse_more item earlier))
    where
      left : (p : Option ℕ) → last_place n earlier ≡ p → bound_if p (reverse earlier) ≡ bound_if p (reverse earlier ++ item ∷ [])
      left None at = refl
      left (Some p) at = ap (bound_of_item) (sym (slice_get-push_other (reverse earlier) item p (λ e. absurd (omega (arith, e, length-reverse earlier, last_below n p earlier at)))))

      by : (b : Bool) → cond b (Some item.bound) (bound_if (last_place n earlier) (reverse earlier)) ≡ bound_if (cond b (Some (length earlier)) (last_place n earlier)) (reverse earlier ++ item ∷ [])
      by true = ap bound_of_item (sym (slice_get-push (reverse earlier) item)) ∙ ap (bound_at (reverse earlier ++ item ∷ [])) (length-reverse earlier)
      by false = left (last_place n earlier) refl

-- a name is bound where the last place of its number is
pub bound_by : (names : List (List ℕ)) (name : List ℕ) (items : List Linked) (last : List (Option ℕ)) (n : ℕ) (p : Option ℕ) → AreLinked names (reverse items)
    → ((k : ℕ) → get_or last k None ≡ last_place k (reverse items)) → place_in names name ≡ Some n → p ≡ get_or last n None → bound_as (bound_in items) name ≡ bound_if p items
bound_by names name items last n p linked is place at =
    ap (λ (xs : List Linked). bound_as (bound_in xs) name) (sym (reverse-reverse items))
    ∙ bound_last names name n (reverse items) place linked
    ∙ ap (λ (q : Option ℕ). bound_if q (reverse (reverse items))) (sym (at ∙ is n))
    ∙ ap (bound_if p) (reverse-reverse items)

-- bindings stay linked where names keep their places
pub linked_kept : (names more : List (List ℕ)) (items : List Linked) → KeepPlaces names more → AreLinked names items → AreLinked more items
linked_kept names more [] kept linked = tt
linked_kept names more (item ∷ earlier) kept linked = (kept item.bound.name item.number linked.0, linked.1, linked_kept names more earlier kept linked.2)

-- The last places.
there : (xs : List (Option ℕ)) (n place : ℕ) → get_or xs n None ≡ Some place → n < length xs
there [] n place e = absurd (none-some place e)
there (x ∷ xs) zero place e = omega arith
there (x ∷ xs) (suc n) place e = omega (arith, there xs n place e)

module _ (last more : List (Option ℕ)) (item : Linked) (items : List Linked) where
  -- of a binding more
  pub last_pushed : ((n : ℕ) → get_or last n None ≡ last_place n items) → item.number < length last → more ≡ set last item.number (Some (length items)) → (n : ℕ) → get_or more n None ≡ last_place n (item ∷ items)
  last_pushed is within all n = ap (λ (xs : List (Option ℕ)). get_or xs n None) all ∙ by (item.number == n) (Decides-eqb item.number n)
    where
      by : (b : Bool) → (b ≡ true → item.number ≡ n) × (item.number ≡ n → b ≡ true) → get_or (set last item.number (Some (length items))) n None ≡ cond b (Some (length items)) (last_place n items)
      by true d = ap (λ (m : ℕ). get_or (set last item.number (Some (length items))) m None) (sym (d.0 refl)) ∙ get_or-set_same last item.number (Some (length items)) None within
      by false d = get_or-set_other last item.number n (Some (length items)) None (λ e. absurd (none-true (d.1 (sym e)))) ∙ is n

  -- of a binding less
  pub last_popped : (names : List (List ℕ)) → ((n : ℕ) → get_or last n None ≡ last_place n (item ∷ items)) → AreLinked names (item ∷ items) → more ≡ set last item.number item.earlier → (n : ℕ) → get_or more n None ≡ last_place n items
  last_popped names is linked all n = ap (λ (xs : List (Option ℕ)). get_or xs n None) all ∙ by (item.number == n) (Decides-eqb item.number n) (is n)
    where
      within : item.number < length last
      within = there last item.number (length items) (is item.number ∙ ap (λ (b : Bool). cond b (Some (length items)) (last_place item.number items)) ((Decides-eqb item.number item.number).1 refl))

      by : (b : Bool) → (b ≡ true → item.number ≡ n) × (item.number ≡ n → b ≡ true) → get_or last n None ≡ cond b (Some (length items)) (last_place n items) → get_or (set last item.number item.earlier) n None ≡ last_place n items
      by true d was = ap (λ (m : ℕ). get_or (set last item.number item.earlier) m None) (sym (d.0 refl)) ∙ get_or-set_same last item.number item.earlier None within ∙ linked.1 ∙ ap (λ (m : ℕ). last_place m items) (d.0 refl)
      by false d was = get_or-set_other last item.number n item.earlier None (λ e. absurd (none-true (d.1 (sym e)))) ∙ was
