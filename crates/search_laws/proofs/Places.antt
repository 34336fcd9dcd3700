-- Elements and their places.
use Rattle.std.proofs.Common.{◌≡◌, ℕ, zero, suc, ◌<◌, ◌⊎◌, List, [], ◌∷◌, ◌++◌, length, map, slice_get, Option, Some}
use Rattle.std.proofs.Common.{None, All, Contains, refl, sym, ap, ap₂, subst, ◌∙◌, inl, inr, ⊎_elim, arith}
use Rattle.std.specs.List.{filter_map, cons_option}
use Rattle.std.proofs.lemmas.Option.{none-some, same_Some}
use Rattle.std.proofs.lemmas.List.Elements.{All-contains, Contains-push_cases, Contains-append_cases}
use Rattle.std.proofs.lemmas.List.Elements.{Contains-append_right}

module _ {X : Type 0} where
  -- nothing is an element of the empty list
  pub contains_none : {P : Type 0} (x : X) → Contains [] x → P
  contains_none x c = absurd (omega (arith, c.1))

  -- the first element
  pub contains_head : (x : X) (xs : List X) → Contains (x ∷ xs) x
  contains_head x xs = (0, omega arith, refl)

  -- a later element
  pub contains_later : (y x : X) (xs : List X) → Contains xs x → Contains (y ∷ xs) x
  contains_later y x xs c = Contains-append_right (y ∷ []) xs x c

  -- the element at a place
  pub contains_at : (xs : List X) (k : ℕ) (x : X) → slice_get xs k ≡ Some x → Contains xs x
  contains_at [] k x e = absurd (none-some x e)
  contains_at (y ∷ xs) zero x e = subst (Contains (y ∷ xs)) (same_Some y x e) (contains_head y xs)
  contains_at (y ∷ xs) (suc k) x e = contains_later y x xs (contains_at xs k x e)

  -- an element keeps its place when more come
  pub at_front : (xs ys : List X) (k : ℕ) (x : X) → slice_get xs k ≡ Some x → slice_get (xs ++ ys) k ≡ Some x
  at_front [] ys k x e = absurd (none-some x e)
  at_front (y ∷ xs) ys zero x e = e
  at_front (y ∷ xs) ys (suc k) x e = at_front xs ys k x e

  -- an element is the first or one of the others
  pub contains_cases : (y x : X) (xs : List X) → Contains (y ∷ xs) x → (y ≡ x) ⊎ Contains xs x
  contains_cases y x xs c = ⊎_elim
      (λ one. ⊎_elim (λ none. absurd (omega (arith, none.1))) inl (Contains-push_cases [] y x one)) inr
      (Contains-append_cases (y ∷ []) xs x c)

  -- an element has a place
  pub place_of : (xs : List X) (x : X) → Contains xs x → (k : ℕ) × (slice_get xs k ≡ Some x)
  place_of [] x c = absurd (omega (arith, c.1))
  place_of (y ∷ xs) x c = ⊎_elim (λ e. (0, ap Some e)) (λ later. let h = place_of xs x later in (suc h.0, h.1))
      (contains_cases y x xs c)

  -- below the length something stands
  pub stands_below : (xs : List X) (k : ℕ) → k < length xs → (x : X) × (slice_get xs k ≡ Some x)
  stands_below [] k less = absurd (omega arith)
  stands_below (y ∷ xs) zero less = (y, refl)
  stands_below (y ∷ xs) (suc k) less = stands_below xs k (omega arith)

  -- the one element of a list
  pub contains_one : (P : X → Type 0) (alone x : X) → P alone → Contains (alone ∷ []) x → P x
  contains_one P alone x here c = ⊎_elim (λ e. subst P e here) (contains_none x) (contains_cases alone x [] c)

  -- what holds of all elements of a list of two
  pub two_all : (P : X → Type 0) (x y : X) → All P (x ∷ y ∷ []) → P x × P y
  two_all P x y all = (
    All-contains P (x ∷ y ∷ []) x all (contains_head x (y ∷ [])),
    All-contains P (x ∷ y ∷ []) y all (contains_later x y (y ∷ []) (contains_head y [])),
  )

  -- a property of all elements stays with one more
  pub with_one : (P : X → Type 0) (xs : List X) (y : X) → ((x : X) → Contains xs x → P x) → P y → (x : X) →
      Contains (xs ++ y ∷ []) x → P x
  with_one P xs y old here x c = ⊎_elim (old x) (λ e. subst P e here) (Contains-push_cases xs y x c)

  -- and with some more
  pub with_more : (P : X → Type 0) (xs ys : List X) → ((x : X) → Contains xs x → P x) →
      ((x : X) → Contains ys x → P x) → (x : X) → Contains (xs ++ ys) x → P x
  with_more P xs ys old here x c = ⊎_elim (old x) (here x) (Contains-append_cases xs ys x c)

  -- each element has the one property, or some element has the other
  pub each_or_some : (P Q : X → Type 0) (xs : List X) → ((x : X) → Contains xs x → P x ⊎ Q x) →
      ((x : X) → Contains xs x → P x) ⊎ ((x : X) × Contains xs x × Q x)
  each_or_some P Q [] h = inl (λ x c. absurd (omega (arith, c.1)))
  each_or_some P Q (y ∷ xs) h = ⊎_elim
      (λ here. ⊎_elim
      (λ all. inl (λ x c. ⊎_elim (λ e. subst P e here) (all x) (contains_cases y x xs c)))
      (λ one. inr (one.0, contains_later y one.0 xs one.1, one.2))
      (each_or_some P Q xs (λ x c. h x (contains_later y x xs c))))
      (λ not. inr (y, contains_head y xs, not))
      (h y (contains_head y xs))

module _ {Y : Type 0} where
  -- an element of a list is one with perhaps one more before it
  skip : (o : Option Y) (ys : List Y) (y : Y) → Contains ys y → Contains (cons_option o ys) y
  skip None ys y d = d
  skip (Some w) ys y d = contains_later w y ys d

  -- the first that is kept, or a later one
  kept_cases : (o : Option Y) (ys : List Y) (y : Y) → Contains (cons_option o ys) y → (o ≡ Some y) ⊎ Contains ys y
  kept_cases None ys y c = inr c
  kept_cases (Some w) ys y c = ⊎_elim (λ e. inl (ap Some e)) inr (contains_cases w y ys c)

module _ {X Y : Type 0} where
  -- functions that agree on the elements of a list map it alike
  pub map_agree : (f g : X → Y) (xs : List X) → ((x : X) → Contains xs x → f x ≡ g x) → map f xs ≡ map g xs
  map_agree f g [] agree = refl
  map_agree f g (x ∷ xs) agree = ap₂ (λ y ys. y ∷ ys) (agree x (contains_head x xs))
      (map_agree f g xs (λ z c. agree z (contains_later x z xs c)))

  -- what an element is mapped to stands in the list that is mapped
  pub map_keeps : (f : X → Y) (xs : List X) (x : X) → Contains xs x → Contains (map f xs) (f x)
  map_keeps f [] x c = contains_none x c
  map_keeps f (z ∷ xs) x c = ⊎_elim
      (λ e. subst (λ w. Contains (f z ∷ map f xs) (f w)) e (contains_head (f z) (map f xs)))
      (λ later. contains_later (f z) (f x) (map f xs) (map_keeps f xs x later))
      (contains_cases z x xs c)

  -- and all that stands there is what an element is mapped to
  pub map_from : (f : X → Y) (xs : List X) (y : Y) → Contains (map f xs) y → (x : X) × Contains xs x × (f x ≡ y)
  map_from f [] y c = contains_none y c
  map_from f (z ∷ xs) y c = ⊎_elim
      (λ e. (z, contains_head z xs, e))
      (λ later. let h = map_from f xs y later in (h.0, contains_later z h.0 xs h.1, h.2))
      (contains_cases (f z) y (map f xs) c)

  -- so for a map that keeps some
  pub filter_map_keeps : (h : X → Option Y) (xs : List X) (x : X) (y : Y) → Contains xs x → h x ≡ Some y →
      Contains (filter_map h xs) y
  filter_map_keeps h [] x y c e = contains_none x c
  filter_map_keeps h (z ∷ xs) x y c e = ⊎_elim
      (λ same. subst (λ o. Contains (cons_option o (filter_map h xs)) y) (sym (ap h same ∙ e))
      (contains_head y (filter_map h xs)))
      (λ later. skip (h z) (filter_map h xs) y (filter_map_keeps h xs x y later e))
      (contains_cases z x xs c)

  pub filter_map_from : (h : X → Option Y) (xs : List X) (y : Y) → Contains (filter_map h xs) y →
      (x : X) × Contains xs x × (h x ≡ Some y)
  filter_map_from h [] y c = contains_none y c
  filter_map_from h (z ∷ xs) y c = ⊎_elim
      (λ e. (z, contains_head z xs, e))
      (λ later. let k = filter_map_from h xs y later in (k.0, contains_later z k.0 xs k.1, k.2))
      (kept_cases (h z) (filter_map h xs) y c)
