-- What stands in a list of operations, and what one more adds.
use Rattle.std.proofs.Common.{◌++◌, refl, ◌≡◌, ℕ, zero, suc, ◌+◌, ◌<◌, List, [], ◌∷◌, length, take, drop, get_or, slice_get, cond, is_some, Option, Some, None, Contains, sym, ap, subst, ◌∙◌, ⊎_elim, arith}
use Rattle.std.specs.List.{filter_map, cons_option}
use Rattle.std.proofs.lemmas.Option.{none-some, same_Some}
use Rattle.std.proofs.lemmas.List.{take_more, take-append-drop, length-append}
use Rattle.std.specs.Option.{option_map}
use Rattle.graph_terms.proofs.ListLaws.{slice_get-append_left, slice_get-push}
use Rattle.std.proofs.lemmas.List.Elements.{Contains-get_or, Contains-append_right, Contains-append_cases, filter_map-append}
use Rattle.graph_meaning.specs.declared.done.Done.{Done}
use Rattle.graph_meaning.specs.Standing.{merged_ends, merges_of}
use Rattle.graph_plain.specs.Labels.{label_of, AreMerged}

module _ {X Y : Type 0} (h : X → Option Y) where
  contains_rest : (o : Option Y) (ys : List Y) (y : Y) → Contains ys y → Contains (cons_option o ys) y
  contains_rest None ys y c = c
  contains_rest (Some z) ys y c = Contains-append_right (z ∷ []) ys y c

  contains_first : (o : Option Y) (ys : List Y) (y : Y) → o ≡ Some y → Contains (cons_option o ys) y
  contains_first None ys y e = absurd (none-some y e)
  contains_first (Some z) ys y e = subst (Contains (z ∷ ys)) (same_Some z y e) (Contains-get_or (z ∷ ys) 0 z (omega arith))

  -- what an element gives is in the list
  pub Contains-filter_map : (xs : List X) (i : ℕ) (x : X) (y : Y) → i < length xs → x ≡ get_or xs i x → h x ≡ Some y → Contains (filter_map h xs) y
  Contains-filter_map [] i x y below at e = absurd (omega arith)
  Contains-filter_map (z ∷ xs) zero x y below at e = contains_first (h z) (filter_map h xs) y (ap h (sym at) ∙ e)
  Contains-filter_map (z ∷ xs) (suc i) x y below at e = contains_rest (h z) (filter_map h xs) y (Contains-filter_map xs i x y (omega arith) at e)

  only : (o : Option Y) (y : Y) → Contains (cons_option o []) y → o ≡ Some y
  only None y c = absurd (omega (arith, c.1))
  only (Some z) y c = by c.0 c.1 c.2
    where
      by : (k : ℕ) → k < 1 → get_or (z ∷ []) k y ≡ y → Some z ≡ Some y
      by zero below e = ap Some e
      by (suc k) below e = absurd (omega arith)

  -- what a longer front gives was there before, or comes from its last element
  pub filter_map_more : (xs : List X) (i : ℕ) (x : X) (y : Y) {P : Type 0} → i < length xs → x ≡ get_or xs i x → Contains (filter_map h (take (i + 1) xs)) y → (Contains (filter_map h (take i xs)) y → P) → (h x ≡ Some y → P) → P
  filter_map_more xs i x y below at c before last =
      let front = ap (filter_map h) (take_more xs i x below) ∙ filter_map-append h (take i xs) (get_or xs i x ∷ []) in
      ⊎_elim before (λ c. last (ap h at ∙ only (h (get_or xs i x)) y c)) (Contains-append_cases _ _ y (subst (λ ys. Contains ys y) front c))

-- one operation more, whose ends have one label where it is an equation
pub AreMerged-more : (standing : List Done) (i : ℕ) (done : Done) (labels : List ℕ) → i < length standing → done ≡ get_or standing i done → AreMerged (merges_of (take i standing)) labels
    → ((s t : ℕ) → merged_ends done ≡ Some (s, t) → label_of labels s ≡ label_of labels t) → AreMerged (merges_of (take (i + 1) standing)) labels
AreMerged-more standing i done labels below at before last s t c = filter_map_more merged_ends standing i done (s, t) below at c (before s t) (last s t)

-- an equation that stands is among the equations
pub Contains-merge : (standing : List Done) (i : ℕ) (done : Done) (ends : ℕ × ℕ) (read : Option (ℕ × ℕ)) → i < length standing → done ≡ get_or standing i done → read ≡ merged_ends done → read ≡ Some ends → Contains (merges_of standing) ends
Contains-merge standing i done ends read below at is some = Contains-filter_map merged_ends standing i done ends below at (sym is ∙ some)

module _ {X Y : Type 0} (h : X → Option Y) (xs : List X) (i : ℕ) (x : X) (below : i < length xs) (at : x ≡ get_or xs i x) where
  -- what a longer front gives
  pub filter_map-take_more : filter_map h (take (i + 1) xs) ≡ filter_map h (take i xs) ++ cons_option (h x) []
  filter_map-take_more =
      ap (filter_map h) (take_more xs i x below) ∙ filter_map-append h (take i xs) (get_or xs i x ∷ []) ∙ ap (λ o. filter_map h (take i xs) ++ cons_option o []) (ap h (sym at))

  -- one more, or none, as it is read
  pub length-take_more : {B : Type 0} (read : Option B) (f : B → Y) → option_map f read ≡ h x → length (filter_map h (take (i + 1) xs)) ≡ length (filter_map h (take i xs)) + cond (is_some read) 1 0
  length-take_more {B = B} read f is =
      ap length filter_map-take_more ∙ length-append (filter_map h (take i xs)) (cons_option (h x) [])
      ∙ ap (λ n. length (filter_map h (take i xs)) + n) (ap (λ o. length (cons_option o [])) (sym is) ∙ count read)
    where
      count : (r : Option B) → length (cons_option (option_map f r) []) ≡ cond (is_some r) 1 0
      count None = refl
      count (Some b) = refl

  -- what it gives stands after what those before it give
  pub slice_get-filter_map : (y : Y) → h x ≡ Some y → slice_get (filter_map h xs) (length (filter_map h (take i xs))) ≡ Some y
  slice_get-filter_map y is =
      let front : filter_map h (take (i + 1) xs) ≡ filter_map h (take i xs) ++ y ∷ [] = filter_map-take_more ∙ ap (λ o. filter_map h (take i xs) ++ cons_option o []) is in
      let whole : filter_map h xs ≡ filter_map h (take (i + 1) xs) ++ filter_map h (drop (i + 1) xs) = ap (filter_map h) (sym (take-append-drop (i + 1) xs)) ∙ filter_map-append h (take (i + 1) xs) (drop (i + 1) xs) in
      subst (λ ys. slice_get ys (length (filter_map h (take i xs))) ≡ Some y) (sym (whole ∙ ap (λ ys. ys ++ filter_map h (drop (i + 1) xs)) front))
      (slice_get-append_left (filter_map h (take i xs) ++ y ∷ []) (filter_map h (drop (i + 1) xs)) _ y (slice_get-push (filter_map h (take i xs)) y))
