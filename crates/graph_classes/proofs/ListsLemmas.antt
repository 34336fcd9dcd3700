-- What a map of lists shows after a change of one list.
use Rattle.std.proofs.Common.{◌≡◌, ◌≢◌, ◌≤◌, ◌⊎◌, inl, inr, ℕ, List, [], ◌∷◌, length, take, drop, insert, remove, Option, Some, None, Result, Ok, Err, OnErr, IfOk, Bool, true, false, if◌then◌else◌, Contains, refl, sym, ◌∙◌, ap, subst, arith, true≢false, zero, suc}
use Rattle.std.specs.Map.{lookup}
use Rattle.std.proofs.Math.Path.{fun_ext}
use Rattle.std.proofs.lemmas.Grind.{common_steps}
use Rattle.std.proofs.lemmas.List.{take-append-drop}
use Rattle.std.proofs.lemmas.List.Elements.{Contains-append_left, Contains-append_right, Contains-append_cases}
use Rattle.graph_classes.specs.declared.place.Place.{Place}
use Rattle.graph_classes.specs.declared.place.Place.TheVariants.{Symbol, Member, Parent}
use Rattle.graph_classes.specs.declared.change.Change.TheVariants.{Listed}
use Rattle.graph_classes.specs.contracts.place.PlacePartialEq.TheImpl as place_eq
use Rattle.graph_classes.specs.Rising.{Enters}
use Rattle.graph_classes.specs.Lists.{same_place, with_list, EntersAt}
use Rattle.graph_classes.specs.Shown.{list_or_none, lists_in}
use Rattle.graph_classes.specs.State.{State, before_change}
use Rattle.graph_classes.specs.Listed.{IsListing}
use Rattle.graph_classes.proofs.Elements.{contains_first, contains_later, contains_cases}

-- ---- places

same_true : (p q : Place) → same_place p q ≡ true → p ≡ q
same_true (Symbol f) (Symbol g) e = grind arith
same_true (Symbol f) (Member m g) e = absurd (true≢false (sym e))
same_true (Symbol f) (Parent m g j) e = absurd (true≢false (sym e))
same_true (Member l f) (Symbol g) e = absurd (true≢false (sym e))
same_true (Member l f) (Member m g) e = grind arith
same_true (Member l f) (Parent m g j) e = absurd (true≢false (sym e))
same_true (Parent l f i) (Symbol g) e = absurd (true≢false (sym e))
same_true (Parent l f i) (Member m g) e = absurd (true≢false (sym e))
same_true (Parent l f i) (Parent m g j) e = grind arith

same_itself : (p : Place) → same_place p p ≡ true
same_itself (Symbol f) = grind arith
same_itself (Member l f) = grind arith
same_itself (Parent l f i) = grind arith

-- two places are one, or apart
pub same_place_tells : (p q : Place) → ((same_place p q ≡ true) × (p ≡ q)) ⊎ ((same_place p q ≡ false) × (p ≢ q))
same_place_tells p q = elim (same_place p q) as (λ b. same_place p q ≡ b → ((same_place p q ≡ true) × (p ≡ q)) ⊎ ((same_place p q ≡ false) × (p ≢ q))) [
  | true ↦ λ e. inl (e, same_true p q e)
  | false ↦ λ e. inr (e, λ same. true≢false (sym (same_itself p) ∙ ap (same_place p) same ∙ e))
] refl

-- ---- one list in place of another

pub with_list-at : (lists : Place → List ℕ) (place : Place) (list : List ℕ) → with_list lists place list place ≡ list
with_list-at lists place list = ap (λ b. if b then list else lists place) (same_itself place)

pub with_list-other : (lists : Place → List ℕ) (place other : Place) (list : List ℕ) → place ≢ other → with_list lists place list other ≡ lists other
with_list-other lists place other list apart = elim (same_place_tells place other) [
  | inl same ↦ absurd (apart same.1)
  | inr differs ↦ ap (λ b. if b then list else lists other) differs.0
]

pub with_list-same : (lists : Place → List ℕ) (place : Place) (list : List ℕ) → list ≡ lists place → with_list lists place list ≡ lists
with_list-same lists place list same = fun_ext (λ q. elim (same_place_tells place q) [
  | inl one ↦ ap (λ b. if b then list else lists q) one.0 ∙ same ∙ ap lists one.1
  | inr apart ↦ ap (λ b. if b then list else lists q) apart.0
])

twice : (b : Bool) (first second other : List ℕ) → (if b then second else (if b then first else other)) ≡ (if b then second else other)
twice true first second other = refl
twice false first second other = refl

-- a list that is written twice
pub with_list-twice : (lists : Place → List ℕ) (place : Place) (first second : List ℕ) → with_list (with_list lists place first) place second ≡ with_list lists place second
with_list-twice lists place first second = fun_ext (λ q. twice (same_place place q) first second (lists q))

-- ---- the map

choice : (b : Bool) (list other : Option (List ℕ)) → list_or_none (if b then list else other) ≡ (if b then list_or_none list else list_or_none other)
choice true list other = refl
choice false list other = refl

-- whether places are equal, as the map has it
abbrev pub is_equal : Place → Place → Bool
is_equal p q = (place_eq.eq-value).it p q

is_equal_is : (p q : Place) → is_equal p q ≡ same_place p q
is_equal_is (Symbol f) (Symbol g) = refl
is_equal_is (Symbol f) (Member m g) = refl
is_equal_is (Symbol f) (Parent m g j) = refl
is_equal_is (Member l f) (Symbol g) = refl
is_equal_is (Member l f) (Member m g) = refl
is_equal_is (Member l f) (Parent m g j) = refl
is_equal_is (Parent l f i) (Symbol g) = refl
is_equal_is (Parent l f i) (Member m g) = refl
is_equal_is (Parent l f i) (Parent m g j) = refl

lookup_is : (es : List (Place × List ℕ)) (place : Place) → lookup (is_equal place) es ≡ lookup (same_place place) es
lookup_is es place = ap (λ (test : Place → Bool). lookup test es) (fun_ext (λ q. is_equal_is place q))

-- the look-ups after a write tell the lists
pub lists_after : (es fs : List (Place × List ℕ)) (place : Place) (list : Option (List ℕ)) → ((q : Place) → lookup (is_equal q) fs ≡ (if is_equal place q then list else lookup (is_equal q) es))
    → lists_in fs ≡ with_list (lists_in es) place (list_or_none list)
lists_after es fs place list h = fun_ext (λ q. ap list_or_none (sym (lookup_is fs q) ∙ h q ∙ ap (λ b. if b then list else lookup (is_equal q) es) (is_equal_is place q) ∙ ap (λ o. if same_place place q then list else o) (lookup_is es q)) ∙ choice (same_place place q) list (lookup (same_place q) es))

pub list_at_some : (es : List (Place × List ℕ)) (place : Place) (list : Option (List ℕ)) → lookup (is_equal place) es ≡ list → lists_in es place ≡ list_or_none list
list_at_some es place list h = ap list_or_none (sym (lookup_is es place) ∙ h)

pub remove_none : (at : ℕ) → remove {X = ℕ} [] at ≡ []
remove_none at = grind (arith, common_steps)

-- a term that was entered into the list at a place
pub entered : (old new : Place → List ℕ) (place : Place) (term : ℕ) (list grown : List ℕ) (at : Option ℕ) → old place ≡ list → new ≡ with_list old place grown → Enters list grown term at → EntersAt old new place term at
entered old new place term list grown (Some i) is_list is_new enters =
    let P : List ℕ → Type 0 = λ xs. i ≤ length xs in
    (subst P (sym is_list) enters.0, is_new ∙ ap (with_list old place) (enters.1 ∙ ap (λ xs. insert xs i term) (sym is_list)))
entered old new place term list grown None is_list is_new enters =
    let P : List ℕ → Type 0 = λ xs. Contains xs term in
    (is_new ∙ with_list-same old place grown (enters.0 ∙ sym is_list), subst P (sym is_list) enters.1)

pub entered_if : {E : Type 0} (r : Result (Option ℕ) E) (old new : Place → List ℕ) (place : Place) (term : ℕ) (list grown : List ℕ) → old place ≡ list → new ≡ with_list old place grown → IfOk r (λ at. Enters list grown term at) → IfOk r (λ at. EntersAt old new place term at)
entered_if (Ok at) old new place term list grown is_list is_new enters = entered old new place term list grown at is_list is_new enters
entered_if (Err e) old new place term list grown is_list is_new enters = tt

pub kept_if : {E : Type 0} (r : Result (Option ℕ) E) (old new : Place → List ℕ) (place : Place) (list grown : List ℕ) → old place ≡ list → new ≡ with_list old place grown → OnErr r (grown ≡ list) → OnErr r (new ≡ old)
kept_if (Ok at) old new place list grown is_list is_new same = tt
kept_if (Err e) old new place list grown is_list is_new same = is_new ∙ with_list-same old place grown (same ∙ sym is_list)

-- ---- a list that is entered, and undone

insert_keeps : (xs : List ℕ) (i t u : ℕ) → Contains xs u → Contains (insert xs i t) u
insert_keeps xs i t u c =
    let P : List ℕ → Type 0 = λ ys. Contains ys u in
    elim (Contains-append_cases (take i xs) (drop i xs) u (subst P (sym (take-append-drop i xs)) c)) [
      | inl low ↦ Contains-append_left (take i xs) (t ∷ drop i xs) u low
      | inr high ↦ Contains-append_right (take i xs) (t ∷ drop i xs) u (contains_later t (drop i xs) u high)
    ]

insert_has : (xs : List ℕ) (i t : ℕ) → Contains (insert xs i t) t
insert_has xs i t = Contains-append_right (take i xs) (t ∷ drop i xs) t (contains_first t (drop i xs))

insert_cases : (xs : List ℕ) (i t u : ℕ) → Contains (insert xs i t) u → Contains xs u ⊎ (u ≡ t)
insert_cases xs i t u c =
    let P : List ℕ → Type 0 = λ ys. Contains ys u in
    elim (Contains-append_cases (take i xs) (t ∷ drop i xs) u c) [
      | inl low ↦ inl (subst P (take-append-drop i xs) (Contains-append_left (take i xs) (drop i xs) u low))
      | inr high ↦ elim (contains_cases t (drop i xs) u high) [
        | inl first ↦ inr first
        | inr later ↦ inl (subst P (take-append-drop i xs) (Contains-append_right (take i xs) (drop i xs) u later))
      ]
    ]

remove-insert : (xs : List ℕ) (i t : ℕ) → i ≤ length xs → remove (insert xs i t) i ≡ xs
remove-insert [] zero t h = refl
remove-insert [] (suc i) t h = absurd (omega arith)
remove-insert (x ∷ xs) zero t h = refl
remove-insert (x ∷ xs) (suc i) t h = ap (λ ys. x ∷ ys) (remove-insert xs i t (omega arith))

-- the note of an entry undoes it
pub entry_undone : (s : State) (place : Place) (term i : ℕ) → i ≤ length (s.lists place) → before_change (record s { lists = with_list s.lists place (insert (s.lists place) i term) }) (Listed place i) ≡ s
entry_undone s place term i h =
    ap (λ ls. record s { lists = ls }) (
    ap (λ xs. with_list (with_list s.lists place (insert (s.lists place) i term)) place (remove xs i)) (with_list-at s.lists place (insert (s.lists place) i term))
    ∙ with_list-twice s.lists place (insert (s.lists place) i term) (remove (insert (s.lists place) i term) i)
    ∙ with_list-same s.lists place (remove (insert (s.lists place) i term) i) (remove-insert (s.lists place) i term h)
    )

pub IsListing-entered : (s new : State) (place : Place) (term i : ℕ) → new ≡ record s { lists = with_list s.lists place (insert (s.lists place) i term) } → IsListing s new place term
IsListing-entered s new place term i e =
    let P : State → Type 0 = λ m. IsListing s m place term in
    subst P (sym e) (record {
      alone = refl;
      keeps = λ q u c. elim (same_place_tells place q) [
        | inl same ↦ let Q : List ℕ → Type 0 = λ xs. Contains xs u in
            subst Q (sym (ap (with_list s.lists place (insert (s.lists place) i term)) (sym same.1) ∙ with_list-at s.lists place (insert (s.lists place) i term))) (insert_keeps (s.lists place) i term u (subst Q (ap s.lists (sym same.1)) c))
        | inr apart ↦ let Q : List ℕ → Type 0 = λ xs. Contains xs u in subst Q (sym (with_list-other s.lists place q (insert (s.lists place) i term) apart.1)) c
      ];
      sound = λ q u c. elim (same_place_tells place q) [
        | inl same ↦ let Q : List ℕ → Type 0 = λ xs. Contains xs u in
            elim (insert_cases (s.lists place) i term u (subst Q (ap (with_list s.lists place (insert (s.lists place) i term)) (sym same.1) ∙ with_list-at s.lists place (insert (s.lists place) i term)) c)) [
              | inl before ↦ inl (subst Q (ap s.lists same.1) before)
              | inr new ↦ inr (sym same.1, new)
            ]
        | inr apart ↦ let Q : List ℕ → Type 0 = λ xs. Contains xs u in inl (subst Q (with_list-other s.lists place q (insert (s.lists place) i term) apart.1) c)
      ];
      listed = let Q : List ℕ → Type 0 = λ xs. Contains xs term in subst Q (sym (with_list-at s.lists place (insert (s.lists place) i term))) (insert_has (s.lists place) i term);
    })

pub IsListing-there : (s new : State) (place : Place) (term : ℕ) → new ≡ s → Contains (s.lists place) term → IsListing s new place term
IsListing-there s new place term e c =
    let P : State → Type 0 = λ m. IsListing s m place term in
    subst P (sym e) (record { alone = refl; keeps = λ q u h. h; sound = λ q u h. inl h; listed = c })
