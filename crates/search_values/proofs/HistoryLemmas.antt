-- What going back to a mark gives.
use Rattle.std.proofs.Common.{◌-◌, zero, suc, ◌≡◌, ◌≤◌, ◌<◌, ℕ, Bool, false, List, [], ◌∷◌, ◌++◌, length, drop, take, slice_set, slice_index_or, refl, sym, ◌∙◌, ap, arith, length-append}
use Rattle.std.proofs.lemmas.List.{drop-append-le, length-take, take-append-drop}
use Rattle.graph_trail.specs.Undo.{state_before}
use Rattle.search_board.specs.declared.change.Change.{Change}
use Rattle.search_board.specs.declared.change.Change.TheVariants.{Entered, Valued, Asserted, Told}
use Rattle.formula_truth.specs.declared.truth.Truth.{Truth}
use Rattle.formula_truth.specs.declared.truth.Truth.TheVariants.{Unset}
use Rattle.search_board.specs.declared.kind.Kind.{Kind}
use Rattle.search_board.specs.declared.place.Place.{Place}
use Rattle.search_board.specs.Board.{AreAligned, Shown, asserted_at, blank, place_at, places_at, truth_at, with_asserted, with_node, with_place, with_truth}
use Rattle.search_board.specs.Undo.{before_change}
use Rattle.search_values.specs.declared.noted.Noted.{Noted}
use Rattle.search_values.specs.History.{now, notes, board_at, KeepsHistory}

-- undoing a list of changes and then those before it
pub state_before-append : (earlier later : List Change) (s : Shown) → state_before before_change (earlier ++ later) s ≡ state_before before_change earlier (state_before before_change later s)
state_before-append [] later s = refl
state_before-append (change ∷ earlier) later s = ap (λ r. before_change r change) (state_before-append earlier later s)

pub same_history : (old new : Noted) → notes new ≡ notes old → now new ≡ now old → KeepsHistory old new
same_history old new same_notes same_now = record {
  longer = rw same_notes (omega arith);
  at = λ mark h. ap (λ ns. state_before before_change (drop mark ns) (now new)) same_notes ∙ ap (state_before before_change (drop mark (notes old))) same_now;
}

pub one_more : (old new : Noted) (change : Change) → notes new ≡ notes old ++ change ∷ [] → before_change (now new) change ≡ now old → KeepsHistory old new
one_more old new change more undone = record {
  longer = rw more (omega (arith, length-append (notes old) (change ∷ [])));
  at = λ mark h. ap (λ ns. state_before before_change (drop mark ns) (now new)) more
      ∙ ap (λ ns. state_before before_change ns (now new)) (drop-append-le mark (notes old) (change ∷ []) h)
      ∙ state_before-append (drop mark (notes old)) (change ∷ []) (now new)
      ∙ ap (state_before before_change (drop mark (notes old))) undone;
}

pub history_trans : (a b c : Noted) → KeepsHistory a b → KeepsHistory b c → KeepsHistory a c
history_trans a b c first second = record {
  longer = omega (arith, first.longer, second.longer);
  at = λ mark h. second.at mark (omega (arith, first.longer)) ∙ first.at mark h;
}

pub history_none : (a : Noted) → KeepsHistory a a
history_none a = same_history a a refl refl

-- ---- each change is undone by its note

pub set-back : {A : Type 0} (xs : List A) (i : ℕ) (x d : A) → slice_set (slice_set xs i x) i (slice_index_or xs i d) ≡ xs
set-back [] i x d = refl
set-back (y ∷ ys) zero x d = refl
set-back (y ∷ ys) (suc i) x d = ap (λ zs. y ∷ zs) (set-back ys i x d)

pub set-set : {A : Type 0} (xs : List A) (i : ℕ) (x y : A) → slice_set (slice_set xs i x) i y ≡ slice_set xs i y
set-set [] i x y = refl
set-set (z ∷ zs) zero x y = refl
set-set (z ∷ zs) (suc i) x y = ap (λ ws. z ∷ ws) (set-set zs i x y)

pub set-same : {A : Type 0} (xs : List A) (i : ℕ) (d : A) → slice_set xs i (slice_index_or xs i d) ≡ xs
set-same [] i d = refl
set-same (z ∷ zs) zero d = refl
set-same (z ∷ zs) (suc i) d = ap (λ ws. z ∷ ws) (set-same zs i d)

pub truth_undone : (s : Shown) (n : ℕ) (truth old : Truth) → old ≡ truth_at s n → before_change (with_truth s n truth) (Valued n old) ≡ s
truth_undone s n truth old is = ap (λ ts. record s { truths = ts }) (ap (slice_set (slice_set s.truths n truth) n) is ∙ set-back s.truths n truth Unset)

pub asserted_undone : (s : Shown) (n : ℕ) (asserted old : Bool) → old ≡ asserted_at s n → before_change (with_asserted s n asserted) (Asserted n old) ≡ s
asserted_undone s n asserted old is = ap (λ ts. record s { asserted = ts }) (ap (slice_set (slice_set s.asserted n asserted) n) is ∙ set-back s.asserted n asserted false)

get-set_same : {A : Type 0} (xs : List A) (i : ℕ) (y d : A) → i < length xs → slice_index_or (slice_set xs i y) i d ≡ y
get-set_same [] i y d h = absurd (omega arith)
get-set_same (x ∷ xs) zero y d h = refl
get-set_same (x ∷ xs) (suc i) y d h = get-set_same xs i y d (omega arith)

-- a node with a place stands
pub list_within : {A : Type 0} (xs : List (List A)) (n i : ℕ) → i < length (slice_index_or xs n []) → n < length xs
list_within [] n i h = absurd (omega arith)
list_within (x ∷ xs) zero i h = omega arith
list_within (x ∷ xs) (suc n) i h = omega (arith, list_within xs n i h)

pub place_undone : (s : Shown) (n i : ℕ) (place old : Place) → n < length s.places → old ≡ place_at s n i → before_change (with_place s n i place) (Told n i old) ≡ s
place_undone s n i place old within is =
    let list = places_at s n in
    let new = slice_set list i place in
    ap (λ ls. record s { places = ls })
    (ap (λ xs. slice_set (slice_set s.places n new) n (slice_set xs i old)) (get-set_same s.places n new [] within)
    ∙ set-set s.places n new (slice_set new i old)
    ∙ ap (λ xs. slice_set s.places n xs) (ap (slice_set new i) is ∙ set-back list i place blank)
    ∙ set-same s.places n [])

-- ---- going back to a mark

drop_split : (ns : List Change) (m mark : ℕ) → m ≤ mark → mark ≤ length ns → drop m (take mark ns) ++ drop mark ns ≡ drop m ns
drop_split ns m mark low high =
    let within : m ≤ length (take mark ns) = omega (arith, length-take mark ns) in
    sym (drop-append-le m (take mark ns) (drop mark ns) within) ∙ ap (drop m) (take-append-drop mark ns)

-- the marks up to the one that was gone back to give what they gave
pub board_at_back : (mid new : Noted) (mark m : ℕ) → m ≤ mark → mark ≤ length (notes mid) → notes new ≡ take mark (notes mid) → now new ≡ board_at mid mark → board_at new m ≡ board_at mid m
board_at_back mid new mark m low high kept gives =
    ap (λ ns. state_before before_change (drop m ns) (now new)) kept
    ∙ ap (state_before before_change (drop m (take mark (notes mid)))) gives
    ∙ sym (state_before-append (drop m (take mark (notes mid))) (drop mark (notes mid)) (now mid))
    ∙ ap (λ ns. state_before before_change ns (now mid)) (drop_split (notes mid) m mark low high)

take_front : {A : Type 0} (xs : List A) (x : A) (n : ℕ) → n ≡ length xs → take n (xs ++ x ∷ []) ≡ xs
take_front [] x zero e = refl
take_front [] x (suc n) e = absurd (omega arith)
take_front (y ∷ ys) x zero e = absurd (omega arith)
take_front (y ∷ ys) x (suc n) e = ap (λ zs. y ∷ zs) (take_front ys x n (omega arith))

pub node_undone : (s : Shown) (kind : Kind) (truth : Truth) (places : List Place) → AreAligned s → before_change (with_node s kind truth places) Entered ≡ s
node_undone s kind truth places aligned =
    let n : length (s.kinds ++ kind ∷ []) - 1 ≡ length s.kinds = omega (arith, length-append s.kinds (kind ∷ [])) in
    same _ _ _ _ _ _ _ _ (take_front s.kinds kind _ n) (take_front s.truths truth _ (n ∙ sym aligned.truths)) (take_front s.asserted false _ (n ∙ sym aligned.asserted)) (take_front s.places places _ (n ∙ sym aligned.places))
  where
    same : (a b : List Kind) (c d : List Truth) (e f : List Bool) (g h : List (List Place)) → a ≡ b → c ≡ d → e ≡ f → g ≡ h
        → (let one : Shown = record { kinds = a; truths = c; asserted = e; places = g } in let two : Shown = record { kinds = b; truths = d; asserted = f; places = h } in one ≡ two)
    same a b c d e f g h p q r s = cc
