-- The ends of differences by number.
use Rattle.std.proofs.Common.{zero, suc, ◌≡◌, ◌<◌, ◌+◌, ℕ, List, [], ◌∷◌, ◌++◌, length, take, slice_get, slice_index_or, Some, Contains, ◌∙◌, ap, subst, arith}
use Rattle.std.proofs.lemmas.List.{take_more, length-take, length-take-le, take-append-drop}
use Rattle.std.proofs.lemmas.List.{get_or-take}
use Rattle.std.proofs.lemmas.List.Elements.{Contains-append_left, Contains-get_or}
use Rattle.graph_meaning.specs.Lawful.{EndsBelow}
use Rattle.search_watch.specs.Evaluate.{AreDiffers}
use Rattle.search_watch.specs.Service.{ends_from}

later : (x y : ℕ × ℕ) (xs : List (ℕ × ℕ)) → Contains xs y → Contains (x ∷ xs) y
later x y xs (k, lt, e) = (suc k, omega (arith, lt), e)

here : (x y : ℕ × ℕ) (xs : List (ℕ × ℕ)) → x ≡ y → Contains (x ∷ xs) y
here x y xs e = (0, omega arith, e)

-- the ends of each difference are among them
pub tells_from : (from : ℕ) (differs : List (ℕ × ℕ)) (d a b : ℕ) → slice_get differs d ≡ Some (a, b) → Contains (ends_from from differs) (from + d, a) × Contains (ends_from from differs) (from + d, b)
tells_from from [] d a b e = cc
tells_from from (x ∷ xs) zero a b e =
    let rest = ends_from (from + 1) xs in
    let same : from ≡ from + 0 = omega arith in
    let is : x ≡ (a, b) = cc in
    let one = ap (λ (n : ℕ). (n, x.0)) same ∙ ap (λ (pair : ℕ × ℕ). (from + 0, pair.0)) is in
    let other = ap (λ (n : ℕ). (n, x.1)) same ∙ ap (λ (pair : ℕ × ℕ). (from + 0, pair.1)) is in
    (here (from, x.0) (from + 0, a) ((from, x.1) ∷ rest) one, later (from, x.0) (from + 0, b) ((from, x.1) ∷ rest) (here (from, x.1) (from + 0, b) rest other))
tells_from from (x ∷ xs) (suc d) a b e =
    let rest = ends_from (from + 1) xs in
    let both = tells_from (from + 1) xs d a b e in
    let same : (from + 1) + d ≡ from + suc d = omega arith in
    let among : (end : ℕ) → Contains rest ((from + 1) + d, end) → Contains ((from, x.0) ∷ (from, x.1) ∷ rest) (from + suc d, end) =
    λ end on. later (from, x.0) (from + suc d, end) ((from, x.1) ∷ rest) (later (from, x.1) (from + suc d, end) rest (subst (λ (n : ℕ). Contains rest (n, end)) same on)) in
    (among a both.0, among b both.1)

pub tells_ends : (differs : List (ℕ × ℕ)) (d a b : ℕ) → slice_get differs d ≡ Some (a, b) → Contains (ends_from 0 differs) (d, a) × Contains (ends_from 0 differs) (d, b)
tells_ends differs d a b e =
    let both = tells_from 0 differs d a b e in
    let same : 0 + d ≡ d = omega arith in
    (subst (λ (n : ℕ). Contains (ends_from 0 differs) (n, a)) same both.0, subst (λ (n : ℕ). Contains (ends_from 0 differs) (n, b)) same both.1)

ends_push : (from : ℕ) (differs : List (ℕ × ℕ)) (x : ℕ × ℕ) → ends_from from (differs ++ x ∷ []) ≡ ends_from from differs ++ (from + length differs, x.0) ∷ (from + length differs, x.1) ∷ []
ends_push from [] x = let same : from ≡ from + 0 = omega arith in ap (λ (n : ℕ). (n, x.0) ∷ (n, x.1) ∷ []) same
ends_push from (y ∷ ys) x =
    let same : (from + 1) + length ys ≡ from + length (y ∷ ys) = omega arith in
    ap (λ (rest : List (ℕ × ℕ)). (from, y.0) ∷ (from, y.1) ∷ rest) (ends_push (from + 1) ys x ∙ ap (λ (n : ℕ). ends_from (from + 1) ys ++ (n, x.0) ∷ (n, x.1) ∷ []) same)

-- one difference more
pub ends_more : (differs : List (ℕ × ℕ)) (k : ℕ) → k < length differs
    → ends_from 0 (take (k + 1) differs) ≡ ends_from 0 (take k differs) ++ (k, (slice_index_or differs k (0, 0)).0) ∷ (k, (slice_index_or differs k (0, 0)).1) ∷ []
ends_more differs k lt =
    let x = slice_index_or differs k (0, 0) in
    let len = length-take-le k differs (omega arith) in
    let same : 0 + length (take k differs) ≡ k = omega (arith, len) in
    ap (ends_from 0) (take_more differs k (0, 0) lt) ∙ ends_push 0 (take k differs) x ∙ ap (λ (n : ℕ). ends_from 0 (take k differs) ++ (n, x.0) ∷ (n, x.1) ∷ []) same

-- the first ones and all
pub take_got : (n : ℕ) (xs : List (ℕ × ℕ)) (d : ℕ) (x : ℕ × ℕ) → slice_get (take n xs) d ≡ Some x → slice_get xs d ≡ Some x
take_got zero xs d x e = cc
take_got (suc n) [] d x e = cc
take_got (suc n) (y ∷ ys) zero x e = e
take_got (suc n) (y ∷ ys) (suc d) x e = take_got n ys d x e

pub in_take : (n : ℕ) (xs : List (ℕ × ℕ)) (d : ℕ) (x : ℕ × ℕ) → d < n → d < length xs → slice_index_or xs d x ≡ x → Contains (take n xs) x
in_take n xs d x below within e = (d, omega (arith, length-take n xs), get_or-take n xs d x below ∙ e)

pub in_whole : (n : ℕ) (xs : List (ℕ × ℕ)) (x : ℕ × ℕ) → Contains (take n xs) x → Contains xs x
in_whole n xs x on = subst (λ (ys : List (ℕ × ℕ)). Contains ys x) (take-append-drop n xs) (Contains-append_left (take n xs) _ x on)

-- the ends are terms
pub are_differs : (terms : ℕ) (differs standing : List (ℕ × ℕ)) → differs ≡ standing → EndsBelow standing terms → AreDiffers terms differs
are_differs terms differs standing is below d lt =
    let x = slice_index_or differs d (0, 0) in
    below x.0 x.1 (subst (λ (ys : List (ℕ × ℕ)). Contains ys x) is (Contains-get_or differs d (0, 0) lt))
