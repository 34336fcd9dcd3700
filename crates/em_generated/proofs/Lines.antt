-- The lines of the indices below a number.
use Rattle.std.proofs.Common.{◌≡◌, ℕ, ◌+◌, ◌-◌, ◌<◌, List, [], ◌++◌, refl, ap, sym, ◌∙◌, arith, append_assoc, map, zero-add, add-zero, zero, suc}
use Rattle.std.specs.List.{range_with_len, flat_map}
use Rattle.std.proofs.lemmas.List.{append-nil}
use Rattle.em_generated.specs.GeneratedScript.{line}
use Rattle.em_generated.specs.Putting.{each_line}

-- the lines of so many indices from one on
abbrev pub lines_from : (ℕ → List ℕ) → ℕ → ℕ → List ℕ
lines_from form a n = flat_map line (map form (range_with_len a n))

-- some lines, and those behind them
pub lines_add : (form : ℕ → List ℕ) (a m k : ℕ) → lines_from form a (m + k) ≡ lines_from form a m ++ lines_from form (a + m) k
lines_add form a zero k = rw (zero-add, add-zero) refl
lines_add form a (suc m) k =
    let count : suc m + k ≡ suc (m + k) = omega arith in
    let place : a + 1 + m ≡ a + suc m = omega arith in
    ap (λ n. lines_from form a n) count ∙ (ap (λ t. line (form a) ++ t) (lines_add form (a + 1) m k)
    ∙ (sym (append_assoc (line (form a)) (lines_from form (a + 1) m) (lines_from form (a + 1 + m) k))
    ∙ ap (λ b. (line (form a) ++ lines_from form (a + 1) m) ++ lines_from form b k) place))

pub each_none : (form : ℕ → List ℕ) → each_line form 0 ≡ []
unfolding each_line
each_none form = refl

-- the lines of the indices below one, and its own
pub each_more : (form : ℕ → List ℕ) (n : ℕ) → each_line form (n + 1) ≡ each_line form n ++ line (form n)
unfolding each_line
each_more form n = lines_add form 0 n 1
    ∙ ap (λ t. lines_from form 0 n ++ t) (append-nil (line (form (0 + n))) ∙ ap (λ k. line (form k)) (zero-add n))

-- below an index, its own line, and those of the rest
pub each_split : (form : ℕ → List ℕ) (n i : ℕ) → i < n
    → each_line form n ≡ each_line form i ++ (line (form i) ++ lines_from form (0 + (i + 1)) (n - (i + 1)))
unfolding each_line
each_split form n i low =
    let rest = n - (i + 1) in
    let count : n ≡ (i + 1) + rest = omega arith in
    ap (λ m. lines_from form 0 m) count ∙ (lines_add form 0 (i + 1) rest
    ∙ (ap (λ t. t ++ lines_from form (0 + (i + 1)) rest) (each_more form i)
    ∙ append_assoc (lines_from form 0 i) (line (form i)) (lines_from form (0 + (i + 1)) rest)))

-- equal texts before one, and behind one
pub led : {xs ys : List ℕ} (rest : List ℕ) → xs ≡ ys → xs ++ rest ≡ ys ++ rest
led rest same = ap (λ t. t ++ rest) same

pub followed : {xs ys : List ℕ} (front : List ℕ) → xs ≡ ys → front ++ xs ≡ front ++ ys
followed front same = ap (λ t. front ++ t) same
