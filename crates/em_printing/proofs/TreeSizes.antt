-- How many symbols a term has as a tree.
use Rattle.std.proofs.Common.{◌≡◌, ℕ, zero, suc, ◌+◌, ◌-◌, ◌<◌, ◌≤◌, List, [], ◌∷◌, length, drop, get_or, Some, All, refl, sym, ap, ap₂, subst, ◌∙◌, arith}
use Rattle.std.specs.Prelude.{slice_get}
use Rattle.std.proofs.lemmas.List.{drop_more, drop_all}
use Rattle.std.proofs.lemmas.List.Elements.{All-get_or, All-head, All-tail}
use Rattle.std.proofs.lemmas.Option.{slice_get_within, slice_get-get_or, get_or_from_slice_get}
use Rattle.graph_terms.specs.declared.term_row.TermRow.{TermRow}
use Rattle.graph_terms.specs.Terms.{term_row, HasRow, IsTable}
use Rattle.em_printing.specs.Printed.{HasTreeSize, tree, HaveTreeSize, sizes_none, sizes_more}
use Rattle.em_printing.proofs.PrintedLaws.{args_once, size_once, sizes_once}

-- an argument is an earlier term
pub earlier_arg : (rows : List TermRow) (term : ℕ) (row : TermRow) (i x : ℕ) → IsTable rows → HasRow rows term row → slice_get row.args i ≡ Some x → x < term
earlier_arg rows term row i x table has at =
    let P : ℕ → Type 0 = λ arg. arg < term in
    subst P (get_or_from_slice_get row.args i x 0 at) (All-get_or P row.args i 0 (slice_get_within row.args i x at) (table.earlier term row has))

-- what is left of a list at an index begins with what stands there
pub drop_at : {A : Type 0} (xs : List A) (i : ℕ) (x : A) → slice_get xs i ≡ Some x → drop i xs ≡ x ∷ drop (i + 1) xs
drop_at {A} xs i x at = drop_more xs i x (slice_get_within xs i x at) ∙ ap (λ (y : A). y ∷ drop (i + 1) xs) (get_or_from_slice_get xs i x x at)

-- a size by the sizes of the arguments
args_size : (rows : List TermRow) (term : ℕ) (row : TermRow) (size : ℕ) → HasRow rows term row → HasTreeSize rows term size → (n : ℕ) × HaveTreeSize rows row.args n × (size ≡ n + 1)
args_size rows term row size has (tree {symbol = f} {size = n} {args = xs} has' sizes) =
    (n, subst (λ (zs : List ℕ). HaveTreeSize rows zs n) (args_once rows term f row.symbol xs row.args has' has) sizes, refl)

-- sizes by the first and the others
first_size : (rows : List TermRow) (x : ℕ) (xs : List ℕ) (m : ℕ) → HaveTreeSize rows (x ∷ xs) m → (s : ℕ) × (k : ℕ) × HasTreeSize rows x s × HaveTreeSize rows xs k × (m ≡ s + k)
first_size rows x xs m (sizes_more {size = s} {sizes = k} size sizes) = (s, k, size, sizes, refl)

-- the terms have so many symbols more than the rest of them
pub record AreCounted (rows : List TermRow) (terms rest : List ℕ) (counted : ℕ) : Type 0 where
  pub up : (n : ℕ) → HaveTreeSize rows rest n → HaveTreeSize rows terms (counted + n)
  pub down : (n : ℕ) → HaveTreeSize rows terms n → (m : ℕ) × HaveTreeSize rows rest m × (n ≡ counted + m)

pub counted_none : (rows : List TermRow) (terms : List ℕ) (counted : ℕ) → counted ≡ 0 → AreCounted rows terms terms counted
counted_none rows terms counted zero' = record {
  up = λ n sizes. subst (HaveTreeSize rows terms) (omega arith) sizes;
  down = λ n sizes. (n, sizes, omega arith);
}

-- one term more is counted
pub counted_more : (rows : List TermRow) (args : List ℕ) (i x counted s counted' : ℕ) → slice_get args i ≡ Some x → HasTreeSize rows x s → counted' ≡ counted + s
    → AreCounted rows args (drop i args) counted → AreCounted rows args (drop (i + 1) args) counted'
counted_more rows args i x counted s counted' at size is old = record {
  up = λ n sizes. subst (HaveTreeSize rows args) (omega arith) (old.up (s + n) (subst (λ (zs : List ℕ). HaveTreeSize rows zs (s + n)) (sym (drop_at args i x at)) (sizes_more size sizes)));
  down = λ n sizes.
      let was = old.down n sizes in
      let first = first_size rows x (drop (i + 1) args) was.0 (subst (λ (zs : List ℕ). HaveTreeSize rows zs was.0) (drop_at args i x at) was.1) in
      let same : first.0 ≡ s = size_once first.2 size in
      let here : was.0 ≡ first.0 + first.1 = first.4 in
      let whole : n ≡ counted + was.0 = was.2 in
      (first.1, first.3, omega arith);
}

-- an argument that has too many symbols leaves the term with too many
pub too_many : (rows : List TermRow) (term : ℕ) (row : TermRow) (i x left most : ℕ) → HasRow rows term row → AreCounted rows row.args (drop i row.args) (most - 1 - left)
    → slice_get row.args i ≡ Some x → ((size : ℕ) → HasTreeSize rows x size → left < size) → left < most → (size : ℕ) → HasTreeSize rows term size → most < size
too_many rows term row i x left most has counted at above below size whole =
    let of_args = args_size rows term row size has whole in
    let was = counted.down of_args.0 of_args.1 in
    let first = first_size rows x (drop (i + 1) row.args) was.0 (subst (λ (zs : List ℕ). HaveTreeSize rows zs was.0) (drop_at row.args i x at) was.1) in
    let a : left < first.0 = above first.0 first.2 in
    let b : was.0 ≡ first.0 + first.1 = first.4 in
    let d : of_args.0 ≡ most - 1 - left + was.0 = was.2 in
    let e : size ≡ of_args.0 + 1 = of_args.2 in
    omega arith

-- no term has no symbol
pub not_none : (rows : List TermRow) (term most : ℕ) → most ≡ 0 → (size : ℕ) → HasTreeSize rows term size → most < size
not_none rows term most is size (tree has sizes) = omega arith

-- where all arguments are counted, so is the term
pub all_counted : (rows : List TermRow) (term : ℕ) (row : TermRow) (i left most : ℕ) → HasRow rows term row → AreCounted rows row.args (drop i row.args) (most - 1 - left)
    → length row.args ≤ i → left < most → HasTreeSize rows term (most - left)
all_counted rows term row i left most has counted past below =
    let sizes : HaveTreeSize rows (drop i row.args) 0 = subst (λ (zs : List ℕ). HaveTreeSize rows zs 0) (sym (drop_all i row.args past)) sizes_none in
    subst (HasTreeSize rows term) (omega arith) (tree {symbol = row.symbol} has (counted.up 0 sizes))

-- each term of a table has a size
sizes_all : (rows : List TermRow) (bound : ℕ) → ((term : ℕ) → term < bound → (size : ℕ) × HasTreeSize rows term size) → (terms : List ℕ) → All (λ term. term < bound) terms → (size : ℕ) × HaveTreeSize rows terms size
sizes_all rows bound each [] below = (0, sizes_none)
sizes_all rows bound each (x ∷ xs) below =
    let P : ℕ → Type 0 = λ term. term < bound in
    let first = each x (All-head P x xs below) in
    let others = sizes_all rows bound each xs (All-tail P x xs below) in
    (first.0 + others.0, sizes_more first.1 others.1)

has_size_below : (rows : List TermRow) → IsTable rows → (bound : ℕ) → bound ≤ length rows → (term : ℕ) → term < bound → (size : ℕ) × HasTreeSize rows term size
has_size_below rows table zero within term below = absurd (omega arith)
has_size_below rows table (suc bound) within term below =
    let here : term < length rows = omega arith in
    let row : TermRow = get_or rows term (term_row 0 []) in
    let has : HasRow rows term row = slice_get-get_or rows term (term_row 0 []) here in
    let args = sizes_all rows term (λ x less. has_size_below rows table bound (omega arith) x (omega arith)) row.args (table.earlier term row has) in
    (args.0 + 1, tree {symbol = row.symbol} has args.1)

pub has_size : (rows : List TermRow) → IsTable rows → (term : ℕ) → term < length rows → (size : ℕ) × HasTreeSize rows term size
has_size rows table term below = has_size_below rows table (length rows) (omega arith) term below
