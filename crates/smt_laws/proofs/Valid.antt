-- Triggers of roots are valid.
use Rattle.std.proofs.Common.{◌≡◌, ℕ, zero, suc, ◌+◌, ◌<◌, ◌≤◌, ◌⊎◌, ⊎_elim, inl, inr, Bool, true, false, List, [], ◌∷◌, ◌++◌, map, length, get_or, slice_get, sum_by, Some, option_map, All, refl, sym, ap, ap₂, subst, ◌∙◌, true≢false, length-append, arith}
use Rattle.std.proofs.lemmas.Option.{none-some, same_Some, slice_get_within, slice_get-map, slice_get-get_or}
use Rattle.std.proofs.lemmas.List.{length-map}
use Rattle.std.proofs.lemmas.List.Sums.{sum_by-cons}
use Rattle.std.proofs.lemmas.List.Folds.{Any-from_list_any}
use Rattle.std.proofs.lemmas.List.Elements.{All-nil, All-cons, All-head, All-tail, All-map}
use Rattle.graph_terms.proofs.ListLaws.{element_at, All-slice_get, place_from_Contains}
use Rattle.graph_trigger.specs.declared.pattern_row.PatternRow.{PatternRow}
use Rattle.graph_trigger.specs.declared.pattern_row.PatternRow.TheVariants as pattern
use Rattle.graph_trigger.specs.declared.trigger.Trigger.{Trigger}
use Rattle.graph_trigger.specs.Trigger.{Occurs, HasSize, HaveSize, IsApplication, IsValid}
use Rattle.graph_trigger.specs.Trigger.Occurs.{at_root, below}
use Rattle.formula_draft.specs.declared.draft_row.DraftRow.{DraftRow}
use Rattle.formula_draft.specs.declared.draft_row.DraftRow.TheVariants.{Var, App}
use Rattle.formula_draft.specs.DraftRow.{args_of}
use Rattle.formula_draft.specs.Draft.{Draft, IsDraft, FitsRow}
use Rattle.smt_patterns.specs.Patterns.{sizes_after, size_of, reached_from, Kept, numbered, renumbered, kept_after, trigger_of, is_variable, occurs}
use Rattle.formula_draft.specs.Sorted.{Signature, HasSort, HaveSorts, as_row, IsSortedTrigger}
use Rattle.formula_draft.specs.Sorted.HasSort.{variable, application}
use Rattle.smt_laws.proofs.Growing.{sort_stands}
use Rattle.smt_laws.proofs.Values.{Each, none, more}
use Rattle.smt_laws.proofs.Moving.{variable_of, applied_of}
use Rattle.smt_laws.proofs.Applying.{eq_from}
use Rattle.smt_laws.proofs.Rooted.{size_by, sizes_apart, sizes_length, sizes_keep, get_front, size_later, IsRoot, MakesValid}
use Rattle.smt_laws.proofs.Marks.{Marked, From, root, part, roots_marked, args_marked, marked_reached}
use Rattle.smt_laws.proofs.Keeping.{KeptSo, kept_rows}

-- what holds at each place holds of all
all_from : (P : ℕ → Type 0) (xs : List ℕ) → ((k x : ℕ) → slice_get xs k ≡ Some x → P x) → All P xs
all_from P [] each = All-nil P
all_from P (x ∷ xs) each = All-cons P x xs (each 0 x refl) (all_from P xs (λ k. each (suc k)))

each_at : {P : ℕ → Type 0} {xs : List ℕ} (k x : ℕ) → Each P xs → slice_get xs k ≡ Some x → P x
each_at k x none at = absurd (none-some x at)
each_at {P} zero x (more {x = y} first rest) at = subst P (same_Some y x at) first
each_at (suc k) x (more first rest) at = each_at k x rest at

-- Sizes.
split_at : (rows : List DraftRow) (i : ℕ) (row : DraftRow) → slice_get rows i ≡ Some row → (front : List DraftRow) × (rest : List DraftRow) × (rows ≡ front ++ row ∷ rest) × (length front ≡ i)
split_at [] i row at = absurd (none-some row at)
split_at (r ∷ rows) zero row at = ([], rows, ap (λ x. x ∷ rows) (same_Some r row at), refl)
split_at (r ∷ rows) (suc i) row at = let p = split_at rows i row at in (r ∷ p.0, p.1, ap (λ xs. r ∷ xs) p.2, ap suc p.3)

get_last : (xs : List ℕ) (x i : ℕ) → length xs ≡ i → get_or (xs ++ x ∷ []) i 0 ≡ x
get_last [] x zero same = refl
get_last [] x (suc i) same = absurd (omega (arith, same))
get_last (y ∷ xs) x zero same = absurd (omega (arith, same))
get_last (y ∷ xs) x (suc i) same = get_last xs x i (omega (arith, same))

sum_same : (f g : ℕ → ℕ) (n : ℕ) → ((a : ℕ) → a < n → f a ≡ g a) → (args : List ℕ) → All (λ arg. arg < n) args → sum_by f args ≡ sum_by g args
sum_same f g n same [] below_all = refl
sum_same f g n same (a ∷ args) below_all =
    sum_by-cons f a args ∙ ap₂ (λ (x y : ℕ). x + y) (same a (All-head (λ arg. arg < n) a args below_all)) (sum_same f g n same args (All-tail (λ arg. arg < n) a args below_all)) ∙ sym (sum_by-cons g a args)

-- the size of a row is one more than those of its arguments
size_at : (rows : List DraftRow) (fit : (n : ℕ) (row : DraftRow) → slice_get rows n ≡ Some row → FitsRow n row) (i : ℕ) (row : DraftRow) → slice_get rows i ≡ Some row → size_of rows i ≡ suc (sum_by (λ a. size_of rows a) (args_of row))
size_at rows fit i row at =
    let p = split_at rows i row at in
    let front = p.0 in
    let rest = p.1 in
    let sizes = sizes_after [] front in
    let x = size_by sizes row in
    let long : length sizes ≡ i = omega (arith, sizes_length [] front, p.3) in
    let keep = sizes_keep (sizes ++ x ∷ []) rest in
    ap (λ (all : List DraftRow). size_of all i) p.2
    ∙ ap (λ (all : List ℕ). get_or all i 0) (sizes_apart [] front (row ∷ rest) ∙ keep.1)
    ∙ get_front (sizes ++ x ∷ []) keep.0 i (omega (arith, long, length-append sizes (x ∷ [])))
    ∙ get_last sizes x i long
    ∙ ap suc (sum_same (λ a. get_or sizes a 0) (λ a. size_of rows a) i (λ a less. sym (size_later front (row ∷ rest) rows a p.2 (omega (arith, less, p.3)))) (args_of row) (fit i row at).args)

compare : (a b : ℕ) → (a < b) ⊎ ((a ≡ b) ⊎ (b < a))
compare zero zero = inr (inl refl)
compare zero (suc b) = inl (omega arith)
compare (suc a) zero = inr (inr (omega arith))
compare (suc a) (suc b) = ⊎_elim (λ less. inl (omega (arith, less))) (λ r. inr (⊎_elim (λ same. inl (ap suc same)) (λ less. inr (omega (arith, less))) r)) (compare a b)

abbrev is_pattern_app : PatternRow → Bool
is_pattern_app (pattern.Var i) = false
is_pattern_app (pattern.App f xs) = true

abbrev pattern_symbol : PatternRow → ℕ
pattern_symbol (pattern.Var i) = i
pattern_symbol (pattern.App f xs) = f

abbrev pattern_parts : PatternRow → List ℕ
pattern_parts (pattern.Var i) = []
pattern_parts (pattern.App f xs) = xs

-- an application that was numbered anew was one
app_from : (numbers : List ℕ) (row : DraftRow) (symbol : ℕ) (parts : List ℕ) → renumbered numbers row ≡ pattern.App symbol parts → (args : List ℕ) × (row ≡ App symbol args) × (numbered numbers args ≡ parts)
app_from numbers (Var index) symbol parts is = absurd (true≢false (sym (ap is_pattern_app is)))
app_from numbers (App f args) symbol parts is = (args, ap (λ g. App g args) (ap pattern_symbol is), ap pattern_parts is)

var_from : (numbers : List ℕ) (row : DraftRow) (index : ℕ) → renumbered numbers row ≡ pattern.Var index → row ≡ Var index
var_from numbers (Var i) index is = ap Var (ap pattern_symbol is)
var_from numbers (App f args) index is = absurd (true≢false (ap is_pattern_app is))

module _ (functions : List Signature) (variables : List ℕ) (draft : Draft) (draft_is : IsDraft draft) (roots : List ℕ) (are : Each (IsRoot functions variables draft.rows) roots) where
  abbrev rows : List DraftRow
  rows = draft.rows

  abbrev marks : List Bool
  marks = reached_from rows roots

  abbrev kept : Kept
  kept = kept_after marks (record { numbers = []; rows = [] }) rows

  abbrev numbers : List ℕ
  numbers = kept.numbers

  abbrev number : ℕ → ℕ
  number i = get_or numbers i 0

  abbrev t : Trigger
  t = trigger_of (length variables) rows roots

  fit : (n : ℕ) (row : DraftRow) → slice_get rows n ≡ Some row → FitsRow n row
  fit = draft_is.lawful.rows_fit

  so : KeptSo rows fit marks (length rows) kept
  so = kept_rows rows fit marks

  -- what is reached has a sort
  reached_has : {i : ℕ} → From rows roots i → (sort : ℕ) × HasSort functions variables rows i sort
  reached_has (root {r = r} start at) = let is = each_at start r are at in (is.sort, is.sorted)
  reached_has (part {i = i} {a = a} {args = args} symbol place from at arg) =
      let had = reached_has from in
      let p = applied_of i symbol args had.0 at had.1 in
      args_sorted place a p.sorted arg
    where
      args_sorted : {xs sorts : List ℕ} (k x : ℕ) → HaveSorts functions variables rows xs sorts → slice_get xs k ≡ Some x → (sort : ℕ) × HasSort functions variables rows x sort
      args_sorted k x HaveSorts.none at = absurd (none-some x at)
      args_sorted zero x (HaveSorts.more {row = row} {sort = sort} first rest) at = (sort, subst (λ j. HasSort functions variables rows j sort) (same_Some row x at) first)
      args_sorted (suc k) x (HaveSorts.more first rest) at = args_sorted k x rest at

  marked_within : (i : ℕ) → Marked marks i → i < length rows
  marked_within i has = let had = reached_has (marked_reached rows fit roots i has) in sort_stands had.1

  reached_marked : {i : ℕ} → From rows roots i → Marked marks i
  reached_marked (root {r = r} start at) = roots_marked rows fit roots start r at (sort_stands (each_at start r are at).sorted)
  reached_marked (part {i = i} {a = a} {args = args} symbol place from at arg) = args_marked rows fit roots i (App symbol args) at (reached_marked from) place a arg

  -- where a row of the trigger comes from
  record Origin (p : ℕ) (x : PatternRow) : Type 0 where
    i : ℕ
    row : DraftRow
    at : slice_get rows i ≡ Some row
    has : Marked marks i
    number_is : number i ≡ p
    same : renumbered numbers row ≡ x

  origin_of : (p : ℕ) (x : PatternRow) → slice_get kept.rows p ≡ Some x → Origin p x
  origin_of p x stands =
      let o = so.origin p (slice_get_within kept.rows p x stands) in
      let row = element_at rows o.0 o.1 in
      record {
        i = o.0;
        row = row.0;
        at = row.1;
        has = o.2;
        number_is = o.3;
        same = same_Some (renumbered numbers row.0) x (sym (so.placed o.0 row.0 o.1 row.1 o.2) ∙ ap (slice_get kept.rows) o.3 ∙ stands);
      }

  placed : (i : ℕ) (row : DraftRow) → slice_get rows i ≡ Some row → Marked marks i → slice_get kept.rows (number i) ≡ Some (renumbered numbers row)
  placed i row at has = so.placed i row (slice_get_within rows i row at) at has

  number_once : (a b : ℕ) → Marked marks a → Marked marks b → number a ≡ number b → a ≡ b
  number_once a b has_a has_b same = ⊎_elim
      (λ less. absurd (omega (arith, so.rising a b less (marked_within b has_b) has_a has_b, same)))
      (λ r. ⊎_elim (λ is. is) (λ more_than. absurd (omega (arith, so.rising b a more_than (marked_within a has_a) has_b has_a, same))) r)
      (compare a b)

  numbered_once : (xs ys : List ℕ) → ((k x : ℕ) → slice_get xs k ≡ Some x → Marked marks x) → ((k y : ℕ) → slice_get ys k ≡ Some y → Marked marks y) → numbered numbers xs ≡ numbered numbers ys → xs ≡ ys
  numbered_once [] [] xs_are ys_are same = refl
  numbered_once [] (y ∷ ys) xs_are ys_are same = absurd (omega (arith, ap length same))
  numbered_once (x ∷ xs) [] xs_are ys_are same = absurd (omega (arith, ap length same))
  numbered_once (x ∷ xs) (y ∷ ys) xs_are ys_are same =
      let first : number x ≡ number y = ap (λ (ns : List ℕ). get_or ns 0 0) same in
      let rest : numbered numbers xs ≡ numbered numbers ys = cc in
      ap₂ (λ a b. a ∷ b) (number_once x y (xs_are 0 x refl) (ys_are 0 y refl) first) (numbered_once xs ys (λ k. xs_are (suc k)) (λ k. ys_are (suc k)) rest)

  row_once : (i j : ℕ) (row other : DraftRow) → slice_get rows i ≡ Some row → slice_get rows j ≡ Some other → Marked marks i → Marked marks j → renumbered numbers row ≡ renumbered numbers other → row ≡ other
  row_once i j (Var a) other at_i at_j has_i has_j same = sym (var_from numbers other a (sym same))
  row_once i j (App f xs) other at_i at_j has_i has_j same =
      let o = app_from numbers other f (numbered numbers xs) (sym same) in
      ap (App f) (numbered_once xs o.0 (λ k x arg. args_marked rows fit roots i (App f xs) at_i has_i k x arg)
      (λ k y arg. args_marked rows fit roots j (App f o.0) (at_j ∙ ap Some o.1) has_j k y arg) (sym o.2)) ∙ sym o.1

  -- paths lead to all rows
  occurs_at : {i : ℕ} → From rows roots i → (start : ℕ) × (path : List ℕ) × Occurs t start path (number i)
  occurs_at (root {r = r} start at) = (start, [], at_root (slice_get-map number roots start ∙ ap (option_map number) at))
  occurs_at (part {i = i} {a = a} {args = args} symbol place from at arg) =
      let above = occurs_at from in
      (above.0, place ∷ above.1, below above.2 (placed i (App symbol args) at (reached_marked from)) (slice_get-map number args place ∙ ap (option_map number) arg))

  mutual
    -- the size of a row of the trigger is that of the row that it comes from
    sized : {q size : ℕ} → HasSize kept.rows q size → (i : ℕ) → Marked marks i → number i ≡ q → size ≡ size_of rows i
    sized (HasSize.variable {row = q} {index = index} stands) i has is =
        let row = element_at rows i (marked_within i has) in
        let var = var_from numbers row.0 index (same_Some (renumbered numbers row.0) (pattern.Var index) (sym (placed i row.0 row.1 has) ∙ ap (slice_get kept.rows) is ∙ stands)) in
        sym (size_at rows fit i row.0 row.1 ∙ ap (λ (r : DraftRow). suc (sum_by (λ a. size_of rows a) (args_of r))) var)
    sized (HasSize.application {row = q} {symbol = symbol} {size = size} {parts = parts} stands sizes) i has is =
        let row = element_at rows i (marked_within i has) in
        let app = app_from numbers row.0 symbol parts (same_Some (renumbered numbers row.0) (pattern.App symbol parts) (sym (placed i row.0 row.1 has) ∙ ap (slice_get kept.rows) is ∙ stands)) in
        let sum = all_sized sizes app.0 (λ k x arg. args_marked rows fit roots i (App symbol app.0) (row.1 ∙ ap Some app.1) has k x arg) app.2 in
        let whole = size_at rows fit i row.0 row.1 ∙ ap (λ (r : DraftRow). suc (sum_by (λ a. size_of rows a) (args_of r))) app.1 in
        omega (arith, sum, whole)

    all_sized : {parts : List ℕ} {size : ℕ} → HaveSize kept.rows parts size → (args : List ℕ) → ((k x : ℕ) → slice_get args k ≡ Some x → Marked marks x) → numbered numbers args ≡ parts → size ≡ sum_by (λ a. size_of rows a) args
    all_sized HaveSize.none [] marked same = refl
    all_sized HaveSize.none (a ∷ args) marked same = absurd (omega (arith, ap length same))
    all_sized (HaveSize.more first rest) [] marked same = absurd (omega (arith, ap length same))
    all_sized (HaveSize.more {row = q} {size = size} {rest = others} {parts = parts} first rest) (a ∷ args) marked same =
        let here : number a ≡ q = ap (λ (ns : List ℕ). get_or ns 0 0) same in
        let there : numbered numbers args ≡ parts = cc in
        let one = sized first a (marked 0 a refl) here in
        let all = all_sized rest args (λ k. marked (suc k)) there in
        ap₂ (λ (x y : ℕ). x + y) one all ∙ sym (sum_by-cons (λ k. size_of rows k) a args)

  -- a variable that occurs stands in some row
  variable_stands : (index : ℕ) → occurs t index ≡ true → (row : ℕ) × (slice_get kept.rows row ≡ Some (pattern.Var index))
  variable_stands index found =
      let any = Any-from_list_any (is_variable index) kept.rows found in
      by any.0 any.1 (slice_get-get_or kept.rows any.0 any.1 any.2 ∙ ap Some any.3) any.4
    where
      by : (k : ℕ) (x : PatternRow) → slice_get kept.rows k ≡ Some x → is_variable index x ≡ true → (row : ℕ) × (slice_get kept.rows row ≡ Some (pattern.Var index))
      by k (pattern.Var i) at is = (k, at ∙ ap (λ j. Some (pattern.Var j)) (eq_from i index is))
      by k (pattern.App f xs) at is = absurd (true≢false (sym is))

  valid_of : 1 ≤ length roots → length roots ≤ 16 → length variables ≤ 32 → ((index : ℕ) → index < length variables → occurs t index ≡ true) → IsValid t
  valid_of some most few occur = record {
    earlier = λ p symbol parts at.
        let o = origin_of p (pattern.App symbol parts) at in
        let app = app_from numbers o.row symbol parts o.same in
        subst (All (λ q. q < p)) app.2 (All-map (λ q. q < p) number app.0 (all_from (λ a. number a < p) app.0 (λ k a arg.
        let here = o.at ∙ ap Some app.1 in
        let less = All-slice_get (λ x. x < o.i) app.0 k a (fit o.i (App symbol app.0) here).args arg in
        omega (arith, so.rising a o.i less (marked_within o.i o.has) (args_marked rows fit roots o.i (App symbol app.0) here o.has k a arg) o.has, o.number_is))));
    few_parts = λ p symbol parts at.
        let o = origin_of p (pattern.App symbol parts) at in
        let app = app_from numbers o.row symbol parts o.same in
        omega (arith, (fit o.i (App symbol app.0) (o.at ∙ ap Some app.1)).few, length-map app.0 number, ap length app.2);
    once = λ p q x at_p at_q.
        let o = origin_of p x at_p in
        let u = origin_of q x at_q in
        let same = row_once o.i u.i o.row u.row o.at u.at o.has u.has (o.same ∙ sym u.same) in
        let i_is = draft_is.lawful.rows_once o.i u.i u.row (o.at ∙ ap Some same) u.at in
        sym o.number_is ∙ ap number i_is ∙ u.number_is;
    roots = All-map (IsApplication kept.rows) number roots (all_from (λ r. IsApplication kept.rows (number r)) roots (λ k r at.
        let is = each_at k r are at in
        (is.symbol, numbered numbers is.args, placed r (App is.symbol is.args) is.stands (reached_marked (root k at)))));
    some_root = omega (arith, some, length-map roots number);
    few_roots = omega (arith, most, length-map roots number);
    reached = λ p within. let o = so.origin p within in let found = occurs_at (marked_reached rows fit roots o.0 o.2) in (found.0, found.1, subst (Occurs t found.0 found.1) o.3 found.2);
    small = λ p size inside has_size.
        let here = place_from_Contains t.roots p inside in
        let within : here.0 < length roots = omega (arith, slice_get_within t.roots here.0 p here.1, length-map roots number) in
        let r = element_at roots here.0 within in
        let is = each_at here.0 r.0 are r.1 in
        let same : number r.0 ≡ p = same_Some (number r.0) p (sym (slice_get-map number roots here.0 ∙ ap (option_map number) r.1) ∙ here.1) in
        omega (arith, sized has_size r.0 (reached_marked (root here.0 r.1)) same, is.small);
    few_variables = few;
    below = λ p index at.
        let o = origin_of p (pattern.Var index) at in
        let var = var_from numbers o.row index o.same in
        let had = reached_has (marked_reached rows fit roots o.i o.has) in
        slice_get_within variables index had.0 (variable_of o.i index had.0 (o.at ∙ ap Some var) had.1);
    occur = λ index within. variable_stands index (occur index within);
  }

  mutual
    -- a row of the trigger has the sort of the row that it comes from
    number_sorted : {i sort : ℕ} → HasSort functions variables rows i sort → Marked marks i → HasSort functions variables (map as_row kept.rows) (number i) sort
    number_sorted (variable {row = i} {index = index} at is) has = variable (slice_get-map as_row kept.rows (number i) ∙ ap (option_map as_row) (placed i (Var index) at has)) is
    number_sorted (application place {row = i} {args = args} at is sorted) has =
        application place (slice_get-map as_row kept.rows (number i) ∙ ap (option_map as_row) (placed i (App (place + 2) args) at has)) is
        (numbers_sorted sorted (λ k x arg. args_marked rows fit roots i (App (place + 2) args) at has k x arg))

    numbers_sorted : {args sorts : List ℕ} → HaveSorts functions variables rows args sorts → ((k x : ℕ) → slice_get args k ≡ Some x → Marked marks x) → HaveSorts functions variables (map as_row kept.rows) (numbered numbers args) sorts
    numbers_sorted HaveSorts.none marked = HaveSorts.none
    numbers_sorted (HaveSorts.more {row = a} first rest) marked = HaveSorts.more (number_sorted first (marked 0 a refl)) (numbers_sorted rest (λ k. marked (suc k)))

  sorted_of : IsSortedTrigger functions variables t
  sorted_of p within =
      let o = so.origin p within in
      let had = reached_has (marked_reached rows fit roots o.0 o.2) in
      (had.0, subst (λ q. HasSort functions variables (map as_row kept.rows) q had.0) o.3 (number_sorted had.1 o.2))

-- triggers of roots are valid, and their rows have sorts
pub makes_valid : MakesValid
makes_valid functions variables draft draft_is roots are some most few occur = (valid_of functions variables draft draft_is roots are some most few occur, sorted_of functions variables draft draft_is roots are)
