-- What an application of a definition makes of arguments that fit, fits.
use Rattle.std.proofs.Common.{◌≡◌, ℕ, zero, suc, ◌+◌, ◌<◌, ◌≤◌, ◌⊎◌, ⊎_elim, inl, inr, Bool, true, false, List, [], ◌∷◌, ◌++◌, map, length, get_or, slice_get, Some, None, All, refl, sym, ap, subst, ◌∙◌, true≢false, append-nil, append_assoc, length-append, arith}
use Rattle.std.proofs.lemmas.Option.{none-some, same_Some}
use Rattle.std.proofs.lemmas.List.Elements.{All-nil, All-cons, All-head, All-tail}
use Rattle.graph_terms.specs.Terms.{most_args}
use Rattle.smt_text.specs.declared.token.Place.{Place}
use Rattle.formula_draft.specs.declared.draft_row.DraftRow.{DraftRow}
use Rattle.formula_draft.specs.declared.draft_row.DraftRow.TheVariants.{Var, App}
use Rattle.formula_draft.specs.declared.draft_node.DraftNode.{DraftNode}
use Rattle.formula_draft.specs.declared.draft_node.DraftNode.TheVariants.{Equal, Atom, And, Or}
use Rattle.formula_draft.specs.DraftRow.{args_of}
use Rattle.formula_draft.specs.DraftNode.{parts_of}
use Rattle.formula_draft.specs.Draft.{Draft}
use Rattle.smt_names.specs.declared.value.Value.{Value}
use Rattle.smt_names.specs.declared.value.Value.TheVariants.{Term, Formula}
use Rattle.smt_names.specs.Value.{row_of}
use Rattle.smt_names.specs.Making.{row}
use Rattle.smt_names.specs.Names.{Defined}
use Rattle.smt_forms.specs.Moved.{moved_numbers, moved_row, moved_rows, moved_node, moved_nodes, moved_value, unfolded}
use Rattle.formula_draft.specs.Sorted.{Signature, HasSort, HaveSorts, IsPlain, ArePlain}
use Rattle.formula_draft.specs.Sorted.HasSort.{variable, application}
use Rattle.smt_laws.specs.Sound.{Fits, AreArguments, IsDefinitionOver, inside}
use Rattle.smt_laws.proofs.Growing.{Extends, sort_stands, plain_stands}
use Rattle.smt_laws.proofs.Making.{Setting, Sort, Sorts, Plain, Plains, Sound, Good, sort_later, sorts_later, plain_later, good_then, good_made, good_as, good_row}
use Rattle.smt_laws.proofs.Values.{PlainNode, good_plain, FitsIn}

abbrev is_app : DraftRow → Bool
is_app (Var i) = false
is_app (App f xs) = true

pub var_no_app : {i f : ℕ} {xs : List ℕ} → ◌≡◌ {A = DraftRow} (Var i) (App f xs) → ⊥
var_no_app same = true≢false (sym (ap is_app same))

abbrev index_of : DraftRow → ℕ
index_of (Var i) = i
index_of (App f xs) = f

-- the arguments of a row that is an application
pub record Applied (functions : List Signature) (variables : List ℕ) (rows : List DraftRow) (symbol : ℕ) (args : List ℕ) (sort : ℕ) : Type 0 where
  pub place : ℕ
  pub f : Signature
  pub symbol_is : symbol ≡ place + 2
  pub stands : slice_get functions place ≡ Some f
  pub sorted : HaveSorts functions variables rows args f.arguments
  pub sort_is : f.sort ≡ sort

module _ {functions : List Signature} {variables : List ℕ} {rows : List DraftRow} where
  pub variable_of : (row index sort : ℕ) → slice_get rows row ≡ Some (Var index) → HasSort functions variables rows row sort → slice_get variables index ≡ Some sort
  variable_of row index sort at (variable {index = found} stands is) = let same : index ≡ found = ap index_of (same_Some (Var index) (Var found) (sym at ∙ stands)) in subst (λ k. slice_get variables k ≡ Some sort) (sym same) is
  variable_of row index sort at (application place {args = args} stands is sorted) = absurd (var_no_app (same_Some (Var index) (App (place + 2) args) (sym at ∙ stands)))

  pub applied_of : (row symbol : ℕ) (xs : List ℕ) (sort : ℕ) → slice_get rows row ≡ Some (App symbol xs) → HasSort functions variables rows row sort → Applied functions variables rows symbol xs sort
  applied_of row symbol xs sort at (variable {index = index} stands is) = absurd (var_no_app (same_Some (Var index) (App symbol xs) (sym stands ∙ at)))
  applied_of row symbol xs sort at (application place {args = args} {f = f} stands is sorted) =
      let same : App symbol xs ≡ App (place + 2) args = same_Some (App symbol xs) (App (place + 2) args) (sym at ∙ stands) in
      record { place = place; f = f; symbol_is = ap index_of same; stands = is; sorted = subst (λ ys. HaveSorts functions variables rows ys f.arguments) (sym (ap args_of same)) sorted; sort_is = refl }

  -- the row at a place has the sort at that place
  pub sorts_at : {args sorts : List ℕ} (i sort : ℕ) → HaveSorts functions variables rows args sorts → slice_get sorts i ≡ Some sort → HasSort functions variables rows (get_or args i 0) sort
  sorts_at i sort HaveSorts.none at = absurd (none-some sort at)
  sorts_at zero sort (HaveSorts.more {row = row} {sort = found} first rest) at = subst (λ k. HasSort functions variables rows row k) (same_Some found sort at) first
  sorts_at (suc i) sort (HaveSorts.more first rest) at = sorts_at i sort rest at

  pub sorts_length : {args sorts : List ℕ} → HaveSorts functions variables rows args sorts → length args ≡ length sorts
  sorts_length HaveSorts.none = refl
  sorts_length (HaveSorts.more first rest) = ap suc (sorts_length rest)

  pub sorts_stand : {args sorts : List ℕ} → HaveSorts functions variables rows args sorts → All (λ row. row < length rows) args
  sorts_stand HaveSorts.none = All-nil (λ row. row < length rows)
  sorts_stand (HaveSorts.more {row = row} {others = others} first rest) = All-cons (λ r. r < length rows) row others (sort_stands first) (sorts_stand rest)

-- a new row, an application of a function
pub good_application : (s : Setting) (at : Place) (draft : Draft) (sound : Sound s draft) (place : ℕ) (f : Signature) (args : List ℕ) → slice_get s.functions place ≡ Some f → AreArguments f.arguments → Sorts s draft args f.arguments
    → Good s draft (λ d n. Sort s d n f.sort) (row at (App (place + 2) args) draft)
good_application s at draft sound place f args is function sorted =
    good_row s at draft sound (App (place + 2) args) f.sort (record { args = sorts_stand sorted; few = subst (λ n. n ≤ most_args) (sym (sorts_length sorted)) function.few })
    (λ later n extends stands. application place stands is (sorts_later s draft later extends sorted))

-- the element behind a front
pub behind_front : {X : Type 0} (front : List X) (x : X) (rest : List X) → slice_get (front ++ x ∷ rest) (length front) ≡ Some x
behind_front [] x rest = refl
behind_front (y ∷ front) x rest = behind_front front x rest

-- what a push changes of a list by place
pub pushed_at : (xs : List ℕ) (x i : ℕ) → i < length (xs ++ x ∷ []) → ((i < length xs) × (get_or (xs ++ x ∷ []) i 0 ≡ get_or xs i 0)) ⊎ ((i ≡ length xs) × (get_or (xs ++ x ∷ []) i 0 ≡ x))
pushed_at [] x zero within = inr (refl, refl)
pushed_at [] x (suc i) within = absurd (omega (arith, within))
pushed_at (y ∷ xs) x zero within = inl (omega arith, refl)
pushed_at (y ∷ xs) x (suc i) within = ⊎_elim (λ p. inl (omega (arith, p.0), p.1)) (λ p. inr (ap suc p.0, p.1)) (pushed_at xs x i (omega (arith, within)))

module _ (s : Setting) (at : Place) (functions_are : (n : ℕ) (f : Signature) → slice_get s.functions n ≡ Some f → AreArguments f.arguments) (d : Defined) (is : IsDefinitionOver s.functions d) where
  -- what stands in the definition
  abbrev Inner : ℕ → ℕ → Type 0
  Inner row sort = HasSort s.functions d.parameters d.rows row sort

  -- the rows so far have become these
  abbrev RowsMoved : Draft → List ℕ → Type 0
  RowsMoved draft moved = (r : ℕ) → r < length moved → (sort : ℕ) → Inner r sort → Sort s draft (get_or moved r 0) sort

  rows_later : (old new : Draft) → Extends old new → (moved : List ℕ) → RowsMoved old moved → RowsMoved new moved
  rows_later old new extends moved have r within sort inner = sort_later s old new extends (have r within sort inner)

  numbers_moved : (draft : Draft) (moved : List ℕ) → RowsMoved draft moved → {xs sorts : List ℕ} → All (λ x. x < length moved) xs → HaveSorts s.functions d.parameters d.rows xs sorts → Sorts s draft (moved_numbers moved xs) sorts
  numbers_moved draft moved have below HaveSorts.none = HaveSorts.none
  numbers_moved draft moved have below (HaveSorts.more {row = row} {sort = sort} {others = others} first rest) =
      HaveSorts.more (have row (All-head (λ x. x < length moved) row others below) sort first) (numbers_moved draft moved have (All-tail (λ x. x < length moved) row others below) rest)

  module _ (args : List ℕ) where
    good_moved_row : (draft : Draft) → Sound s draft → Sorts s draft args d.parameters → (moved : List ℕ) → RowsMoved draft moved → (next : DraftRow) → slice_get d.rows (length moved) ≡ Some next
        → Good s draft (λ new n. (sort : ℕ) → Inner (length moved) sort → Sort s new n sort) (moved_row args moved at next draft)
    good_moved_row draft sound given moved have (Var i) stands = good_made s draft (get_or args i 0) sound (λ sort inner. sorts_at i sort given (variable_of (length moved) i sort stands inner))
    good_moved_row draft sound given moved have (App symbol xs) stands =
        let some = is.whole.rows_sorted (length moved) (App symbol xs) stands in
        let a = applied_of (length moved) symbol xs some.0 stands some.1 in
        let sorted = numbers_moved draft moved have (is.lawful.rows_fit (length moved) (App symbol xs) stands).args a.sorted in
        subst (λ k. Good s draft (λ new n. (sort : ℕ) → Inner (length moved) sort → Sort s new n sort) (row at (App k (moved_numbers moved xs)) draft)) (sym a.symbol_is)
        (good_as s draft (λ new n extends sort_is sort inner. subst (λ k. Sort s new n k) (same_sort a.place a.f a.symbol_is a.stands sort (applied_of (length moved) symbol xs sort stands inner)) sort_is)
        (good_application s at draft sound a.place a.f (moved_numbers moved xs) a.stands (functions_are a.place a.f a.stands) sorted))
      where
        same_sort : (place : ℕ) (f : Signature) → symbol ≡ place + 2 → slice_get s.functions place ≡ Some f → (sort : ℕ) → Applied s.functions d.parameters d.rows symbol xs sort → f.sort ≡ sort
        same_sort place f symbol_is stands_f sort b =
            let place_is : place ≡ b.place = omega (arith, symbol_is, b.symbol_is) in
            let f_is : f ≡ b.f = same_Some f b.f (sym stands_f ∙ ap (slice_get s.functions) place_is ∙ b.stands) in
            ap (λ (g : Signature). g.sort) f_is ∙ b.sort_is

    good_moved_rows : (draft : Draft) → Sound s draft → Sorts s draft args d.parameters → (moved : List ℕ) → RowsMoved draft moved → (front rest : List DraftRow) → length front ≡ length moved → front ++ rest ≡ d.rows
        → Good s draft (λ new all. RowsMoved new all × (length all ≡ length d.rows)) (moved_rows args moved at rest draft)
    good_moved_rows draft sound given moved have front [] same split = good_made s draft moved sound (have, sym same ∙ ap length (sym (append-nil front) ∙ split))
    good_moved_rows draft sound given moved have front (next ∷ rest) same split =
        let stands = subst (λ k. slice_get d.rows k ≡ Some next) same (subst (λ rows. slice_get rows (length front) ≡ Some next) split (behind_front front next rest)) in
        good_then s draft _ (good_moved_row draft sound given moved have next stands) λ r new keeps extends is_so.
        good_moved_rows new keeps (sorts_later s draft new extends given) (moved ++ r ∷ [])
        (λ k within sort inner. ⊎_elim (λ p. subst (λ m. Sort s new m sort) (sym p.1) (sort_later s draft new extends (have k p.0 sort inner))) (λ p. subst (λ m. Sort s new m sort) (sym p.1) (is_so sort (subst (λ m. Inner m sort) p.0 inner))) (pushed_at moved r k within))
        (front ++ next ∷ []) rest (omega (arith, same, length-append front (next ∷ []), length-append moved (r ∷ []))) (append_assoc front (next ∷ []) rest ∙ split)

  -- the nodes so far have become these
  abbrev NodesMoved : Draft → List ℕ → Type 0
  NodesMoved draft moved = (n : ℕ) → n < length moved → IsPlain s.functions d.parameters d.rows d.nodes n → Plain s draft (get_or moved n 0)

  parts_moved : (draft : Draft) (moved : List ℕ) → NodesMoved draft moved → {ns : List ℕ} → All (λ n. n < length moved) ns → ArePlain s.functions d.parameters d.rows d.nodes ns → Plains s draft (moved_numbers moved ns)
  parts_moved draft moved have below ArePlain.none = ArePlain.none
  parts_moved draft moved have below (ArePlain.more {n = n} {others = others} first rest) =
      ArePlain.more (have n (All-head (λ x. x < length moved) n others below) first) (parts_moved draft moved have (All-tail (λ x. x < length moved) n others below) rest)

  module _ (rows : List ℕ) (all : length rows ≡ length d.rows) where
    row_moved : (draft : Draft) → RowsMoved draft rows → (r sort : ℕ) → Inner r sort → Sort s draft (get_or rows r 0) sort
    row_moved draft have r sort inner = have r (subst (λ n. r < n) (sym all) (sort_stands inner)) sort inner

    node_moved : (draft : Draft) → RowsMoved draft rows → (moved : List ℕ) → NodesMoved draft moved → (next : DraftNode) → slice_get d.nodes (length moved) ≡ Some next → All (λ n. n < length moved) (parts_of next)
        → IsPlain s.functions d.parameters d.rows d.nodes (length moved) → PlainNode s draft (moved_node rows moved next)
    node_moved draft have moved nodes next at below (IsPlain.equation {left = left} {right = right} {sort = sort} {positive = positive} stands other l r) =
        subst (λ x. PlainNode s draft (moved_node rows moved x)) (same_Some (Equal positive left right) next (sym stands ∙ at)) (sort, other, row_moved draft have left sort l, row_moved draft have right sort r)
    node_moved draft have moved nodes next at below (IsPlain.atom {row = row} {positive = positive} stands r) =
        subst (λ x. PlainNode s draft (moved_node rows moved x)) (same_Some (Atom positive row) next (sym stands ∙ at)) (row_moved draft have row 0 r)
    node_moved draft have moved nodes next at below (IsPlain.each {parts = parts} stands ps) =
        let same = same_Some (And parts) next (sym stands ∙ at) in
        subst (λ x. PlainNode s draft (moved_node rows moved x)) same (parts_moved draft moved nodes (subst (λ x. All (λ n. n < length moved) (parts_of x)) (sym same) below) ps)
    node_moved draft have moved nodes next at below (IsPlain.one {parts = parts} stands ps) =
        let same = same_Some (Or parts) next (sym stands ∙ at) in
        subst (λ x. PlainNode s draft (moved_node rows moved x)) same (parts_moved draft moved nodes (subst (λ x. All (λ n. n < length moved) (parts_of x)) (sym same) below) ps)

    good_moved_nodes : (draft : Draft) → Sound s draft → RowsMoved draft rows → (moved : List ℕ) → NodesMoved draft moved → (front rest : List DraftNode) → length front ≡ length moved → front ++ rest ≡ d.nodes
        → Good s draft (λ new ns. NodesMoved new ns × (length ns ≡ length d.nodes) × RowsMoved new rows) (moved_nodes rows moved at rest draft)
    good_moved_nodes draft sound have moved nodes front [] same split = good_made s draft moved sound (nodes, sym same ∙ ap length (sym (append-nil front) ∙ split), have)
    good_moved_nodes draft sound have moved nodes front (next ∷ rest) same split =
        let stands = subst (λ k. slice_get d.nodes k ≡ Some next) same (subst (λ ns. slice_get ns (length front) ≡ Some next) split (behind_front front next rest)) in
        let is_node = node_moved draft have moved nodes next stands (is.lawful.nodes_fit (length moved) next stands).parts_stand (is.whole.nodes_plain (length moved) next stands) in
        good_then s draft _ (good_plain s draft at sound (moved_node rows moved next) is_node) λ n new keeps extends is_so.
        good_moved_nodes new keeps (rows_later draft new extends rows have) (moved ++ n ∷ [])
        (λ k within inner. ⊎_elim (λ p. subst (λ m. Plain s new m) (sym p.1) (plain_later s draft new extends (nodes k p.0 inner))) (λ p. subst (λ m. Plain s new m) (sym p.1) is_so) (pushed_at moved n k within))
        (front ++ next ∷ []) rest (omega (arith, same, length-append front (next ∷ []), length-append moved (n ∷ []))) (append_assoc front (next ∷ []) rest ∙ split)

  pub good_unfolded : (draft : Draft) → Sound s draft → (args : List Value) → Sorts s draft (map row_of args) d.parameters → Good s draft (λ new v. FitsIn s new v) (unfolded at d args draft)
  good_unfolded draft sound args given =
      good_then s draft _ (good_moved_rows (map row_of args) draft sound given [] (λ r within. absurd (omega (arith, within))) [] d.rows refl refl) λ rows d1 k1 e1 rows_are.
      good_then s d1 _ (good_moved_nodes rows rows_are.1 d1 k1 rows_are.0 [] (λ n within. absurd (omega (arith, within))) [] d.nodes refl refl) λ nodes d2 k2 e2 nodes_are.
      good_made s d2 (moved_value rows nodes d.value) k2 (value_moved d2 rows nodes rows_are.1 nodes_are.1 nodes_are.2 nodes_are.0 d.value is.fits)
    where
      value_moved : (new : Draft) (rows nodes : List ℕ) → length rows ≡ length d.rows → length nodes ≡ length d.nodes → RowsMoved new rows → NodesMoved new nodes → (v : Value) → Fits s.functions d.parameters false (inside d) v → FitsIn s new (moved_value rows nodes v)
      value_moved new rows nodes all_rows all_nodes have_rows have_nodes (Term r sort) fits = (row_moved rows all_rows new have_rows r sort fits.0, fits.1)
      value_moved new rows nodes all_rows all_nodes have_rows have_nodes (Formula n None) fits = absurd (true≢false (sym fits.1))
      value_moved new rows nodes all_rows all_nodes have_rows have_nodes (Formula n (Some c)) fits =
          (have_nodes n (subst (λ k. n < k) (sym all_nodes) (plain_stands fits.0)) fits.0, have_nodes c (subst (λ k. c < k) (sym all_nodes) (plain_stands fits.1)) fits.1)
