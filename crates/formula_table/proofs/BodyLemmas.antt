-- How the body of a forall is made.
use Rattle.std.proofs.Common.{◌≡◌, ℕ, zero, suc, ◌+◌, ◌<◌, ◌≤◌, Bool, true, false, List, [], ◌∷◌, ◌++◌, map, length, set, get_or, slice_get, Some, All, AllPairs, Contains, refl, sym, ap, ap₂, subst, ◌∙◌, ⊎_elim, arith, true≢false, length-set}
use Rattle.std.specs.Prelude.{slice_index}
use Rattle.std.proofs.lemmas.Bool.{cases_lt}
use Rattle.std.proofs.lemmas.List.{length-append}
use Rattle.std.proofs.lemmas.List.Elements.{All-nil, All-map, All-weaker, All-contains_itself, Contains-push, Contains-push_cases, Contains-append_left, Contains-append_right, Contains-get_or}
use Rattle.std.proofs.lemmas.List.Quantifiers.{all_pairs_push}
use Rattle.std.proofs.lemmas.Option.{none-some, same_Some, slice_get_within, slice_get-get_or, get_or_from_slice_get}
use Rattle.graph_terms.proofs.ListLaws.{slice_get-append_left, slice_get-push, element_at, place_from_Contains, Contains-slice_get}
use Rattle.graph_meaning.specs.Questions.{AreAll}
use Rattle.formula_draft.specs.declared.draft_row.DraftRow.{DraftRow}
use Rattle.formula_draft.specs.declared.draft_row.DraftRow.TheVariants.{Var, App}
use Rattle.formula_draft.specs.declared.draft_node.DraftNode.{DraftNode}
use Rattle.formula_draft.specs.declared.draft_node.DraftNode.TheVariants.{Equal, Atom, And, Or, Forall}
use Rattle.formula_draft.specs.declared.draft_forall.DraftForall.{DraftForall}
use Rattle.formula_draft.specs.DraftRow.{args_of}
use Rattle.formula_draft.specs.DraftNode.{rows_of, parts_of}
use Rattle.formula_draft.specs.Reach.{ReachesNode, ReachesRow}
use Rattle.formula_draft.specs.Reach.ReachesNode.{itself, part_of_it}
use Rattle.formula_draft.specs.Reach.ReachesRow.{named, argument}
use Rattle.formula_draft.proofs.ReachLaws.{node_stands, row_stands}
use Rattle.formula_draft.specs.Draft.{Formula, AreLawful}
use Rattle.formula_table.specs.Marks.{IsMarked, AreMarks}
use Rattle.formula_table.specs.Body.{IsBodyOf, KeepsRow, KeepsNode, renamed_row, renamed_node}
use Rattle.formula_table.specs.BodyInside.{with_marked, ArePlaces, AreMoved}

-- the marked numbers below one, rising
pub record AreMarkedBelow (marks : List Bool) (n : ℕ) (kept : List ℕ) : Type 0 where
  pub all : AreAll (λ m. (m < n) × IsMarked marks m) kept
  pub few : length kept ≤ n

pub marked_none : (marks : List Bool) → AreMarkedBelow marks 0 []
marked_none marks = record {
  all = record {
    rising = λ i j d a b. absurd (omega (arith, b));
    exact = λ n. (λ c. absurd (none-some n (place_from_Contains [] n c).1), λ p. absurd (omega (arith, p.0)));
  };
  few = omega arith;
}

-- one number more
pub marked_next : (marks : List Bool) (n : ℕ) (mark : Bool) (kept : List ℕ) → slice_get marks n ≡ Some mark → AreMarkedBelow marks n kept → AreMarkedBelow marks (n + 1) (with_marked n mark kept)
marked_next marks n true kept at so = record {
  all = record {
    rising = all_pairs_push (λ a b. a < b) kept n so.all.rising
        (λ k d within. ((so.all.exact (get_or kept k d)).0 (Contains-slice_get kept k (get_or kept k d) (slice_get-get_or kept k d within))).0);
    exact = λ m. (
      λ c. ⊎_elim
          (λ old. let was = (so.all.exact m).0 old in (omega (arith, was.0), was.1))
          (λ new. (omega (arith, new), subst (IsMarked marks) new at))
          (Contains-push_cases kept n m c),
      λ p. ⊎_elim
          (λ earlier. Contains-append_left kept (n ∷ []) m ((so.all.exact m).1 (earlier, p.1)))
          (λ not_earlier. let here : m ≡ n = omega (arith, p.0, not_earlier) in subst (Contains (kept ++ n ∷ [])) (sym here) (Contains-push kept n))
          (cases_lt m n),
    );
  };
  few = omega (arith, so.few, length-append kept (n ∷ []));
}
marked_next marks n false kept at so = record {
  all = record {
    rising = so.all.rising;
    exact = λ m. (
      λ c. let was = (so.all.exact m).0 c in (omega (arith, was.0), was.1),
      λ p. (so.all.exact m).1 (
        ⊎_elim
            (λ earlier. earlier)
            (λ not_earlier. let here : m ≡ n = omega (arith, p.0, not_earlier) in absurd (true≢false (same_Some true false (sym p.1 ∙ ap (slice_get marks) here ∙ at))))
            (cases_lt m n),
        p.1,
      ),
    );
  };
  few = omega (arith, so.few);
}

-- all numbers were passed
pub marked_all : (marks : List Bool) (n : ℕ) (kept : List ℕ) → length marks ≤ n → AreMarkedBelow marks n kept → AreAll (IsMarked marks) kept
marked_all marks n kept past so = record {
  rising = so.all.rising;
  exact = λ m. (
    λ c. ((so.all.exact m).0 c).1,
    λ is. let within = slice_get_within marks m true is in (so.all.exact m).1 (omega (arith, within, past), is),
  );
}

-- what is marked is what has a property
pub kept_with : (count : ℕ) (P : ℕ → Type 0) (marks : List Bool) (kept : List ℕ) → AreMarks count P marks → AreAll (IsMarked marks) kept → AreAll P kept
kept_with count P marks kept are all = record {
  rising = all.rising;
  exact = λ n. (λ c. are.only n ((all.exact n).0 c), λ p. (all.exact n).1 (are.each n p));
}

-- kept numbers are below the count
pub kept_below : (count : ℕ) (P : ℕ → Type 0) (marks : List Bool) (kept : List ℕ) → AreMarks count P marks → AreAll (IsMarked marks) kept → All (λ n. n < count) kept
kept_below count P marks kept are all = All-weaker (Contains kept) (λ n. n < count)
    (λ n c. let within = slice_get_within marks n true ((all.exact n).0 c) in omega (arith, within, are.len))
    kept (All-contains_itself kept)

-- a place that was set, and another
set_here : (xs : List ℕ) (i x : ℕ) → i < length xs → slice_index (set xs i x) i ≡ x
set_here [] i x within = absurd (omega arith)
set_here (y ∷ xs) zero x within = refl
set_here (y ∷ xs) (suc i) x within = set_here xs i x (omega arith)

set_other : (xs : List ℕ) (i j x : ℕ) → (i ≡ j → ⊥) → slice_index (set xs i x) j ≡ slice_index xs j
set_other [] i j x other = refl
set_other (y ∷ xs) zero zero x other = absurd (other refl)
set_other (y ∷ xs) zero (suc j) x other = refl
set_other (y ∷ xs) (suc i) zero x other = refl
set_other (y ∷ xs) (suc i) (suc j) x other = set_other xs i j x (λ same. other (ap suc same))

-- the places of the first kept numbers
pub record ArePlacesBelow (kept : List ℕ) (count index : ℕ) (places : List ℕ) : Type 0 where
  pub len : length places ≡ count
  pub each : (k n : ℕ) → k < index → slice_get kept k ≡ Some n → slice_index places n ≡ k

pub places_next : (kept : List ℕ) (count index n : ℕ) (places : List ℕ) → AllPairs (λ a b. a < b) kept → slice_get kept index ≡ Some n → n < count → ArePlacesBelow kept count index places → ArePlacesBelow kept count (index + 1) (set places n index)
places_next kept count index n places rising at below so = record {
  len = length-set places n index ∙ so.len;
  each = λ k m less at_k. ⊎_elim
      (λ earlier.
      let within = slice_get_within kept index n at in
      let up = rising k index 0 earlier within in
      let this = get_or_from_slice_get kept k m 0 at_k in
      let that = get_or_from_slice_get kept index n 0 at in
      set_other places n m index (λ same. absurd (omega (arith, same, up, this, that))) ∙ so.each k m earlier at_k)
      (λ not_earlier.
      let here : k ≡ index = omega (arith, less, not_earlier) in
      let same : m ≡ n = same_Some m n (sym at_k ∙ ap (slice_get kept) here ∙ at) in
      ap (slice_index (set places n index)) same ∙ set_here places n index (omega (arith, below, so.len)) ∙ sym here)
      (cases_lt k index);
}

pub places_all : (kept : List ℕ) (count index : ℕ) (places : List ℕ) → length kept ≤ index → ArePlacesBelow kept count index places → ArePlaces kept count places
places_all kept count index places past so = record {
  len = so.len;
  each = λ k n at. let within = slice_get_within kept k n at in so.each k n (omega (arith, within, past)) at;
}

module _ {X : Type 0} (move : X → X) (items : List X) (kept : List ℕ) where
  -- the first kept items were moved
  pub record AreMovedBelow (index : ℕ) (moved : List X) : Type 0 where
    pub count : length moved ≡ index
    pub each : (k n : ℕ) (x : X) → k < index → slice_get kept k ≡ Some n → slice_get items n ≡ Some x → slice_get moved k ≡ Some (move x)

  pub moved_none : AreMovedBelow 0 []
  moved_none = record { count = refl; each = λ k n x less. absurd (omega (arith, less)) }

  pub moved_next : (index n : ℕ) (x : X) (moved : List X) → slice_get kept index ≡ Some n → slice_get items n ≡ Some x → AreMovedBelow index moved → AreMovedBelow (index + 1) (moved ++ move x ∷ [])
  moved_next index n x moved at stands so = record {
    count = omega (arith, length-append moved (move x ∷ []), so.count);
    each = λ k m y less at_k stands_k. ⊎_elim
        (λ earlier. slice_get-append_left moved (move x ∷ []) k (move y) (so.each k m y earlier at_k stands_k))
        (λ not_earlier.
        let here : k ≡ index = omega (arith, less, not_earlier) in
        let place : k ≡ length moved = omega (arith, here, so.count) in
        let number : m ≡ n = same_Some m n (sym at_k ∙ ap (slice_get kept) here ∙ at) in
        let same : y ≡ x = same_Some y x (sym stands_k ∙ ap (slice_get items) number ∙ stands) in
        ap (slice_get (moved ++ move x ∷ [])) place ∙ slice_get-push moved (move x) ∙ ap Some (ap move (sym same)))
        (cases_lt k index);
  }

  pub moved_all : (index : ℕ) (moved : List X) → length kept ≡ index → AreMovedBelow index moved → AreMoved move items kept moved
  moved_all index moved all so = record {
    count = omega (arith, so.count, all);
    each = λ k n x at. let within = slice_get_within kept k n at in so.each k n x (omega (arith, within, all)) at;
  }

-- places and numbers
module _ (kept : List ℕ) (count : ℕ) (places : List ℕ) (are : ArePlaces kept count places) where
  -- the place of a kept number is that of an element, which is the number
  place_back : (x : ℕ) → Contains kept x → (slice_index places x < length kept) × (slice_index kept (slice_index places x) ≡ x)
  place_back x c =
      let place = place_from_Contains kept x c in
      let at = are.each place.0 x place.1 in
      let within = slice_get_within kept place.0 x place.1 in
      (omega (arith, at, within), ap (slice_index kept) at ∙ get_or_from_slice_get kept place.0 x 0 place.1)

  places_within : (xs : List ℕ) → ((x : ℕ) → Contains xs x → Contains kept x) → All (λ p. p < length kept) (map (slice_index places) xs)
  places_within xs in_kept = All-map (λ p. p < length kept) (slice_index places) xs
      (All-weaker (Contains xs) (λ x. slice_index places x < length kept) (λ x c. (place_back x (in_kept x c)).0) xs (All-contains_itself xs))

  places_back : (xs : List ℕ) → ((x : ℕ) → Contains xs x → Contains kept x) → map (slice_index kept) (map (slice_index places) xs) ≡ xs
  places_back [] in_kept = refl
  places_back (x ∷ xs) in_kept = ap₂ (λ (y : ℕ) (ys : List ℕ). y ∷ ys)
      (place_back x (in_kept x (Contains-get_or (x ∷ xs) 0 x (omega arith)))).1
      (places_back xs (λ y c. in_kept y (Contains-append_right (x ∷ []) xs y c)))

  keeps_row : (rows : List DraftRow) (place : ℕ) (row : DraftRow) → slice_get rows (slice_index kept place) ≡ Some row → ((arg : ℕ) → Contains (args_of row) arg → Contains kept arg) → KeepsRow rows kept place (renamed_row (slice_index places) row)
  keeps_row rows place (Var index) at in_kept = record { args_kept = All-nil (λ arg. arg < length kept); was = at }
  keeps_row rows place (App symbol args) at in_kept = record {
    args_kept = places_within args in_kept;
    was = at ∙ ap (λ xs. Some (App symbol xs)) (sym (places_back args in_kept));
  }

module _ (kept_rows kept_nodes : List ℕ) (rows_count nodes_count : ℕ) (row_places node_places : List ℕ) (row_are : ArePlaces kept_rows rows_count row_places) (node_are : ArePlaces kept_nodes nodes_count node_places) where
  abbrev moved_node : DraftNode → DraftNode
  moved_node = renamed_node (slice_index row_places) (slice_index node_places)

  abbrev RowsKept : List ℕ → Type 0
  RowsKept = All (λ row. row < length kept_rows)

  abbrev PartsKept : List ℕ → Type 0
  PartsKept = All (λ part. part < length kept_nodes)

  node_rows_kept : (node : DraftNode) → ((row : ℕ) → Contains (rows_of node) row → Contains kept_rows row) → RowsKept (rows_of (moved_node node))
  node_rows_kept (Equal positive left right) in_kept = places_within kept_rows rows_count row_places row_are (left ∷ right ∷ []) in_kept
  node_rows_kept (Atom positive row) in_kept = places_within kept_rows rows_count row_places row_are (row ∷ []) in_kept
  node_rows_kept (And parts) in_kept = All-nil (λ row. row < length kept_rows)
  node_rows_kept (Or parts) in_kept = All-nil (λ row. row < length kept_rows)
  node_rows_kept (Forall index) in_kept = All-nil (λ row. row < length kept_rows)

  node_parts_kept : (node : DraftNode) → ((part : ℕ) → Contains (parts_of node) part → Contains kept_nodes part) → PartsKept (parts_of (moved_node node))
  node_parts_kept (Equal positive left right) in_kept = All-nil (λ part. part < length kept_nodes)
  node_parts_kept (Atom positive row) in_kept = All-nil (λ part. part < length kept_nodes)
  node_parts_kept (And parts) in_kept = places_within kept_nodes nodes_count node_places node_are parts in_kept
  node_parts_kept (Or parts) in_kept = places_within kept_nodes nodes_count node_places node_are parts in_kept
  node_parts_kept (Forall index) in_kept = All-nil (λ part. part < length kept_nodes)

  node_back : (node : DraftNode) → ((row : ℕ) → Contains (rows_of node) row → Contains kept_rows row) → ((part : ℕ) → Contains (parts_of node) part → Contains kept_nodes part) → renamed_node (slice_index kept_rows) (slice_index kept_nodes) (moved_node node) ≡ node
  node_back (Equal positive left right) rows_in parts_in =
      let one = (place_back kept_rows rows_count row_places row_are left (rows_in left (0, omega arith, refl))).1 in
      let two = (place_back kept_rows rows_count row_places row_are right (rows_in right (1, omega arith, refl))).1 in
      ap₂ (λ (a b : ℕ). Equal positive a b) one two
  node_back (Atom positive row) rows_in parts_in = ap (λ (a : ℕ). Atom positive a)
      (place_back kept_rows rows_count row_places row_are row (rows_in row (0, omega arith, refl))).1
  node_back (And parts) rows_in parts_in = ap (λ (xs : List ℕ). And xs) (places_back kept_nodes nodes_count node_places node_are parts parts_in)
  node_back (Or parts) rows_in parts_in = ap (λ (xs : List ℕ). Or xs) (places_back kept_nodes nodes_count node_places node_are parts parts_in)
  node_back (Forall index) rows_in parts_in = refl

-- the kept rows and nodes, moved, are the body
module _ (rows : List DraftRow) (nodes : List DraftNode) (foralls : List DraftForall) (lawful : AreLawful rows nodes foralls) (start : ℕ) (start_stands : start < length nodes) (kept_rows kept_nodes : List ℕ) (row_places node_places : List ℕ)
    (all_rows : AreAll (ReachesRow rows nodes start) kept_rows) (all_nodes : AreAll (ReachesNode nodes start) kept_nodes) (row_are : ArePlaces kept_rows (length rows) row_places) (node_are : ArePlaces kept_nodes (length nodes) node_places)
    (body : Formula) (rows_moved : AreMoved (renamed_row (slice_index row_places)) rows kept_rows body.rows) (nodes_moved : AreMoved (renamed_node (slice_index row_places) (slice_index node_places)) nodes kept_nodes body.nodes)
    (root_is : body.root ≡ slice_index node_places start) (no_foralls : body.foralls ≡ []) where
  keeps_each_row : (k : ℕ) (row : DraftRow) → slice_get body.rows k ≡ Some row → KeepsRow rows kept_rows k row
  keeps_each_row k row at =
      let within = slice_get_within body.rows k row at in
      let number = element_at kept_rows k (omega (arith, within, rows_moved.count)) in
      let reach = (all_rows.exact number.0).0 (Contains-slice_get kept_rows k number.0 number.1) in
      let old = element_at rows number.0 (row_stands rows nodes foralls lawful start start_stands reach) in
      let same : row ≡ renamed_row (slice_index row_places) old.0 = same_Some row (renamed_row (slice_index row_places) old.0) (sym at ∙ rows_moved.each k number.0 old.0 number.1 old.1) in
      let here = get_or_from_slice_get kept_rows k number.0 0 number.1 in
      subst (KeepsRow rows kept_rows k) (sym same)
      (keeps_row kept_rows (length rows) row_places row_are rows k old.0 (ap (slice_get rows) here ∙ old.1)
      (λ arg c. (all_rows.exact arg).1 (argument reach old.1 c)))

  keeps_each_node : (k : ℕ) (node : DraftNode) → slice_get body.nodes k ≡ Some node → KeepsNode nodes kept_rows kept_nodes k node
  keeps_each_node k node at =
      let within = slice_get_within body.nodes k node at in
      let number = element_at kept_nodes k (omega (arith, within, nodes_moved.count)) in
      let reach = (all_nodes.exact number.0).0 (Contains-slice_get kept_nodes k number.0 number.1) in
      let old = element_at nodes number.0 (node_stands rows nodes foralls lawful start start_stands reach) in
      let Moved = moved_node kept_rows kept_nodes (length rows) (length nodes) row_places node_places row_are node_are in
      let same : node ≡ Moved old.0 = same_Some node (Moved old.0) (sym at ∙ nodes_moved.each k number.0 old.0 number.1 old.1) in
      let here = get_or_from_slice_get kept_nodes k number.0 0 number.1 in
      let rows_in : (row : ℕ) → Contains (rows_of old.0) row → Contains kept_rows row = λ row c. (all_rows.exact row).1 (named reach old.1 c) in
      let parts_in : (part : ℕ) → Contains (parts_of old.0) part → Contains kept_nodes part = λ part c. (all_nodes.exact part).1 (part_of_it reach old.1 c) in
      subst (KeepsNode nodes kept_rows kept_nodes k) (sym same)
      (record {
        rows_kept = node_rows_kept kept_rows kept_nodes (length rows) (length nodes) row_places node_places row_are node_are old.0 rows_in;
        parts_kept = node_parts_kept kept_rows kept_nodes (length rows) (length nodes) row_places node_places row_are node_are old.0 parts_in;
        was = ap (slice_get nodes) here ∙ old.1 ∙ ap Some (sym (node_back kept_rows kept_nodes (length rows) (length nodes) row_places node_places row_are node_are old.0 rows_in parts_in));
      })

  pub body_made : IsBodyOf rows nodes start body
  body_made =
      let place = place_from_Contains kept_nodes start ((all_nodes.exact start).1 itself) in
      record {
        kept_rows = kept_rows;
        kept_nodes = kept_nodes;
        all_rows = all_rows;
        all_nodes = all_nodes;
        row_count = rows_moved.count;
        node_count = nodes_moved.count;
        each_row = keeps_each_row;
        each_node = keeps_each_node;
        root_kept = ap (slice_get kept_nodes) (root_is ∙ node_are.each place.0 start place.1) ∙ place.1;
        no_foralls = no_foralls;
      }
