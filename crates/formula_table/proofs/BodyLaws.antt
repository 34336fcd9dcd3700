-- The body of a forall is one formula, over the variables of the forall.
use Rattle.std.proofs.Common.{◌≡◌, ℕ, zero, suc, ◌<◌, List, [], ◌∷◌, map, length, get_or, slice_get, Some}
use Rattle.std.proofs.Common.{All, AllPairs, Bool, Contains, refl, sym, ap, ap₂, subst, ◌∙◌, ⊎_elim, arith}
use Rattle.std.specs.Prelude.{slice_index}
use Rattle.std.proofs.lemmas.Bool.{cases_lt}
use Rattle.std.proofs.lemmas.List.{same_lists, length-map}
use Rattle.std.proofs.lemmas.List.Elements.{All-nil, All-cons, All-contains, All-weaker, All-contains_itself}
use Rattle.std.proofs.lemmas.List.Elements.{Contains-get_or}
use Rattle.std.proofs.lemmas.Option.{none-some, same_Some, slice_get_within, get_or_from_slice_get}
use Rattle.graph_meaning.proofs.OneListLaws.{one_list}
use Rattle.graph_terms.proofs.ListLaws.{element_at, place_from_Contains, Contains-slice_get}
use Rattle.formula_draft.specs.declared.draft_row.DraftRow.{DraftRow}
use Rattle.formula_draft.specs.declared.draft_row.DraftRow.TheVariants.{Var, App}
use Rattle.formula_draft.specs.declared.draft_node.DraftNode.{DraftNode}
use Rattle.formula_draft.specs.declared.draft_node.DraftNode.TheVariants.{Equal, Atom, And, Or, Forall}
use Rattle.formula_draft.specs.declared.draft_forall.DraftForall.{DraftForall}
use Rattle.formula_draft.specs.DraftRow.{args_of}
use Rattle.formula_draft.specs.DraftNode.{rows_of, parts_of, foralls_of}
use Rattle.formula_draft.specs.Reach.{ReachesNode, ReachesRow}
use Rattle.formula_draft.specs.Reach.ReachesNode.{itself, part_of_it}
use Rattle.formula_draft.specs.Reach.ReachesRow.{named, argument}
use Rattle.formula_draft.specs.Draft.{Formula, AreLawful, FitsRow, FitsNode}
use Rattle.formula_table.specs.Body.{IsFormulaOver, IsCompact, IsBodyOf, KeepsRow, KeepsNode, renamed_row, renamed_node}

-- the kind of a row, and of a node
abbrev row_kind : DraftRow → ℕ
row_kind (Var index) = 0
row_kind (App symbol args) = 1

abbrev node_kind : DraftNode → ℕ
node_kind (Equal positive left right) = 0
node_kind (Atom positive row) = 1
node_kind (And parts) = 2
node_kind (Or parts) = 3
node_kind (Forall index) = 4

-- what all of a mapped list has, all of the list has of its images
All-mapped : (P : ℕ → Type 0) (f : ℕ → ℕ) (xs : List ℕ) → All P (map f xs) → All (λ x. P (f x)) xs
All-mapped P f [] all = All-nil (λ x. P (f x))
All-mapped P f (x ∷ xs) all = All-cons (λ y. P (f y)) x xs (all 0 0 (omega arith))
    (All-mapped P f xs (λ k d within. all (suc k) d (omega (arith, within))))

-- a rising list in its own order
module _ (kept : List ℕ) (rising : AllPairs (λ a b. a < b) kept) where
  pub rises : (i j : ℕ) → i < j → j < length kept → slice_index kept i < slice_index kept j
  rises i j less within = rising i j 0 less within

  -- a lower number is at an earlier place
  pub earlier_place : (i j : ℕ) → i < length kept → slice_index kept i < slice_index kept j → i < j
  earlier_place i j within less = ⊎_elim (λ earlier. earlier)
      (λ not_earlier. ⊎_elim
      (λ later. absurd (let up = rises j i later within in omega (arith, up, less)))
      (λ not_later. absurd (let here : i ≡ j = omega (arith, not_earlier, not_later) in
      omega (arith, less, ap (slice_index kept) here)))
      (cases_lt j i))
      (cases_lt i j)

  -- and a number at one place
  pub one_place : (i j : ℕ) → i < length kept → j < length kept → slice_index kept i ≡ slice_index kept j → i ≡ j
  one_place i j within_i within_j same = ⊎_elim
      (λ earlier. absurd (let up = rises i j earlier within_j in omega (arith, up, same)))
      (λ not_earlier. ⊎_elim
      (λ later. absurd (let up = rises j i later within_i in omega (arith, up, same)))
      (λ not_later. omega (arith, not_earlier, not_later))
      (cases_lt j i))
      (cases_lt i j)

  -- places of lower numbers are earlier
  pub all_earlier : (place : ℕ) (xs : List ℕ) → All (λ x. x < length kept) xs →
      All (λ y. y < slice_index kept place) (map (slice_index kept) xs) → All (λ x. x < place) xs
  all_earlier place xs within lower = All-weaker (Contains xs) (λ x. x < place)
      (λ x c. earlier_place x place (All-contains (λ y. y < length kept) xs x within c)
      (All-contains (λ y. slice_index kept y < slice_index kept place) xs x
      (All-mapped (λ y. y < slice_index kept place) (slice_index kept) xs lower) c))
      xs (All-contains_itself xs)

  -- lists of places are the same where their numbers are
  pub same_places : (xs ys : List ℕ) → All (λ x. x < length kept) xs → All (λ y. y < length kept) ys →
      map (slice_index kept) xs ≡ map (slice_index kept) ys → xs ≡ ys
  same_places [] [] all also same = refl
  same_places [] (y ∷ ys) all also same = absurd (omega (arith, ap length same))
  same_places (x ∷ xs) [] all also same = absurd (omega (arith, ap length same))
  same_places (x ∷ xs) (y ∷ ys) all also same = ap₂ (λ (z : ℕ) (zs : List ℕ). z ∷ zs)
      (one_place x y (all 0 0 (omega arith)) (also 0 0 (omega arith)) (ap (λ zs. get_or zs 0 0) same))
      (same_places xs ys (λ k d within. all (suc k) d (omega (arith, within)))
      (λ k d within. also (suc k) d (omega (arith, within)))
      (let rest : map (slice_index kept) xs ≡ map (slice_index kept) ys = cc in rest))

  -- rows are the same where they are once renamed
  pub same_renamed_row : (row other : DraftRow) → All (λ arg. arg < length kept) (args_of row) →
      All (λ arg. arg < length kept) (args_of other) →
      renamed_row (slice_index kept) row ≡ renamed_row (slice_index kept) other → row ≡ other
  same_renamed_row (Var i) (Var j) all also same = same
  same_renamed_row (App f xs) (App g ys) all also same =
      let symbol : f ≡ g = cc in
      let args : map (slice_index kept) xs ≡ map (slice_index kept) ys = cc in
      ap₂ App symbol (same_places xs ys all also args)
  same_renamed_row (Var i) (App g ys) all also same = absurd (let kinds : 0 ≡ 1 = ap row_kind same in
      omega (arith, kinds))
  same_renamed_row (App f xs) (Var j) all also same = absurd (let kinds : 1 ≡ 0 = ap row_kind same in
      omega (arith, kinds))

-- and so of nodes
module _ (kept_rows kept_nodes : List ℕ) (rising_rows : AllPairs (λ a b. a < b) kept_rows)
    (rising_nodes : AllPairs (λ a b. a < b) kept_nodes) where
  abbrev Rows : List ℕ → Type 0
  Rows = All (λ row. row < length kept_rows)

  abbrev Parts : List ℕ → Type 0
  Parts = All (λ part. part < length kept_nodes)

  abbrev renamed : DraftNode → DraftNode
  renamed = renamed_node (slice_index kept_rows) (slice_index kept_nodes)

  pub same_renamed_node : (node other : DraftNode) → Rows (rows_of node) → Rows (rows_of other) →
      Parts (parts_of node) → Parts (parts_of other) → renamed node ≡ renamed other → node ≡ other
  same_renamed_node (Equal p s t) (Equal q u v) rows others parts more same =
      let sign : p ≡ q = cc in
      let left : slice_index kept_rows s ≡ slice_index kept_rows u = cc in
      let right : slice_index kept_rows t ≡ slice_index kept_rows v = cc in
      let one = one_place kept_rows rising_rows s u (rows 0 0 (omega arith)) (others 0 0 (omega arith)) left in
      let two = one_place kept_rows rising_rows t v (rows 1 0 (omega arith)) (others 1 0 (omega arith)) right in
      ap (λ (b : Bool). Equal b s t) sign ∙ ap₂ (λ (a b : ℕ). Equal q a b) one two
  same_renamed_node (Atom p s) (Atom q u) rows others parts more same =
      let sign : p ≡ q = cc in
      let row : slice_index kept_rows s ≡ slice_index kept_rows u = cc in
      ap₂ Atom sign (one_place kept_rows rising_rows s u (rows 0 0 (omega arith)) (others 0 0 (omega arith)) row)
  same_renamed_node (And xs) (And ys) rows others parts more same =
      let all : map (slice_index kept_nodes) xs ≡ map (slice_index kept_nodes) ys = cc in
      ap And (same_places kept_nodes rising_nodes xs ys parts more all)
  same_renamed_node (Or xs) (Or ys) rows others parts more same =
      let all : map (slice_index kept_nodes) xs ≡ map (slice_index kept_nodes) ys = cc in
      ap Or (same_places kept_nodes rising_nodes xs ys parts more all)
  same_renamed_node (Forall i) (Forall j) rows others parts more same = same
  same_renamed_node a b rows others parts more same = let kinds : node_kind (renamed a) ≡ node_kind (renamed b) =
      ap node_kind same in absurd (omega (arith, kinds))

-- the names of what is renamed
args_renamed : (f : ℕ → ℕ) (row : DraftRow) → args_of (renamed_row f row) ≡ map f (args_of row)
args_renamed f (Var index) = refl
args_renamed f (App symbol args) = refl

parts_renamed : (f g : ℕ → ℕ) (node : DraftNode) → parts_of (renamed_node f g node) ≡ map g (parts_of node)
parts_renamed f g (Equal positive left right) = refl
parts_renamed f g (Atom positive row) = refl
parts_renamed f g (And parts) = refl
parts_renamed f g (Or parts) = refl
parts_renamed f g (Forall index) = refl

-- a node is no forall, or it is one
foralls_of_node : (P : ℕ → Type 0) (node : DraftNode) → ((index : ℕ) → node ≡ Forall index → ⊥) →
    All P (foralls_of node)
foralls_of_node P (Equal positive left right) not = All-nil P
foralls_of_node P (Atom positive row) not = All-nil P
foralls_of_node P (And parts) not = All-nil P
foralls_of_node P (Or parts) not = All-nil P
foralls_of_node P (Forall index) not = absurd (not index refl)

abbrev made : List DraftRow → List DraftNode → List DraftForall → ℕ → Formula
made rows nodes foralls root = record { rows = rows; nodes = nodes; foralls = foralls; root = root }

module _ (rows : List DraftRow) (nodes : List DraftNode) (start : ℕ) where
  -- the kept rows are told by their numbers
  same_kept_rows : (kept : List ℕ) → AllPairs (λ a b. a < b) kept → (xs ys : List DraftRow) →
      length xs ≡ length kept → length ys ≡ length kept →
      ((k : ℕ) (row : DraftRow) → slice_get xs k ≡ Some row → KeepsRow rows kept k row) →
      ((k : ℕ) (row : DraftRow) → slice_get ys k ≡ Some row → KeepsRow rows kept k row) → xs ≡ ys
  same_kept_rows kept rising xs ys len also keeps others = same_lists xs ys (len ∙ sym also) (λ k d within.
      let x = element_at xs k within in
      let y = element_at ys k (omega (arith, within, len, also)) in
      let one = keeps k x.0 x.1 in
      let two = others k y.0 y.1 in
      let same = same_renamed_row kept rising x.0 y.0 one.args_kept two.args_kept
      (same_Some (renamed_row (slice_index kept) x.0) (renamed_row (slice_index kept) y.0) (sym one.was ∙ two.was)) in
      get_or_from_slice_get xs k x.0 d x.1 ∙ same ∙ sym (get_or_from_slice_get ys k y.0 d y.1))

  -- and so are the kept nodes
  same_kept_nodes : (kept_rows kept : List ℕ) → AllPairs (λ a b. a < b) kept_rows → AllPairs (λ a b. a < b) kept →
      (xs ys : List DraftNode) → length xs ≡ length kept → length ys ≡ length kept →
      ((k : ℕ) (node : DraftNode) → slice_get xs k ≡ Some node → KeepsNode nodes kept_rows kept k node) →
      ((k : ℕ) (node : DraftNode) → slice_get ys k ≡ Some node → KeepsNode nodes kept_rows kept k node) → xs ≡ ys
  same_kept_nodes kept_rows kept rising_rows rising xs ys len also keeps others = same_lists xs ys (len ∙ sym also)
      (λ k d within.
      let x = element_at xs k within in
      let y = element_at ys k (omega (arith, within, len, also)) in
      let one = keeps k x.0 x.1 in
      let two = others k y.0 y.1 in
      let same = same_renamed_node kept_rows kept rising_rows rising x.0 y.0 one.rows_kept two.rows_kept
      one.parts_kept two.parts_kept
      (same_Some (renamed kept_rows kept rising_rows rising x.0) (renamed kept_rows kept rising_rows rising y.0)
      (sym one.was ∙ two.was)) in
      get_or_from_slice_get xs k x.0 d x.1 ∙ same ∙ sym (get_or_from_slice_get ys k y.0 d y.1))

  -- there is one body of a node
  pub one_body : (body other : Formula) → IsBodyOf rows nodes start body → IsBodyOf rows nodes start other →
      body ≡ other
  one_body body other one two =
      let kept_rows = one_list (ReachesRow rows nodes start) one.kept_rows two.kept_rows one.all_rows two.all_rows in
      let kept_nodes = one_list (ReachesNode nodes start) one.kept_nodes two.kept_nodes one.all_nodes two.all_nodes in
      let same_rows = same_kept_rows one.kept_rows one.all_rows.rising body.rows other.rows one.row_count
      (two.row_count ∙ ap length (sym kept_rows)) one.each_row
      (subst (λ kept. (k : ℕ) (row : DraftRow) → slice_get other.rows k ≡ Some row → KeepsRow rows kept k row)
      (sym kept_rows) two.each_row) in
      let same_nodes = same_kept_nodes one.kept_rows one.kept_nodes one.all_rows.rising one.all_nodes.rising
      body.nodes other.nodes one.node_count (two.node_count ∙ ap length (sym kept_nodes)) one.each_node
      (subst (λ kept. (k : ℕ) (node : DraftNode) → slice_get other.nodes k ≡ Some node →
      KeepsNode nodes one.kept_rows kept k node) (sym kept_nodes)
      (subst (λ kept. (k : ℕ) (node : DraftNode) → slice_get other.nodes k ≡ Some node →
      KeepsNode nodes kept two.kept_nodes k node) (sym kept_rows) two.each_node)) in
      let within = slice_get_within one.kept_nodes body.root start one.root_kept in
      let here = ap (λ kept. slice_get kept other.root) kept_nodes ∙ two.root_kept in
      let within_other = slice_get_within one.kept_nodes other.root start here in
      let root = one_place one.kept_nodes one.all_nodes.rising body.root other.root within within_other
      (get_or_from_slice_get one.kept_nodes body.root start 0 one.root_kept
      ∙ sym (get_or_from_slice_get one.kept_nodes other.root start 0 here)) in
      ap (λ list. made list body.nodes body.foralls body.root) same_rows
      ∙ ap (λ list. made other.rows list body.foralls body.root) same_nodes
      ∙ ap (λ list. made other.rows other.nodes list body.root) (one.no_foralls ∙ sym two.no_foralls)
      ∙ ap (made other.rows other.nodes other.foralls) root

  module _ (foralls : List DraftForall) (lawful : AreLawful rows nodes foralls) (variables : ℕ) (no_forall : (n index : ℕ)
      → ReachesNode nodes start n → slice_get nodes n ≡ Some (Forall index) → ⊥) (below : (row index : ℕ) →
      ReachesRow rows nodes start row → slice_get rows row ≡ Some (Var index) → index < variables) (body : Formula)
      (is : IsBodyOf rows nodes start body) where
    row_within : (k : ℕ) (row : DraftRow) → slice_get body.rows k ≡ Some row → k < length is.kept_rows
    row_within k row at = let within = slice_get_within body.rows k row at in omega (arith, within, is.row_count)

    node_within : (k : ℕ) (node : DraftNode) → slice_get body.nodes k ≡ Some node → k < length is.kept_nodes
    node_within k node at = let within = slice_get_within body.nodes k node at in omega (arith, within, is.node_count)

    row_fits : (k : ℕ) (row : DraftRow) → slice_get body.rows k ≡ Some row → FitsRow k row
    row_fits k row at =
        let keeps = is.each_row k row at in
        let fits = lawful.rows_fit (slice_index is.kept_rows k) (renamed_row (slice_index is.kept_rows) row) keeps.was
        in
        let names = args_renamed (slice_index is.kept_rows) row in
        record {
          args = all_earlier is.kept_rows is.all_rows.rising k (args_of row) keeps.args_kept
              (subst (All (λ arg. arg < slice_index is.kept_rows k)) names fits.args);
          few = omega (arith, fits.few, ap length names, length-map (args_of row) (slice_index is.kept_rows));
        }

    node_fits : (k : ℕ) (node : DraftNode) → slice_get body.nodes k ≡ Some node →
        FitsNode (length body.rows) k (length body.foralls) node
    node_fits k node at =
        let keeps = is.each_node k node at in
        let kept = slice_index is.kept_nodes k in
        let names = slice_index is.kept_rows in
        let places = slice_index is.kept_nodes in
        let fits = lawful.nodes_fit kept (renamed_node names places node) keeps.was in
        let reached = (is.all_nodes.exact kept).0 (Contains-get_or is.kept_nodes k 0 (node_within k node at)) in
        record {
          rows_stand = All-weaker (λ row. row < length is.kept_rows) (λ row. row < length body.rows)
              (λ row lower. omega (arith, lower, is.row_count)) (rows_of node) keeps.rows_kept;
          parts_stand = all_earlier is.kept_nodes is.all_nodes.rising k (parts_of node) keeps.parts_kept
              (subst (All (λ part. part < kept)) (parts_renamed names places node) fits.parts_stand);
          foralls_stand = foralls_of_node (λ n. n < length body.foralls) node (λ index node_is.
              no_forall kept index reached
              (keeps.was ∙ ap Some (ap (renamed_node names places) node_is)));
        }

    body_lawful : AreLawful body.rows body.nodes body.foralls
    body_lawful = record {
      rows_fit = row_fits;
      rows_once = λ m n row at_m at_n.
          one_place is.kept_rows is.all_rows.rising m n (row_within m row at_m) (row_within n row at_n)
          (lawful.rows_once (slice_index is.kept_rows m) (slice_index is.kept_rows n)
          (renamed_row (slice_index is.kept_rows) row) (is.each_row m row at_m).was (is.each_row n row at_n).was);
      nodes_fit = node_fits;
      nodes_once = λ m n node at_m at_n.
          one_place is.kept_nodes is.all_nodes.rising m n (node_within m node at_m) (node_within n node at_n)
          (lawful.nodes_once (slice_index is.kept_nodes m) (slice_index is.kept_nodes n)
          (renamed_node (slice_index is.kept_rows) (slice_index is.kept_nodes) node) (is.each_node m node at_m).was
          (is.each_node n node at_n).was);
      foralls_fit = λ n forall at. absurd (none-some forall (ap (λ list. slice_get list n) (sym is.no_foralls) ∙ at));
    }

    -- the body is a formula over the variables
    pub body_over : IsFormulaOver variables body
    body_over = record {
      lawful = body_lawful;
      root_stands = let within = slice_get_within is.kept_nodes body.root start is.root_kept in
          omega (arith, within, is.node_count);
      below = λ row index reach at. below (slice_index is.kept_rows row) index
          ((is.all_rows.exact (slice_index is.kept_rows row)).0
          (Contains-get_or is.kept_rows row 0 (row_within row (Var index) at)))
          (is.each_row row (Var index) at).was;
    }

-- what a mapped list has is the image of an element
in_mapped : (f : ℕ → ℕ) (xs : List ℕ) (i y : ℕ) → slice_get (map f xs) i ≡ Some y → (x : ℕ) ×
    (slice_get xs i ≡ Some x) × (f x ≡ y)
in_mapped f [] i y at = absurd (none-some y at)
in_mapped f (x ∷ xs) zero y at = (x, refl, same_Some (f x) y at)
in_mapped f (x ∷ xs) (suc i) y at = in_mapped f xs i y at

image_of : (f : ℕ → ℕ) (xs : List ℕ) (y : ℕ) → Contains (map f xs) y → (x : ℕ) × Contains xs x × (f x ≡ y)
image_of f xs y c =
    let place = place_from_Contains (map f xs) y c in
    let image = in_mapped f xs place.0 y place.1 in
    (image.0, Contains-slice_get xs place.0 image.0 image.1, image.2)

rows_renamed : (f g : ℕ → ℕ) (node : DraftNode) → rows_of (renamed_node f g node) ≡ map f (rows_of node)
rows_renamed f g (Equal positive left right) = refl
rows_renamed f g (Atom positive row) = refl
rows_renamed f g (And parts) = refl
rows_renamed f g (Or parts) = refl
rows_renamed f g (Forall index) = refl

-- all of a body is reached from its root
module _ (rows : List DraftRow) (nodes : List DraftNode) (start : ℕ) (body : Formula)
    (is : IsBodyOf rows nodes start body) where
  -- the place that a kept number has, where it is reached
  record NodePlace (n : ℕ) : Type 0 where
    place : ℕ
    within : place < length is.kept_nodes
    kept : slice_index is.kept_nodes place ≡ n
    reached : ReachesNode body.nodes body.root place

  record RowPlace (n : ℕ) : Type 0 where
    place : ℕ
    within : place < length is.kept_rows
    kept : slice_index is.kept_rows place ≡ n
    reached : ReachesRow body.rows body.nodes body.root place

  node_place : {n : ℕ} → ReachesNode nodes start n → NodePlace n
  node_place itself = record {
    place = body.root;
    within = slice_get_within is.kept_nodes body.root start is.root_kept;
    kept = get_or_from_slice_get is.kept_nodes body.root start 0 is.root_kept;
    reached = itself;
  }
  node_place (part_of_it {n = n} {part = part} {node = node} above at c) =
      let up = node_place above in
      let node_at = element_at body.nodes up.place (let within = up.within in omega (arith, within, is.node_count)) in
      let keeps = is.each_node up.place node_at.0 node_at.1 in
      let names = slice_index is.kept_rows in
      let places = slice_index is.kept_nodes in
      let same : node ≡ renamed_node names places node_at.0 = same_Some node (renamed_node names places node_at.0)
      (sym at ∙ ap (slice_get nodes) (sym up.kept) ∙ keeps.was) in
      let image = image_of places (parts_of node_at.0) part
      (subst (λ (xs : List ℕ). Contains xs part) (ap parts_of same ∙ parts_renamed names places node_at.0) c) in
      record {
        place = image.0;
        within = All-contains (λ p. p < length is.kept_nodes) (parts_of node_at.0) image.0 keeps.parts_kept image.1;
        kept = image.2;
        reached = part_of_it up.reached node_at.1 image.1;
      }

  row_place : {n : ℕ} → ReachesRow rows nodes start n → RowPlace n
  row_place (named {n = n} {row = row} {node = node} above at c) =
      let up = node_place above in
      let node_at = element_at body.nodes up.place (let within = up.within in omega (arith, within, is.node_count)) in
      let keeps = is.each_node up.place node_at.0 node_at.1 in
      let names = slice_index is.kept_rows in
      let places = slice_index is.kept_nodes in
      let same : node ≡ renamed_node names places node_at.0 = same_Some node (renamed_node names places node_at.0)
      (sym at ∙ ap (slice_get nodes) (sym up.kept) ∙ keeps.was) in
      let image = image_of names (rows_of node_at.0) row
      (subst (λ (xs : List ℕ). Contains xs row) (ap rows_of same ∙ rows_renamed names places node_at.0) c) in
      record {
        place = image.0;
        within = All-contains (λ p. p < length is.kept_rows) (rows_of node_at.0) image.0 keeps.rows_kept image.1;
        kept = image.2;
        reached = named up.reached node_at.1 image.1;
      }
  row_place (argument {n = n} {arg = arg} {row = row} above at c) =
      let up = row_place above in
      let row_at = element_at body.rows up.place (let within = up.within in omega (arith, within, is.row_count)) in
      let keeps = is.each_row up.place row_at.0 row_at.1 in
      let names = slice_index is.kept_rows in
      let same : row ≡ renamed_row names row_at.0 = same_Some row (renamed_row names row_at.0)
      (sym at ∙ ap (slice_get rows) (sym up.kept) ∙ keeps.was) in
      let image = image_of names (args_of row_at.0) arg
      (subst (λ (xs : List ℕ). Contains xs arg) (ap args_of same ∙ args_renamed names row_at.0) c) in
      record {
        place = image.0;
        within = All-contains (λ p. p < length is.kept_rows) (args_of row_at.0) image.0 keeps.args_kept image.1;
        kept = image.2;
        reached = argument up.reached row_at.1 image.1;
      }

  pub body_compact : IsCompact body
  body_compact = record {
    rows_reached = λ n within.
        let inside : n < length is.kept_rows = omega (arith, within, is.row_count) in
        let place = row_place ((is.all_rows.exact (slice_index is.kept_rows n)).0
        (Contains-get_or is.kept_rows n 0 inside)) in
        subst (ReachesRow body.rows body.nodes body.root)
        (one_place is.kept_rows is.all_rows.rising place.place n place.within inside place.kept) place.reached;
    nodes_reached = λ n within.
        let inside : n < length is.kept_nodes = omega (arith, within, is.node_count) in
        let place = node_place ((is.all_nodes.exact (slice_index is.kept_nodes n)).0
        (Contains-get_or is.kept_nodes n 0 inside)) in
        subst (ReachesNode body.nodes body.root)
        (one_place is.kept_nodes is.all_nodes.rising place.place n place.within inside place.kept) place.reached;
  }
