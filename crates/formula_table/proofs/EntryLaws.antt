-- A formula is entered in one way.
use Rattle.std.proofs.Common.{◌≡◌, ◌≢◌, ℕ, ◌+◌, ◌<◌, ◌↔◌, min, max, List, [], ◌∷◌, ◌++◌, length}
use Rattle.std.proofs.Common.{map, slice_get, Some, All, Contains, refl, sym, ap, ap₂, subst, ◌∙◌, ⊎_elim, arith}
use Rattle.std.specs.Prelude.{slice_index}
use Rattle.std.proofs.lemmas.Bool.{cases_lt}
use Rattle.std.proofs.lemmas.List.{same_lists}
use Rattle.std.proofs.lemmas.List.Elements.{All-contains, Contains-get_or, Contains-append_right}
use Rattle.std.proofs.lemmas.Option.{slice_get_within, get_or_from_slice_get}
use Rattle.graph_terms.specs.declared.term_row.TermRow.{TermRow}
use Rattle.graph_meaning.specs.Questions.{AreAll}
use Rattle.graph_terms.specs.Terms.{term_row, IsTable}
use Rattle.graph_terms.proofs.ListLaws.{slice_get-append_left, All-slice_get, element_at, place_from_Contains, Contains-slice_get}
use Rattle.graph_meaning.proofs.OneListLaws.{one_list}
use Rattle.formula_draft.specs.declared.draft_row.DraftRow.TheVariants.{Var, App}
use Rattle.formula_draft.specs.declared.draft_node.DraftNode.{DraftNode}
use Rattle.formula_draft.specs.declared.draft_node.DraftNode.TheVariants.{Equal, Atom, And, Or, Forall}
use Rattle.formula_draft.specs.DraftNode.{parts_of}
use Rattle.formula_draft.specs.Reach.{ReachesNode, ReachesRow}
use Rattle.formula_draft.specs.Reach.ReachesNode.{itself, part_of_it}
use Rattle.formula_draft.specs.Reach.ReachesRow.{named, argument}
use Rattle.formula_draft.proofs.ReachLaws.{row_stands}
use Rattle.formula_draft.specs.Draft.{Formula}
use Rattle.formula_table.specs.Body.{IsFormulaOver}
use Rattle.formula_table.specs.Entry.BecomesRow.{variable, application}
use Rattle.formula_table.specs.declared.node.Node.{Node}
use Rattle.formula_table.specs.declared.node.Node.TheVariants as entered
use Rattle.formula_table.specs.declared.table_forall.TableForall.{TableForall}
use Rattle.formula_table.specs.declared.enter_fault.EnterFault.{EnterFault}
use Rattle.formula_table.specs.declared.enter_fault.EnterFault.TheVariants.{TermsFull, NodesFull, Memory}
use Rattle.formula_table.specs.Formulas.{Formulas, IsFormulaTable}
use Rattle.formula_table.specs.InOrder.{AreInOrder}
use Rattle.formula_table.proofs.BecomesLaws.{row_becomes, node_becomes, forall_stands}
use Rattle.formula_table.proofs.ForallLaws.{one_forall}
use Rattle.formula_table.proofs.InOrderLaws.{one_in_order, full_stops, stand_once}
use Rattle.formula_table.specs.Entry.{BecomesRow, BecomesNode, ReachesForall, RowsGrow, ForallsGrow}
use Rattle.formula_table.specs.Entry.{NodesGrow, FillsTerms, FillsNodes, Enters, LacksNodes}
use Rattle.formula_table.specs.Entry.{StopsEntry, entered_row, entered_node}

-- functions that agree on the elements make one list
map_same : (f g : ℕ → ℕ) (xs : List ℕ) → ((x : ℕ) → Contains xs x → f x ≡ g x) → map f xs ≡ map g xs
map_same f g [] same = refl
map_same f g (x ∷ xs) same = ap₂ (λ (y : ℕ) (ys : List ℕ). y ∷ ys)
    (same x (Contains-get_or (x ∷ xs) 0 x (omega arith)))
    (map_same f g xs (λ y c. same y (Contains-append_right (x ∷ []) xs y c)))

-- what becomes a row is a row of the formula
becomes_within : (formula : Formula) (tuple : List ℕ) (rows : List TermRow) (terms : List ℕ) (n : ℕ) (x : TermRow) →
    BecomesRow formula tuple rows terms n x → n < length formula.rows
becomes_within formula tuple rows terms n x (variable {index = index} reach at term has) = slice_get_within
    formula.rows n (Var index) at
becomes_within formula tuple rows terms n x (application {symbol = symbol} {args = args} reach at) = slice_get_within
    formula.rows n (App symbol args) at

module _ (formula : Formula) (tuple : List ℕ) (is : IsFormulaOver (length tuple) formula) where
  module _ (rows : List TermRow) (stand : All (λ term. term < length rows) tuple) where
    -- an application is the same over terms that agree on the earlier rows
    row_same : (terms others : List ℕ) (n : ℕ) → ((m : ℕ) (x : TermRow) → m < n →
        BecomesRow formula tuple rows terms m x → slice_index terms m ≡ slice_index others m) →
        (symbol : ℕ) (args : List ℕ) → ReachesRow formula.rows formula.nodes formula.root n →
        slice_get formula.rows n ≡ Some (App symbol args) →
        entered_row terms symbol args ≡ entered_row others symbol args
    row_same terms others n agree symbol args reach at = ap (term_row symbol) (map_same (slice_index terms)
        (slice_index others) args
        (λ arg c.
        let lower : arg < n = All-contains (λ a. a < n) args arg (is.lawful.rows_fit n (App symbol args) at).args c
        in
        let becomes = row_becomes formula tuple is rows stand terms arg (argument reach at c) in
        agree arg becomes.0 lower becomes.1))

    -- a row becomes the same over terms that agree on the earlier rows
    row_step : (terms others : List ℕ) (n : ℕ) → ((m : ℕ) (x : TermRow) → m < n →
        BecomesRow formula tuple rows terms m x → slice_index terms m ≡ slice_index others m) → (x : TermRow) →
        BecomesRow formula tuple rows terms n x ↔ BecomesRow formula tuple rows others n x
    row_step terms others n agree x = (to x, from x)
      where
        to : (x : TermRow) → BecomesRow formula tuple rows terms n x → BecomesRow formula tuple rows others n x
        to x (variable reach at term has) = variable reach at term has
        to x (application {symbol = symbol} {args = args} reach at) = subst (BecomesRow formula tuple rows others n)
            (sym (row_same terms others n agree symbol args reach at)) (application reach at)

        from : (x : TermRow) → BecomesRow formula tuple rows others n x → BecomesRow formula tuple rows terms n x
        from x (variable reach at term has) = variable reach at term has
        from x (application {symbol = symbol} {args = args} reach at) = subst (BecomesRow formula tuple rows terms n)
            (row_same terms others n agree symbol args reach at) (application reach at)

  module _ (rows : List TermRow) (stand : All (λ term. term < length rows) tuple) (table : IsTable rows)
      (limit : ℕ) where
    -- all rows are entered in one way
    pub one_rows : (G H : List TermRow → Type 0) (terms others : List ℕ) (one : RowsGrow G formula tuple rows limit terms)
        (other : RowsGrow H formula tuple rows limit others) → (one.added ≡ other.added) ×
        ((n : ℕ) → ReachesRow formula.rows formula.nodes formula.root n → slice_index terms n ≡ slice_index others n)
    one_rows G H terms others one other =
        let first = subst (λ n. AreInOrder (BecomesRow formula tuple rows terms) rows limit n one.added terms) one.all one.enters
        in
        let second = subst (λ n. AreInOrder (BecomesRow formula tuple rows others) rows limit n other.added others) other.all
        other.enters in
        let same = one_in_order (BecomesRow formula tuple rows terms) (BecomesRow formula tuple rows others) rows limit terms others
        table.once (row_step rows stand terms others) (length formula.rows) one.added other.added first second in (
          same.0,
          λ n reach.
              let becomes = row_becomes formula tuple is rows stand terms n reach in
              same.1 n becomes.0 (row_stands formula.rows formula.nodes formula.foralls is.lawful formula.root
              is.root_stands reach) becomes.1,
        )

    -- where there is no room for a term, not all rows are entered
    pub full_terms_not_grown : (G H : List TermRow → Type 0) (terms : List ℕ) → FillsTerms G formula tuple rows limit →
        RowsGrow H formula tuple rows limit terms → ⊥
    full_terms_not_grown G H terms fills grows =
        let within = becomes_within formula tuple rows fills.terms (length fills.terms) fills.full.0 fills.full.1 in
        full_stops (BecomesRow formula tuple rows fills.terms) (BecomesRow formula tuple rows terms) rows limit fills.terms terms table.once
        (row_step rows stand fills.terms terms) (length fills.terms) (length terms) fills.added grows.added fills.enters
        fills.full (omega (arith, within, grows.all)) grows.enters

    -- and it stops behind the same terms
    pub full_terms_added : (G H : List TermRow → Type 0) (one : FillsTerms G formula tuple rows limit)
        (other : FillsTerms H formula tuple rows limit) → one.added ≡ other.added
    full_terms_added G H one other = ⊎_elim
        (λ less. absurd (full_stops (BecomesRow formula tuple rows one.terms) (BecomesRow formula tuple rows other.terms) rows limit
        one.terms other.terms table.once (row_step rows stand one.terms other.terms) (length one.terms) (length other.terms)
        one.added other.added one.enters one.full less other.enters))
        (λ not_less. ⊎_elim
        (λ more. absurd (full_stops (BecomesRow formula tuple rows other.terms) (BecomesRow formula tuple rows one.terms) rows limit
        other.terms one.terms table.once (row_step rows stand other.terms one.terms) (length other.terms) (length one.terms)
        other.added one.added other.enters other.full more one.enters))
        (λ not_more.
        let counts : length other.terms ≡ length one.terms = omega (arith, not_less, not_more) in
        let second = subst (λ n. AreInOrder (BecomesRow formula tuple rows other.terms) rows limit n other.added other.terms)
        counts other.enters in
        (one_in_order (BecomesRow formula tuple rows one.terms) (BecomesRow formula tuple rows other.terms) rows limit one.terms other.terms
        table.once (row_step rows stand one.terms other.terms) (length one.terms) one.added other.added one.enters second).0)
        (cases_lt (length other.terms) (length one.terms)))
        (cases_lt (length one.terms) (length other.terms))

  -- all foralls are entered in one way
  module _ (old added more : List TableForall) (numbers others : List ℕ) (one : ForallsGrow formula old added numbers)
      (other : ForallsGrow formula old more others) where
    abbrev Reached : ℕ → ℕ → Type 0
    Reached n index = (index < n) × ReachesForall formula index

    same_reached : one.enters.reached ≡ other.enters.reached
    same_reached = one_list (Reached (length formula.foralls)) one.enters.reached other.enters.reached
        (subst (λ n. AreAll (Reached n) one.enters.reached) one.all one.enters.all)
        (subst (λ n. AreAll (Reached n) other.enters.reached) other.all other.enters.all)

    -- what both say of a forall
    both_say : (k index : ℕ) → slice_get one.enters.reached k ≡ Some index → index < length formula.foralls →
        (slice_index numbers index ≡ slice_index others index) × (slice_get added k ≡ slice_get more k)
    both_say k index thing within =
        let drafted = element_at formula.foralls index within in
        let place = slice_get_within one.enters.reached k index thing in
        let forall = element_at added k (omega (arith, place, one.enters.count)) in
        let also = element_at more k (omega (arith, place, other.enters.count, ap length same_reached)) in
        let first = one.enters.each k index drafted.0 forall.0 thing drafted.1 forall.1 in
        let second = other.enters.each k index drafted.0 also.0 (ap (λ xs. slice_get xs k) (sym same_reached) ∙ thing)
        drafted.1 also.1 in
        let same = one_forall formula (length old + k) drafted.0 forall.0 also.0 first.1 second.1 in
        (first.0 ∙ sym second.0, forall.1 ∙ ap Some same ∙ sym also.1)

    pub one_foralls : (added ≡ more) × ((index : ℕ) → ReachesForall formula index →
        slice_index numbers index ≡ slice_index others index)
    one_foralls = (
      same_lists added more (omega (arith, one.enters.count, other.enters.count, ap length same_reached))
          (λ k d within.
          let thing = element_at one.enters.reached k (omega (arith, within, one.enters.count)) in
          let reached = (one.enters.all.exact thing.0).0 (Contains-slice_get one.enters.reached k thing.0 thing.1) in
          let item = element_at added k within in
          let same = both_say k thing.0 thing.1 (omega (arith, reached.0, one.all)) in
          get_or_from_slice_get added k item.0 d item.1 ∙ sym
          (get_or_from_slice_get more k item.0 d (sym same.1 ∙ item.1))),
      λ index reach.
          let stands = forall_stands formula (length tuple) is index reach in
          let place = place_from_Contains one.enters.reached index
          ((one.enters.all.exact index).1 (omega (arith, stands, one.all), reach)) in
          (both_say place.0 index place.1 stands).0,
    )

  module _ (terms other_terms foralls other_foralls : List ℕ) (same_terms : (n : ℕ) →
      ReachesRow formula.rows formula.nodes formula.root n →
      slice_index terms n ≡ slice_index other_terms n) (same_foralls : (index : ℕ) → ReachesForall formula index →
      slice_index foralls index ≡ slice_index other_foralls index) where
    -- a node becomes the same over terms, foralls and numbers that agree
    entered_same : (numbers others : List ℕ) (n : ℕ) (node : DraftNode) → ReachesNode formula.nodes formula.root n →
        slice_get formula.nodes n ≡ Some node → ((part : ℕ) → Contains (parts_of node) part →
        slice_index numbers part ≡ slice_index others part) →
        entered_node terms foralls numbers node ≡ entered_node other_terms other_foralls others node
    entered_same numbers others n (Equal positive left right) reach at parts =
        let first = same_terms left (named reach at (0, omega arith, refl)) in
        let second = same_terms right (named reach at (1, omega arith, refl)) in
        ap₂ (λ (a b : ℕ). entered.Equal positive (min a b) (max a b)) first second
    entered_same numbers others n (Atom positive row) reach at parts = ap (λ (a : ℕ). entered.Atom positive a)
        (same_terms row (named reach at (0, omega arith, refl)))
    entered_same numbers others n (And xs) reach at parts = ap (λ (ys : List ℕ). entered.And ys)
        (map_same (slice_index numbers) (slice_index others) xs parts)
    entered_same numbers others n (Or xs) reach at parts = ap (λ (ys : List ℕ). entered.Or ys)
        (map_same (slice_index numbers) (slice_index others) xs parts)
    entered_same numbers others n (Forall index) reach at parts = ap (λ (i : ℕ). entered.Forall i)
        (same_foralls index (record { node = n; reached = reach; stands = at }))

    node_step : (numbers others : List ℕ) (n : ℕ) → ((m : ℕ) (x : Node) → m < n →
        BecomesNode formula terms foralls numbers m x → slice_index numbers m ≡ slice_index others m) → (x : Node) →
        BecomesNode formula terms foralls numbers n x ↔ BecomesNode formula other_terms other_foralls others n x
    node_step numbers others n agree x = (
      λ b. record {
        draft_node = b.draft_node;
        reached = b.reached;
        stands = b.stands;
        node_is = b.node_is ∙ equal b.draft_node b.reached b.stands;
      },
      λ b. record {
        draft_node = b.draft_node;
        reached = b.reached;
        stands = b.stands;
        node_is = b.node_is ∙ sym (equal b.draft_node b.reached b.stands);
      },
    )
      where
        equal : (node : DraftNode) → ReachesNode formula.nodes formula.root n →
            slice_get formula.nodes n ≡ Some node → entered_node terms foralls numbers node
            ≡ entered_node other_terms other_foralls others node
        equal node reach at = entered_same numbers others n node reach at (λ part c.
            let lower : part < n = All-contains (λ p. p < n) (parts_of node) part
            (is.lawful.nodes_fit n node at).parts_stand c in
            let becomes = node_becomes formula (length tuple) is terms foralls numbers part (part_of_it reach at c) in
            agree part becomes.0 lower becomes.1)

    module _ (old : Formulas) (table : IsFormulaTable old) where
      -- all nodes are entered in one way
      pub one_nodes : (added more : List Node) (number other_number : ℕ) →
          NodesGrow formula terms foralls old added number →
          NodesGrow formula other_terms other_foralls old more other_number → (added ≡ more) × (number ≡ other_number)
      one_nodes added more number other_number one other =
          let P = BecomesNode formula terms foralls one.numbers in
          let Q = BecomesNode formula other_terms other_foralls other.numbers in
          let first = subst (λ n. AreInOrder P old.nodes old.limit n added one.numbers) one.all one.enters in
          let second = subst (λ n. AreInOrder Q old.nodes old.limit n more other.numbers) other.all other.enters in
          let same = one_in_order P Q old.nodes old.limit one.numbers other.numbers table.once
          (node_step one.numbers other.numbers) (length formula.nodes) added more first second in
          let becomes = node_becomes formula (length tuple) is terms foralls one.numbers formula.root itself in (
            same.0,
            sym (get_or_from_slice_get one.numbers formula.root number 0 one.root)
                ∙ same.1 formula.root becomes.0 is.root_stands becomes.1
                ∙ get_or_from_slice_get other.numbers formula.root other_number 0 other.root,
          )

      -- where there is no room for a node, not all nodes are entered
      pub full_nodes_not_grown : (more : List Node) (number : ℕ) → FillsNodes formula terms foralls old →
          NodesGrow formula other_terms other_foralls old more number → ⊥
      full_nodes_not_grown more number fills grows =
          let within = slice_get_within formula.nodes (length fills.numbers) fills.full.1.draft_node
          fills.full.1.stands in
          full_stops (BecomesNode formula terms foralls fills.numbers)
          (BecomesNode formula other_terms other_foralls grows.numbers) old.nodes old.limit fills.numbers
          grows.numbers table.once (node_step fills.numbers grows.numbers) (length fills.numbers)
          (length grows.numbers) fills.added more fills.enters fills.full (omega (arith, within, grows.all))
          grows.enters

-- the same terms were added in both ways
pub record OneGrowth (G H : List TermRow → Type 0) : Type 0 where
  pub added : List TermRow
  pub grew : G added
  pub also : H added

-- the same terms were added in both ways, and the same table and number came of it
pub record OneEntry (G H : List TermRow → Type 0) (new other : Formulas) (number other_number : ℕ) : Type 0 where
  pub added : List TermRow
  pub grew : G added
  pub also : H added
  pub table_is : new ≡ other
  pub number_is : number ≡ other_number

module _ (G H : List TermRow → Type 0) (formula : Formula) (tuple : List ℕ) (is : IsFormulaOver (length tuple) formula)
    (rows : List TermRow) (stand : All (λ term. term < length rows) tuple) (table : IsTable rows) (limit : ℕ) (old : Formulas) (is_table : IsFormulaTable old) where
  -- a formula is entered in one way
  pub enters_once : (new other : Formulas) (number other_number : ℕ) → Enters G formula tuple rows limit old new number →
      Enters H formula tuple rows limit old other other_number → OneEntry G H new other number other_number
  enters_once new other number other_number first second =
      let terms = one_rows formula tuple is rows stand table limit G H first.terms second.terms first.rows_grow second.rows_grow
      in
      let one = first.table_grows in
      let two = second.table_grows in
      let foralls = one_foralls formula tuple is old.foralls one.foralls two.foralls one.forall_numbers two.forall_numbers
      one.foralls_grow two.foralls_grow in
      let nodes = one_nodes formula tuple is first.terms second.terms one.forall_numbers two.forall_numbers terms.1
      foralls.1 old is_table one.nodes two.nodes number other_number one.nodes_grow two.nodes_grow in
      record {
        added = first.rows_grow.added;
        grew = first.rows_grow.grew;
        also = subst H (sym terms.0) second.rows_grow.grew;
        table_is = one.new_is ∙ ap₂ with_both nodes.0 foralls.0 ∙ sym two.new_is;
        number_is = nodes.1;
      }
    where
      with_both : List Node → List TableForall → Formulas
      with_both nodes foralls = record {
        nodes = old.nodes ++ nodes;
        foralls = old.foralls ++ foralls;
        limit = old.limit;
      }

  -- a formula with no room for its terms is not entered
  pub full_terms_not_entered : (new : Formulas) (number : ℕ) → FillsTerms G formula tuple rows limit →
      Enters H formula tuple rows limit old new number → ⊥
  full_terms_not_entered new number fills enters = full_terms_not_grown formula tuple is rows stand table limit G H enters.terms
      fills enters.rows_grow

  -- and has not entered its rows, to find no room for its nodes
  pub full_terms_not_lacking : FillsTerms G formula tuple rows limit → LacksNodes H formula tuple rows limit old → ⊥
  full_terms_not_lacking fills lacks = full_terms_not_grown formula tuple is rows stand table limit G H lacks.terms fills
      lacks.rows_grow

  -- a formula with no room for its nodes is not entered
  pub lacking_nodes_not_entered : (new : Formulas) (number : ℕ) → LacksNodes G formula tuple rows limit old →
      Enters H formula tuple rows limit old new number → ⊥
  lacking_nodes_not_entered new number lacks enters =
      let terms = one_rows formula tuple is rows stand table limit G H lacks.terms enters.terms lacks.rows_grow enters.rows_grow
      in
      let one = lacks.fills in
      let two = enters.table_grows in
      let foralls = one_foralls formula tuple is old.foralls one.foralls two.foralls one.forall_numbers two.forall_numbers
      one.foralls_grow two.foralls_grow in
      full_nodes_not_grown formula tuple is lacks.terms enters.terms one.forall_numbers two.forall_numbers terms.1 foralls.1
      old is_table two.nodes number one.fills two.nodes_grow

  -- where there is no room for the terms, the same ones were added
  pub full_terms_once : FillsTerms G formula tuple rows limit → FillsTerms H formula tuple rows limit → OneGrowth G H
  full_terms_once one other = record {
    added = one.added;
    grew = one.grew;
    also = subst H (sym (full_terms_added formula tuple is rows stand table limit G H one other)) other.grew;
  }

  -- and so where there is no room for the nodes
  pub lacking_nodes_once : LacksNodes G formula tuple rows limit old → LacksNodes H formula tuple rows limit old → OneGrowth G H
  lacking_nodes_once one other =
      let terms = one_rows formula tuple is rows stand table limit G H one.terms other.terms one.rows_grow other.rows_grow in
      record {
        added = one.rows_grow.added;
        grew = one.rows_grow.grew;
        also = subst H (sym terms.0) other.rows_grow.grew;
      }

-- but for want of memory, a formula that is entered is not refused
pub stopped_not_entered : (G H refused : List TermRow → Type 0) (formula : Formula) (tuple : List ℕ) →
    IsFormulaOver (length tuple) formula → (rows : List TermRow) → All (λ term. term < length rows) tuple →
    IsTable rows → (limit : ℕ) (old : Formulas) → IsFormulaTable old →
    (new : Formulas) (number : ℕ) (fault : EnterFault) → (fault ≢ Memory) →
    StopsEntry G refused formula tuple rows limit old fault → Enters H formula tuple rows limit old new number → ⊥
stopped_not_entered G H refused formula tuple is rows stand table limit old is_table new number TermsFull not stops
    enters = full_terms_not_entered G H formula tuple is rows stand table limit old is_table new number stops enters
stopped_not_entered G H refused formula tuple is rows stand table limit old is_table new number NodesFull not stops
    enters = lacking_nodes_not_entered G H formula tuple is rows stand table limit old is_table new number stops enters
stopped_not_entered G H refused formula tuple is rows stand table limit old is_table new number Memory not stops enters = not refl

-- but for want of memory, a formula is refused in one way
pub stops_once : (G H refused others : List TermRow → Type 0) (formula : Formula) (tuple : List ℕ) →
    IsFormulaOver (length tuple) formula → (rows : List TermRow) → All (λ term. term < length rows) tuple →
    IsTable rows → (limit : ℕ) (old : Formulas) → IsFormulaTable old →
    (fault other : EnterFault) → (fault ≢ Memory) → (other ≢ Memory) →
    StopsEntry G refused formula tuple rows limit old fault → StopsEntry H others formula tuple rows limit old other →
    (fault ≡ other) × OneGrowth G H
stops_once G H refused others formula tuple is rows stand table limit old is_table TermsFull TermsFull not also one two = (
  refl,
  full_terms_once G H formula tuple is rows stand table limit old is_table one two,
)
stops_once G H refused others formula tuple is rows stand table limit old is_table TermsFull NodesFull not also one two = absurd
    (full_terms_not_lacking G H formula tuple is rows stand table limit old is_table one two)
stops_once G H refused others formula tuple is rows stand table limit old is_table NodesFull TermsFull not also one two = absurd
    (full_terms_not_lacking H G formula tuple is rows stand table limit old is_table two one)
stops_once G H refused others formula tuple is rows stand table limit old is_table NodesFull NodesFull not also one two = (
  refl,
  lacking_nodes_once G H formula tuple is rows stand table limit old is_table one two,
)
stops_once G H refused others formula tuple is rows stand table limit old is_table TermsFull Memory not also one two = absurd
    (also refl)
stops_once G H refused others formula tuple is rows stand table limit old is_table NodesFull Memory not also one two = absurd
    (also refl)
stops_once G H refused others formula tuple is rows stand table limit old is_table Memory other not also one two = absurd
    (not refl)

-- where what grows is told by the rows that were added, the same comes of both ways
pub enters_once-into : {State : Type 0} (grow : List TermRow → State) (later also : State) (formula : Formula)
    (tuple : List ℕ) → IsFormulaOver (length tuple) formula → (rows : List TermRow) →
    All (λ term. term < length rows) tuple → IsTable rows → (limit : ℕ) (old : Formulas) → IsFormulaTable old →
    (new other : Formulas) (number other_number : ℕ)
    → Enters (λ more. later ≡ grow more) formula tuple rows limit old new number →
    Enters (λ more. also ≡ grow more) formula tuple rows limit old other other_number → (later ≡ also) × (new ≡ other) ×
    (number ≡ other_number)
enters_once-into grow later also formula tuple is rows stand table limit old is_table new other number other_number first second =
    let one = enters_once (λ more. later ≡ grow more) (λ more. also ≡ grow more) formula tuple is rows stand table limit old
    is_table new other number other_number first second in
    (one.grew ∙ sym one.also, one.table_is, one.number_is)

-- the term of a variable is the one of the tuple
pub variable_number : (grown : List TermRow → Type 0) (formula : Formula) (tuple : List ℕ) →
    IsFormulaOver (length tuple) formula → (rows : List TermRow) → IsTable rows →
    All (λ term. term < length rows) tuple → (limit : ℕ) (terms : List ℕ) →
    RowsGrow grown formula tuple rows limit terms → (n index : ℕ) →
    ReachesRow formula.rows formula.nodes formula.root n → slice_get formula.rows n ≡ Some (Var index) →
    slice_get tuple index ≡ Some (slice_index terms n)
variable_number grown formula tuple is rows table stand limit terms grow n index reach at =
    let term = element_at tuple index (is.below n index reach at) in
    let row = element_at rows term.0 (All-slice_get (λ t. t < length rows) tuple index term.0 stand term.1) in
    let within = row_stands formula.rows formula.nodes formula.foralls is.lawful formula.root is.root_stands reach in
    let here = grow.enters.stand n row.0 (omega (arith, within, grow.all)) (variable reach at term.1 row.1) in
    let same = stand_once (BecomesRow formula tuple rows terms) rows limit terms table.once (length terms) grow.added
    grow.enters term.0 (slice_index terms n) row.0 (slice_get-append_left rows grow.added term.0 row.0 row.1) here in
    term.1 ∙ ap Some same
