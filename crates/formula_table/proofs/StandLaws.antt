-- What stands after a formula was entered.
use Rattle.std.proofs.Common.{◌≡◌, ℕ, zero, suc, ◌+◌, ◌<◌, ◌≤◌, min, max, List, [], ◌∷◌, ◌++◌, length, slice_get}
use Rattle.std.proofs.Common.{Some, All, Contains, refl, sym, ap, subst, ◌∙◌, ⊎_elim, append-nil, append_assoc, arith}
use Rattle.std.specs.Prelude.{slice_index}
use Rattle.std.proofs.lemmas.List.{length-append, length-map}
use Rattle.std.proofs.lemmas.List.Elements.{All-nil, All-cons, All-map, All-weaker, All-contains, All-contains_itself}
use Rattle.std.proofs.lemmas.Option.{slice_get_within, get_or_from_slice_get}
use Rattle.graph_terms.specs.declared.term_row.TermRow.{TermRow}
use Rattle.graph_terms.specs.Terms.{IsTable, most_args}
use Rattle.graph_terms.proofs.TableLaws.{IsTable-push}
use Rattle.graph_terms.proofs.ListLaws.{slice_get-append_left, element_at, place_from_Contains, Contains-slice_get}
use Rattle.formula_draft.specs.declared.draft_row.DraftRow.TheVariants.{App}
use Rattle.formula_draft.specs.declared.draft_node.DraftNode.{DraftNode}
use Rattle.formula_draft.specs.declared.draft_forall.DraftForall.{DraftForall}
use Rattle.formula_draft.specs.declared.draft_node.DraftNode.TheVariants.{Equal, Atom, And, Or, Forall}
use Rattle.formula_draft.specs.DraftNode.{parts_of}
use Rattle.formula_draft.specs.Reach.{ReachesNode, ReachesRow}
use Rattle.formula_draft.specs.Reach.ReachesNode.{itself, part_of_it}
use Rattle.formula_draft.specs.Reach.ReachesRow.{named, argument}
use Rattle.formula_draft.proofs.ReachLaws.{row_stands}
use Rattle.formula_draft.specs.Draft.{Formula}
use Rattle.formula_table.specs.Body.{IsFormulaOver}
use Rattle.formula_table.specs.Entry.BecomesRow.{variable, application}
use Rattle.formula_table.specs.declared.node.Node.{Node}
use Rattle.formula_table.specs.declared.table_forall.TableForall.{TableForall}
use Rattle.formula_table.specs.Node.{terms_in}
use Rattle.formula_table.specs.Formulas.{Formulas, IsFormulaTable, IsForallOf, FitsTable, NodesStand, with_foralls}
use Rattle.formula_table.proofs.FormulaLaws.{append_cases, IsFormulaTable-push, IsFormulaTable-foralls}
use Rattle.formula_table.proofs.ForallLaws.{becomes_forall}
use Rattle.formula_table.proofs.BecomesLaws.{row_becomes, node_becomes, forall_stands}
use Rattle.formula_table.specs.InOrder.{AreInOrder, StandsNowhere}
use Rattle.formula_table.proofs.InOrderLaws.{PutLast, none_added, last_step}
use Rattle.formula_table.specs.Entry.{BecomesRow, BecomesNode, ReachesForall, RowsGrow, ForallsGrow, TableGrows}
use Rattle.formula_table.specs.Entry.{FillsTerms, LacksMemory, LacksNodes, Enters, entered_node}

-- the node that a reached node becomes fits a table in which its parts and its forall stand
pub fits_entered : (formula : Formula) (terms foralls numbers : List ℕ) (table : Formulas) (n : ℕ)
    (node : DraftNode) → slice_get formula.nodes n ≡ Some node → ReachesNode formula.nodes formula.root n →
    ((part : ℕ) → Contains (parts_of node) part → slice_index numbers part < length table.nodes) →
    ((index : ℕ) → ReachesForall formula index → slice_index foralls index < length table.foralls) →
    FitsTable table (entered_node terms foralls numbers node)
fits_entered formula terms foralls numbers table n (Equal positive left right) at reach parts stand = omega arith
fits_entered formula terms foralls numbers table n (Atom positive row) at reach parts stand = tt
fits_entered formula terms foralls numbers table n (And xs) at reach parts stand = All-map
    (λ part. part < length table.nodes) (slice_index numbers) xs
    (All-weaker (Contains xs) (λ x. slice_index numbers x < length table.nodes) parts xs (All-contains_itself xs))
fits_entered formula terms foralls numbers table n (Or xs) at reach parts stand = All-map
    (λ part. part < length table.nodes) (slice_index numbers) xs
    (All-weaker (Contains xs) (λ x. slice_index numbers x < length table.nodes) parts xs (All-contains_itself xs))
fits_entered formula terms foralls numbers table n (Forall index) at reach parts stand = stand index
    (record { node = n; reached = reach; stands = at })

module _ (formula : Formula) (tuple : List ℕ) (is : IsFormulaOver (length tuple) formula) where
  module _ (rows : List TermRow) (stand : All (λ term. term < length rows) tuple) (limit : ℕ) (terms : List ℕ) where
    -- the row that is put last is over earlier terms
    earlier_args : (n : ℕ) (added front : List TermRow) → AreInOrder (BecomesRow formula tuple rows terms) rows limit n
        front terms → (item : TermRow) → BecomesRow formula tuple rows terms n item →
        StandsNowhere (rows ++ front) item → All (λ arg. arg < length (rows ++ front)) item.args
    earlier_args n added front before item (variable {term = term} reach at place has) nowhere = absurd
        (nowhere term (slice_get-append_left rows front term item has))
    earlier_args n added front before item (application {symbol = symbol} {args = args} reach at) nowhere =
        All-map (λ arg. arg < length (rows ++ front)) (slice_index terms) args
        (All-weaker (Contains args) (λ arg. slice_index terms arg < length (rows ++ front))
        (λ arg c.
        let lower : arg < n = All-contains (λ a. a < n) args arg (is.lawful.rows_fit n (App symbol args) at).args c in
        let row = row_becomes formula tuple is rows stand terms arg (argument reach at c) in
        slice_get_within (rows ++ front) (slice_index terms arg) row.0 (before.stand arg row.0 lower row.1))
        args (All-contains_itself args))

    few_args : (n : ℕ) (front : List TermRow) (item : TermRow) → BecomesRow formula tuple rows terms n item →
        StandsNowhere (rows ++ front) item → length item.args ≤ most_args
    few_args n front item (variable {term = term} reach at place has) nowhere = absurd
        (nowhere term (slice_get-append_left rows front term item has))
    few_args n front item (application {symbol = symbol} {args = args} reach at) nowhere =
        let few = (is.lawful.rows_fit n (App symbol args) at).few in
        omega (arith, few, length-map args (slice_index terms))

    -- rows that were entered leave a table
    pub rows_table : IsTable rows → (n : ℕ) (added : List TermRow) →
        AreInOrder (BecomesRow formula tuple rows terms) rows limit n added terms → IsTable (rows ++ added)
    rows_table table zero added enters = subst IsTable (sym
        (ap (λ more. rows ++ more) (none_added (BecomesRow formula tuple rows terms) rows limit terms added enters)
        ∙ append-nil rows)) table
    rows_table table (suc n) added enters = ⊎_elim
        (λ kept. rows_table table n added kept)
        (λ put.
        let before = rows_table table n put.front put.before in
        let all = IsTable-push (rows ++ put.front) put.item
        (earlier_args n added put.front put.before put.item put.becomes put.nowhere)
        (few_args n put.front put.item put.becomes put.nowhere) put.nowhere before in
        subst IsTable (append_assoc rows put.front (put.item ∷ []) ∙ ap (λ more. rows ++ more) (sym put.added_is))
        all)
        (last_step (BecomesRow formula tuple rows terms) rows limit terms n added enters)

  module _ (old : Formulas) (added : List TableForall) (numbers : List ℕ)
      (grow : ForallsGrow formula old.foralls added numbers) where
    forall_fits : (k index : ℕ) (drafted : DraftForall) (forall : TableForall) →
        slice_get grow.enters.reached k ≡ Some index → slice_get formula.foralls index ≡ Some drafted →
        slice_get added k ≡ Some forall → IsForallOf (length old.foralls + k) forall
    forall_fits k index drafted forall thing stands at =
        let has = grow.enters.each k index drafted forall thing stands at in
        becomes_forall formula is.lawful (length old.foralls + k) drafted forall
        (is.lawful.foralls_fit index drafted stands) has.1

    -- foralls that were entered leave a table
    pub foralls_table : IsFormulaTable old → IsFormulaTable (with_foralls added old)
    foralls_table table = IsFormulaTable-foralls old table added (λ k forall at.
        let thing = element_at grow.enters.reached k (let within = slice_get_within added k forall at in
        omega (arith, within, grow.enters.count)) in
        let reached = (grow.enters.all.exact thing.0).0 (Contains-slice_get grow.enters.reached k thing.0 thing.1) in
        let drafted = element_at formula.foralls thing.0 (omega (arith, reached.0, grow.all)) in
        forall_fits k thing.0 drafted.0 forall thing.1 drafted.1 at)

    -- and their numbers stand in it
    pub foralls_below : (index : ℕ) → ReachesForall formula index →
        slice_index numbers index < length (old.foralls ++ added)
    foralls_below index reach =
        let stands = forall_stands formula (length tuple) is index reach in
        let place = place_from_Contains grow.enters.reached index
        ((grow.enters.all.exact index).1 (omega (arith, stands, grow.all), reach)) in
        let drafted = element_at formula.foralls index stands in
        let within = slice_get_within grow.enters.reached place.0 index place.1 in
        let forall = element_at added place.0 (omega (arith, within, grow.enters.count)) in
        let has = grow.enters.each place.0 index drafted.0 forall.0 place.1 drafted.1 forall.1 in
        omega (arith, has.0, within, grow.enters.count, length-append old.foralls added)

  module _ (terms foralls numbers : List ℕ) (old : Formulas) (table : IsFormulaTable old) (stand : (index : ℕ) →
      ReachesForall formula index → slice_index foralls index < length old.foralls) where
    abbrev with_nodes : List Node → Formulas
    with_nodes more = record old { nodes = old.nodes ++ more }

    fits_put : (n : ℕ) (added : List Node) (put : PutLast (BecomesNode formula terms foralls numbers) old.nodes
        old.limit n added numbers) → FitsTable (with_nodes put.front) put.item
    fits_put n added put =
        let becomes = put.becomes in
        subst (FitsTable (with_nodes put.front)) (sym becomes.node_is)
        (fits_entered formula terms foralls numbers (with_nodes put.front) n becomes.draft_node becomes.stands
        becomes.reached
        (λ part c.
        let lower : part < n = All-contains (λ p. p < n) (parts_of becomes.draft_node) part
        (is.lawful.nodes_fit n becomes.draft_node becomes.stands).parts_stand c in
        let node = node_becomes formula (length tuple) is terms foralls numbers part (part_of_it becomes.reached becomes.stands c) in
        slice_get_within (old.nodes ++ put.front) (slice_index numbers part) node.0
        (put.before.stand part node.0 lower node.1))
        stand)

    -- nodes that were entered leave a table
    pub nodes_table : (n : ℕ) (added : List Node) → AreInOrder (BecomesNode formula terms foralls numbers) old.nodes
        old.limit n added numbers → IsFormulaTable (with_nodes added)
    nodes_table zero added enters = subst (λ (nodes : List Node). IsFormulaTable (record old { nodes = nodes }))
        (sym (ap (λ more. old.nodes ++ more) (none_added (BecomesNode formula terms foralls numbers) old.nodes
        old.limit numbers added enters) ∙ append-nil old.nodes)) table
    nodes_table (suc n) added enters = ⊎_elim
        (λ kept. nodes_table n added kept)
        (λ put.
        let before = nodes_table n put.front put.before in
        let all = IsFormulaTable-push (with_nodes put.front) before put.item (fits_put n added put) put.nowhere
        put.room in
        subst (λ (nodes : List Node). IsFormulaTable (record old { nodes = nodes }))
        (append_assoc old.nodes put.front (put.item ∷ []) ∙ ap (λ more. old.nodes ++ more) (sym put.added_is))
        all)
        (last_step (BecomesNode formula terms foralls numbers) old.nodes old.limit numbers n added enters)

  -- foralls and nodes that were entered leave a table
  pub formulas_table : (terms : List ℕ) (old new : Formulas) (number : ℕ) → TableGrows formula terms old new number →
      IsFormulaTable old → IsFormulaTable new
  formulas_table terms old new number grows table =
      let between = with_foralls grows.foralls old in
      subst IsFormulaTable (sym grows.new_is)
      (nodes_table terms grows.forall_numbers grows.nodes_grow.numbers between
      (foralls_table old grows.foralls grows.forall_numbers grows.foralls_grow table)
      (foralls_below old grows.foralls grows.forall_numbers grows.foralls_grow)
      (length grows.nodes_grow.numbers) grows.nodes grows.nodes_grow.enters)

  -- the root stands in it
  pub root_below : (terms : List ℕ) (old new : Formulas) (number : ℕ) → TableGrows formula terms old new number →
      number < length new.nodes
  root_below terms old new number grows =
      let numbers = grows.nodes_grow.numbers in
      let root = node_becomes formula (length tuple) is terms grows.forall_numbers numbers formula.root itself in
      let stands = grows.nodes_grow.enters.stand formula.root root.0
      (omega (arith, grows.nodes_grow.all, is.root_stands)) root.1 in
      let same = get_or_from_slice_get numbers formula.root number 0 grows.nodes_grow.root in
      let within = slice_get_within (old.nodes ++ grows.nodes) (slice_index numbers formula.root) root.0 stands in
      let nodes : length new.nodes ≡ length (old.nodes ++ grows.nodes) = ap (λ (table : Formulas). length table.nodes)
      grows.new_is in
      omega (arith, same, within, nodes)

  module _ (grown : List TermRow → Type 0) (rows : List TermRow) (stand : All (λ term. term < length rows) tuple)
      (limit : ℕ) (terms : List ℕ) (grow : RowsGrow grown formula tuple rows limit terms) where
    -- a reached row is among the terms
    pub row_below : (n : ℕ) → ReachesRow formula.rows formula.nodes formula.root n →
        slice_index terms n < length (rows ++ grow.added)
    row_below n reach =
        let row = row_becomes formula tuple is rows stand terms n reach in
        let within = row_stands formula.rows formula.nodes formula.foralls is.lawful formula.root is.root_stands reach
        in
        slice_get_within (rows ++ grow.added) (slice_index terms n) row.0
        (grow.enters.stand n row.0 (omega (arith, within, grow.all)) row.1)

    abbrev AreBelow : List ℕ → Type 0
    AreBelow = All (λ term. term < length (rows ++ grow.added))

    one_term : (term : ℕ) → term < length (rows ++ grow.added) → AreBelow (term ∷ [])
    one_term term below = All-cons (λ t. t < length (rows ++ grow.added)) term [] below
        (All-nil (λ t. t < length (rows ++ grow.added)))

    -- a reached node is over the terms
    node_terms : (foralls numbers : List ℕ) (n : ℕ) (node : Node) → BecomesNode formula terms foralls numbers n node →
        AreBelow (terms_in node)
    node_terms foralls numbers n node becomes = subst (λ (x : Node). AreBelow (terms_in x)) (sym becomes.node_is)
        (by becomes.draft_node becomes.stands)
      where
        by : (drafted : DraftNode) → slice_get formula.nodes n ≡ Some drafted →
            AreBelow (terms_in (entered_node terms foralls numbers drafted))
        by (Equal positive left right) at =
            let one = row_below left (named becomes.reached at (0, omega arith, refl)) in
            let other = row_below right (named becomes.reached at (1, omega arith, refl)) in
            let least = min (slice_index terms left) (slice_index terms right) in
            let most = max (slice_index terms left) (slice_index terms right) in
            All-cons (λ t. t < length (rows ++ grow.added)) least (most ∷ []) (omega (arith, one, other))
            (one_term most (omega (arith, one, other)))
        by (Atom positive row) at = one_term (slice_index terms row)
            (row_below row (named becomes.reached at (0, omega arith, refl)))
        by (And parts) at = All-nil (λ t. t < length (rows ++ grow.added))
        by (Or parts) at = All-nil (λ t. t < length (rows ++ grow.added))
        by (Forall index) at = All-nil (λ t. t < length (rows ++ grow.added))

    -- all nodes are over the terms that stand
    pub terms_below : (old new : Formulas) (number : ℕ) → TableGrows formula terms old new number →
        NodesStand (length rows) old.nodes → NodesStand (length (rows ++ grow.added)) new.nodes
    terms_below old new number grows nodes_stand = subst (λ (table : Formulas). NodesStand (length (rows ++ grow.added))
        table.nodes) (sym grows.new_is) (λ n node at. ⊎_elim
        (λ earlier. All-weaker (λ term. term < length rows) (λ term. term < length (rows ++ grow.added))
        (λ term less. omega (arith, less, length-append rows grow.added)) (terms_in node) (nodes_stand n node earlier))
        (λ later.
        let within = slice_get_within grows.nodes later.0 node later.2 in
        let thing = element_at grows.nodes_grow.enters.things later.0
        (omega (arith, within, grows.nodes_grow.enters.count)) in
        node_terms grows.forall_numbers grows.nodes_grow.numbers thing.0 node
        (grows.nodes_grow.enters.each later.0 thing.0 node thing.1 later.2).1)
        (append_cases old.nodes grows.nodes n node at))

-- what was entered leaves tables, over the terms that stand
pub record StandsAfter (rows added : List TermRow) (old new : Formulas) (number : ℕ) : Type 0 where
  pub rows_stand : IsTable rows → IsTable (rows ++ added)
  pub formulas_stand : IsFormulaTable old → IsFormulaTable new
  pub terms_stand : NodesStand (length rows) old.nodes → NodesStand (length (rows ++ added)) new.nodes
  pub root_stands : number < length new.nodes

pub stands_after : (grown : List TermRow → Type 0) (formula : Formula) (tuple : List ℕ) →
    IsFormulaOver (length tuple) formula → (rows : List TermRow) → All (λ term. term < length rows) tuple →
    (limit : ℕ) (old new : Formulas) (number : ℕ) (enters : Enters grown formula tuple rows limit old new number) →
    StandsAfter rows enters.rows_grow.added old new number
stands_after grown formula tuple is rows stand limit old new number enters = record {
  rows_stand = λ table. rows_table formula tuple is rows stand limit enters.terms table (length enters.terms)
      enters.rows_grow.added enters.rows_grow.enters;
  formulas_stand = formulas_table formula tuple is enters.terms old new number enters.table_grows;
  terms_stand = terms_below formula tuple is grown rows stand limit enters.terms enters.rows_grow old new number
      enters.table_grows;
  root_stands = root_below formula tuple is enters.terms old new number enters.table_grows;
}

-- after a refusal the terms that were added leave a table, too
module _ (grown refused : List TermRow → Type 0) (formula : Formula) (tuple : List ℕ)
    (is : IsFormulaOver (length tuple) formula) (rows : List TermRow) (stand : All (λ term. term < length rows) tuple)
    (table : IsTable rows) (limit : ℕ) where
  pub full_terms_table : (fills : FillsTerms grown formula tuple rows limit) → IsTable (rows ++ fills.added)
  full_terms_table fills = rows_table formula tuple is rows stand limit fills.terms table (length fills.terms)
      fills.added fills.enters

  pub lacking_nodes_table : (old : Formulas) (lacks : LacksNodes grown formula tuple rows limit old) →
      IsTable (rows ++ lacks.rows_grow.added)
  lacking_nodes_table old lacks = rows_table formula tuple is rows stand limit lacks.terms table (length lacks.terms)
      lacks.rows_grow.added lacks.rows_grow.enters

  pub lacking_memory_table : (lacks : LacksMemory grown refused formula tuple rows limit) →
      IsTable (rows ++ lacks.added)
  lacking_memory_table lacks = rows_table formula tuple is rows stand limit lacks.terms table (length lacks.terms)
      lacks.added lacks.enters
