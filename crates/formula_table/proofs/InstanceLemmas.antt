-- How the body of a forall is entered.
use Rattle.std.proofs.Common.{◌≡◌, ℕ, zero, suc, ◌<◌, Bool, true, List, [], length, replicate, get_or, slice_get, Some, All, refl, sym, ap, subst, ◌∙◌, inl, arith}
use Rattle.std.proofs.lemmas.List.{length-replicate}
use Rattle.std.proofs.lemmas.Option.{same_Some, slice_get_within, slice_get-get_or}
use Rattle.std.proofs.lemmas.List.Elements.{All-contains}
use Rattle.graph_terms.specs.declared.term_row.TermRow.{TermRow}
use Rattle.formula_draft.specs.declared.draft_node.DraftNode.{DraftNode}
use Rattle.formula_draft.specs.DraftNode.{parts_of, foralls_of}
use Rattle.formula_draft.specs.Reach.{ReachesRow}
use Rattle.formula_draft.specs.Reach.ReachesNode.{part_of_it}
use Rattle.formula_draft.specs.Draft.{Formula}
use Rattle.formula_draft.proofs.ReachLaws.{row_stands, back}
use Rattle.formula_table.specs.declared.table_forall.TableForall.{TableForall}
use Rattle.formula_table.specs.Marks.{IsMarked, AreMarks}
use Rattle.formula_table.specs.Body.{IsFormulaOver, IsCompact}
use Rattle.formula_table.specs.Formulas.{Formulas, IsFormulaTable, FitsTable, GrowsTable, NamesFirst}
use Rattle.formula_table.specs.declared.node.Node.{Node}
use Rattle.formula_table.specs.declared.node.Node.TheVariants.{Forall}
use Rattle.formula_table.specs.declared.enter_fault.EnterFault.{EnterFault}
use Rattle.formula_table.specs.declared.enter_fault.EnterFault.TheVariants.{TermsFull, NodesFull, Memory}
use Rattle.formula_table.specs.Entry.{entered_node, BecomesNode, ReachesForall, RowsGrow, TableGrows, StopsTable, StopsEntry}
use Rattle.formula_table.specs.EntryInside.{ForallsEntered, NodeNumbersStand}
use Rattle.formula_table.specs.Instance.{HasVariables, HasBody, EntersInstance, StopsInstance}
use Rattle.formula_table.proofs.BecomesLaws.{forall_stands}
use Rattle.formula_table.proofs.StandLaws.{fits_entered}
use Rattle.formula_table.proofs.ForallLemmas.{foralls_none}

-- each number below the count is marked
marked_of : (count n : ℕ) → n < count → IsMarked (replicate count true) n
marked_of zero n below = absurd (omega arith)
marked_of (suc count) zero below = refl
marked_of (suc count) (suc n) below = marked_of count n (omega arith)

-- all rows of a compact formula are reached
pub marks_of_all : (variables : ℕ) (formula : Formula) → IsFormulaOver variables formula → IsCompact formula → (count : ℕ) → count ≡ length formula.rows → (marks : List Bool) → marks ≡ replicate count true → AreMarks (length formula.rows) (ReachesRow formula.rows formula.nodes formula.root) marks
marks_of_all variables formula is compact count counted marks all =
    let len : length marks ≡ length formula.rows = ap length all ∙ length-replicate count true ∙ counted in
    record {
      len = len;
      only = λ n marked. let within = slice_get_within marks n true marked in compact.rows_reached n (omega (arith, within, len));
      each = λ n reach.
          let stands = row_stands formula.rows formula.nodes formula.foralls is.lawful formula.root is.root_stands reach in
          subst (λ (ms : List Bool). IsMarked ms n) (sym all) (marked_of count n (omega (arith, stands, counted)));
    }

-- a forall has one body
pub one_body : (table : Formulas) (forall : ℕ) (body other : Formula) → HasBody table forall body → HasBody table forall other → body ≡ other
one_body table forall body other one two = sym one.2 ∙ ap (λ (quantified : TableForall). quantified.body) (same_Some one.0 two.0 (sym one.1 ∙ two.1)) ∙ two.2

-- so a node of the one is a node of the other
pub node_in_body : (table : Formulas) (forall : ℕ) (body other : Formula) → HasBody table forall body → HasBody table forall other → (n : ℕ) (node : DraftNode) → slice_get other.nodes n ≡ Some node → slice_get body.nodes n ≡ Some node
node_in_body table forall body other one two n node at = ap (λ (of : Formula). slice_get of.nodes n) (one_body table forall body other one two) ∙ at

-- it stands
pub forall_within : (table : Formulas) (forall : ℕ) (body : Formula) → HasBody table forall body → forall < length table.foralls
forall_within table forall body has = slice_get_within table.foralls forall has.0 has.1

-- what the body of a forall is
pub record IsBody (variables : ℕ) (body : Formula) : Type 0 where
  pub over : IsFormulaOver variables body
  pub compact : IsCompact body
  pub no_foralls : body.foralls ≡ []

pub is_body : (table : Formulas) → IsFormulaTable table → (forall : ℕ) (body : Formula) → HasBody table forall body → (n : ℕ) → HasVariables table forall n → IsBody n body
is_body table is forall body has n variables =
    let of = is.foralls forall has.0 has.1 in
    let same : variables.0 ≡ has.0 = same_Some variables.0 has.0 (sym variables.1 ∙ has.1) in
    let count : has.0.variables ≡ n = ap (λ (quantified : TableForall). quantified.variables) (sym same) ∙ variables.2 in
    subst (IsBody n) has.2
    (record {
      over = subst (λ (k : ℕ). IsFormulaOver k has.0.body) count of.body_over;
      compact = of.compact;
      no_foralls = of.no_foralls;
    })

pub some_body : (table : Formulas) → IsFormulaTable table → (forall : ℕ) (body : Formula) → HasBody table forall body → (n : ℕ) × IsBody n body
some_body table is forall body has = (has.0.variables, is_body table is forall body has has.0.variables (has.0, has.1, refl))

-- the forall has the same body in a table with the same foralls
pub body_still : (old now : Formulas) (forall : ℕ) (body : Formula) → now.foralls ≡ old.foralls → HasBody old forall body → HasBody now forall body
body_still old now forall body same has = (has.0, ap (λ (foralls : List TableForall). slice_get foralls forall) same ∙ has.1, has.2)

module _ (variables : ℕ) (body : Formula) (is : IsBody variables body) where
  -- a body names no forall
  pub names_none : (n : ℕ) (node : DraftNode) → slice_get body.nodes n ≡ Some node → All (λ index. index < 0) (foralls_of node)
  names_none n node at = subst (λ (count : ℕ). All (λ index. index < count) (foralls_of node)) (ap length is.no_foralls) (is.over.lawful.nodes_fit n node at).foralls_stand

  reaches_none : (index : ℕ) → ReachesForall body index → ⊥
  reaches_none index reach = let stands = forall_stands body variables is.over index reach in absurd (omega (arith, stands, ap length is.no_foralls))

  -- no forall is entered
  pub no_foralls_entered : (table : Formulas) → ForallsEntered body table table []
  no_foralls_entered table =
      let none = foralls_none body table in
      record { added = none.added; grow = record { enters = none.enters; all = sym (ap length is.no_foralls) }; new_is = none.now_is }

  -- what the next node becomes fits the table
  pub body_node_fits : (terms numbers : List ℕ) (table : Formulas) (node : DraftNode) → slice_get body.nodes (length numbers) ≡ Some node → NodeNumbersStand body table numbers → FitsTable table (entered_node terms [] numbers node)
  body_node_fits terms numbers table node at stand =
      let reach = is.compact.nodes_reached (length numbers) (slice_get_within body.nodes (length numbers) node at) in
      let fits = is.over.lawful.nodes_fit (length numbers) node at in
      fits_entered body terms [] numbers table (length numbers) node at reach
      (λ part named. stand part (All-contains (λ p. p < length numbers) (parts_of node) part fits.parts_stand named) (part_of_it reach at named))
      (λ index reached. absurd (reaches_none index reached))

  -- and it becomes that
  pub body_node_becomes : (terms numbers : List ℕ) (node : DraftNode) (made : Node) → slice_get body.nodes (length numbers) ≡ Some node → made ≡ entered_node terms [] numbers node → BecomesNode body terms [] numbers (length numbers) made
  body_node_becomes terms numbers node made at same = record {
    draft_node = node;
    reached = is.compact.nodes_reached (length numbers) (slice_get_within body.nodes (length numbers) node at);
    stands = at;
    node_is = same;
  }

-- none of the first nodes of a table names a forall that came later
pub names_first : (old new : Formulas) → IsFormulaTable old → GrowsTable old new → (nodes foralls : ℕ) → nodes ≡ length old.nodes → foralls ≡ length old.foralls → NamesFirst new nodes foralls
names_first old new is grows nodes foralls nodes_are foralls_are n forall below at =
    let within : n < length old.nodes = omega (arith, below, nodes_are) in
    let here = back old.nodes grows.more_nodes n (Forall forall) within (ap (λ (all : List Node). slice_get all n) (sym grows.nodes_are) ∙ at) in
    let stands = is.foralls_stand n forall here in
    omega (arith, stands, foralls_are)

-- the body of the forall with this number, and an empty one where there is none
abbrev pub body_in : Formulas → ℕ → Formula
body_in table forall = (get_or table.foralls forall (record { variables = 0; triggers = []; body = record { rows = []; nodes = []; foralls = []; root = 0 } })).body

pub has_body_in : (table : Formulas) (forall : ℕ) (body : Formula) → HasBody table forall body → HasBody table forall (body_in table forall)
has_body_in table forall body has = (_, slice_get-get_or table.foralls forall _ (slice_get_within table.foralls forall has.0 has.1), refl)

pub body_in_is : (table : Formulas) (forall : ℕ) (body : Formula) → HasBody table forall body → body_in table forall ≡ body
body_in_is table forall body has = one_body table forall (body_in table forall) body (has_body_in table forall body has) has

module _ (grown refused : List TermRow → Type 0) (forall : ℕ) (tuple : List ℕ) (rows : List TermRow) (limit : ℕ) (old : Formulas) (body other : Formula) (has : HasBody old forall body) (same : other ≡ body) (terms shown : List ℕ) (shown_are : shown ≡ terms)
    (rows_grow : RowsGrow grown body tuple rows limit terms) where
  rows_here : RowsGrow grown has.0.body tuple rows limit terms
  rows_here = subst (λ (of : Formula). RowsGrow grown of tuple rows limit terms) (sym has.2) rows_grow

  -- rows and nodes were entered
  pub instance_entered : (new : Formulas) (number : ℕ) → TableGrows other shown old new number → EntersInstance grown forall tuple rows limit old new number
  instance_entered new number grows = record {
    quantified = has.0;
    is_forall = has.1;
    enters = record {
      terms = terms;
      rows_grow = rows_here;
      table_grows = subst (λ (of : Formula). TableGrows of terms old new number) (same ∙ sym has.2) (subst (λ (of : List ℕ). TableGrows other of old new number) shown_are grows);
    };
  }

  entry_stops : (fault : EnterFault) → StopsTable has.0.body terms old fault → StopsEntry grown refused has.0.body tuple rows limit old fault
  entry_stops TermsFull stops = absurd stops
  entry_stops NodesFull stops = record { terms = terms; rows_grow = rows_here; fills = stops }
  entry_stops Memory stops = record { added = rows_here.added; terms = terms; grew = inl rows_here.grew; enters = rows_here.enters }

  -- rows were entered, and not all nodes
  pub instance_stopped : (fault : EnterFault) → StopsTable other shown old fault → StopsInstance grown refused forall tuple rows limit old fault
  instance_stopped fault stops = record {
    quantified = has.0;
    is_forall = has.1;
    stops = entry_stops fault (subst (λ (of : Formula). StopsTable of terms old fault) (same ∙ sym has.2) (subst (λ (of : List ℕ). StopsTable other of old fault) shown_are stops));
  }
