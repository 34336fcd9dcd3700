-- How nodes are entered, one after another.
use Rattle.std.proofs.Common.{◌≡◌, ℕ, ◌+◌, ◌<◌, ◌↔◌, List, [], ◌∷◌, ◌++◌, length, slice_get, Option, Some, None, All, refl, sym, ap, subst, ◌∙◌, ⊎_elim, append-nil, append_assoc, arith}
use Rattle.std.specs.Prelude.{slice_index}
use Rattle.std.specs.Option.{option_map}
use Rattle.std.proofs.lemmas.Bool.{cases_lt}
use Rattle.std.proofs.lemmas.List.{length-append}
use Rattle.std.proofs.lemmas.List.Elements.{All-weaker}
use Rattle.std.proofs.lemmas.Option.{none-some, same_Some}
use Rattle.graph_terms.proofs.ListLaws.{element_at}
use Rattle.formula_draft.specs.declared.draft_node.DraftNode.{DraftNode}
use Rattle.formula_draft.specs.declared.draft_node.DraftNode.TheVariants.{Equal, Atom, And, Or, Forall}
use Rattle.formula_draft.specs.DraftNode.{parts_of}
use Rattle.formula_draft.specs.Items.{with_item}
use Rattle.formula_draft.proofs.ItemLaws.{put_cases}
use Rattle.formula_draft.proofs.SameLaws.{found_at, absent}
use Rattle.formula_draft.specs.Reach.{ReachesNode}
use Rattle.formula_draft.proofs.ReachLaws.{node_stands}
use Rattle.formula_draft.specs.Draft.{Formula}
use Rattle.formula_table.specs.Body.{IsFormulaOver}
use Rattle.formula_table.specs.declared.node.Node.{Node}
use Rattle.formula_table.specs.declared.node.Node.TheVariants as entered
use Rattle.formula_table.specs.declared.table_forall.TableForall.{TableForall}
use Rattle.formula_table.specs.declared.enter_fault.EnterFault.{EnterFault}
use Rattle.formula_table.specs.declared.enter_fault.EnterFault.TheVariants.{TermsFull, NodesFull, Memory}
use Rattle.formula_table.specs.Node.{same_entered}
use Rattle.formula_table.specs.Formulas.{Formulas, GrowsTable, RefusesEntered, with_entered}
use Rattle.formula_table.specs.InOrder.{AreInOrder, IsFullFor, PutsNext}
use Rattle.formula_table.specs.InOrder.PutsNext.{put_last, stood}
use Rattle.formula_table.specs.Entry.{entered_node, BecomesNode, EntersNodes, TableGrows, StopsTable}
use Rattle.formula_table.specs.EntryInside.{ForallsEntered, ForallNumbersStand, NodeNumbersStand, NodeGrows, StopsNode, NodesEntered, StopsNodes}
use Rattle.formula_table.proofs.Same.{entered_told}
use Rattle.formula_table.proofs.InOrderLemmas.{none_in_order, next_in_order, map_index-push, index-push, index-last}
use Rattle.formula_table.proofs.EntryLemmas.{item_stands}

-- an entered node is put as an item
entered_item : (node : Node) (table after : Formulas) (n : ℕ) (o : Option (ℕ × List Node)) → option_map {U = ℕ × Formulas} (λ (put : ℕ × List Node). (put.0, record table { nodes = put.1 })) o ≡ Some (n, after) → (nodes : List Node) × (o ≡ Some (n, nodes)) × (after ≡ record table { nodes = nodes })
entered_item node table after n None h = absurd (none-some (n, after) h)
entered_item node table after n (Some put) h =
    let inside = same_Some (put.0, record table { nodes = put.1 }) (n, after) h in
    (put.1, ap (λ (k : ℕ). Some (k, put.1)) (ap (λ (p : ℕ × Formulas). p.0) inside), sym (ap (λ (p : ℕ × Formulas). p.1) inside))

-- a node that is put is entered
pub node_grows : (formula : Formula) (terms foralls numbers : List ℕ) (table after : Formulas) (number : ℕ) (node : Node) → BecomesNode formula terms foralls numbers (length numbers) node → with_entered node table ≡ Some (number, after) → NodeGrows formula terms foralls numbers table after number
node_grows formula terms foralls numbers table after number node becomes h =
    let item = entered_item node table after number (with_item same_entered table.limit node table.nodes) h in
    subst (λ (new : Formulas). NodeGrows formula terms foralls numbers table new number) (sym item.2)
    (put_cases same_entered table.limit node table.nodes (λ k nodes. NodeGrows formula terms foralls numbers table (record table { nodes = nodes }) k)
    (λ k found. ([], ap (λ (nodes : List Node). record table { nodes = nodes }) (sym (append-nil table.nodes)), stood becomes (found_at same_entered entered_told node table.nodes k found)))
    (λ fresh room. (node ∷ [], refl, put_last becomes (absent same_entered entered_told node table.nodes fresh) room))
    number item.0 item.1)

-- nothing grows a table, and so do two growths
pub grows_none : (table : Formulas) → GrowsTable table table
grows_none table = record { more_nodes = []; more_foralls = []; nodes_are = sym (append-nil table.nodes); foralls_are = sym (append-nil table.foralls); limit_is = refl }

pub grows_both : (first second third : Formulas) → GrowsTable first second → GrowsTable second third → GrowsTable first third
grows_both first second third one two = record {
  more_nodes = one.more_nodes ++ two.more_nodes;
  more_foralls = one.more_foralls ++ two.more_foralls;
  nodes_are = two.nodes_are ∙ ap (λ (xs : List Node). xs ++ two.more_nodes) one.nodes_are ∙ append_assoc first.nodes one.more_nodes two.more_nodes;
  foralls_are = two.foralls_are ∙ ap (λ (xs : List TableForall). xs ++ two.more_foralls) one.foralls_are ∙ append_assoc first.foralls one.more_foralls two.more_foralls;
  limit_is = two.limit_is ∙ one.limit_is;
}

-- what an entered node is, in words of places
entered_same : (terms foralls numbers : List ℕ) (number : ℕ) (node : DraftNode) → All (λ part. part < length numbers) (parts_of node) → entered_node terms foralls (numbers ++ number ∷ []) node ≡ entered_node terms foralls numbers node
entered_same terms foralls numbers number (Equal positive left right) parts = refl
entered_same terms foralls numbers number (Atom positive row) parts = refl
entered_same terms foralls numbers number (And xs) parts = ap (λ (ys : List ℕ). entered.And ys) (map_index-push numbers number xs parts)
entered_same terms foralls numbers number (Or xs) parts = ap (λ (ys : List ℕ). entered.Or ys) (map_index-push numbers number xs parts)
entered_same terms foralls numbers number (Forall index) parts = refl

-- a reached node becomes one node
pub one_node : (formula : Formula) (terms foralls numbers : List ℕ) (n : ℕ) (x y : Node) → BecomesNode formula terms foralls numbers n x → BecomesNode formula terms foralls numbers n y → x ≡ y
one_node formula terms foralls numbers n x y bx by = bx.node_is ∙ ap (entered_node terms foralls numbers) (same_Some bx.draft_node by.draft_node (sym bx.stands ∙ by.stands)) ∙ sym by.node_is

-- and the same one when later nodes are entered
pub same_nodes : (formula : Formula) (variables : ℕ) → IsFormulaOver variables formula → (terms foralls numbers : List ℕ) (number n : ℕ) (x : Node) → n < length numbers + 1 → BecomesNode formula terms foralls numbers n x ↔ BecomesNode formula terms foralls (numbers ++ number ∷ []) n x
same_nodes formula variables is terms foralls numbers number n x below = (
  λ b. record { draft_node = b.draft_node; reached = b.reached; stands = b.stands; node_is = b.node_is ∙ sym (equal b.draft_node b.stands) },
  λ b. record { draft_node = b.draft_node; reached = b.reached; stands = b.stands; node_is = b.node_is ∙ equal b.draft_node b.stands },
)
  where
    equal : (node : DraftNode) → slice_get formula.nodes n ≡ Some node → entered_node terms foralls (numbers ++ number ∷ []) node ≡ entered_node terms foralls numbers node
    equal node at = entered_same terms foralls numbers number node (All-weaker (λ part. part < n) (λ part. part < length numbers) (λ part lower. omega arith) (parts_of node) (is.lawful.nodes_fit n node at).parts_stand)

-- the first nodes were entered
pub record NodesSoFar (formula : Formula) (terms foralls : List ℕ) (old now : Formulas) (numbers : List ℕ) (n : ℕ) : Type 0 where
  pub added : List Node
  pub enters : EntersNodes formula terms foralls old.nodes old.limit added numbers
  pub now_is : now ≡ record old { nodes = old.nodes ++ added }
  pub count : length numbers ≡ n
  pub stand : NodeNumbersStand formula now numbers

pub nodes_none : (formula : Formula) (terms foralls : List ℕ) (old : Formulas) → NodesSoFar formula terms foralls old old [] 0
nodes_none formula terms foralls old = record {
  added = [];
  enters = none_in_order (BecomesNode formula terms foralls []) old.nodes old.limit;
  now_is = ap (λ (nodes : List Node). record old { nodes = nodes }) (sym (append-nil old.nodes));
  count = refl;
  stand = λ n below. absurd (omega arith);
}

-- the numbers of foralls stand in a table with more nodes
pub foralls_still : (formula : Formula) (old now : Formulas) (foralls : List ℕ) → now.foralls ≡ old.foralls → ForallNumbersStand formula old foralls → ForallNumbersStand formula now foralls
foralls_still formula old now foralls same stand index below reach = let was = stand index below reach in omega (arith, ap length same, was)

-- one node more was entered
pub nodes_next : (formula : Formula) (variables : ℕ) → IsFormulaOver variables formula → (terms foralls : List ℕ) (old now after : Formulas) (numbers : List ℕ) (number n : ℕ) → NodesSoFar formula terms foralls old now numbers n → NodeGrows formula terms foralls numbers now after number → NodesSoFar formula terms foralls old after (numbers ++ number ∷ []) (n + 1)
nodes_next formula variables is terms foralls old now after numbers number n so step =
    let more = step.0 in
    let Becomes = BecomesNode formula terms foralls numbers (length numbers) in
    let now_nodes : now.nodes ≡ old.nodes ++ so.added = ap (λ (table : Formulas). table.nodes) so.now_is in
    let now_limit : now.limit ≡ old.limit = ap (λ (table : Formulas). table.limit) so.now_is in
    let after_nodes : after.nodes ≡ now.nodes ++ more = ap (λ (table : Formulas). table.nodes) step.1 in
    let puts = subst (λ (nodes : List Node). PutsNext Becomes nodes old.limit more number) now_nodes (subst (λ (limit : ℕ). PutsNext Becomes now.nodes limit more number) now_limit step.2) in
    let count : length (numbers ++ number ∷ []) ≡ length numbers + 1 = length-append numbers (number ∷ []) in
    let next = next_in_order (BecomesNode formula terms foralls numbers) (BecomesNode formula terms foralls (numbers ++ number ∷ [])) old.nodes old.limit (length numbers) numbers refl (one_node formula terms foralls numbers (length numbers)) (same_nodes formula variables is terms foralls numbers number) so.added more number so.enters puts in
    record {
      added = so.added ++ more;
      enters = subst (λ (before : ℕ). AreInOrder (BecomesNode formula terms foralls (numbers ++ number ∷ [])) old.nodes old.limit before (so.added ++ more) (numbers ++ number ∷ [])) (sym count) next;
      now_is = step.1 ∙ ap (λ (table : Formulas). record table { nodes = table.nodes ++ more }) so.now_is ∙ ap (λ (nodes : List Node). record old { nodes = nodes }) (append_assoc old.nodes so.added more);
      count = omega (arith, count, so.count);
      stand = λ k below reach. ⊎_elim
          (λ before.
          let same = index-push numbers number k before in
          let bound = so.stand k before reach in
          omega (arith, ap length after_nodes, length-append now.nodes more))
          (λ not_before.
          let last : k ≡ length numbers = omega (arith, count, below) in
          let same : slice_index (numbers ++ number ∷ []) k ≡ number = ap (slice_index (numbers ++ number ∷ [])) last ∙ index-last numbers number in
          let here : ReachesNode formula.nodes formula.root (length numbers) = subst (ReachesNode formula.nodes formula.root) last reach in
          let at = element_at formula.nodes (length numbers) (node_stands formula.rows formula.nodes formula.foralls is.lawful formula.root is.root_stands here) in
          let bound = item_stands Becomes now.nodes more now.limit number (entered_node terms foralls numbers at.0) (record { draft_node = at.0; reached = here; stands = at.1; node_is = refl }) step.2 in
          omega (arith, ap length after_nodes))
          (cases_lt k (length numbers));
    }

-- further nodes grow a table
pub nodes_grow : (formula : Formula) (terms foralls : List ℕ) (old now : Formulas) (numbers : List ℕ) (n : ℕ) → NodesSoFar formula terms foralls old now numbers n → GrowsTable old now
nodes_grow formula terms foralls old now numbers n so = subst (GrowsTable old) (sym so.now_is) (record { more_nodes = so.added; more_foralls = []; nodes_are = refl; foralls_are = sym (append-nil old.foralls); limit_is = refl })

-- the next node was not entered
pub stops_node : (formula : Formula) (terms foralls numbers : List ℕ) (table : Formulas) (node : Node) → BecomesNode formula terms foralls numbers (length numbers) node → (fault : EnterFault) → RefusesEntered node table fault → StopsNode formula terms foralls numbers table fault
stops_node formula terms foralls numbers table node becomes TermsFull stops = stops
stops_node formula terms foralls numbers table node becomes NodesFull stops = (node, becomes, stops.0, stops.1)
stops_node formula terms foralls numbers table node becomes Memory stops = tt

pub nodes_stopped : (formula : Formula) (terms foralls : List ℕ) (old now : Formulas) (numbers : List ℕ) (n : ℕ) → NodesSoFar formula terms foralls old now numbers n → (fault : EnterFault) → StopsNode formula terms foralls numbers now fault → StopsNodes formula terms foralls old fault
nodes_stopped formula terms foralls old now numbers n so TermsFull stops = stops
nodes_stopped formula terms foralls old now numbers n so NodesFull stops =
    let Becomes = BecomesNode formula terms foralls numbers (length numbers) in
    let now_nodes : now.nodes ≡ old.nodes ++ so.added = ap (λ (table : Formulas). table.nodes) so.now_is in
    let now_limit : now.limit ≡ old.limit = ap (λ (table : Formulas). table.limit) so.now_is in
    record {
      added = so.added;
      numbers = numbers;
      enters = so.enters;
      full = subst (λ (nodes : List Node). IsFullFor Becomes nodes old.limit) now_nodes (subst (λ (limit : ℕ). IsFullFor Becomes now.nodes limit) now_limit stops);
    }
nodes_stopped formula terms foralls old now numbers n so Memory stops = tt

-- foralls and nodes were entered
pub table_grows : (formula : Formula) (terms : List ℕ) (old now new : Formulas) (forall_numbers : List ℕ) → ForallsEntered formula old now forall_numbers → (number : ℕ) → NodesEntered formula terms forall_numbers now new number → TableGrows formula terms old new number
table_grows formula terms old now new forall_numbers foralls number nodes =
    let now_nodes : now.nodes ≡ old.nodes = ap (λ (table : Formulas). table.nodes) foralls.new_is in
    let now_limit : now.limit ≡ old.limit = ap (λ (table : Formulas). table.limit) foralls.new_is in
    let enters = subst (λ (items : List Node). EntersNodes formula terms forall_numbers items old.limit nodes.added nodes.grow.numbers) now_nodes (subst (λ (limit : ℕ). EntersNodes formula terms forall_numbers now.nodes limit nodes.added nodes.grow.numbers) now_limit nodes.grow.enters) in
    record {
      foralls = foralls.added;
      forall_numbers = forall_numbers;
      foralls_grow = foralls.grow;
      nodes = nodes.added;
      nodes_grow = record { numbers = nodes.grow.numbers; enters = enters; all = nodes.grow.all; root = nodes.grow.root };
      new_is = nodes.new_is ∙ ap (λ (table : Formulas). record table { nodes = table.nodes ++ nodes.added }) foralls.new_is;
    }

-- the foralls were entered, and not all nodes
pub table_stops : (formula : Formula) (terms : List ℕ) (old now : Formulas) (forall_numbers : List ℕ) → ForallsEntered formula old now forall_numbers → (fault : EnterFault) → StopsNodes formula terms forall_numbers now fault → StopsTable formula terms old fault
table_stops formula terms old now forall_numbers foralls TermsFull stops = stops
table_stops formula terms old now forall_numbers foralls NodesFull stops =
    let now_nodes : now.nodes ≡ old.nodes = ap (λ (table : Formulas). table.nodes) foralls.new_is in
    let now_limit : now.limit ≡ old.limit = ap (λ (table : Formulas). table.limit) foralls.new_is in
    let Becomes = BecomesNode formula terms forall_numbers stops.numbers (length stops.numbers) in
    record {
      foralls = foralls.added;
      forall_numbers = forall_numbers;
      foralls_grow = foralls.grow;
      fills = record {
        added = stops.added;
        numbers = stops.numbers;
        enters = subst (λ (items : List Node). EntersNodes formula terms forall_numbers items old.limit stops.added stops.numbers) now_nodes (subst (λ (limit : ℕ). EntersNodes formula terms forall_numbers now.nodes limit stops.added stops.numbers) now_limit stops.enters);
        full = subst (λ (items : List Node). IsFullFor Becomes (items ++ stops.added) old.limit) now_nodes (subst (λ (limit : ℕ). IsFullFor Becomes (now.nodes ++ stops.added) limit) now_limit stops.full);
      };
    }
table_stops formula terms old now forall_numbers foralls Memory stops = tt
