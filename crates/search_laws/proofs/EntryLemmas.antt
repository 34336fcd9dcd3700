-- An instance that was entered is a pair.
use Rattle.std.proofs.Common.{◌≡◌, ℕ, ◌<◌, List, [], ◌∷◌, ◌++◌, length, slice_get, Some, All, Contains, refl, sym, ap}
use Rattle.std.proofs.Common.{subst, ◌∙◌, append-nil, arith}
use Rattle.std.specs.Prelude.{slice_index}
use Rattle.std.proofs.lemmas.Option.{same_Some, slice_get_within, get_or_from_slice_get}
use Rattle.std.proofs.lemmas.List.Elements.{All-contains}
use Rattle.graph_terms.specs.declared.term_row.TermRow.{TermRow}
use Rattle.graph_terms.specs.Terms.{HasRow, IsTable}
use Rattle.formula_draft.specs.declared.draft_row.DraftRow.{DraftRow}
use Rattle.formula_draft.specs.declared.draft_row.DraftRow.TheVariants.{Var, App}
use Rattle.formula_draft.specs.declared.draft_node.DraftNode.{DraftNode}
use Rattle.formula_draft.specs.Draft.{Formula}
use Rattle.formula_table.specs.declared.table_forall.TableForall.{TableForall}
use Rattle.formula_table.specs.Formulas.{Formulas, IsFormulaTable, IsForallOf}
use Rattle.formula_table.specs.Entry.{BecomesRow, TableGrows, entered_row, entered_node}
use Rattle.formula_table.specs.Entry.BecomesRow.{variable, application}
use Rattle.formula_table.specs.Instance.{HasVariables, EntersInstance}
use Rattle.formula_value.specs.Holds.{HasNode}
use Rattle.search_laws.specs.Pairs.{IsRowAt, IsInstanceOf}
use Rattle.search_laws.proofs.Places.{at_front, contains_head, contains_at, stands_below}

module _ {X : Type 0} where
  none_of_length : (xs : List X) → length xs ≡ 0 → xs ≡ []
  none_of_length [] e = refl
  none_of_length (x ∷ xs) e = absurd (omega (arith, e))

  none_of_elements : (xs : List X) → ((x : X) → Contains xs x → ⊥) → xs ≡ []
  none_of_elements [] none = refl
  none_of_elements (x ∷ xs) none = absurd (none x (contains_head x xs))

module _ (forall : ℕ) (tuple : List ℕ) (rows later : List TermRow) (limit : ℕ) (old new : Formulas) (root : ℕ)
    (enters : EntersInstance (λ added. later ≡ rows ++ added) forall tuple rows limit old new root)
    (table : IsFormulaTable old) (variables : HasVariables old forall (length tuple))
    (stand : All (λ term. term < length rows) tuple) where
  abbrev body : Formula
  body = enters.quantified.body

  abbrev terms : List ℕ
  terms = enters.enters.terms

  abbrev grows : TableGrows body terms old new root
  grows = enters.enters.table_grows

  abbrev numbers : List ℕ
  numbers = grows.nodes_grow.numbers

  is_forall : IsForallOf forall enters.quantified
  is_forall = table.foralls forall enters.quantified enters.is_forall

  variables_are : enters.quantified.variables ≡ length tuple
  variables_are =
      let same : variables.0 ≡ enters.quantified = same_Some variables.0 enters.quantified
      (sym variables.1 ∙ enters.is_forall) in
      sym (ap (λ (quantified : TableForall). quantified.variables) same) ∙ variables.2

  -- no forall is entered
  no_numbers : grows.forall_numbers ≡ []
  no_numbers = none_of_length grows.forall_numbers (grows.foralls_grow.all ∙ ap length is_forall.no_foralls)

  no_reached : grows.foralls_grow.enters.reached ≡ []
  no_reached = none_of_elements grows.foralls_grow.enters.reached (λ index c.
      let h = (grows.foralls_grow.enters.all.exact index).0 c in
      let none : length grows.forall_numbers ≡ 0 = ap length no_numbers in
      omega (arith, h.0, none))

  no_foralls : grows.foralls ≡ []
  no_foralls = none_of_length grows.foralls (sym grows.foralls_grow.enters.count ∙ ap length no_reached)

  pub same_foralls : new.foralls ≡ old.foralls
  same_foralls = ap (λ (formulas : Formulas). formulas.foralls) grows.new_is
      ∙ ap (λ more. old.foralls ++ more) no_foralls ∙ append-nil old.foralls

  -- nodes are added at the end
  pub nodes_are : new.nodes ≡ old.nodes ++ grows.nodes
  nodes_are = ap (λ (formulas : Formulas). formulas.nodes) grows.new_is

  rows_are : later ≡ rows ++ enters.enters.rows_grow.added
  rows_are = enters.enters.rows_grow.grew

  -- each row of the body has its term
  row_stands : (k : ℕ) (row : DraftRow) (item : TermRow) → slice_get body.rows k ≡ Some row →
      BecomesRow body tuple rows terms k item → HasRow later (slice_index terms k) item
  row_stands k row item at becomes =
      let within = slice_get_within body.rows k row at in
      let all = enters.enters.rows_grow.all in
      subst (λ list. HasRow list (slice_index terms k) item) (sym rows_are)
      (enters.enters.rows_grow.enters.stand k item (omega (arith, within, all)) becomes)

  module _ (later_table : IsTable later) where
    each_row : (k : ℕ) (row : DraftRow) → slice_get body.rows k ≡ Some row →
        IsRowAt later tuple terms row (slice_index terms k)
    each_row k (Var index) at =
        let reach = is_forall.compact.rows_reached k (slice_get_within body.rows k (Var index) at) in
        let below : index < enters.quantified.variables = is_forall.body_over.below k index reach at in
        let term = stands_below tuple index (let same = variables_are in omega (arith, below, same)) in
        let less : term.0 < length rows = All-contains (λ t. t < length rows) tuple term.0 stand
        (contains_at tuple index term.0 term.1) in
        let row = stands_below rows term.0 less in
        let was : HasRow later term.0 row.0 = subst (λ list. HasRow list term.0 row.0) (sym rows_are)
        (at_front rows enters.enters.rows_grow.added term.0 row.0 row.1) in
        let entered = row_stands k (Var index) row.0 at (variable reach at term.1 row.1) in
        term.1 ∙ ap Some (later_table.once term.0 (slice_index terms k) row.0 was entered)
    each_row k (App symbol args) at = row_stands k (App symbol args) (entered_row terms symbol args) at
        (application (is_forall.compact.rows_reached k (slice_get_within body.rows k (App symbol args) at)) at)

    -- and each node its node
    each_node : (k : ℕ) (node : DraftNode) → slice_get body.nodes k ≡ Some node →
        HasNode new.nodes (slice_index numbers k) (entered_node terms [] numbers node)
    each_node k node at =
        let within = slice_get_within body.nodes k node at in
        let all = grows.nodes_grow.all in
        let entered = grows.nodes_grow.enters.stand k (entered_node terms grows.forall_numbers numbers node)
        (omega (arith, within, all)) (record {
          draft_node = node;
          reached = is_forall.compact.nodes_reached k within;
          stands = at;
          node_is = refl;
        }) in
        let number : ℕ = slice_index numbers k in
        subst (λ foralls. HasNode new.nodes number (entered_node terms foralls numbers node)) no_numbers
        (subst (λ nodes. HasNode nodes number (entered_node terms grows.forall_numbers numbers node)) (sym nodes_are)
        entered)

    pub is_instance : (start : Formulas) → old.foralls ≡ start.foralls → IsInstanceOf start
        (record { forall = forall; tuple = tuple; rows = later; nodes = new.nodes; node = root })
    is_instance start same = record {
      body = body;
      has_body = (
        enters.quantified,
        ap (λ foralls. slice_get foralls forall) (sym same) ∙ enters.is_forall,
        refl,
      );
      is_body = record {
        terms = terms;
        numbers = numbers;
        each_row = each_row;
        each_node = each_node;
        root = get_or_from_slice_get numbers body.root root 0 grows.nodes_grow.root;
      };
      terms = later_table;
    }

-- what the terms grew by is read off
pub regrown : (grown : List TermRow → Type 0) (forall : ℕ) (tuple : List ℕ) (rows : List TermRow) (limit : ℕ)
    (old new : Formulas) (root : ℕ) (enters : EntersInstance grown forall tuple rows limit old new root) →
    EntersInstance (λ more. rows ++ enters.enters.rows_grow.added ≡ rows ++ more) forall tuple rows limit old new root
regrown grown forall tuple rows limit old new root enters = record {
  quantified = enters.quantified;
  is_forall = enters.is_forall;
  enters = record {
    terms = enters.enters.terms;
    rows_grow = record {
      added = enters.enters.rows_grow.added;
      grew = refl;
      enters = enters.enters.rows_grow.enters;
      all = enters.enters.rows_grow.all;
    };
    table_grows = enters.enters.table_grows;
  };
}
