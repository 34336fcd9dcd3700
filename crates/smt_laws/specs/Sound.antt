-- When what is declared and defined is right.
use Rattle.std.specs.Prelude.{◌≡◌, ℕ, ◌≤◌, Bool, true, false, List, [], length, slice_get, Some, None, All}
use Rattle.graph_terms.specs.Terms.{most_args}
use Rattle.formula_draft.specs.declared.draft_row.DraftRow.{DraftRow}
use Rattle.formula_draft.specs.declared.draft_node.DraftNode.{DraftNode}
use Rattle.formula_draft.specs.Draft.{Draft, AreLawful}
use Rattle.formula_draft.specs.Sorted.{Signature, HasSort, IsPlain, IsTruth}
use Rattle.smt_names.specs.declared.value.Value.{Value}
use Rattle.smt_names.specs.declared.value.Value.TheVariants.{Term, Formula}
use Rattle.smt_names.specs.Names.{Declared, Defined}
use Rattle.smt_laws.specs.Sorted.{signatures_of}

-- The value of a term or a formula stands in the draft: a term has its sort, which is not Bool; a formula and its
-- complement hold no forall; and a formula without a complement stands only where foralls may.
abbrev pub Fits : List Signature → (variables : List ℕ) → (universal : Bool) → Draft → Value → Type 0
Fits signatures variables universal draft (Term row sort) =
    HasSort signatures variables draft.rows row sort × (1 ≤ sort)
Fits signatures variables universal draft (Formula n None) =
    IsTruth signatures variables draft.rows draft.nodes draft.foralls n × (universal ≡ true)
Fits signatures variables universal draft (Formula n (Some c)) =
    IsPlain signatures variables draft.rows draft.nodes n × IsPlain signatures variables draft.rows draft.nodes c

-- every row has a sort, and every node is a formula that holds no forall
pub record IsWhole (signatures : List Signature) (variables : List ℕ) (rows : List DraftRow)
    (nodes : List DraftNode) : Type 0 where
  pub rows_sorted : (n : ℕ) (row : DraftRow) → slice_get rows n ≡ Some row → (sort : ℕ) ×
      HasSort signatures variables rows n sort
  pub nodes_plain : (n : ℕ) (node : DraftNode) → slice_get nodes n ≡ Some node →
      IsPlain signatures variables rows nodes n

-- the sorts of the arguments of a function: no more than a row may have, and none is Bool
pub record AreArguments (sorts : List ℕ) : Type 0 where
  pub few : length sorts ≤ most_args
  pub others : All (λ sort. 1 ≤ sort) sorts

-- a function has sorts of arguments that a function may have
abbrev pub IsFunction : Declared → Type 0
IsFunction f = AreArguments f.arguments

-- the rows and nodes of a definition
abbrev pub inside : Defined → Draft
inside d = record {
  rows = d.rows;
  nodes = d.nodes;
  foralls = [];
  most_rows = length d.rows;
  most_nodes = length d.nodes;
}

-- a definition has no parameter that is a formula, and its rows, nodes and value are right for its parameters
pub record IsDefinitionOver (signatures : List Signature) (d : Defined) : Type 0 where
  pub others : All (λ sort. 1 ≤ sort) d.parameters
  pub lawful : AreLawful d.rows d.nodes []
  pub whole : IsWhole signatures d.parameters d.rows d.nodes
  pub fits : Fits signatures d.parameters false (inside d) d.value

-- the same, as the functions are declared
abbrev pub IsDefinition : List Declared → Defined → Type 0
IsDefinition functions d = IsDefinitionOver (signatures_of functions) d

-- the functions and the definitions are right
pub record AreDeclared (functions : List Declared) (definitions : List Defined) : Type 0 where
  pub functions_are : (n : ℕ) (f : Declared) → slice_get functions n ≡ Some f → IsFunction f
  pub definitions_are : (n : ℕ) (d : Defined) → slice_get definitions n ≡ Some d → IsDefinition functions d
