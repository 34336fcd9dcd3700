-- What stays so when rows, nodes and foralls come.
use Rattle.std.proofs.Common.{◌≡◌, ℕ, ◌<◌, List, [], ◌++◌, map, length, slice_get, Some, sym, ap, subst, ◌∙◌}
use Rattle.std.proofs.lemmas.List.{append-nil, append_assoc}
use Rattle.std.proofs.lemmas.Option.{slice_get_within, none-some}
use Rattle.std.proofs.lemmas.List.Elements.{All-weaker}
use Rattle.graph_terms.proofs.ListLaws.{slice_get-append_left}
use Rattle.graph_trigger.specs.declared.trigger.Trigger.{Trigger}
use Rattle.formula_draft.specs.declared.draft_row.DraftRow.{DraftRow}
use Rattle.formula_draft.specs.declared.draft_node.DraftNode.{DraftNode}
use Rattle.formula_draft.specs.declared.draft_forall.DraftForall.{DraftForall}
use Rattle.formula_draft.specs.Draft.{Draft}
use Rattle.formula_draft.specs.Sorted.{Signature, HasSort, HaveSorts, IsPlain, ArePlain, as_row, IsSortedTrigger, IsSorted, IsTruth, AreTruths}
use Rattle.formula_draft.specs.Sorted.HasSort.{variable, application}

-- what stands in the old list stands there in the new one
abbrev pub Keeps : {X : Type 0} → List X → List X → Type 0
Keeps {X} old new = (n : ℕ) (x : X) → slice_get old n ≡ Some x → slice_get new n ≡ Some x

pub keeps_all : {X : Type 0} (xs : List X) → Keeps xs xs
keeps_all xs n x at = at

pub keeps_none : {X : Type 0} (xs : List X) → Keeps [] xs
keeps_none xs n x at = absurd (none-some x at)

pub keeps_front : {X : Type 0} (old more new : List X) → new ≡ old ++ more → Keeps old new
keeps_front old more new grew n x at = subst (λ xs. slice_get xs n ≡ Some x) (sym grew) (slice_get-append_left old more n x at)

module _ (functions functions' : List Signature) (more_functions : Keeps functions functions') (rows rows' : List DraftRow) (more_rows : Keeps rows rows') where
  module _ (variables variables' : List ℕ) (more_variables : Keeps variables variables') where
    mutual
      pub sort_kept : {row sort : ℕ} → HasSort functions variables rows row sort → HasSort functions' variables' rows' row sort
      sort_kept (variable {row = row} {index = index} {sort = sort} at is) = variable (more_rows row _ at) (more_variables index sort is)
      sort_kept (application place {row = row} {f = f} at is args) = application place (more_rows row _ at) (more_functions place f is) (sorts_kept args)

      pub sorts_kept : {args sorts : List ℕ} → HaveSorts functions variables rows args sorts → HaveSorts functions' variables' rows' args sorts
      sorts_kept HaveSorts.none = HaveSorts.none
      sorts_kept (HaveSorts.more first others) = HaveSorts.more (sort_kept first) (sorts_kept others)

-- a trigger stays sorted when functions come
trigger_kept : (functions functions' : List Signature) → Keeps functions functions' → (variables : List ℕ) (trigger : Trigger) → IsSortedTrigger functions variables trigger → IsSortedTrigger functions' variables trigger
trigger_kept functions functions' more_functions variables trigger sorted row within =
    let had = sorted row within in
    let rows = map as_row trigger.rows in
    (had.0, sort_kept functions functions' more_functions rows rows (keeps_all rows) variables variables (keeps_all variables) had.1)

module _ (functions functions' : List Signature) (more_functions : Keeps functions functions') (rows rows' : List DraftRow) (more_rows : Keeps rows rows') where
  module _ (nodes nodes' : List DraftNode) (more_nodes : Keeps nodes nodes') where
    module _ (variables variables' : List ℕ) (more_variables : Keeps variables variables') where
      mutual
        pub plain_kept : {n : ℕ} → IsPlain functions variables rows nodes n → IsPlain functions' variables' rows' nodes' n
        plain_kept (IsPlain.equation {n = n} at other left right) = IsPlain.equation (more_nodes n _ at) other (sort_kept functions functions' more_functions rows rows' more_rows variables variables' more_variables left) (sort_kept functions functions' more_functions rows rows' more_rows variables variables' more_variables right)
        plain_kept (IsPlain.atom {n = n} at row) = IsPlain.atom (more_nodes n _ at) (sort_kept functions functions' more_functions rows rows' more_rows variables variables' more_variables row)
        plain_kept (IsPlain.each {n = n} at parts) = IsPlain.each (more_nodes n _ at) (plains_kept parts)
        plain_kept (IsPlain.one {n = n} at parts) = IsPlain.one (more_nodes n _ at) (plains_kept parts)

        pub plains_kept : {ns : List ℕ} → ArePlain functions variables rows nodes ns → ArePlain functions' variables' rows' nodes' ns
        plains_kept ArePlain.none = ArePlain.none
        plains_kept (ArePlain.more first others) = ArePlain.more (plain_kept first) (plains_kept others)

    pub sorted_kept : (forall : DraftForall) → IsSorted functions rows nodes forall → IsSorted functions' rows' nodes' forall
    sorted_kept forall is = record { sorts = is.sorts; count = is.count; others = is.others; body = plain_kept is.sorts is.sorts (keeps_all is.sorts) is.body; triggers = All-weaker (IsSortedTrigger functions is.sorts) (IsSortedTrigger functions' is.sorts) (λ t. trigger_kept functions functions' more_functions is.sorts t) forall.triggers is.triggers }

    module _ (foralls foralls' : List DraftForall) (more_foralls : Keeps foralls foralls') (variables variables' : List ℕ) (more_variables : Keeps variables variables') where
      mutual
        pub truth_kept : {n : ℕ} → IsTruth functions variables rows nodes foralls n → IsTruth functions' variables' rows' nodes' foralls' n
        truth_kept (IsTruth.plain is) = IsTruth.plain (plain_kept variables variables' more_variables is)
        truth_kept (IsTruth.each {n = n} at parts) = IsTruth.each (more_nodes n _ at) (truths_kept parts)
        truth_kept (IsTruth.one {n = n} at parts) = IsTruth.one (more_nodes n _ at) (truths_kept parts)
        truth_kept (IsTruth.universal {n = n} {index = index} {forall = forall} at is sorted) = IsTruth.universal (more_nodes n _ at) (more_foralls index forall is) (sorted_kept forall sorted)

        pub truths_kept : {ns : List ℕ} → AreTruths functions variables rows nodes foralls ns → AreTruths functions' variables' rows' nodes' foralls' ns
        truths_kept AreTruths.none = AreTruths.none
        truths_kept (AreTruths.more first others) = AreTruths.more (truth_kept first) (truths_kept others)

-- what has a sort stands
pub sort_stands : {functions : List Signature} {variables : List ℕ} {rows : List DraftRow} {row sort : ℕ} → HasSort functions variables rows row sort → row < length rows
sort_stands {rows = rows} (variable {row = row} at is) = slice_get_within rows row _ at
sort_stands {rows = rows} (application place {row = row} at is args) = slice_get_within rows row _ at

pub plain_stands : {functions : List Signature} {variables : List ℕ} {rows : List DraftRow} {nodes : List DraftNode} {n : ℕ} → IsPlain functions variables rows nodes n → n < length nodes
plain_stands {nodes = nodes} (IsPlain.equation {n = n} at other left right) = slice_get_within nodes n _ at
plain_stands {nodes = nodes} (IsPlain.atom {n = n} at row) = slice_get_within nodes n _ at
plain_stands {nodes = nodes} (IsPlain.each {n = n} at parts) = slice_get_within nodes n _ at
plain_stands {nodes = nodes} (IsPlain.one {n = n} at parts) = slice_get_within nodes n _ at

pub truth_stands : {functions : List Signature} {variables : List ℕ} {rows : List DraftRow} {nodes : List DraftNode} {foralls : List DraftForall} {n : ℕ} → IsTruth functions variables rows nodes foralls n → n < length nodes
truth_stands (IsTruth.plain is) = plain_stands is
truth_stands {nodes = nodes} (IsTruth.each {n = n} at parts) = slice_get_within nodes n _ at
truth_stands {nodes = nodes} (IsTruth.one {n = n} at parts) = slice_get_within nodes n _ at
truth_stands {nodes = nodes} (IsTruth.universal {n = n} at is sorted) = slice_get_within nodes n _ at

-- the new draft has what the old one has, and more behind it
pub record Extends (old new : Draft) : Type 0 where
  pub more_rows : List DraftRow
  pub rows : new.rows ≡ old.rows ++ more_rows
  pub more_nodes : List DraftNode
  pub nodes : new.nodes ≡ old.nodes ++ more_nodes
  pub more_foralls : List DraftForall
  pub foralls : new.foralls ≡ old.foralls ++ more_foralls

pub extends_itself : (draft : Draft) → Extends draft draft
extends_itself draft = record { more_rows = []; rows = sym (append-nil draft.rows); more_nodes = []; nodes = sym (append-nil draft.nodes); more_foralls = []; foralls = sym (append-nil draft.foralls) }

twice : {X : Type 0} (a b c m n : List X) → b ≡ a ++ m → c ≡ b ++ n → c ≡ a ++ (m ++ n)
twice a b c m n first second = second ∙ ap (λ xs. xs ++ n) first ∙ append_assoc a m n

pub extends_twice : (a b c : Draft) → Extends a b → Extends b c → Extends a c
extends_twice a b c first second = record {
  more_rows = first.more_rows ++ second.more_rows;
  rows = twice a.rows b.rows c.rows first.more_rows second.more_rows first.rows second.rows;
  more_nodes = first.more_nodes ++ second.more_nodes;
  nodes = twice a.nodes b.nodes c.nodes first.more_nodes second.more_nodes first.nodes second.nodes;
  more_foralls = first.more_foralls ++ second.more_foralls;
  foralls = twice a.foralls b.foralls c.foralls first.more_foralls second.more_foralls first.foralls second.foralls;
}

module _ (old new : Draft) (extends : Extends old new) where
  pub rows_keep : Keeps old.rows new.rows
  rows_keep = keeps_front old.rows extends.more_rows new.rows extends.rows

  pub nodes_keep : Keeps old.nodes new.nodes
  nodes_keep = keeps_front old.nodes extends.more_nodes new.nodes extends.nodes

  pub foralls_keep : Keeps old.foralls new.foralls
  foralls_keep = keeps_front old.foralls extends.more_foralls new.foralls extends.foralls
