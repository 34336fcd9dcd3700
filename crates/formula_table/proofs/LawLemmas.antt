-- What stands after a formula or an instance was entered.
use Rattle.std.proofs.Common.{◌≡◌, ℕ, ◌<◌, List, ◌++◌, length, All, refl, sym, subst}
use Rattle.graph_terms.specs.declared.term_row.TermRow.{TermRow}
use Rattle.graph_terms.specs.Terms.{IsTable}
use Rattle.formula_draft.specs.Draft.{Formula}
use Rattle.formula_table.specs.Body.{IsFormulaOver}
use Rattle.formula_table.specs.Formulas.{Formulas, IsFormulaTable, NodesStand}
use Rattle.formula_table.specs.Entry.{Enters}
use Rattle.formula_table.specs.Instance.{HasVariables, EntersInstance}
use Rattle.formula_table.specs.EntryLaw.{StandsAfterEntry}
use Rattle.formula_table.proofs.StandLaws.{stands_after}
use Rattle.formula_table.proofs.InstanceLemmas.{is_body}

pub entry_stands : (formula : Formula) (tuple : List ℕ) (rows later : List TermRow) (limit : ℕ) (old new : Formulas) (number : ℕ)
    → IsFormulaOver (length tuple) formula → All (λ term. term < length rows) tuple
    → Enters (λ added. later ≡ rows ++ added) formula tuple rows limit old new number → StandsAfterEntry rows later old new number
entry_stands formula tuple rows later limit old new number is stand enters =
    let after = stands_after (λ added. later ≡ rows ++ added) formula tuple is rows stand limit old new number enters in
    let grew : later ≡ rows ++ enters.rows_grow.added = enters.rows_grow.grew in
    record {
      rows_stand = λ table. subst IsTable (sym grew) (after.rows_stand table);
      formulas_stand = after.formulas_stand;
      terms_stand = λ nodes. subst (λ (list : List TermRow). NodesStand (length list) new.nodes) (sym grew) (after.terms_stand nodes);
      root_stands = after.root_stands;
    }

pub instance_stands : (forall : ℕ) (tuple : List ℕ) (rows later : List TermRow) (limit : ℕ) (old new : Formulas) (number : ℕ)
    → IsFormulaTable old → HasVariables old forall (length tuple) → All (λ term. term < length rows) tuple
    → EntersInstance (λ added. later ≡ rows ++ added) forall tuple rows limit old new number → StandsAfterEntry rows later old new number
instance_stands forall tuple rows later limit old new number is variables stand enters =
    entry_stands enters.quantified.body tuple rows later limit old new number
    (is_body old is forall enters.quantified.body (enters.quantified, enters.is_forall, refl) (length tuple) variables).over stand enters.enters
