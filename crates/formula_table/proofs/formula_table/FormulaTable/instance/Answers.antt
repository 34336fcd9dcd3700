use Rattle.std.proofs.Common.{length, sym, ap, subst, ◌∙◌}
use Rattle.formula_draft.specs.Draft.{Formula}
use Rattle.formula_table.specs.Instance.{StopsInstance}
use Rattle.formula_table.proofs.EntryLemmas.{err_map}
use Rattle.formula_table.proofs.InstanceLemmas.{is_body, has_body_in, body_in_is, instance_entered, instance_stopped}
use Rattle.formula_table.proofs.formula_table.FormulaTable.instance.Goals as goal

pub enter_body_rows-requires-clause-formula : goal.enter_body_rows-requires-clause-formula
enter_body_rows-requires-clause-formula g c = (is_body c.args.self.now c.len-nodes.ensures.table c.args.forall c.body_of.result.now c.body_of.ensures (length c.args.tuple.now) c.requires.variables).over

pub enter_body_rows-requires-clause-compact : goal.enter_body_rows-requires-clause-compact
enter_body_rows-requires-clause-compact g c = (is_body c.args.self.now c.len-nodes.ensures.table c.args.forall c.body_of.result.now c.body_of.ensures (length c.args.tuple.now) c.requires.variables).compact

pub enter_body-requires : goal.enter_body-requires
enter_body-requires g c =
    let table = c.args.self.now in
    let same = body_in_is table c.args.forall c.body_of.result.now c.body_of.ensures in (
      has_body_in table c.args.forall c.body_of.result.now c.body_of.ensures,
      ap length c.deref.ensures.value ∙ c.in_ok-numbers.ensures.ok.all ∙ ap (λ (body : Formula). length body.rows) (sym same),
    )

pub returns-in_err-number-clause-fault : goal.returns-in_err-number-clause-fault
returns-in_err-number-clause-fault g c =
    let e = g.E.TermEntry in
    let table = c.args.self.now in
    let old = c.args.terms.now in
    let new = c.enter_body_rows.new.terms in
    let same = body_in_is table c.args.forall c.body_of.result.now c.body_of.ensures in
    err_map _ _ c.from_residual-in_err-number.result
    (λ fault is. subst (StopsInstance (e.grown old new) (λ added. (middle : _) × e.grown old middle added × e.refused middle new) c.args.forall c.args.tuple.now (e.rows old) (e.limit old) table) (sym is)
    (instance_stopped (e.grown old new) (λ added. (middle : _) × e.grown old middle added × e.refused middle new) c.args.forall c.args.tuple.now (e.rows old) (e.limit old) table c.body_of.result.now _ c.body_of.ensures same
    c.in_ok-numbers.numbers.items c.deref.result.now c.deref.ensures.value c.in_ok-numbers.ensures.ok c.in_err-number.field-0.0 c.in_err-number.ensures.fault))
    c.from_residual-in_err-number.ensures.1

pub returns-clause-ok : goal.returns-clause-ok
returns-clause-ok g c =
    let e = g.E.TermEntry in
    let table = c.args.self.now in
    let old = c.args.terms.now in
    let new = c.enter_body_rows.new.terms in
    let same = body_in_is table c.args.forall c.body_of.result.now c.body_of.ensures in
    instance_entered (e.grown old new) (λ added. (middle : _) × e.grown old middle added × e.refused middle new) c.args.forall c.args.tuple.now (e.rows old) (e.limit old) table c.body_of.result.now _ c.body_of.ensures same
    c.in_ok-numbers.numbers.items c.deref.result.now c.deref.ensures.value c.in_ok-numbers.ensures.ok c.enter_body.new.table c.in_ok-number.number c.in_ok-number.ensures.ok
