use Rattle.std.proofs.Common.{slice_get, sym, subst}
use Rattle.smt_names.specs.declared.value.Value.{Value}
use Rattle.smt_names.specs.Making.{Making}
use Rattle.smt_names.specs.Makes.{Makes}
use Rattle.smt_names.specs.Names.{Named}
use Rattle.smt_forms.specs.Applied.{applied}
use Rattle.smt_forms.proofs.Heads.{definition_applied, no_definition}
use Rattle.smt_forms.proofs.applied.apply_definition_at.Goals as goal

pub returns-in-None : goal.returns-in-None
returns-in-None c = subst (λ (name : Named). Makes c.apply_unknown.result c.args.draft.now c.apply_unknown.new.draft (applied c.args.site.at c.args.site.head c.args.called.now name c.args.args.now))
    (sym (no_definition c.args.site.at c.args.site.head c.args.called.now c.args.args.now (slice_get c.args.state.now.definitions c.args.index) c.in-None.ensures)) c.apply_unknown.ensures

pub returns-in-Some : goal.returns-in-Some
returns-in-Some c = subst (λ (making : Making Value). Makes c.apply_definition.result c.args.draft.now c.apply_definition.new.draft making)
    (sym (definition_applied c.args.site.at c.args.site.head c.args.called.now c.args.args.now (slice_get c.args.state.now.definitions c.args.index) c.in-Some.definition.now c.in-Some.ensures)) c.apply_definition.ensures
