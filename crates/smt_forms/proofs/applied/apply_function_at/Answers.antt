use Rattle.std.proofs.Common.{◌+◌, slice_get, sym, subst}
use Rattle.smt_names.specs.declared.value.Value.{Value}
use Rattle.smt_names.specs.Making.{Making}
use Rattle.smt_names.specs.Makes.{Makes}
use Rattle.smt_names.specs.Names.{Named}
use Rattle.smt_forms.specs.Applied.{applied}
use Rattle.smt_forms.proofs.Heads.{function_applied, no_function}
use Rattle.smt_forms.proofs.applied.apply_function_at.Goals as goal

pub returns-in-None : goal.returns-in-None
returns-in-None c = subst (λ (name : Named). Makes c.apply_unknown.result c.args.draft.now c.apply_unknown.new.draft (applied c.args.site.at c.args.site.head c.args.called.now name c.args.args.now))
    (sym (no_function c.args.site.at c.args.site.head c.args.called.now c.args.args.now (slice_get c.args.state.now.functions c.args.index) (c.args.index + 2) c.in-None.ensures.sorts)) c.apply_unknown.ensures

pub returns-in-Some : goal.returns-in-Some
returns-in-Some c = subst (λ (making : Making Value). Makes c.apply_function.result c.args.draft.now c.apply_function.new.draft making)
    (sym (function_applied c.args.site.at c.args.site.head c.args.called.now c.args.args.now (c.args.index + 2) (slice_get c.args.state.now.functions c.args.index) c.in-Some.signature.now c.in-Some.ensures.sorts)) c.apply_function.ensures
