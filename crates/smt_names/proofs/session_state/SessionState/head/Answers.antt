use Rattle.std.proofs.Common.{Some, None, sym, refl}
use Rattle.smt_names.proofs.StateLemmas.{headed}
use Rattle.smt_names.proofs.session_state.SessionState.head.Goals as goal

pub returns-in-Some-find-clause-value : goal.returns-in-Some-find-clause-value
returns-in-Some-find-clause-value c = rw (← c.self.view_is) (sym (headed c.self.inside c.args.name.now None (Some c.in-Some-find.index) _ (sym c.in_default.ensures) (sym c.in-Some-find.ensures.value) refl))

pub returns-in-Some-find-2-clause-value : goal.returns-in-Some-find-2-clause-value
returns-in-Some-find-2-clause-value c = rw (← c.self.view_is) (sym (headed c.self.inside c.args.name.now None None (Some c.in-Some-find-2.index) (sym c.in_default.ensures) (sym c.in_default-find.ensures.value) (sym c.in-Some-find-2.ensures.value)))

pub returns-in-None-clause-value : goal.returns-in-None-clause-value
returns-in-None-clause-value c = rw (← c.self.view_is) (sym (headed c.self.inside c.args.name.now None None None (sym c.in_default.ensures) (sym c.in_default-find.ensures.value) (sym c.in-None.ensures.value)))
