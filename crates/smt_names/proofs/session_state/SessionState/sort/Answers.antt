use Rattle.std.proofs.Common.{Some, None, sym, ap, ◌∙◌, bytes_eq}
use Rattle.smt_names.proofs.StateLemmas.{sort_numbered}
use Rattle.smt_names.proofs.session_state.SessionState.sort.Goals as goal

pub returns-in-None : goal.returns-in-None
returns-in-None c = rw (← c.self.view_is) (sym (sort_numbered c.self.inside c.args.name.now None (sym c.in-None.ensures.value) (ap (bytes_eq c.args.name.now) (sym c.as_slice.ensures) ∙ sym c.if-eq.ensures)))

pub returns-in-Some : goal.returns-in-Some
returns-in-Some c = rw (← c.self.view_is) (sym (sort_numbered c.self.inside c.args.name.now (Some c.in-Some.index) (sym c.in-Some.ensures.value) (ap (bytes_eq c.args.name.now) (sym c.as_slice.ensures) ∙ sym c.if-eq.ensures)))
