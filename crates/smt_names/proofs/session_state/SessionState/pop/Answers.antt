use Rattle.std.proofs.Common.{◌≡◌, ◌-◌, arith, ap, sym, subst, ◌∙◌, length, get_or}
use Rattle.smt_names.specs.Names.{State, level_of}
use Rattle.smt_names.proofs.StateLemmas.{cut}
use Rattle.smt_names.proofs.session_state.SessionState.pop.Goals as goal

pub returns : goal.returns
returns c = rw (← c.self.view_is) (cut c.self.inside c.args.count (c.len.result - c.args.count) c.level_at-level.result c.truncate.new.self.entries c.truncate-2.new.self.entries c.truncate-3.new.self.entries c.truncate-4.new.self.items
    (omega (arith, c.len.ensures, c.self.inside.levels.ok)) (subst (λ (state : State). c.level_at-level.result ≡ get_or state.levels (c.len.result - c.args.count) (level_of state)) (sym c.self.view_is) c.level_at-level.ensures)
    c.truncate.ensures.entries c.truncate-2.ensures.entries c.truncate-3.ensures.entries c.truncate-4.ensures.items)
