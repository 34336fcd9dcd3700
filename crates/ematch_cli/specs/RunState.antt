-- What a run knows between two commands.
use Rattle.std.specs.Prelude.{Option}
use Rattle.smt_names.specs.Names.{State}
use Rattle.formula_assert.specs.Assertions.{Assertions}
use Rattle.search_check.specs.declared.why.Why.{Why}

-- the declarations, levels and options, the standing assertions, and why the last `check-sat`, if there was one since
-- the start or the last `reset`, was answered by `unknown`, if it was
pub record RunState : Type 0 where
  pub session : State
  pub assertions : Assertions
  pub why : Option Why

abbrev pub run_state : State → Assertions → Option Why → RunState
run_state session assertions why = record { session = session; assertions = assertions; why = why }
