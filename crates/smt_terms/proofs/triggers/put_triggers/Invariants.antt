use Rattle.std.proofs.Common.{◌≡◌, drop}
use Rattle.smt_terms.specs.Terms.{triggers}
use Rattle.smt_terms.specs.Bodies.{attributes_at}
use Rattle.smt_terms.specs.Machine.{scope_of}
use Rattle.smt_terms.proofs.TriggerLemmas.{behind_items}
use Rattle.smt_terms.proofs.triggers.put_triggers.Given as goal

-- the triggers so far and those that are left are all
abbrev pub invariant-loop-key : goal.invariant-loop-key
invariant-loop-key l = record {
  rest : behind_items l.triggers (triggers (scope_of l.context.state.now l.context.inside l.bound) l.variables (attributes_at l.context.tree.now (drop l.key-index l.keys)) l.draft) ≡ triggers (scope_of l.context.state.now l.context.inside l.fn.bound) l.variables (attributes_at l.context.tree.now l.keys) l.fn.draft;
  bound : l.bound ≡ l.fn.bound;
}
