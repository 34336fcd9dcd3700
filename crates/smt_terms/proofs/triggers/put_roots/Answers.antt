use Rattle.std.proofs.Common.{ap, ◌∙◌, List}
use Rattle.smt_names.specs.declared.bound.Bound.{Bound}
use Rattle.smt_terms.specs.Terms.{pattern_roots}
use Rattle.smt_terms.specs.Cursor.{trees_from}
use Rattle.smt_terms.specs.Machine.{scope_of}
use Rattle.smt_terms.proofs.TriggerLemmas.{behind_items, root_next, root_refused}
use Rattle.smt_terms.proofs.triggers.put_roots.Goals as goal

pub returns-in-Err-clause-value : goal.returns-in-Err-clause-value
returns-in-Err-clause-value c = root_refused c.args.context.now.tree.now (scope_of c.args.context.now.state.now c.args.context.now.inside c.loop-roots.bound) c.loop-roots.i c.in-Some.after c.in-Some.ensures c.in-Err.stop c.loop-roots.roots.items c.loop-roots.draft _ c.loop-roots.invariant.rest c.in-Err.ensures.value

pub loop-roots-preserved : goal.loop-roots-preserved
loop-roots-preserved c = record {
  rest = ap (λ (b : List Bound). behind_items c.push.new.self.items (pattern_roots (scope_of c.args.context.now.state.now c.args.context.now.inside b) (trees_from c.args.context.now.tree.now c.in-Some.after) c.put_root.new.draft)) c.in-Ok.ensures.bound
      ∙ root_next c.args.context.now.tree.now (scope_of c.args.context.now.state.now c.args.context.now.inside c.loop-roots.bound) c.loop-roots.i c.in-Some.after c.in-Some.ensures c.loop-roots.roots.items c.push.new.self.items c.in-Ok.root c.loop-roots.draft c.put_root.new.draft c.in-Ok.ensures.value c.in_ok-push-in-Ok.ensures.items
      ∙ c.loop-roots.invariant.rest;
  bound = c.in-Ok.ensures.bound ∙ c.loop-roots.invariant.bound;
}
