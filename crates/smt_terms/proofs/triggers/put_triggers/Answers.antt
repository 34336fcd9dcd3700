use Rattle.std.proofs.Common.{◌+◌, List, drop, get_or, refl, ap, ◌∙◌}
use Rattle.smt_names.specs.declared.bound.Bound.{Bound}
use Rattle.smt_terms.specs.Terms.{triggers}
use Rattle.smt_terms.specs.Bodies.{attribute_at, attributes_at}
use Rattle.smt_terms.specs.Machine.{scope_of}
use Rattle.smt_terms.proofs.TriggerLemmas.{behind_items, keys_next, trigger_next}
use Rattle.smt_terms.proofs.triggers.put_triggers.Goals as goal

pub loop-key-preserved : goal.loop-key-preserved
loop-key-preserved c =
    let words = c.args.context.now.tree.now in
    let keys = c.args.keys.now in
    let i = c.loop-key.key-index in
    let scope = scope_of c.args.context.now.state.now c.args.context.now.inside c.loop-key.bound in
    let left = attributes_at words (drop (i + 1) keys) in
    record {
      rest = ap (λ (b : List Bound). behind_items c.push.new.self (triggers (scope_of c.args.context.now.state.now c.args.context.now.inside b) c.args.variables.now left c.put_trigger.new.draft)) c.in-Ok.ensures.bound
          ∙ trigger_next scope c.args.variables.now (attribute_at words (get_or keys i 0)) left (attributes_at words (drop i keys)) (keys_next words keys i (get_or keys i 0) c.loop-key-test.true refl)
          c.loop-key.triggers c.push.new.self c.in-Ok.trigger c.loop-key.draft c.put_trigger.new.draft c.in-Ok.ensures.value c.in_ok-push-in-Ok.ensures.ok
          ∙ c.loop-key.invariant.rest;
      bound = c.in-Ok.ensures.bound ∙ c.loop-key.invariant.bound;
    }
