use Rattle.std.proofs.Common.{◌≡◌, ◌∙◌, All, ℕ, Some, slice_get, length, take, sym, ap, subst, cond, is_some, arith}
use Rattle.std.specs.Option.{option_map}
use Rattle.graph_meaning.specs.Standing.{live_trigger, triggers_of}
use Rattle.graph_trigger.specs.Trigger.{IsValid}
use Rattle.graph_terms.proofs.ListLaws.{All-slice_get}
use Rattle.graph_meaning.specs.State.{GraphState}
use Rattle.graph_plain.proofs.StandingLemmas.{length-take_more, slice_get-filter_map}
use Rattle.graph_plain.proofs.graph.PlainGraphClassGraph.trigger.Goals as goal
use Rattle.graph_plain.proofs.graph.PlainGraphClassGraph.trigger.Goals.{in-Some+else-left-eq0, in_default}

pub returns-then-left-eq0-clause-trigger : goal.returns-then-left-eq0-clause-trigger
returns-then-left-eq0-clause-trigger c =
    let items = c.deref-done-items.result.now in
    let is = c.deref-done-items.ensures.value ∙ ap (λ (s : GraphState). s.standing) c.self.view_is in
    let here = slice_get-filter_map live_trigger items c.loop-done.done-index c.done-item.result c.loop-done-test.true c.done-item.is c.in-Some.trigger.now
    (sym c.live_trigger.ensures ∙ ap (option_map (λ b. b.now)) c.in-Some.is) in
    let last : length (triggers_of (take c.loop-done.done-index items)) ≡ c.args.n = omega (arith, c.loop-done.invariant, c.if-left-eq0.true) in
    subst (λ standing. slice_get (triggers_of standing) c.args.n ≡ Some c.in-Some.trigger.now) is (subst (λ n. slice_get (triggers_of items) n ≡ Some c.in-Some.trigger.now) last here)

pub loop-done-preserved : goal.loop-done-preserved
loop-done-preserved c =
    let more = length-take_more live_trigger c.deref-done-items.result.now c.loop-done.done-index c.done-item.result c.loop-done-test.true c.done-item.is c.live_trigger.result (λ b. b.now) c.live_trigger.ensures in
    elim c.match-live_trigger.branch [
      | in-Some+else-left-eq0 w ↦ let one = ap {B = ℕ} (λ o. cond (is_some o) 1 0) w.in-Some.is in omega (arith, more, one, c.loop-done.invariant)
      | in_default w ↦ let one = ap {B = ℕ} (λ o. cond (is_some o) 1 0) w.in_default.is in omega (arith, more, one, c.loop-done.invariant)
    ]

pub returns-then-left-eq0-clause-valid : goal.returns-then-left-eq0-clause-valid
returns-then-left-eq0-clause-valid c =
    let items = c.deref-done-items.result.now in
    let here = slice_get-filter_map live_trigger items c.loop-done.done-index c.done-item.result c.loop-done-test.true c.done-item.is c.in-Some.trigger.now
    (sym c.live_trigger.ensures ∙ ap (option_map (λ b. b.now)) c.in-Some.is) in
    All-slice_get IsValid (triggers_of items) _ c.in-Some.trigger.now (subst (λ standing. All IsValid (triggers_of standing)) (sym c.deref-done-items.ensures.value) c.self.invariant.kept.lawful.whole.triggers) here
