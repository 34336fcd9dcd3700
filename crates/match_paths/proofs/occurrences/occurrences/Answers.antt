use Rattle.std.proofs.Common.{◌≡◌, ◌+◌, List, slice_get, Some, sym, subst, arith}
use Rattle.match_paths.specs.declared.occurrence.Occurrence.{Occurrence}
use Rattle.match_paths.proofs.OccurrenceLemmas.{Opened, opened_none, opened_next, opened_all}
use Rattle.match_paths.proofs.occurrences.occurrences.Goals as goal

pub loop-turn-init : goal.loop-turn-init
loop-turn-init c = opened_none c.args.trigger.now c.in_ok-all.all.items c.in_ok-all.ensures

pub returns-then-turn-len : goal.returns-then-turn-len
returns-then-turn-len c = opened_all c.args.trigger.now c.loop-turn.turn c.loop-turn.all.items (omega (arith, c.if-turn-len.true, c.len.ensures, c.loop-turn.all.ok)) c.loop-turn.invariant

pub loop-turn-preserved : goal.loop-turn-preserved
loop-turn-preserved c =
    subst (Opened c.args.trigger.now (c.loop-turn.turn + 1)) (sym c.in_ok-push_all.ensures)
    (opened_next c.args.trigger.now c.loop-turn.turn c.occurrence_at.result.now c.loop-turn.all.items c.in_ok-parts.parts.items (subst (λ (xs : List Occurrence). slice_get xs c.loop-turn.turn ≡ Some c.occurrence_at.result.now) c.deref.ensures.value c.occurrence_at.ensures) c.in_ok-parts.ensures c.loop-turn.invariant)
