use Rattle.std.proofs.Common.{◌∙◌, arith}
use Rattle.graph_trail.proofs.Unwinding.{state_at_mark, first_state}
use Rattle.graph_trail.proofs.trail.Trail.back_to_mark.Goals as goal

pub returns-clause-gives : goal.returns-clause-gives
returns-clause-gives g c =
    state_at_mark g.T.Undoable.undo_leaves g.T.Undoable.state g.T.Undoable.before g.met.T.Undoable.undo_gives_before
    c.args.mark c.args.self.now c.loop-self.self-inside.notes.items c.args.value.now c.loop-self.value
    c.loop-self.invariant.unwound c.loop-self.invariant.above (omega arith)

pub returns-clause-stood : goal.returns-clause-stood
returns-clause-stood g c stood h =
    state_at_mark g.T.Undoable.undo_leaves g.T.Undoable.state g.T.Undoable.before g.met.T.Undoable.undo_gives_before
    c.args.mark c.args.self.now c.loop-self.self-inside.notes.items c.args.value.now c.loop-self.value
    c.loop-self.invariant.unwound c.loop-self.invariant.above (omega arith)
    ∙ first_state g.T.Undoable.before stood _ _ h
