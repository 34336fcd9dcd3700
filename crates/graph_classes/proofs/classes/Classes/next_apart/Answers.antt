use Rattle.std.proofs.Common.{arith, sym, ◌∙◌}
use Rattle.graph_classes.specs.History.{now as state_now}
use Rattle.graph_classes.proofs.MoveLemmas.{read_is}
use Rattle.graph_classes.proofs.PendingLemmas.{last_in, rest_in, IsClosing-dropped}
use Rattle.graph_classes.proofs.classes.Classes.next_apart.Goals as goal

pub index-requires : goal.index-requires
index-requires c =
    let within = (last_in _ _ _ _ _ c.in-Some.ensures.items c.loop-left.invariant.pending_in).0 in
    omega (arith, c.requires.labels_len, c.args.self.now.parts.labels.ok)

pub index-requires-in-Some : goal.index-requires-in-Some
index-requires-in-Some c =
    let within = (last_in _ _ _ _ _ c.in-Some.ensures.items c.loop-left.invariant.pending_in).1 in
    omega (arith, c.requires.labels_len, c.args.self.now.parts.labels.ok)

pub returns-then-index-clause-first_in : goal.returns-then-index-clause-first_in
returns-then-index-clause-first_in c = (last_in _ _ _ _ _ c.in-Some.ensures.items c.loop-left.invariant.pending_in).0

pub returns-then-index-clause-second_in : goal.returns-then-index-clause-second_in
returns-then-index-clause-second_in c = (last_in _ _ _ _ _ c.in-Some.ensures.items c.loop-left.invariant.pending_in).1

pub returns-then-index-clause-apart : goal.returns-then-index-clause-apart
returns-then-index-clause-apart c same =
    let within = last_in _ _ _ _ _ c.in-Some.ensures.items c.loop-left.invariant.pending_in in
    c.if-index.true (sym (read_is c.args.self.now.parts.labels.items c.in-Some.left c.index.result.now (rw c.requires.labels_len within.0) c.index.ensures) ∙ same
    ∙ read_is c.args.self.now.parts.labels.items c.in-Some.right c.index-in-Some.result.now (rw c.requires.labels_len within.1) c.index-in-Some.ensures)

pub returns-then-index-clause-pending_in : goal.returns-then-index-clause-pending_in
returns-then-index-clause-pending_in c = rest_in _ _ _ _ _ c.in-Some.ensures.items c.loop-left.invariant.pending_in

pub loop-left-preserved : goal.loop-left-preserved
loop-left-preserved c =
    let within = last_in _ _ _ _ _ c.in-Some.ensures.items c.loop-left.invariant.pending_in in
    record {
      pending_in = rest_in _ _ _ _ _ c.in-Some.ensures.items c.loop-left.invariant.pending_in;
      closing = λ merges before. IsClosing-dropped merges (state_now c.args.self.now) _ _ c.in-Some.left c.in-Some.right c.in-Some.ensures.items within.0 within.1 (read_is c.args.self.now.parts.labels.items c.in-Some.left c.index.result.now (rw c.requires.labels_len within.0) c.index.ensures ∙ c.if-index.false
          ∙ sym (read_is c.args.self.now.parts.labels.items c.in-Some.right c.index-in-Some.result.now (rw c.requires.labels_len within.1) c.index-in-Some.ensures)) (c.loop-left.invariant.closing merges before);
    }
