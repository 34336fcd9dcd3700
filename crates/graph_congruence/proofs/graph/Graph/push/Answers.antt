use Rattle.std.proofs.Common.{append-nil, ap, sym, refl, arith}
use Rattle.graph_meaning.specs.declared.op.Op.TheVariants.{Push as PushOp}
use Rattle.graph_meaning.specs.Standing.{levels_of}
use Rattle.graph_meaning.specs.State.{GraphState}
use Rattle.graph_classes.specs.History.{now}
use Rattle.graph_congruence.proofs.LastLemmas.{triggers_after, apart_after}
use Rattle.graph_congruence.proofs.StartLemmas.{AreStarts-after, levels_after}
use Rattle.graph_congruence.proofs.graph.Graph.push.Goals as goal

pub invariant_of-self-2 : goal.invariant_of-self-2
invariant_of-self-2 c =
    let old = c.self.inside.classes in
    let new = c.log_op.new.self in
    let op = PushOp in
    let follows = c.in_ok-log_op.ensures.ok in
    let levels = levels_after old new c.self.inside.done op c.self.inside.levels 1 follows c.self.invariant.levels refl in
    let room = c.has_level.ensures.numbers c.if-not-has_level.false in
    record {
      starts = AreStarts-after old new c.self.inside.starts.items c.reserve.new.self.items c.push_reserved.new.self.items c.self.inside.done op c.mark-start.result c.self.invariant.starts c.log_op.ensures.history c.mark-start.ensures follows c.in_ok-log_op.ensures.good c.reserve.ensures.items c.push_reserved.ensures.items;
      levels = levels;
      live = triggers_after (now old).log (now new).log c.self.inside.done op c.self.inside.live.items c.self.inside.live.items follows.log c.self.invariant.live (sym (append-nil c.self.inside.live.items));
      apart = apart_after (now old).log (now new).log c.self.inside.done op c.self.inside.apart.items c.self.inside.apart.items follows.log c.self.invariant.apart (sym (append-nil c.self.inside.apart.items));
      room = omega (arith, ap (λ (g : GraphState). g.done) c.self.view_is, ap (λ (g : GraphState). levels_of g.standing) c.self.view_is, c.self.invariant.levels, room);
    }
