use Rattle.std.proofs.Common.{◌∙◌, ◌++◌, ◌∷◌, [], ap, sym, refl, arith, append-nil}
use Rattle.graph_meaning.specs.declared.op.Op.TheVariants.{Differ as DifferOp}
use Rattle.graph_meaning.specs.Standing.{levels_of}
use Rattle.graph_meaning.specs.State.{GraphState}
use Rattle.graph_classes.specs.History.{now}
use Rattle.graph_congruence.proofs.LastLemmas.{triggers_after, apart_after}
use Rattle.graph_congruence.proofs.StartLemmas.{AreStarts-after, levels_after}
use Rattle.graph_congruence.proofs.graph.Graph.differ.Goals as goal

pub invariant_of-self-2 : goal.invariant_of-self-2
invariant_of-self-2 c =
    let old = c.self.inside.classes in
    let new = c.log_op.new.self in
    let op = DifferOp c.args.left c.args.right in
    let follows = c.in_ok-log_op.ensures.ok in
    let levels = levels_after old new c.self.inside.done op c.self.inside.levels 0 follows c.self.invariant.levels refl in
    let room = c.has_number.ensures c.if-not-has_number.false in
    record {
      starts = AreStarts-after old new c.self.inside.starts.items c.reserve.new.self.items c.push_reserved.new.self.items c.self.inside.done op c.mark-start.result c.self.invariant.starts c.log_op.ensures.history c.mark-start.ensures follows c.in_ok-log_op.ensures.good c.reserve.ensures.items c.push_reserved.ensures.items;
      levels = omega (arith, levels);
      live = triggers_after (now old).log (now new).log c.self.inside.done op c.self.inside.live.items c.self.inside.live.items follows.log c.self.invariant.live (sym (append-nil c.self.inside.live.items));
      apart = apart_after (now old).log (now new).log c.self.inside.done op c.self.inside.apart.items c.push_reserved-2.new.self.items follows.log c.self.invariant.apart (c.push_reserved-2.ensures.items ∙ ap (λ xs. xs ++ (c.args.left, c.args.right) ∷ []) c.reserve-2.ensures.items);
      room = omega (arith, ap (λ (g : GraphState). g.done) c.self.view_is, ap (λ (g : GraphState). levels_of g.standing) c.self.view_is, c.self.invariant.levels, room);
    }
