use Rattle.std.proofs.Common.{◌∙◌, ap, sym, refl, arith, append-nil, subst}
use Rattle.graph_meaning.specs.declared.op.Op.TheVariants.{Merge as MergeOp}
use Rattle.graph_meaning.specs.Standing.{levels_of}
use Rattle.graph_meaning.specs.State.{GraphState}
use Rattle.graph_classes.specs.History.{now}
use Rattle.graph_meaning.specs.Unions.{ListsUnions}
use Rattle.graph_congruence.proofs.LastLemmas.{triggers_after, apart_after}
use Rattle.graph_congruence.proofs.StartLemmas.{AreStarts-after, levels_after}
use Rattle.graph_congruence.proofs.MeaningLemmas.{AreUnions-same}
use Rattle.graph_congruence.proofs.graph.Graph.merge.Goals as goal

pub invariant_of-self-2 : goal.invariant_of-self-2
invariant_of-self-2 c =
    let old = c.self.inside.classes in
    let new = c.merge.new.self in
    let op = MergeOp c.args.left c.args.right in
    let follows = c.in_ok-unions.ensures.ok in
    let levels = levels_after old new c.self.inside.done op c.self.inside.levels 0 follows c.self.invariant.levels refl in
    let room = c.has_number.ensures c.if-not-has_number.false in
    record {
      starts = AreStarts-after old new c.self.inside.starts.items c.reserve.new.self.items c.push_reserved.new.self.items c.self.inside.done op c.mark-start.result c.self.invariant.starts c.merge.ensures.history c.mark-start.ensures follows c.in_ok-unions.ensures.good c.reserve.ensures.items c.push_reserved.ensures.items;
      levels = omega (arith, levels);
      live = triggers_after (now old).log (now new).log c.self.inside.done op c.self.inside.live.items c.self.inside.live.items follows.log c.self.invariant.live (sym (append-nil c.self.inside.live.items));
      apart = apart_after (now old).log (now new).log c.self.inside.done op c.self.inside.apart.items c.self.inside.apart.items follows.log c.self.invariant.apart (sym (append-nil c.self.inside.apart.items));
      room = omega (arith, ap (λ (g : GraphState). g.done) c.self.view_is, ap (λ (g : GraphState). levels_of g.standing) c.self.view_is, c.self.invariant.levels, room);
    }

pub returns-clause-unions : goal.returns-clause-unions
returns-clause-unions c =
    let P : GraphState → Type 0 = λ g. ListsUnions g.standing (now c.merge.new.self).log c.in_ok-unions.unions in
    subst P c.self.view_is (AreUnions-same (now c.self.inside.classes) (now c.merge.new.self) c.in_ok-unions.unions c.self.invariant.starts.good c.in_ok-unions.ensures.good (c.in_ok-unions.ensures.ok.rows ∙ append-nil (now c.self.inside.classes).rows) c.in_ok-unions.ensures.unions)
