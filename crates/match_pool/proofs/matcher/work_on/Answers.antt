use Rattle.std.proofs.Common.{rules, ◌∙◌, arith}
use Rattle.match_pool.specs.Once.{IsAnswerIn}
use Rattle.match_pool.proofs.Finding.{told-on, kept-on}
use Rattle.match_pool.proofs.matcher.work_on.Goals as goal

pub loop-i-preserved : goal.loop-i-preserved
loop-i-preserved g c =
    let P = IsAnswerIn (g.G.ClassGraph.standing c.args.graph.now) (g.G.ClassGraph.done c.args.graph.now) c.args.forest.now c.args.batch.now in
    let inv = c.loop-i.invariant in
    let same = c.in-Some.ensures.same in
    record {
      same = record {
        deque = same.deque ∙ inv.same.deque;
        flavor = same.flavor ∙ inv.same.flavor;
        parts = same.parts ∙ inv.same.parts;
        pushed = same.pushed ∙ inv.same.pushed;
      };
      robbed = c.in-Some.ensures.robbed ∙ inv.robbed;
      told = λ h. omega (arith, told-on h P _ _ _ c.take_on.ensures.takes, c.in-Some.ensures.taken h, inv.told h);
      answers = kept-on P _ _ _ c.take_on.ensures.takes inv.answers;
      few = omega arith;
      room = c.take_on.ensures.few.1 ∙ inv.room;
    }
