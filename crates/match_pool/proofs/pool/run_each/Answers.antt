use Rattle.std.proofs.Common.{rules, arith}
use Rattle.match_pool.specs.Once.{IsAnswerIn}
use Rattle.match_pool.proofs.Finding.{told-on, kept-on}
use Rattle.match_pool.proofs.Weighing.{below-more}
use Rattle.match_pool.proofs.pool.run_each.Goals as goal

pub loop-number-preserved : goal.loop-number-preserved
loop-number-preserved g c =
    let P = IsAnswerIn (g.G.ClassGraph.standing c.args.graph.now) (g.G.ClassGraph.done c.args.graph.now) c.args.forest.now c.args.batch.now in
    let inv = c.loop-number.invariant in
    record {
      told = λ h. omega (arith, told-on h P _ _ _ c.take_on.ensures.takes, inv.told h, below-more h c.loop-number.number);
      answers = kept-on P _ _ _ c.take_on.ensures.takes inv.answers;
      few = omega arith;
      room = omega arith;
      end = inv.end;
    }
