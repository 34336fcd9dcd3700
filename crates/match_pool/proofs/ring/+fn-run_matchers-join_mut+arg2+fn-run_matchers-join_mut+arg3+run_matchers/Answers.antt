use Rattle.std.proofs.Common.{rules, ◌≡◌, ◌++◌, subst, List}
use Rattle.std.specs.List.{AllZip}
use Rattle.match_pool.specs.declared.matcher.Matcher.{Matcher}
use Rattle.match_pool.specs.Once.{IsAnswerIn}
use Rattle.match_pool.specs.Ring.{HasWorked}
use Rattle.match_pool.proofs.Linking.{AllZip-join}
use Rattle.match_pool.proofs.ring.+fn-run_matchers-join_mut+arg2+fn-run_matchers-join_mut+arg3+run_matchers.Goals as goal

pub returns : goal.returns
returns g t c =
    let R = HasWorked (IsAnswerIn (g.G.ClassGraph.standing c.args.graph.now) (g.G.ClassGraph.done c.args.graph.now) c.args.forest.now c.args.batch.now) in
    let front : AllZip R c.split_at_mut-front.result.0.now c.front-1.given.0 = search rules in
    let back : AllZip R c.split_at_mut-front.result.1.now c.back-1.given.0 = search rules in
    let whole : c.split_at_mut-front.result.0.now ++ c.split_at_mut-front.result.1.now ≡ c.args.matchers.now = search rules in
    subst (λ (l : List Matcher). AllZip R l (c.front-1.given.0 ++ c.back-1.given.0)) whole (AllZip-join R _ _ _ _ front back)
