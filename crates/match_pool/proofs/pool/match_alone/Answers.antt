use Rattle.std.proofs.Common.{◌≡◌, ◌++◌, ◌∙◌, [], ℕ, List, All, ap, subst, sym}
use Rattle.match_machine.specs.Answers.{Answered}
use Rattle.match_pool.specs.Once.{IsAnswerIn}
use Rattle.match_pool.proofs.Linking.{once-alone}
use Rattle.match_pool.proofs.pool.match_alone.Goals as goal

pub returns-clause-once : goal.returns-clause-once
returns-clause-once g c =
    let found = c.run_each.new.found in
    let put = c.in_ok-put_found.ensures in
    let empty = c.in_ok-pieces.ensures in
    once-alone _ found _ _ _ c.run_each.ensures.told (put.answers ∙ ap (λ (l : List Answered). l ++ found.answers.items) empty.0) (put.starved ∙ ap (λ (l : List ℕ). l ++ found.starved.items) empty.2) (put.shut ∙ empty.3)

pub returns-clause-answers : goal.returns-clause-answers
returns-clause-answers g c =
    let P = IsAnswerIn (g.G.ClassGraph.standing c.args.graph.now) (g.G.ClassGraph.done c.args.graph.now) c.args.forest.now c.args.batch.now in
    let found = c.run_each.new.found in
    let is : c.put_found.new.pieces.answers.items ≡ found.answers.items = c.in_ok-put_found.ensures.answers ∙ ap (λ (l : List Answered). l ++ found.answers.items) c.in_ok-pieces.ensures.0 in
    subst (λ (l : List Answered). All P l) (sym is) c.run_each.ensures.answers
