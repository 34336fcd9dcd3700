use Rattle.std.proofs.Common.{◌≡◌, ◌+◌, ◌<◌, ◌++◌, ◌∙◌, [], ℕ, List, All, length, ap, subst, sym, arith}
use Rattle.match_machine.specs.Answers.{Answered}
use Rattle.match_pool.specs.declared.matcher.Matcher.{Matcher}
use Rattle.match_pool.specs.Once.{IsAnswerIn}
use Rattle.match_pool.specs.Ring.{answers_by, pushed_by, workers_by}
use Rattle.match_pool.specs.Weights.{weigh, weigh_below}
use Rattle.match_pool.proofs.Linking.{ring-kept, once-by, answers-by, workers-length, workers-below}
use Rattle.match_pool.proofs.pool.match_by.Goals as goal

pub gather-requires : goal.gather-requires
gather-requires g c =
    let P = IsAnswerIn (g.G.ClassGraph.standing c.args.graph.now) (g.G.ClassGraph.done c.args.graph.now) c.args.forest.now c.args.batch.now in
    ring-kept P c.link.new.matchers c.run_matchers.new.matchers c.run_matchers.ensures c.in_ok-link.ensures.ring

pub returns-clause-once : goal.returns-clause-once
returns-clause-once g c =
    let P = IsAnswerIn (g.G.ClassGraph.standing c.args.graph.now) (g.G.ClassGraph.done c.args.graph.now) c.args.forest.now c.args.batch.now in
    let ws = c.run_matchers.new.matchers in
    let empty = c.in_ok-pieces.ensures in
    let gathered = c.in_ok-gather.ensures in
    let n = length c.args.batch.now in
    let dealt : (h : ℕ → ℕ) → pushed_by h c.link.new.matchers + weigh h c.deal.new.starved.items ≡ weigh_below h n = λ h.
    let items = ap (weigh_below h) c.len-items.ensures.value in
    let before = ap (pushed_by h) c.as_mut_slice-ring.ensures.value in
    let none = ap (weigh h) empty.2 in
    omega (arith, items, before, none, c.in_ok-link.ensures.pushed h, c.in_ok-deal.ensures.pushed h, c.in_ok-matchers.ensures.pushed h) in
    once-by P n c.link.new.matchers ws c.gather.new.pieces.answers.items c.deal.new.starved.items c.gather.new.pieces.starved.items c.gather.new.pieces.shut.items c.run_matchers.ensures dealt
    (gathered.answers ∙ ap (λ (l : List Answered). l ++ answers_by ws) empty.0) gathered.starved (gathered.shut ∙ empty.3)

pub returns-clause-answers : goal.returns-clause-answers
returns-clause-answers g c =
    let P = IsAnswerIn (g.G.ClassGraph.standing c.args.graph.now) (g.G.ClassGraph.done c.args.graph.now) c.args.forest.now c.args.batch.now in
    let ws = c.run_matchers.new.matchers in
    let is : c.gather.new.pieces.answers.items ≡ answers_by ws = c.in_ok-gather.ensures.answers ∙ ap (λ (l : List Answered). l ++ answers_by ws) c.in_ok-pieces.ensures.0 in
    subst (λ (l : List Answered). All P l) (sym is) (answers-by P c.link.new.matchers ws c.run_matchers.ensures)

pub returns-clause-each : goal.returns-clause-each
returns-clause-each g c =
    let ws = c.run_matchers.new.matchers in
    let answers : c.gather.new.pieces.answers.items ≡ answers_by ws = c.in_ok-gather.ensures.answers ∙ ap (λ (l : List Answered). l ++ answers_by ws) c.in_ok-pieces.ensures.0 in
    let ran : c.gather.new.pieces.ran.items ≡ workers_by ws = c.in_ok-gather.ensures.ran ∙ ap (λ (l : List ℕ). l ++ workers_by ws) c.in_ok-pieces.ensures.1 in
    ap (λ (l : List ℕ). length l) ran ∙ (workers-length ws ∙ sym (ap (λ (l : List Answered). length l) answers))

pub returns-clause-ran : goal.returns-clause-ran
returns-clause-ran g c =
    let P = IsAnswerIn (g.G.ClassGraph.standing c.args.graph.now) (g.G.ClassGraph.done c.args.graph.now) c.args.forest.now c.args.batch.now in
    let ws = c.run_matchers.new.matchers in
    let ran : c.gather.new.pieces.ran.items ≡ workers_by ws = c.in_ok-gather.ensures.ran ∙ ap (λ (l : List ℕ). l ++ workers_by ws) c.in_ok-pieces.ensures.1 in
    subst (λ (l : List ℕ). All (λ (worker : ℕ). worker < c.args.workers) l) (sym ran) (workers-below P c.args.workers c.link.new.matchers ws c.run_matchers.ensures c.in_ok-link.ensures.fresh.1)
