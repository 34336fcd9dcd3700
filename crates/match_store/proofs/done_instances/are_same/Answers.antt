use Rattle.std.proofs.Common.{◌+◌, ◌<◌, ℕ, List, take, get_or, length, refl, sym, subst, arith, true≢false, ◌++◌, ◌∷◌, []}
use Rattle.std.proofs.lemmas.Grind.{take_at_read}
use Rattle.graph_meaning.specs.Same.{none}
use Rattle.match_store.specs.DoneInstances.{AreSameEach}
use Rattle.match_store.proofs.SameLemmas.{each_at, each_length, each_push}
use Rattle.match_store.proofs.done_instances.are_same.Goals as goal

pub returns-then-left-right : goal.returns-then-left-right
returns-then-left-right g c = (
  λ no. absurd (true≢false (sym no)),
  λ same. let long = each_length same in absurd (omega (arith, long, c.if-left-right.true)),
)

pub loop-i-init : goal.loop-i-init
loop-i-init g c = none

pub returns-then-not-is_same : goal.returns-then-not-is_same
returns-then-not-is_same g c = (
  λ no. absurd (true≢false (sym no)),
  λ same. c.if-not-is_same.ensures.1 (each_at same c.loop-i.i c.loop-i-test.true),
)

pub loop-i-preserved : goal.loop-i-preserved
loop-i-preserved g c =
    let standing = g.G.ClassGraph.standing c.args.graph.now in
    let left = c.args.left.now in
    let right = c.args.right.now in
    let i = c.loop-i.i in
    let within : i < length right = omega (arith, c.loop-i-test.true, c.if-left-right.false) in
    subst (λ (xs : List ℕ). AreSameEach standing xs (take (i + 1) right)) (sym (take_at_read left i 0 c.loop-i-test.true).1)
    (subst (AreSameEach standing (take i left ++ get_or left i 0 ∷ [])) (sym (take_at_read right i 0 within).1)
    (each_push (get_or left i 0) (get_or right i 0) c.loop-i.invariant (c.if-not-is_same.ensures.0 refl)))
