use Rattle.std.proofs.Common.{◌++◌, ◌∷◌, [], sym, ◌∙◌, arith, true≢false}
use Rattle.std.proofs.lemmas.List.{length-append}
use Rattle.graph_plain.specs.Picks.{IsPicked}
use Rattle.graph_plain.proofs.GraphLemmas.{AreAll-more, AreAll-not, AreAll-end, answer-push, picked_term}
use Rattle.graph_plain.proofs.graph.PlainGraph.nth.Goals as goal
use Rattle.graph_plain.proofs.graph.PlainGraph.nth.Goals.{then-is_picked, then-seen-k, else-seen-k, else-is_picked}

pub loop-term-preserved : goal.loop-term-preserved
loop-term-preserved c =
    let old = c.loop-term.invariant in
    let term = c.loop-term.term in
    let picks = IsPicked c.args.self.now.standing c.args.pick in
    elim c.if-is_picked.branch [
      | then-is_picked w ↦
          let here = c.is_picked.ensures.0 w.if-is_picked.true in
          let pushed = answer-push old.0 term c.loop-term.seen c.args.k c.loop-term.answer old.2 old.3 in (
            old.0 ++ term ∷ [],
            AreAll-more picks term old.0 old.1 here,
            omega (arith, length-append old.0 (term ∷ []), old.2, w.seen-is),
            elim w.if-seen-k.branch [ then-seen-k w' ↦ w.answer-is ∙ w'.answer-is ∙ pushed.0 w'.if-seen-k.true | else-seen-k w' ↦ w.answer-is ∙ w'.answer-is ∙ pushed.1 w'.if-seen-k.false ],
            omega (arith, old.4, w.seen-is),
          )
      | else-is_picked w ↦
          (old.0, AreAll-not picks term old.0 old.1 (λ here. true≢false (sym (c.is_picked.ensures.1 here) ∙ w.if-is_picked.false)), old.2 ∙ sym w.seen-is, w.answer-is ∙ old.3, omega (arith, old.4, w.seen-is))
    ]

pub returns : goal.returns
returns c =
    let old = c.loop-term.invariant in
    let picks = IsPicked c.args.self.now.standing c.args.pick in
    (old.0, AreAll-end picks c.loop-term.term old.0 (λ n h. let below = picked_term c.args.self.now.standing c.args.pick n h in omega (arith, c.len-term-end.ensures.value, c.loop-term-test.false)) old.1, old.3)
