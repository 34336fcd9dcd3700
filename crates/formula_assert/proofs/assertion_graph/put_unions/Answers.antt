use Rattle.std.proofs.Common.{◌≡◌, ℕ, ◌+◌, ◌++◌, ◌∷◌, [], List, take, slice_get, Some, sym, ap, ◌∙◌, append_assoc}
use Rattle.graph_terms.proofs.ListLaws.{take-slice_get}
use Rattle.graph_meaning.specs.declared.union.Union.{Union}
use Rattle.formula_assert.proofs.assertion_graph.put_unions.Goals as goal

-- one more union
next_union : (before here after unions : List Union) (i : ℕ) (u : Union) → here ≡ before ++ take i unions → slice_get unions i ≡ Some u → after ≡ here ++ u ∷ [] → after ≡ before ++ take (i + 1) unions
next_union before here after unions i u so_far at put =
    put
    ∙ ap (λ (list : List Union). list ++ u ∷ []) so_far
    ∙ append_assoc before (take i unions) (u ∷ [])
    ∙ ap (λ (list : List Union). before ++ list) (sym (take-slice_get unions i u at))

pub loop-i-preserved : goal.loop-i-preserved
loop-i-preserved c = next_union c.args.into.now.items c.loop-i.into.items c.push.new.self.items c.args.unions.now c.loop-i.i c.get.result.now c.loop-i.invariant c.get.ensures c.in_ok-push.ensures.items
