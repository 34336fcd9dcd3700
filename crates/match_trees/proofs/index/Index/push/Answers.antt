use Rattle.std.proofs.Common.{◌≡◌, ◌<◌, ◌+◌, ◌^◌, ◌∷◌, [], ◌++◌, ℕ, List, length, take, set, get_or, sym, subst, ap, ◌∙◌, arith}
use Rattle.match_trees.specs.Index.{IsIndexed}
use Rattle.match_trees.proofs.IndexLemmas.{indexed_push, indexed_grown, indexed_back}
use Rattle.match_trees.proofs.index.Index.push.Goals as goal

pub invariant_of-self-in-Ok : goal.invariant_of-self-in-Ok
invariant_of-self-in-Ok c =
    let keys = c.self.inside.keys.items in
    let grown = c.grow.new.lists.items in
    let many : c.len-number.result ≡ length keys = omega (arith, c.len-number.ensures, c.self.inside.keys.ok) in
    let few : length keys + 1 < 2 ^ 32 = omega (arith, c.len.ensures, c.if-len.false, c.self.inside.keys.ok) in
    let lists = c.in-Ok.ensures.ok ∙ ap (λ n. set grown c.args.key (get_or grown c.args.key [] ++ n ∷ [])) many in
    subst (λ (ks : List ℕ). IsIndexed ks c.push_at.new.lists.items) (sym c.in_ok-push.ensures.items)
    (subst (IsIndexed (keys ++ c.args.key ∷ [])) (sym lists) (indexed_push keys grown c.args.key (indexed_grown keys c.self.inside.lists.items grown c.self.invariant c.in_ok-grow.ensures.grew) c.in_ok-grow.ensures.ok few))

pub invariant_of-self-in-Err : goal.invariant_of-self-in-Err
invariant_of-self-in-Err c =
    let keys = c.self.inside.keys.items in
    let grown = c.grow.new.lists.items in
    let many : c.len-number.result ≡ length keys = omega (arith, c.len-number.ensures, c.self.inside.keys.ok) in
    let back = c.truncate.ensures.items ∙ ap (take c.len-number.result) c.in_ok-push.ensures.items in
    subst (λ (ks : List ℕ). IsIndexed ks c.push_at.new.lists.items) (sym back)
    (subst (IsIndexed (take c.len-number.result (keys ++ c.args.key ∷ []))) (sym c.in-Err.ensures.err)
    (indexed_back keys c.args.key grown c.len-number.result many (indexed_grown keys c.self.inside.lists.items grown c.self.invariant c.in_ok-grow.ensures.grew)))
