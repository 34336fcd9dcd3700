use Rattle.std.proofs.Common.{◌≡◌, ◌<◌, ◌≤◌, ℕ, [], List, length, slice_get, Some, refl, sym, subst, arith}
use Rattle.std.proofs.lemmas.Option.{slice_get_read}
use Rattle.graph_meaning.specs.Questions.{AreAll}
use Rattle.match_trees.proofs.IndexLemmas.{places_past}
use Rattle.match_trees.proofs.index.Index.places.Goals as goal

pub returns-then-key-len : goal.returns-then-key-len
returns-then-key-len c =
    let lists = c.self.inside.lists.items in
    let below : c.args.key < length lists = omega (arith, c.len.ensures, c.if-key-len.true, c.self.inside.lists.ok) in
    let all = c.self.invariant.exact c.args.key c.index.result.now (slice_get_read lists (length lists) c.args.key c.index.result.now refl below c.index.ensures) in
    subst (λ (keys : List ℕ). AreAll (λ n. slice_get keys n ≡ Some c.args.key) c.as_slice.result.now) c.self.view_is
    (subst (AreAll (λ n. slice_get c.self.inside.keys.items n ≡ Some c.args.key)) (sym c.as_slice.ensures) all)

pub returns : goal.returns
returns c =
    let lists = c.self.inside.lists.items in
    let past : length lists ≤ c.args.key = omega (arith, c.len.ensures, c.if-key-len.false, c.self.inside.lists.ok) in
    subst (λ (keys : List ℕ). AreAll (λ n. slice_get keys n ≡ Some c.args.key) []) c.self.view_is (places_past c.self.inside.keys.items lists c.args.key c.self.invariant past)
