use Rattle.std.proofs.Common.{◌≡◌, ◌<◌, ◌≤◌, ℕ, List, length, slice_get}
use Rattle.graph_meaning.specs.Questions.{AreAll}
use Rattle.graph_plain.specs.Picks.{IsPicked}
use Rattle.graph_plain.proofs.graph.PlainGraph.nth.Given as goal

-- the terms that were picked so far, and the k-th of them
abbrev pub invariant-loop-term : goal.invariant-loop-term
invariant-loop-term l =
    (numbers : List ℕ) × AreAll (λ n. (n < l.term) × IsPicked l.self.standing l.pick n) numbers × (length numbers ≡ l.seen) × (l.answer ≡ slice_get numbers l.k) × (l.seen ≤ l.term)
