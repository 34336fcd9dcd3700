use Rattle.std.proofs.Common.{◌≡◌, ℕ, List, [], ◌∷◌, ◌++◌, drop}
use Rattle.graph_meaning.specs.Standing.{terms_of}
use Rattle.em_printing.specs.Names.{names_of}
use Rattle.em_printing.specs.Printed.{IsTermText, AreTermTexts}
use Rattle.em_printing.proofs.printed.+push_term.Given as goal

abbrev pub decreases-push_term : goal.decreases-push_term
decreases-push_term g l = l.term

abbrev pub invariant-loop-i : goal.invariant-loop-i
invariant-loop-i g l =
    let names = names_of l.session in
    let rows = terms_of (g.G.ClassGraph.standing l.graph) in
    (added : List ℕ) × (l.text.items ≡ l.fn.text.items ++ added)
    × ((rest : List ℕ) → AreTermTexts names rows (drop l.i l.row.args) rest → IsTermText names rows l.term (added ++ rest ++ 41 ∷ []))
