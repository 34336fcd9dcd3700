use Rattle.std.proofs.Common.{◌<◌, length, subst, sym, arith}
use Rattle.formula_truth.specs.declared.truth.Truth.{Truth}
use Rattle.search_values.specs.Given.{HasValue}
use Rattle.search_values.specs.Kept.{Kept, given_of}
use Rattle.search_values.specs.KeptInside.{kept_of}
use Rattle.search_values.proofs.ValueLemmas.{value_exact}
use Rattle.search_values.proofs.node_values.NodeValues.value.Goals as goal

pub returns : goal.returns
returns c =
    let right = c.self.invariant.right in
    let inside = kept_of c.self.inside in
    let lt : c.args.n < length inside.shown.kinds = subst (λ (k : Kept). c.args.n < length k.shown.kinds) (sym c.self.view_is) c.requires in
    let exact = value_exact c.joining_law.ensures c.self.inside.wiring inside.shown right.wired right.are right.settled c.args.n (omega (arith, right.are.nodes)) in
    let T : Truth → Type 0 = λ t. HasValue (given_of inside) c.args.n t in
    let K : Kept → Type 0 = λ k. HasValue (given_of k) c.args.n c.truth.result in
    subst K c.self.view_is (subst T (sym c.truth.ensures) exact)
