use Rattle.std.proofs.Common.{◌≤◌, ◌<◌, ℕ, List, length, slice_get, Contains, ap, sym, ◌∙◌, subst, arith}
use Rattle.graph_meaning.specs.Lawful.{IsLawful}
use Rattle.graph_meaning.specs.Same.{Same}
use Rattle.graph_meaning.specs.State.{GraphState}
use Rattle.graph_congruence.specs.Clash.{apart_of, NoneSame}
use Rattle.graph_congruence.proofs.ClashLemmas.{apart_below, read_at, not_both, none_more, none_at_all}
use Rattle.graph_congruence.proofs.graph.Graph.clash.Goals as goal

pub same-requires-clause-left : goal.same-requires-clause-left
same-requires-clause-left c =
    let standing = c.args.self.now.standing in
    let pairs = c.self.invariant.apart ∙ ap (λ (g : GraphState). apart_of g.standing) c.self.view_is in
    let within : c.loop-i.i < length c.self.inside.apart.items = omega (arith, c.loop-i-test.true, c.len-i-end.ensures, c.self.inside.apart.ok.0) in
    let at = read_at c.self.inside.apart.items c.loop-i.i c.index.result.now within c.index.ensures in
    let lawful = subst IsLawful (ap (λ (g : GraphState). g.standing) c.self.view_is) c.self.invariant.starts.good.lawful in
    (apart_below standing c.loop-i.i c.index.result.now.0 c.index.result.now.1 lawful (ap (λ ps. slice_get ps c.loop-i.i) (sym pairs) ∙ at)).0

pub same-requires-clause-right : goal.same-requires-clause-right
same-requires-clause-right c =
    let standing = c.args.self.now.standing in
    let pairs = c.self.invariant.apart ∙ ap (λ (g : GraphState). apart_of g.standing) c.self.view_is in
    let within : c.loop-i.i < length c.self.inside.apart.items = omega (arith, c.loop-i-test.true, c.len-i-end.ensures, c.self.inside.apart.ok.0) in
    let at = read_at c.self.inside.apart.items c.loop-i.i c.index.result.now within c.index.ensures in
    let lawful = subst IsLawful (ap (λ (g : GraphState). g.standing) c.self.view_is) c.self.invariant.starts.good.lawful in
    (apart_below standing c.loop-i.i c.index.result.now.0 c.index.result.now.1 lawful (ap (λ ps. slice_get ps c.loop-i.i) (sym pairs) ∙ at)).1

pub returns-then-same : goal.returns-then-same
returns-then-same c =
    let standing = c.args.self.now.standing in
    let pairs = c.self.invariant.apart ∙ ap (λ (g : GraphState). apart_of g.standing) c.self.view_is in
    let within : c.loop-i.i < length c.self.inside.apart.items = omega (arith, c.loop-i-test.true, c.len-i-end.ensures, c.self.inside.apart.ok.0) in
    let at = read_at c.self.inside.apart.items c.loop-i.i c.index.result.now within c.index.ensures in
    let P : List (ℕ × ℕ) → Type 0 = λ ps. NoneSame standing ps c.loop-i.i in
    (c.loop-i.i, ap (λ ps. slice_get ps c.loop-i.i) (sym pairs) ∙ at, c.same.ensures.0 c.if-same.true, subst P pairs c.loop-i.invariant)

pub loop-i-preserved : goal.loop-i-preserved
loop-i-preserved c =
    let standing = c.args.self.now.standing in
    let within : c.loop-i.i < length c.self.inside.apart.items = omega (arith, c.loop-i-test.true, c.len-i-end.ensures, c.self.inside.apart.ok.0) in
    let at = read_at c.self.inside.apart.items c.loop-i.i c.index.result.now within c.index.ensures in
    none_more standing c.self.inside.apart.items c.loop-i.i c.index.result.now.0 c.index.result.now.1 c.loop-i.invariant at (λ same. not_both c.same.result (c.same.ensures.1 same) c.if-same.false)

pub returns : goal.returns
returns c =
    let standing = c.args.self.now.standing in
    let pairs = c.self.invariant.apart ∙ ap (λ (g : GraphState). apart_of g.standing) c.self.view_is in
    let all : length c.self.inside.apart.items ≤ c.loop-i.i = omega (arith, c.loop-i-test.false, c.len-i-end.ensures, c.self.inside.apart.ok.0) in
    let P : List (ℕ × ℕ) → Type 0 = λ ps. (s t : ℕ) → Contains ps (s, t) → Same standing s t → ⊥ in
    subst P pairs (none_at_all standing c.self.inside.apart.items c.loop-i.i all c.loop-i.invariant)
