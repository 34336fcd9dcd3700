use Rattle.std.proofs.Common.{◌≡◌, [], length, sym, ap, subst, ◌∙◌, true≢false, arith}
use Rattle.std.proofs.lemmas.Bool.{eqb-true, eq-eqb}
use Rattle.graph_meaning.specs.State.{GraphState}
use Rattle.match_store.specs.New.{AreNew}
use Rattle.search_check.proofs.ListLemmas.{no_elements}
use Rattle.search_check.proofs.NewLemmas.{all_can_enter}
use Rattle.search_check.proofs.RoundLemmas.{ends_settled, ends_spent}
use Rattle.search_check.proofs.search.Search.nothing_open.Goals as goal

pub returns-then-is_empty-clause-ok : goal.returns-then-is_empty-clause-ok
returns-then-is_empty-clause-ok g c start searching =
    let so_many : c.in_ok-instances.instances.len ≡ 0 =
    eqb-true c.in_ok-instances.instances.len 0 (sym c.is_empty.ensures ∙ c.if-is_empty.true) in
    let none : c.in_ok-instances.instances.items ≡ [] = no_elements c.in_ok-instances.instances.items
    (omega (arith, so_many, c.in_ok-instances.instances.ok)) in
    ends_settled c.args.rounds start c.args.stack.now c.args.self.now.asides.items c.args.self.now.struck.items
    c.args.self.now.done c.args.self.now.spent.items c.args.self.now.values searching
    c.requires.step (c.has_live.ensures.some c.if-not-has_live.false) c.args.self.now c.in_ok-ends_open.field-0
    (subst (AreNew c.args.stack.now.graph.standing c.args.self.now.done) none
    (subst (λ (graph : GraphState). AreNew graph.standing c.args.self.now.done c.in_ok-instances.instances.items)
    c.graph.ensures c.in_ok-instances.ensures))
    c.in_ok-ends_open.ensures

pub returns-then-len-rounds-clause-ok : goal.returns-then-len-rounds-clause-ok
returns-then-len-rounds-clause-ok g c start searching = ends_spent c.args.rounds start c.args.stack.now
    c.args.self.now.asides.items c.args.self.now.struck.items c.args.self.now.done c.args.self.now.spent.items c.args.self.now.values searching c.requires.step
    (c.has_live.ensures.some c.if-not-has_live.false) c.args.self.now c.in_ok-ends_open-2.field-0
    c.in_ok-instances.instances.items
    (λ none.
    let zero : length c.in_ok-instances.instances.items ≡ 0 = ap length none in
    let so_many : c.in_ok-instances.instances.len ≡ 0 = omega (arith, zero, c.in_ok-instances.instances.ok) in
    true≢false (sym (eq-eqb c.in_ok-instances.instances.len 0 so_many) ∙ sym c.is_empty.ensures ∙ c.if-is_empty.false))
    (subst (λ (graph : GraphState). AreNew graph.standing c.args.self.now.done c.in_ok-instances.instances.items)
    c.graph.ensures c.in_ok-instances.ensures)
    (omega (arith, c.if-len-rounds.true, c.len.ensures, c.args.self.now.spent.ok))
    c.in_ok-ends_open-2.ensures

pub round-requires-clause-can_enter : goal.round-requires-clause-can_enter
round-requires-clause-can_enter g c = all_can_enter c.args.stack.now c.depth-rules.ensures.rules.lawful
    c.requires.under_way.1.right.table c.requires.under_way.1.lives c.args.self.now.done c.deref.result.now
    (subst (AreNew c.args.stack.now.graph.standing c.args.self.now.done) (sym c.deref.ensures.value)
    (subst (λ (graph : GraphState). AreNew graph.standing c.args.self.now.done c.in_ok-instances.instances.items)
    c.graph.ensures c.in_ok-instances.ensures))

pub round-requires-clause-lives : goal.round-requires-clause-lives
round-requires-clause-lives g c = c.requires.under_way.1.lives

pub round-requires-clause-values : goal.round-requires-clause-values
round-requires-clause-values g c = c.requires.under_way.1.right
