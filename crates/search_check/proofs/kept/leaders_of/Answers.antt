use Rattle.std.proofs.Common.{◌≡◌, length, ◌∙◌, arith}
use Rattle.graph_meaning.specs.Standing.{terms_of}
use Rattle.search_check.proofs.KeptLemmas.{no_leaders, next_leader, all_leaders}
use Rattle.search_check.proofs.kept.leaders_of.Goals as goal

pub loop-term-init : goal.loop-term-init
loop-term-init c = no_leaders c.args.graph.now.standing c.new-leaders.result.items c.new-leaders.ensures.items

pub loop-term-preserved : goal.loop-term-preserved
loop-term-preserved c = next_leader c.args.graph.now.standing c.loop-term.term c.leader.result
    c.loop-term.leaders.items c.push_number.new.numbers.items c.loop-term.invariant c.leader.ensures
    c.in_ok-push_number.ensures

pub returns : goal.returns
returns c =
    let all : c.loop-term.term ≡ length (terms_of c.args.graph.now.standing) =
    let count = c.len-term-end.ensures.value in
    let past = c.loop-term-test.false in
    let within = c.loop-term.auto.term-end in
    omega (arith, count, past, within) in
    all_leaders c.args.graph.now.standing c.loop-term.term c.loop-term.leaders.items c.in_ok-numbers.numbers all
    (c.in_ok-numbers.ensures ∙ c.deref.ensures.value) c.loop-term.invariant
