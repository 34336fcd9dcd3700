use Rattle.std.proofs.Common.{List, take, sym, subst, arith}
use Rattle.std.proofs.lemmas.List.{take_all}
use Rattle.match_store.specs.declared.instance.Instance.{Instance}
use Rattle.match_store.specs.Candidates.{AreDoneKeys}
use Rattle.match_store.proofs.CandidateLemmas.{done_more}
use Rattle.match_store.proofs.ListLemmas.{take_more_at}
use Rattle.match_store.proofs.done_keys.done_keys.Goals as goal

pub loop-k-preserved : goal.loop-k-preserved
loop-k-preserved g c =
    let standing = g.G.ClassGraph.standing c.args.graph.now in
    let done = c.args.done.now in
    let k = c.loop-k.k in
    subst (λ (is : List Instance). AreDoneKeys standing is c.put_done.new.keys) (sym (take_more_at done k c.get.result.now c.get.ensures))
    (done_more standing (take k done) c.get.result.now c.loop-k.keys c.put_done.new.keys c.loop-k.invariant c.in_ok-put_done.ensures)

pub returns : goal.returns
returns g c = subst (λ (is : List Instance). AreDoneKeys (g.G.ClassGraph.standing c.args.graph.now) is c.loop-k.keys) (take_all c.loop-k.k c.args.done.now (omega (arith, c.loop-k-test.false, c.len-k-end.ensures))) c.loop-k.invariant
