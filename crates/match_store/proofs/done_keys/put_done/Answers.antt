use Rattle.std.proofs.Common.{◌<◌, ℕ, List, All, sym, subst, true≢false}
use Rattle.match_store.proofs.CandidateLemmas.{gains_its_key, gains_no_key}
use Rattle.match_store.proofs.done_keys.put_done.Goals as goal

pub returns-in_ok-put : goal.returns-in_ok-put
returns-in_ok-put g c = gains_its_key (g.G.ClassGraph.standing c.args.graph.now) c.args.instance.now c.in_ok-leader_key.field-0.items c.args.keys.now c.put.new.self c.in_ok-leader_key.ensures c.in_ok-put.ensures

pub returns-else-are_below : goal.returns-else-are_below
returns-else-are_below g c =
    let standing = g.G.ClassGraph.standing c.args.graph.now in
    gains_no_key standing c.len-terms.ensures.lawful c.args.instance.now c.args.keys.now
    (λ all. true≢false (sym (c.if-are_below.ensures.1 (subst (λ (ts : List ℕ). All (λ t. t < c.len-terms.result) ts) (sym c.as_slice.ensures) (subst (λ n. All (λ t. t < n) c.args.instance.now.tuple) (sym c.len-terms.ensures.value) all)))))
