use Rattle.std.proofs.Common.{◌≡◌, ℕ, List, [], ◌∷◌, ◌++◌, ◌+◌, get_or, take, sym, ap, subst, ◌∙◌}
use Rattle.std.proofs.lemmas.Grind.{take_at_read}
use Rattle.std.proofs.lemmas.List.Elements.{All-nil}
use Rattle.graph_meaning.specs.Same.{IsLeader, none}
use Rattle.match_store.proofs.CandidateLemmas.{IsKeySoFar, key_more}
use Rattle.match_store.proofs.done_keys.leader_key.Goals as goal

pub loop-term-init : goal.loop-term-init
loop-term-init g c = record {
  leaders = [];
  is_key = c.in_ok-push.ensures.items ∙ ap (λ (ks : List ℕ). ks ++ c.args.instance.now.forall ∷ []) c.new-key.ensures.items;
  same = none;
  led = All-nil (λ term. IsLeader (g.G.ClassGraph.standing c.args.graph.now) term term);
}

pub loop-term-preserved : goal.loop-term-preserved
loop-term-preserved g c =
    let standing = g.G.ClassGraph.standing c.args.graph.now in
    let forall = c.args.instance.now.forall in
    let terms = c.as_slice-term-items.result.now in
    let i = c.loop-term.term-index in
    let grew : c.push-in-loop-term.new.self.items ≡ c.loop-term.key.items ++ c.leader.result ∷ [] = c.in_ok-push-2.ensures.items in
    subst (IsKeySoFar standing forall (take (i + 1) terms)) (sym grew)
    (subst (λ (ts : List ℕ). IsKeySoFar standing forall ts (c.loop-term.key.items ++ c.leader.result ∷ [])) (sym (take_at_read terms i 0 c.loop-term-test.true).1)
    (key_more standing forall (take i terms) c.loop-term.key.items (get_or terms i 0) c.leader.result c.loop-term.invariant c.leader.ensures))
