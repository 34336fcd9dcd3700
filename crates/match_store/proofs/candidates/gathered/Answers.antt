use Rattle.std.proofs.Common.{◌≡◌, ◌<◌, ◌+◌, ◌++◌, ◌∷◌, ℕ, List, map, length, take, slice_get, Some, sym, ap, subst, ◌∙◌, arith}
use Rattle.std.proofs.lemmas.List.{take_all}
use Rattle.std.proofs.lemmas.Option.{slice_get-get_or}
use Rattle.graph_meaning.specs.Standing.{triggers_of}
use Rattle.graph_trigger.specs.declared.trigger.Trigger.{Trigger}
use Rattle.match_store.specs.Candidates.{HaveMatches}
use Rattle.match_store.proofs.CandidateLemmas.{matches_more}
use Rattle.match_store.proofs.ListLemmas.{take_more_at}
use Rattle.match_store.proofs.candidates.gathered.Goals as goal

pub loop-n-preserved : goal.loop-n-preserved
loop-n-preserved g c =
    let standing = g.G.ClassGraph.standing c.args.graph.now in
    let triggers = triggers_of standing in
    let lists = c.args.lists.now in
    let n = c.loop-n.n in
    let trigger = c.trigger-trigger.result.now in
    let tuples = c.index-lists-n.result in
    let within : n < length lists = omega (arith, c.loop-n-test.true, c.triggers-n-end.ensures, c.requires.each_trigger) in
    let listed : slice_get lists n ≡ Some tuples = slice_get-get_or lists n tuples within ∙ ap Some (sym c.index-lists-n.is) in
    let grew : c.put_tuples.new.keys ≡ c.loop-n.keys ++ map (λ tuple. trigger.forall ∷ tuple) tuples = c.in_ok-put_tuples.ensures ∙ ap (λ (ts : List (List ℕ)). c.loop-n.keys ++ map (λ tuple. trigger.forall ∷ tuple) ts) c.as_slice-tuples.ensures in
    subst (HaveMatches standing (take (n + 1) triggers)) (sym grew)
    (subst (λ (ts : List Trigger). HaveMatches standing ts (c.loop-n.keys ++ map (λ tuple. trigger.forall ∷ tuple) tuples)) (sym (take_more_at triggers n trigger c.trigger-trigger.ensures.trigger))
    (matches_more standing (take n triggers) trigger tuples c.loop-n.keys c.loop-n.invariant (c.requires.are n trigger tuples c.trigger-trigger.ensures.trigger listed)))

pub returns : goal.returns
returns g c =
    let standing = g.G.ClassGraph.standing c.args.graph.now in
    subst (λ (ts : List Trigger). HaveMatches standing ts c.loop-n.keys) (take_all c.loop-n.n (triggers_of standing) (omega (arith, c.loop-n-test.false, c.triggers-n-end.ensures))) c.loop-n.invariant
