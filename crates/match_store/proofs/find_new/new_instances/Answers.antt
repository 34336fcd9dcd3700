use Rattle.std.proofs.Common.{◌<◌, ℕ, List, All, length, map, sym, subst}
use Rattle.match_store.specs.Candidates.{AreLeft}
use Rattle.match_store.specs.Instance.{key_of}
use Rattle.match_store.proofs.NewLemmas.{keys_begin, left_are_new}
use Rattle.match_store.proofs.find_new.new_instances.Goals as goal

pub left_over-requires-clause-keys : goal.left_over-requires-clause-keys
left_over-requires-clause-keys g c =
    subst (λ (keys : List (List ℕ)). All (λ key. 0 < length key) keys) (sym c.as_slice.ensures) (keys_begin c.args.graph.now.standing c.args.done.now c.in_ok-found.found c.in_ok-found.ensures)

pub returns : goal.returns
returns g c =
    let instances = c.in_ok-instances.instances.items in
    left_are_new c.args.graph.now.standing c.args.done.now c.in_ok-found.found c.in_ok-keys.keys c.in_ok-found.ensures c.in_ok-keys.ensures instances
    (subst (λ (keys : List (List ℕ)). AreLeft c.in_ok-keys.keys keys (map key_of instances)) c.as_slice.ensures c.in_ok-instances.ensures)
