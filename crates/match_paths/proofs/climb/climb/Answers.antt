use Rattle.std.proofs.Common.{◌≡◌, ◌∙◌, ◌∷◌, List, Some, slice_get, sym, subst}
use Rattle.graph_terms.proofs.ListLaws.{Contains-slice_get}
use Rattle.graph_meaning.specs.declared.claim.Claim.{Claim}
use Rattle.match_paths.specs.Climbing.{Rises}
use Rattle.match_paths.proofs.TurnLemmas.{Turns, turns_none, turns_next, turns_all}
use Rattle.match_paths.proofs.climb.climb.Given as given
use Rattle.match_paths.proofs.climb.climb.Goals as goal

at_turn : (g : given.Over) (c : goal.After-claims-1 g) → slice_get c.loop-turn.tasks c.loop-turn.turn ≡ Some c.in-Some.task
at_turn g c = sym c.get.ensures ∙ c.in-Some.is

rises : (g : given.Over) (c : goal.After-claims-1 g) → Rises (g.G.ClassGraph.standing c.args.graph.now) c.args.nodes.now c.args.class c.in-Some.task
rises g c = (c.loop-turn.invariant c.len-terms.ensures.lawful c.requires).rises c.in-Some.task (Contains-slice_get c.loop-turn.tasks c.loop-turn.turn c.in-Some.task (at_turn g c))

pub climb_task-requires-clause-node : goal.climb_task-requires-clause-node
climb_task-requires-clause-node g c =
    let r = rises g c in
    c.path_law.ensures.within c.args.nodes.now r.way.root c.in-Some.task.node (r.begin ∷ r.links) r.way.path

pub climb_task-requires-clause-class : goal.climb_task-requires-clause-class
climb_task-requires-clause-class g c = (rises g c).is_term

pub loop-turn-init : goal.loop-turn-init
loop-turn-init g c =
    let standing = g.G.ClassGraph.standing c.args.graph.now in
    λ lawful is_term. subst (λ (cs : List Claim). Turns standing lawful c.args.nodes.now c.args.entries.now c.args.class is_term 0 c.in_ok-tasks.tasks cs) (sym c.new-claims.ensures) (turns_none standing lawful c.args.nodes.now c.args.entries.now c.args.class is_term c.in_ok-tasks.tasks c.in_ok-tasks.ensures)

pub loop-turn-preserved : goal.loop-turn-preserved
loop-turn-preserved g c =
    let standing = g.G.ClassGraph.standing c.args.graph.now in
    let at : slice_get c.loop-turn.tasks c.loop-turn.turn ≡ Some c.in-Some.task = sym c.get.ensures ∙ c.in-Some.is in
    λ lawful is_term. turns_next standing lawful c.args.nodes.now c.args.entries.now c.args.class is_term c.path_law.ensures c.loop-turn.turn c.in-Some.task c.loop-turn.tasks c.climb_task.new.tasks c.loop-turn.claims c.climb_task.new.claims at c.in_ok-climb_task-in-Some.ensures (c.loop-turn.invariant lawful is_term)

pub returns-in-None : goal.returns-in-None
returns-in-None g c =
    let standing = g.G.ClassGraph.standing c.args.graph.now in
    turns_all standing c.len-terms.ensures.lawful c.args.nodes.now c.args.entries.now c.args.class c.requires c.path_law.ensures c.loop-turn.turn c.loop-turn.tasks c.loop-turn.claims (sym c.get.ensures ∙ c.in-None.is) (c.loop-turn.invariant c.len-terms.ensures.lawful c.requires)
