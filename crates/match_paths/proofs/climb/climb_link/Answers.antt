use Rattle.std.proofs.Common.{ℕ}
use Rattle.std.proofs.lemmas.Option.{slice_get_within}
use Rattle.graph_terms.specs.Terms.{term_row}
use Rattle.graph_meaning.specs.Standing.{terms_of}
use Rattle.graph_meaning.specs.Questions.{IsParent}
use Rattle.match_paths.proofs.ClimbLemmas.{climbs_none, climbs_next, climbs_all, nth_there}
use Rattle.match_paths.proofs.climb.climb_link.Goals as goal

pub climb_to-requires : goal.climb_to-requires
climb_to-requires g c =
    let standing = g.G.ClassGraph.standing c.args.graph.now in
    let is = nth_there (IsParent standing c.args.class c.args.step.symbol c.args.step.place) c.loop-k.k c.in-Some.parent c.in-Some.ensures in
    slice_get_within (terms_of standing) c.in-Some.parent (term_row c.args.step.symbol is.0) is.2

pub loop-k-init : goal.loop-k-init
loop-k-init g c =
    let standing = g.G.ClassGraph.standing c.args.graph.now in
    climbs_none standing c.args.entries.now (IsParent standing c.args.class c.args.step.symbol c.args.step.place) c.args.step.node c.args.tasks.now c.args.claims.now

pub loop-k-preserved : goal.loop-k-preserved
loop-k-preserved g c =
    let standing = g.G.ClassGraph.standing c.args.graph.now in
    let P : ℕ → Type 0 = IsParent standing c.args.class c.args.step.symbol c.args.step.place in
    climbs_next standing c.args.entries.now P c.args.step.node c.args.tasks.now c.args.claims.now c.loop-k.k c.in-Some.parent c.loop-k.tasks c.climb_to.new.tasks c.loop-k.claims c.climb_to.new.claims c.in-Some.ensures (nth_there P c.loop-k.k c.in-Some.parent c.in-Some.ensures) c.in_ok-climb_to-in-Some.ensures c.loop-k.invariant

pub returns-in-None : goal.returns-in-None
returns-in-None g c = climbs_all (g.G.ClassGraph.standing c.args.graph.now) c.args.entries.now c.args.class c.args.step.symbol c.args.step.place c.args.step.node c.loop-k.k c.args.tasks.now c.loop-k.tasks c.args.claims.now c.loop-k.claims c.in-None.ensures c.loop-k.invariant
