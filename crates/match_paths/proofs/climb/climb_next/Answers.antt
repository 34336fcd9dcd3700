use Rattle.std.proofs.Common.{ap, ◌∙◌, Some}
use Rattle.match_paths.specs.Climbing.{IsParentAt, IsParentBy}
use Rattle.match_paths.proofs.TurnLemmas.{climbs_as, by_link, link_by}
use Rattle.match_paths.proofs.climb.climb_next.Goals as goal

pub returns-in_ok-climb_link-in-Above : goal.returns-in_ok-climb_link-in-Above
returns-in_ok-climb_link-in-Above g c =
    let standing = g.G.ClassGraph.standing c.args.graph.now in
    let trees = c.args.nodes.now in
    let is = c.label.ensures ∙ ap Some c.in-Above.is in
    climbs_as standing c.args.entries.now (IsParentAt standing c.args.class c.in-Above.symbol c.in-Above.place c.args.node) (IsParentBy standing trees c.args.class c.args.node) c.args.tasks.now c.climb_link.new.tasks c.args.claims.now c.climb_link.new.claims
    (by_link standing trees c.args.class c.args.node c.in-Above.symbol c.in-Above.place is) (link_by standing trees c.args.class c.args.node c.in-Above.symbol c.in-Above.place is) c.in_ok-climb_link-in-Above.ensures
