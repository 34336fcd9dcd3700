use Rattle.std.proofs.Common.{sym, ap, subst, ◌∙◌}
use Rattle.match_laws.specs.Due.{Stored}
use Rattle.match_found.specs.Stored.{stored_of, AreStanding, HaveStored}
use Rattle.match_found.proofs.StoredLemmas.{lists_arranged}
use Rattle.match_found.proofs.found_matches.FoundMatches.listing.Goals as goal

pub put_each-requires-clause-stand : goal.put_each-requires-clause-stand
put_each-requires-clause-stand g c =
    subst (AreStanding (g.G.ClassGraph.standing c.args.graph.now)) (sym (ap stored_of c.as_slice.ensures.value ∙ c.self.view_is)) c.requires

pub returns : goal.returns
returns g c =
    let standing = g.G.ClassGraph.standing c.args.graph.now in
    let have = subst (λ (stored : Stored). HaveStored standing stored c.put_each.new.lists.items) (ap stored_of c.as_slice.ensures.value ∙ c.self.view_is) c.in_ok-put_each.ensures in
    lists_arranged standing c.args.self.now c.put_each.new.lists.items c.arrange_each.new.lists.items have c.in_ok-arrange_each.ensures
