use Rattle.std.proofs.Common.{Contains}
use Rattle.match_paths.specs.Paths.{IsThrough}
use Rattle.match_owed.proofs.GiveLemmas.{all_as, some_as}
use Rattle.match_owed.proofs.owed.Owed.on_union.Goals as goal

pub returns-clause-ok : goal.returns-clause-ok
returns-clause-ok g c triggers serves =
    let are = c.in_ok-claims.ensures.through triggers serves in
    all_as (λ claim. Contains c.in_ok-claims.claims claim) (IsThrough (g.G.ClassGraph.standing c.args.graph.now) triggers c.args.joined.now.left) (λ claim has. (are claim).0 has) (λ claim is. (are claim).1 is) c.in_ok-give_claims.ensures.ok

pub returns-clause-some : goal.returns-clause-some
returns-clause-some g c triggers serves =
    let are = c.in_ok-claims.ensures.through triggers serves in
    some_as (λ claim. Contains c.in_ok-claims.claims claim) (IsThrough (g.G.ClassGraph.standing c.args.graph.now) triggers c.args.joined.now.left) (λ claim has. (are claim).0 has) c.in_ok-give_claims.ensures.some

pub returns-in_err-give_claims-clause-some : goal.returns-in_err-give_claims-clause-some
returns-in_err-give_claims-clause-some g c triggers serves =
    let are = c.in_ok-claims.ensures.through triggers serves in
    some_as (λ claim. Contains c.in_ok-claims.claims claim) (IsThrough (g.G.ClassGraph.standing c.args.graph.now) triggers c.args.joined.now.left) (λ claim has. (are claim).0 has) c.in_err-give_claims.ensures.some
