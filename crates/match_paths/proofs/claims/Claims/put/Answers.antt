use Rattle.std.proofs.Common.{List, subst}
use Rattle.graph_meaning.specs.declared.claim.Claim.{Claim}
use Rattle.match_paths.specs.Claims.{claims_of}
use Rattle.match_paths.specs.Climbing.{PutsIn}
use Rattle.match_paths.proofs.ClimbLemmas.{put_in}
use Rattle.match_paths.proofs.TaskLemmas.{same_key}
use Rattle.match_paths.proofs.ClaimLemmas.{PutsIn-claims}
use Rattle.match_paths.proofs.claims.Claims.put.Goals as goal

pub returns : goal.returns
returns c =
    subst (λ (old : List Claim). PutsIn old (claims_of c.insert.new.self.keys) c.args.claim) c.self.view_is
    (PutsIn-claims (put_in _ same_key c.self.inside.keys.keys c.insert.new.self.keys _ c.in_ok-insert.ensures.keys))
