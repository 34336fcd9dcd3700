use Rattle.std.proofs.Common.{[], ◌∷◌}
use Rattle.smt_names.proofs.BoundLemmas.{places_kept}
use Rattle.smt_names.proofs.bound_names.add_missing.Goals as goal

pub returns : goal.returns
returns c = places_kept c.args.names.now c.push.new.self (c.args.name.now ∷ []) c.in_ok-push.ensures.ok
