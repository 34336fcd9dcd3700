use Rattle.std.proofs.Common.{ℕ, Option, is_some, ap, bytes_eq, ◌∙◌}
use Rattle.smt_names.proofs.BoundLemmas.{any_from}
use Rattle.smt_names.proofs.distinct_names.DistinctNames.contains.Goals as goal

pub returns : goal.returns
returns c = c.is_some.ensures ∙ ap (λ (o : Option ℕ). is_some o) c.find.ensures ∙ any_from (bytes_eq c.args.name.now) c.args.self.now 0
