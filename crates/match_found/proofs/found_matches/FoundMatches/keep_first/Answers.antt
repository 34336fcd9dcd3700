use Rattle.std.proofs.Common.{take, sym, ap, ◌∙◌}
use Rattle.std.proofs.lemmas.List.{take-map}
use Rattle.match_found.specs.Stored.{stored_of}
use Rattle.match_found.specs.declared.stored_tuple.StoredTuple.{StoredTuple}
use Rattle.match_found.proofs.found_matches.FoundMatches.keep_first.Goals as goal

pub returns : goal.returns
returns c = ap stored_of c.truncate.ensures.items ∙ sym (take-map (λ (one : StoredTuple). (one.trigger, one.tuple)) c.args.count c.self.inside.tuples.items) ∙ ap (take c.args.count) c.self.view_is
