use Rattle.std.proofs.Common.{map, ap, ◌∙◌}
use Rattle.smt_patterns.specs.Places.{kept_row}
use Rattle.smt_patterns.proofs.KeepLemmas.{trigger_is}
use Rattle.smt_patterns.proofs.triggers.make_trigger.Goals as goal

pub returns : goal.returns
returns c = trigger_is c.args.variables c.args.draft.now.rows c.args.roots.now c.in_ok-places.places.items c.in_ok-roots.roots c.in_ok-rows.rows c.in_ok-places.ensures
    (λ marks all are. c.in_ok-rows.ensures marks all (c.as_slice.ensures.value ∙ are) ∙ ap (map (kept_row c.args.draft.now.rows marks)) c.as_slice.ensures.value)
    (λ marks all are. c.in_ok-roots.ensures marks all (c.as_slice-2.ensures.value ∙ are))
