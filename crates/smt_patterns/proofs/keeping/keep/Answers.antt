use Rattle.std.proofs.Common.{List, [], ◌∷◌, ◌++◌, map, take, get_or, refl, sym, ap, ap₂, ◌∙◌}
use Rattle.std.proofs.lemmas.List.{take_more, map-append}
use Rattle.graph_trigger.specs.declared.pattern_row.PatternRow.{PatternRow}
use Rattle.smt_patterns.specs.Places.{kept_row}
use Rattle.smt_patterns.proofs.KeepLemmas.{places_before}
use Rattle.smt_patterns.proofs.keeping.keep.Goals as goal

pub loop-i-preserved : goal.loop-i-preserved
loop-i-preserved c marks rows are =
    let places = c.args.places.now in
    let i = c.loop-i.i in
    let place = get_or places i 0 in
    let row = kept_row c.args.draft.now.rows marks in
    c.in_ok-push.ensures.ok
    ∙ ap₂ (λ (kept : List PatternRow) (new : PatternRow). kept ++ new ∷ []) (c.loop-i.invariant marks rows are) (c.in_ok-new.ensures marks (places_before rows i place marks places are c.loop-i-test.true refl))
    ∙ sym (ap (map row) (take_more places i 0 c.loop-i-test.true) ∙ map-append row (take i places) (place ∷ []))
