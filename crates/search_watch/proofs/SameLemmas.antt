-- Equal terms stand.
use Rattle.std.proofs.Common.{◌<◌, ℕ, List, length}
use Rattle.std.proofs.lemmas.Option.{slice_get_within}
use Rattle.graph_meaning.specs.declared.done.Done.{Done}
use Rattle.graph_meaning.specs.Standing.{terms_of, merges_of}
use Rattle.graph_meaning.specs.Lawful.{EndsBelow}
use Rattle.graph_meaning.specs.Same.{Same, same_term, turned, joined, merged, congruent}

-- what is derived is about terms
pub derived_terms : (standing : List Done) → EndsBelow (merges_of standing) (length (terms_of standing)) → {s t : ℕ} → Same standing s t → (s < length (terms_of standing)) × (t < length (terms_of standing))
derived_terms standing ends (same_term h) = (h, h)
derived_terms standing ends (turned d) = let h = derived_terms standing ends d in (h.1, h.0)
derived_terms standing ends (joined d e) = ((derived_terms standing ends d).0, (derived_terms standing ends e).1)
derived_terms standing ends (merged {s} {t} h) = ends s t h
derived_terms standing ends (congruent {s} {t} {symbol} {ss} {ts} left right each) = (slice_get_within (terms_of standing) s _ left, slice_get_within (terms_of standing) t _ right)
