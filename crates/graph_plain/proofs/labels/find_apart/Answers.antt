use Rattle.std.proofs.Common.{sym, subst}
use Rattle.graph_meaning.specs.Standing.{merges_of}
use Rattle.graph_meaning.specs.Same.{merged}
use Rattle.graph_meaning.specs.Lawful.{EndsBelow}
use Rattle.graph_plain.proofs.SameLemmas.{to_join-found}
use Rattle.graph_plain.proofs.labels.find_apart.Goals as goal

pub find_merge-requires : goal.find_merge-requires
find_merge-requires c = subst (EndsBelow (merges_of c.args.standing.now)) (sym c.requires.sound.each_term) c.requires.ends

pub returns-in-Some-clause-found : goal.returns-in-Some-clause-found
returns-in-Some-clause-found c =
    let ends = c.requires.ends _ _ c.in-Some.ensures.found in
    record { left = ends.0; right = ends.1; derived = merged c.in-Some.ensures.found; apart = c.in-Some.ensures.apart }

pub returns-in-None-clause-found : goal.returns-in-None-clause-found
returns-in-None-clause-found c = to_join-found c.args.labels.now c.requires.sound c.len-terms.ensures.table c.find_congruent.result c.find_congruent.ensures.found c.find_congruent.ensures.apart c.find_congruent.ensures.left c.find_congruent.ensures.right
