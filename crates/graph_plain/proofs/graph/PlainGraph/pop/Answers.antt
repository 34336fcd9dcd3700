use Rattle.std.proofs.Common.{◌≡◌, ◌-◌, ℕ, List, length, take, not, sym, ap, subst, ◌∙◌, arith}
use Rattle.std.specs.List.{suffix_len}
use Rattle.std.proofs.lemmas.List.{length-take}
use Rattle.graph_meaning.specs.declared.done.Done.{Done}
use Rattle.graph_meaning.specs.Standing.{is_push, merges_of}
use Rattle.graph_plain.specs.Labels.{AreMerged, AreSound}
use Rattle.graph_meaning.specs.Lawful.{EndsBelow}
use Rattle.graph_plain.specs.PlainInside.{AreKept}
use Rattle.graph_terms.proofs.ListLaws.{refilled}
use Rattle.graph_plain.proofs.ApplyLemmas.{fewer_terms, terms_left, lawful_left, AreKept-left, AreSound-own}
use Rattle.graph_plain.proofs.graph.PlainGraph.pop.Goals as goal

-- how many operations are left
left_count : List Done → ℕ
left_count standing = length standing - suffix_len (λ done. not (is_push done)) standing - 1

pub cut-requires-clause-within : goal.cut-requires-clause-within
unfolding left_count
cut-requires-clause-within c =
    let standing = c.self.inside.standing.items in
    omega (arith, c.pop_level-terms.ensures.terms, fewer_terms c.self.inside.table.rows standing c.self.inside.labels.items c.self.invariant.kept (left_count standing) c.pop_level-terms.new.standing.items c.pop_level-terms.ensures.standing)

pub close-requires-clause-ends : goal.close-requires-clause-ends
unfolding left_count
close-requires-clause-ends c =
    let standing = c.self.inside.standing.items in
    let left = c.pop_level-terms.new.standing.items in
    let rows = c.cut.ensures.rows ∙ ap (λ n. take n c.self.inside.table.rows) c.pop_level-terms.ensures.terms ∙ terms_left c.self.inside.table.rows standing c.self.inside.labels.items c.self.invariant.kept (left_count standing) left c.pop_level-terms.ensures.standing in
    let ends = (lawful_left c.self.inside.table.rows standing c.self.inside.labels.items c.self.invariant.kept (left_count standing) left c.pop_level-terms.ensures.standing).whole.ends in
    subst (λ s. EndsBelow (merges_of s) (length c.cut.new.self.rows)) (sym c.as_slice.ensures.value) (subst (λ r. EndsBelow (merges_of left) (length r)) (sym rows) ends)

pub close-requires-clause-sound : goal.close-requires-clause-sound
unfolding left_count
close-requires-clause-sound c =
    let standing = c.self.inside.standing.items in
    let within = fewer_terms c.self.inside.table.rows standing c.self.inside.labels.items c.self.invariant.kept (left_count standing) c.pop_level-terms.new.standing.items c.pop_level-terms.ensures.standing in
    let same = c.as_mut_slice-2.ensures.value ∙ refilled c.truncate.new.self.len c.reset.new.labels c.truncate.new.self.items (c.reset.auto.labels ∙ c.as_mut_slice.ensures.len) in
    let len : length c.reset.new.labels ≡ length c.cut.new.self.rows = omega (arith, c.reset.auto.labels, c.as_mut_slice.ensures.len, c.truncate.ensures.len, ap length c.cut.ensures.rows, length-take c.pop_level-terms.result c.self.inside.table.rows, within, c.pop_level-terms.ensures.terms, c.self.invariant.kept.sound.each_term, ap length c.self.invariant.kept.terms, c.self.inside.labels.ok.0) in
    subst (AreSound c.cut.new.self.rows (merges_of c.as_slice.result.now)) (sym same) (AreSound-own c.cut.new.self.rows (merges_of c.as_slice.result.now) c.reset.new.labels len c.reset.ensures)

pub invariant_of-self : goal.invariant_of-self
unfolding left_count
invariant_of-self c =
    let standing = c.self.inside.standing.items in
    let left = c.pop_level-terms.new.standing.items in
    let rows = c.cut.ensures.rows ∙ ap (λ n. take n c.self.inside.table.rows) c.pop_level-terms.ensures.terms ∙ terms_left c.self.inside.table.rows standing c.self.inside.labels.items c.self.invariant.kept (left_count standing) left c.pop_level-terms.ensures.standing in
    let len : length c.close.new.labels ≡ c.truncate.new.self.len = c.close.auto.labels ∙ c.as_mut_slice-2.ensures.len in
    let kept : AreKept c.cut.new.self.rows left _ =
    subst (AreKept c.cut.new.self.rows left) (sym (refilled c.truncate.new.self.len c.close.new.labels _ len))
    (AreKept-left c.self.inside.table.rows standing c.self.inside.labels.items c.self.invariant.kept (left_count standing) left c.pop_level-terms.ensures.standing c.cut.new.self.rows c.close.new.labels rows
    (subst (λ s. AreSound c.cut.new.self.rows (merges_of s) c.close.new.labels) c.as_slice.ensures.value c.close.ensures.sound) (subst (λ s. AreMerged (merges_of s) c.close.new.labels) c.as_slice.ensures.value c.close.ensures.merged) c.close.ensures.congruent) in
    record { kept = kept; levels = omega (arith, c.pop_level-terms.ensures.level, c.self.invariant.levels); room = omega (arith, c.pop_level-terms.ensures.level, c.self.invariant.levels, c.self.invariant.room) }
