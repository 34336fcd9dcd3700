use Rattle.std.proofs.Common.{◌≡◌, ◌∷◌, [], length, sym, ap, subst, ◌∙◌, arith}
use Rattle.std.proofs.lemmas.Grind.{common_steps}
use Rattle.graph_plain.specs.Labels.{AreSound}
use Rattle.graph_meaning.specs.Standing.{levels_of}
use Rattle.graph_plain.specs.PlainInside.{AreKept}
use Rattle.graph_terms.proofs.ListLaws.{refilled}
use Rattle.graph_plain.proofs.ApplyLemmas.{AreKept-first}
use Rattle.graph_plain.proofs.GraphLemmas.{AreSound-first}
use Rattle.graph_plain.proofs.graph.PlainGraph.new.Goals as goal

pub close-requires-clause-sound : goal.close-requires-clause-sound
close-requires-clause-sound c =
    let labels : c.as_mut_slice.result.now ≡ 0 ∷ 1 ∷ [] = c.as_mut_slice.ensures.value ∙ grind (arith, common_steps) in
    subst (λ l. AreSound c.in_ok-table.table.rows [] l) (sym labels) (subst (λ r. AreSound r [] (0 ∷ 1 ∷ [])) (sym c.in_ok-table.ensures.rows) AreSound-first)

pub invariant_of-result : goal.invariant_of-result
invariant_of-result c =
    let len : length c.close.new.labels ≡ c.push-2.new.self.len = c.close.auto.labels ∙ c.as_mut_slice.ensures.len in
    record {
      kept =
          subst (AreKept c.in_ok-table.table.rows c.new-2.result.items) (sym (refilled c.push-2.new.self.len c.close.new.labels c.push-2.new.self.items len))
          (subst (λ standing. AreKept c.in_ok-table.table.rows standing c.close.new.labels) (sym c.new-2.ensures.items)
          (AreKept-first c.in_ok-table.table.rows c.close.new.labels c.in_ok-table.ensures.rows c.close.ensures.sound c.close.ensures.merged c.close.ensures.congruent));
      levels = ap levels_of (sym c.new-2.ensures.items);
      room = omega arith;
    }
