use Rattle.std.proofs.Common.{◌∷◌, [], ◌++◌, ◌<◌, ◌^◌, length, sym, ap, subst, ◌∙◌, arith}
use Rattle.graph_terms.proofs.ListLaws.{refilled}
use Rattle.graph_terms.specs.Terms.{Table}
use Rattle.graph_meaning.specs.State.{GraphState}
use Rattle.graph_meaning.specs.Lawful.{Allows}
use Rattle.graph_plain.specs.PlainInside.{AreKept}
use Rattle.graph_meaning.specs.Standing.{levels_of}
use Rattle.graph_plain.specs.Operations.{AllowsOpRow}
use Rattle.graph_plain.proofs.ApplyLemmas.{ends_before_close, sound_before_close, AreKept-after, levels_of-push, levels_opened-few, AllowsOpRow-allowed}
use Rattle.graph_plain.proofs.graph.PlainGraph.grow.Goals as goal

pub invariant_of-self : goal.invariant_of-self
invariant_of-self c = record {
  kept = subst (λ standing. AreKept c.self.inside.table.rows standing c.self.inside.labels.items) (sym c.reserve.ensures.items) c.self.invariant.kept;
  levels = c.self.invariant.levels ∙ ap levels_of (sym c.reserve.ensures.items);
  room = c.self.invariant.room;
}

pub invariant_of-self-in_err-enter : goal.invariant_of-self-in_err-enter
invariant_of-self-in_err-enter c =
    record {
      kept = subst (λ (table : Table). AreKept table.rows c.reserve.new.self.items c.enter.new.labels.items) (sym c.in_err-enter.ensures.err)
          (subst (λ standing. AreKept c.self.inside.table.rows standing c.enter.new.labels.items) (sym c.reserve.ensures.items)
          (subst (AreKept c.self.inside.table.rows c.self.inside.standing.items) (sym c.in_err-enter.ensures.labels_err) c.self.invariant.kept));
      levels = c.self.invariant.levels ∙ ap levels_of (sym c.reserve.ensures.items);
      room = c.self.invariant.room;
    }

pub close-requires-clause-ends : goal.close-requires-clause-ends
close-requires-clause-ends c =
    ends_before_close c.self.inside.table.rows c.enter.new.table.rows c.self.inside.standing.items c.as_slice.result.now c.self.inside.labels.items c.as_mut_slice.result.now c.self.inside.done c.args.op c.self.invariant.kept
    (subst (λ (s : GraphState). Allows s.standing c.args.op) (sym c.self.view_is) c.requires.allowed) c.in_ok-enter.ensures.rows
    (c.as_slice.ensures.value ∙ c.push_reserved.ensures.items ∙ ap (λ items. items ++ record { serial = c.self.inside.done; op = c.args.op } ∷ []) c.reserve.ensures.items)
    (c.as_mut_slice.ensures.value ∙ c.in_ok-enter.ensures.labels)

pub close-requires-clause-sound : goal.close-requires-clause-sound
close-requires-clause-sound c =
    sound_before_close c.self.inside.table.rows c.enter.new.table.rows c.self.inside.standing.items c.as_slice.result.now c.self.inside.labels.items c.as_mut_slice.result.now c.self.inside.done c.args.op c.self.invariant.kept
    (subst (λ (s : GraphState). Allows s.standing c.args.op) (sym c.self.view_is) c.requires.allowed) c.in_ok-enter.ensures.rows
    (c.as_slice.ensures.value ∙ c.push_reserved.ensures.items ∙ ap (λ items. items ++ record { serial = c.self.inside.done; op = c.args.op } ∷ []) c.reserve.ensures.items)
    (c.as_mut_slice.ensures.value ∙ c.in_ok-enter.ensures.labels)

pub invariant_of-self-2 : goal.invariant_of-self-2
invariant_of-self-2 c =
    let standing_is = c.as_slice.ensures.value ∙ c.push_reserved.ensures.items ∙ ap (λ items. items ++ record { serial = c.self.inside.done; op = c.args.op } ∷ []) c.reserve.ensures.items in
    let few : length c.as_slice.result.now < 2 ^ 32 = omega (arith, c.as_slice.ensures.len, c.push_reserved.ensures.len, c.reserve.ensures.len, c.if-len.false, c.len.ensures) in
    let more = levels_of-push c.self.inside.standing.items c.push_reserved.new.self.items (record { serial = c.self.inside.done; op = c.args.op }) (c.push_reserved.ensures.items ∙ ap (λ items. items ++ record { serial = c.self.inside.done; op = c.args.op } ∷ []) c.reserve.ensures.items) in
    let one = levels_opened-few c.args.op in
    record {
      kept =
          subst (λ labels. AreKept c.enter.new.table.rows c.push_reserved.new.self.items labels) (sym (refilled c.enter.new.labels.len c.close.new.labels c.enter.new.labels.items (c.close.auto.labels ∙ c.as_mut_slice.ensures.len)))
          (subst (λ standing. AreKept c.enter.new.table.rows standing c.close.new.labels) c.as_slice.ensures.value
          (AreKept-after c.self.inside.table.rows c.enter.new.table.rows c.self.inside.standing.items c.as_slice.result.now c.self.inside.labels.items c.as_mut_slice.result.now c.self.inside.done c.args.op c.self.invariant.kept
          (subst (λ (s : GraphState). Allows s.standing c.args.op) (sym c.self.view_is) c.requires.allowed) c.in_ok-enter.ensures.rows standing_is
          (c.as_mut_slice.ensures.value ∙ c.in_ok-enter.ensures.labels)
          c.close.new.labels c.close.ensures.sound c.close.ensures.merged c.close.ensures.congruent few));
      levels = omega (arith, more, c.levels_added.ensures, c.self.invariant.levels);
      room = omega (arith, one, c.levels_added.ensures, c.self.invariant.room);
    }

pub enter-requires : goal.enter-requires
enter-requires c =
    subst (λ rows. AllowsOpRow rows c.args.op) (sym c.self.invariant.kept.terms)
    (AllowsOpRow-allowed c.self.inside.standing.items c.args.op (subst (λ (s : GraphState). Allows s.standing c.args.op) (sym c.self.view_is) c.requires.allowed))
