use Rattle.std.proofs.Common.{◌<◌, ◌^◌, length, refl, sym, subst, ◌∙◌, arith}
use Rattle.search_board.specs.declared.kind.Kind.TheVariants.{Leaf}
use Rattle.formula_truth.specs.declared.truth.Truth.TheVariants.{Unset}
use Rattle.search_board.specs.Board.{Shown}
use Rattle.search_board.specs.BoardInside.{shown_of, no_counts}
use Rattle.search_board.proofs.BoardLemmas.{same_default, sound_asserted, unit_same, open_same, stuck_same}
use Rattle.search_board.proofs.board.Board.set_asserted.Goals as goal

pub invariant_of-self : goal.invariant_of-self
invariant_of-self c =
    let sound = c.self.invariant in
    let shown = shown_of c.self.inside in
    let lt : c.args.n < length c.self.inside.kinds.items = subst (λ (s : Shown). c.args.n < length s.kinds) (sym c.self.view_is) c.requires in
    let kind = c.index-kind.ensures ∙ same_default c.self.inside.kinds.items c.args.n c.index-kind.result.now Leaf lt in
    let truth = c.index-truth.ensures ∙ same_default c.self.inside.truths.items c.args.n c.index-truth.result.now Unset (omega (arith, sound.aligned.truths)) in
    let counts = c.index-counts.ensures ∙ same_default c.self.inside.counts.items c.args.n c.index-counts.result.now no_counts (omega (arith, sound.len)) ∙ sound.counted c.args.n lt in
    let done = sound_asserted (2 ^ c.self.inside.sets.height) shown c.self.inside.counts.items c.self.inside.sets.units c.self.inside.sets.opens c.self.inside.sets.stuck sound c.args.n lt c.args.asserted c.is_unit.result c.is_open.result c.is_stuck.result
    (c.is_unit.ensures ∙ unit_same kind truth refl counts) (c.is_open.ensures ∙ open_same kind truth refl) (c.is_stuck.ensures ∙ stuck_same kind refl counts) in
    rw (c.set.ensures, c.set-2.ensures, c.set-3.ensures) done
