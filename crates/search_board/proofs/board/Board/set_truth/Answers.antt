use Rattle.std.proofs.Common.{◌<◌, ◌^◌, length, false, refl, sym, subst, ◌∙◌, arith}
use Rattle.search_board.specs.declared.kind.Kind.TheVariants.{Leaf}
use Rattle.search_board.specs.Board.{Shown}
use Rattle.search_board.specs.BoardInside.{shown_of, no_counts}
use Rattle.search_board.proofs.BoardLemmas.{same_default, sound_truth, unit_same, open_same}
use Rattle.search_board.proofs.board.Board.set_truth.Goals as goal

pub invariant_of-self : goal.invariant_of-self
invariant_of-self c =
    let sound = c.self.invariant in
    let shown = shown_of c.self.inside in
    let lt : c.args.n < length c.self.inside.kinds.items = subst (λ (s : Shown). c.args.n < length s.kinds) (sym c.self.view_is) c.requires in
    let kind = c.index-kind.ensures ∙ same_default c.self.inside.kinds.items c.args.n c.index-kind.result.now Leaf lt in
    let asserted = c.index-asserted.ensures ∙ same_default c.self.inside.asserted.items c.args.n c.index-asserted.result.now false (omega (arith, sound.aligned.asserted)) in
    let counts = c.index-counts.ensures ∙ same_default c.self.inside.counts.items c.args.n c.index-counts.result.now no_counts (omega (arith, sound.len)) ∙ sound.counted c.args.n lt in
    let done = sound_truth (2 ^ c.self.inside.sets.height) shown c.self.inside.counts.items c.self.inside.sets.units c.self.inside.sets.opens c.self.inside.sets.stuck sound c.args.n lt c.args.truth c.is_unit.result c.is_open.result
    (c.is_unit.ensures ∙ unit_same kind refl asserted counts) (c.is_open.ensures ∙ open_same kind refl asserted) in
    rw (c.set.ensures, c.set-2.ensures) done
